-- The steps of a worker at the lock, until it owns it or has a task.
use Prim.Native.Nat.{ℕ, ◌+◌, ◌%◌, ◌^◌, ◌<◌}
use native.Mathlib.Omega.{arith}
use native.Mathlib.Nat.{mod-lt}
use mathlib.Core.Path.{◌≡◌, refl, sym, ap, ◌∙◌}
use mathlib.Core.Logic.{◌⊎◌, ⊎_elim, ◌≢◌}
use mathlib.Core.Bool.{true, false}
use mathlib.Core.List.{List}
use lib.ListN.{get_or}
use Rattle.runs.specs.Update.{clash, same}
use Rattle.lock.specs.Lock as L
use Rattle.lock.specs.Answers.{seen}
use Rattle.lock.specs.declared.Taken.{Taken}
use Rattle.lock.specs.declared.Looked.{Looked}
use Rattle.plan.specs.Plan.{Task}
use Rattle.tasks.specs.Tasks as TT
use Rattle.memory.specs.Layout as numbers
use Rattle.tasks.proofs.Promise.{of_the_plan}
use Rattle.tasks.specs.History as Th
use Rattle.memory.specs.declared.rows.TaskRow.{TaskRow}
use Rattle.memory.specs.Memory as T
use Rattle.machine.specs.State.{for_serving, for_adding, idle, registering, looking, draining}
use Rattle.machine.specs.Event.{tries_and_owns, tries_in_vain, takes_ticket, registers, waits, receives, owns, event}
use Rattle.machine.specs.Events as E
use Rattle.steps.specs.Layout.{station_size, slot_at, IDLE, TRYING, REGISTERING, LOOKING, DRAINING_TO_SERVE, DRAINING_TO_ADD}
use Rattle.steps.specs.Memory.{Memory, with_counts, with_ends, Able}
use Rattle.steps.proofs.Parts.{station_at}
use Rattle.steps.proofs.Acting.{acts_hold, own_stationed, own_slotted, slots_some}
use Rattle.steps.proofs.Standing.{free_of_duty, nothing_to_add, all_created}
use Rattle.lock_steps.specs.Lent.{with_registrations, with_seen}
use Rattle.lock_steps.specs.Going.{Gone, Received}
use Rattle.lock_steps.proofs.FromLock.{slots_are, SeesAt, sees, Took, Registered, ticket_is, after_take, after_try, after_register, after_own, after_receive}
use Rattle.lock_steps.proofs.Stepping.{tasks_of, code_in, number_in, Leads, tasks_few, place_is, goes, tasks_after_lem}

-- what is received was held out
held_out : {W : ℕ} {ts : List Task} {t : TT.Tasks} {x : TT.Stand} {w i : ℕ} → Th.Can W ts t x w (Th.receives i) → t.status i ≡ TT.held
held_out (Th.can_receive i free mail held) = held

module _ {m : Memory} {own : List ℕ} {w : ℕ} (a : Able m own w) where
  -- ---- a worker takes a ticket

  takes_ticket_lem : code_in own ≡ IDLE → get_or own (station_size + numbers.stand) 0 ≡ 0 → get_or own (station_size + numbers.mail_count) 0 ≡ 0
      → get_or own (station_size + numbers.adds_count) 0 ≡ 0 → (w ≢ 0) ⊎ (T.to_create m.counts.tally ≡ false)
      → event a.c a.s w ≡ takes_ticket
  takes_ticket_lem place stand mails adds last =
      let p : a.s.place w ≡ idle = place_is a IDLE place in
      let q = free_of_duty a stand mails in
      let d = nothing_to_add a adds in
      ⊎_elim
      (λ (z : w ≡ 0).
      ⊎_elim
      (λ (n : w ≢ 0). absurd (n z))
      (λ (l : T.to_create m.counts.tally ≡ false).
      E.event_take_ticket_last a.c a.s w p q d z (all_created a l))
      last)
      (λ (n : w ≢ 0). E.event_take_ticket_other a.c a.s w p q d n)
      (same w 0)

  pub ticket_acts : code_in own ≡ IDLE → get_or own (station_size + numbers.stand) 0 ≡ 0 → get_or own (station_size + numbers.mail_count) 0 ≡ 0
      → get_or own (station_size + numbers.adds_count) 0 ≡ 0 → (w ≢ 0) ⊎ (T.to_create m.counts.tally ≡ false)
      → (r : Taken) → Took m.counts.ends r → (next : List ℕ) → Gone own next REGISTERING r.ticket.0
      → Leads a (with_counts m (with_ends m.counts r.ends)) next
  ticket_acts place stand mails adds last r took next gone =
      goes a takes_ticket (takes_ticket_lem place stand mails adds last) refl (registering a.s.lock.head) refl
      r.ends m.wait m.registrations m.tickets m.cells
      (after_take a took)
      next gone.kept (gone.there _ _ _ (own_stationed a) (refl, ticket_is a took)) tt

  -- ---- a worker registers

  module _ (place : code_in own ≡ REGISTERING) where
    pub registration_fits : number_in own + w < 2 ^ 64
    registration_fits = omega (arith, rw (place_is a REGISTERING place) at a.fit.place, a.fit.worker, a.fit.sized.workers)

    pub register_acts : (written : List ℕ) → Registered m.counts.slots (number_in own) w m.registrations written
        → (next : List ℕ) → Gone own next LOOKING (number_in own) → get_or next slot_at 0 ≡ number_in own % m.counts.slots
        → Leads a (with_registrations m m.counts written) next
    register_acts written stores next gone slot =
        goes a (registers (number_in own)) (E.event_register a.c a.s w (place_is a REGISTERING place)) refl
        (looking (number_in own)) refl
        m.counts.ends m.wait written m.tickets m.cells
        (after_register a (number_in own) stores)
        next gone.kept (gone.there _ _ _ (own_stationed a) (refl, refl))
        (station_at next slot_at (omega arith) ∙ slot ∙ ap (λ (slots : ℕ). number_in own % slots) (slots_are a))

  -- ---- a worker looks

  module _ (place : code_in own ≡ LOOKING) where
    -- the slot of its ticket, as it is noted
    pub slot_noted : get_or own slot_at 0 ≡ number_in own % m.counts.slots
    slot_noted =
        sym (station_at own slot_at (omega arith)) ∙ rw (place_is a LOOKING place) at (own_slotted a)
        ∙ sym (ap (λ (slots : ℕ). number_in own % slots) (slots_are a))

    pub slot_below : get_or own slot_at 0 < m.counts.slots
    slot_below = rw slot_noted (mod-lt (number_in own) (slots_some a))

    pub sees_there : {r x : Looked} → SeesAt (get_or own slot_at 0) m.wait m.tickets m.cells (number_in own) w r → r ≡ x
        → L.look a.c.slots a.s.lock (number_in own) w ≡ seen x
    sees_there says = sees a (number_in own) (says m.counts.slots slot_noted)

    pub wait_acts : L.look a.c.slots a.s.lock (number_in own) w ≡ L.not_yet
        → Leads a m own
    wait_acts look =
        goes a waits (E.event_wait a.c a.s w (place_is a LOOKING place) look) refl (a.s.place w) refl
        m.counts.ends m.wait m.registrations m.tickets m.cells a.holds.lock
        own refl (own_stationed a) (own_slotted a)

    pub own_acts : L.look a.c.slots a.s.lock (number_in own) w ≡ L.owns → (next : List ℕ) → Gone own next DRAINING_TO_SERVE 0
        → Leads a m next
    own_acts look next gone =
        goes a (owns (number_in own)) (E.event_own a.c a.s w (place_is a LOOKING place) look) refl (draining for_serving 0) refl
        m.counts.ends m.wait m.registrations m.tickets m.cells
        (after_own a (number_in own))
        next gone.kept (gone.there _ _ _ (own_stationed a) (refl, refl)) tt

    module _ (i : ℕ) (look : L.look a.c.slots a.s.lock (number_in own) w ≡ L.receives i) where
      receives_it : event a.c a.s w ≡ receives (number_in own) i
      receives_it = E.event_receive a.c a.s w (place_is a LOOKING place) look

      pub received_few : i < 128
      received_few =
          let held = held_out (rw receives_it at a.fit.may) in
          tasks_few a.fit i (of_the_plan a.fit.kept i (λ e. let z : TT.held ≡ TT.new = sym held ∙ e in clash (cc)))

      pub receive_acts : (rows : List TaskRow) (next : List ℕ) → Received m.rows own rows next i w m.counts.picks IDLE
          → Leads a (with_seen m m.counts m.wait m.tickets m.cells rows) next
      receive_acts rows next got =
          acts_hold a.holds (receives (number_in own) i) receives_it (with_seen m m.counts m.wait m.tickets m.cells rows) next
          (after_receive a (number_in own) i)
          (tasks_after_lem a (receives (number_in own) i) receives_it (Th.receives i) refl rows next (got.does (tasks_of m)).1)
          (refl, refl, refl)
          (got.there (a.s.place w) idle (a.s.queue w) (own_stationed a) refl)
          tt
          (λ v d. refl)
          a.holds.device.ready_at_lem
          a.holds.device.ready
          a.holds.device.givers
          a.holds.device.masks
          refl

  -- ---- a worker tries the lock

  module _ (place : code_in own ≡ TRYING) where
    pub win_acts : L.is_free a.s.lock ≡ true → (r : Taken) → Took m.counts.ends r → (next : List ℕ) → Gone own next DRAINING_TO_ADD 0
        → Leads a (with_counts m (with_ends m.counts r.ends)) next
    win_acts free r took next gone =
        goes a tries_and_owns (E.event_win a.c a.s w (place_is a TRYING place) free) refl (draining for_adding 0) refl
        r.ends m.wait m.registrations m.tickets m.cells
        (after_try a took)
        next gone.kept (gone.there _ _ _ (own_stationed a) (refl, refl)) tt

    pub fail_acts : L.is_free a.s.lock ≡ false → (next : List ℕ) → Gone own next IDLE 0
        → Leads a m next
    fail_acts free next gone =
        goes a tries_in_vain (E.event_fail a.c a.s w (place_is a TRYING place) free) refl idle refl
        m.counts.ends m.wait m.registrations m.tickets m.cells a.holds.lock
        next gone.kept (gone.there _ _ _ (own_stationed a) refl) tt
