-- The steps of an owner: it serves waiters, takes a task for itself, hands over and leaves.
use Prim.Native.Nat.{ℕ, suc, ◌+◌, ◌≤◌, ◌<◌}
use native.Mathlib.Omega.{arith}
use native.Mathlib.Nat.{mod-lt}
use mathlib.Core.Path.{◌≡◌, refl, sym, ap, ap₂, ◌∙◌}
use mathlib.Core.Logic.{⊎_elim, ◌≢◌}
use mathlib.Core.List.{List}
use mathlib.Core.Option.{Option, none, some}
use lib.ListN.{length, get_or}
use lib.Seq.{get_or-set_same, get_or-set_other}
use Rattle.std.specs.Prelude as rust
use Rattle.runs.specs.Update.{same, upd, upd_same, upd_other}
use Rattle.lock.specs.Lock as L
use Rattle.lock.specs.declared.Ends.{Ends}
use Rattle.tasks.specs.History as Th
use Rattle.memory.specs.declared.rows.TaskRow.{TaskRow}
use Rattle.memory.specs.Memory as T
use Rattle.machine.specs.State.{Place, idle, serving, handing, leaving}
use Rattle.machine.specs.Event.{Handed, handed_by, Event, fills, takes, takes_none, hands_over, leaves, may, choice, taking, event}
use Rattle.machine.specs.Step.{lock_op, task_op, effect, giver_after, lock_after}
use Rattle.machine.specs.Ready.{nothing}
use Rattle.machine.proofs.Ready.{choose_nowhere}
use Rattle.machine.specs.Events.{event_fill, event_take_alone, event_take_served, event_stop, event_hand_over, event_leave}
use Rattle.steps.specs.Layout.{SERVING, HANDING, LEAVING, IDLE}
use Rattle.steps.specs.declared.Counts.{Counts}
use Rattle.steps.specs.declared.device.Device.{Device}
use Rattle.steps.specs.Memory.{part, station, Stationed, Slotted, Memory, with_ends, one_taken, Given, Able}
use Rattle.steps.specs.Ready.{ready_in, without, FallsFor}
use Rattle.steps.proofs.Acting.{acts_hold, tasks_still, own_stationed}
use Rattle.steps.proofs.Choosing.{listed_length, task_known, choice_inside, choice_past}
use Rattle.lock_steps.specs.Lent.{lock_in, handed_in, with_handed, with_served}
use Rattle.lock_steps.specs.Going.{Gone, Received, given_by, handed_on}
use Rattle.lock_steps.proofs.FromLock.{slots_are, Filled, lock_with, after_fill, after_pass, after_leave}
use Rattle.lock_steps.proofs.Stepping.{tasks_of, code_in, number_in, Leads, workers_few, tasks_few, place_is, goes, tasks_after_lem}

-- a giver stands at its task's number
given_set : (givers : List (rust.Option ℕ)) (tasks : ℕ) (before : ℕ → Option ℕ) (task giver : ℕ) → task < length givers
    → Given tasks givers before → Given tasks (given_by givers task giver) (upd before task (some giver))
given_set givers tasks before task giver room given i l =
    ⊎_elim
    (λ (e : i ≡ task).
    rw (e, upd_same before task (some giver)) (get_or-set_same givers task (rust.Some giver) rust.None room))
    (λ (d : i ≢ task).
    rw (upd_other before task (some giver) i d)
    (get_or-set_other givers task i (rust.Some giver) rust.None d ∙ given i l))
    (same i task)

-- the device holds a task out, whoever does it
abbrev pub HeldOut : (rows after : List TaskRow) → ℕ → Type 0
HeldOut rows after task =
    (m : T.TaskMemory) (own : List ℕ) (k w : ℕ)
    → T.Does (Th.holds task) k (T.memory m.tally rows m.accesses) own (T.memory m.tally after m.accesses) own w

module _ {m : Memory} {own : List ℕ} {w : ℕ} (a : Able m own w) where
  -- ---- handing over

  pub handing_few : code_in own ≡ HANDING → number_in own < 32
  handing_few place = workers_few a.fit (number_in own) (rw (place_is a HANDING place) at a.fit.place)

  -- the lock in memory
  abbrev lock_here : L.Lock
  lock_here = lock_in m.counts.slots m.counts.ends m.wait m.registrations m.tickets m.cells

  -- what the hand-over gives in the lock of the state
  abbrev hands_on : Option Handed
  hands_on = handed_by a.c a.s w

  pub hands_on_lem : handed_in m.counts.slots lock_here w ≡ hands_on
  hands_on_lem = rw (← a.holds.lock, ← slots_are a) refl

  -- the worker let in, and the task that is given
  pub let_in_few : (v : ℕ) → L.front m.counts.slots lock_here ≡ some v → v < 32
  let_in_few v e = workers_few a.fit v (a.fit.front v (rw (← a.holds.lock, ← slots_are a) e))

  pub handed_few : (h : Handed) → handed_in m.counts.slots lock_here w ≡ some h → h.task < 128
  handed_few h e = tasks_few a.fit h.task (a.fit.handed h (sym hands_on_lem ∙ e))

  -- the givers with what is handed over
  givers_on : (o : Option Handed) → hands_on ≡ o → Given (length a.c.tasks) (handed_on m.device.givers o) (giver_after a.c a.s o)
  givers_on none e = a.holds.device.givers
  givers_on (some h) e =
      given_set m.device.givers (length a.c.tasks) a.s.giver h.task h.by
      (omega (arith, a.long.device.givers, tasks_few a.fit h.task (a.fit.handed h e))) a.holds.device.givers

  -- the memory with that, and with other ends of the lock and a wait slot written
  abbrev handed_memory : Ends → List ℕ → Memory
  handed_memory ends written =
      with_handed m (with_ends m.counts ends) written m.registrations m.tickets m.cells (handed_on m.device.givers hands_on)

  module _ (r : Counts) (written : List ℕ) (givers : List (rust.Option ℕ)) (numbers : r ≡ with_ends m.counts r.ends)
      (lock : lock_in m.counts.slots r.ends written m.registrations m.tickets m.cells
      ≡ L.hand_over m.counts.slots lock_here)
      (given : givers ≡ handed_on m.device.givers (handed_in m.counts.slots lock_here w)) where
    handed_memory_lem : with_handed m r written m.registrations m.tickets m.cells givers ≡ handed_memory r.ends written
    handed_memory_lem =
        ap₂ (λ (n : Counts) (list : List (rust.Option ℕ)). with_handed m n written m.registrations m.tickets m.cells list) numbers
        (given ∙ ap (handed_on m.device.givers) hands_on_lem)

    -- by an event that hands over and goes to a place
    hands_and_goes : (e : Event) → event a.c a.s w ≡ e → task_op e ≡ none → (to : Place)
        → effect a.c a.s w e
        ≡ record { place = to; queue = a.s.queue; ready_list = a.s.ready_list; giver = giver_after a.c a.s hands_on }
        → lock_with a r.ends written m.registrations m.tickets m.cells ≡ lock_after a.c a.s.lock w (lock_op e)
        → (next : List ℕ) → part next ≡ part own → Stationed (station next) to (a.s.queue w) → Slotted a.c.slots (station next) to
        → Leads a (with_handed m r written m.registrations m.tickets m.cells givers) next
    hands_and_goes e is no_task_lem to effects after next kept there slot =
        rw handed_memory_lem
        (acts_hold a.holds e is (handed_memory r.ends written) next after
        (tasks_still a.holds e is own next a.lent kept no_task_lem)
        (refl, refl, refl)
        (rw effects there)
        (rw effects slot)
        (λ u d. rw effects)
        a.holds.device.ready_at_lem
        (rw effects a.holds.device.ready)
        (rw effects (givers_on hands_on refl))
        a.holds.device.masks
        refl)

    pub hand_acts : code_in own ≡ HANDING → (next : List ℕ) → Gone own next SERVING (number_in own + 1)
        → Leads a (with_handed m r written m.registrations m.tickets m.cells givers) next
    hand_acts place next gone =
        hands_and_goes (hands_over (number_in own) hands_on) (event_hand_over a.c a.s w (place_is a HANDING place)) refl
        (serving (suc (number_in own))) refl (after_pass a r.ends written lock)
        next gone.kept (gone.there _ _ _ (own_stationed a) (refl, omega arith)) tt

    pub leave_acts : code_in own ≡ LEAVING → (next : List ℕ) → Gone own next IDLE 0
        → Leads a (with_handed m r written m.registrations m.tickets m.cells givers) next
    leave_acts place next gone =
        hands_and_goes (leaves hands_on) (event_leave a.c a.s w (place_is a LEAVING place)) refl idle refl
        (after_leave a r.ends written lock)
        next gone.kept (gone.there _ _ _ (own_stationed a) refl) tt

  -- ---- serving

  module _ (place : code_in own ≡ SERVING) where
    serves : a.s.place w ≡ serving (number_in own)
    serves = place_is a SERVING place

    pub serving_few : number_in own < 32
    serving_few = workers_few a.fit (number_in own) (rw serves at a.fit.place)

    pub waiter_few : (v : ℕ) → L.front a.c.slots a.s.lock ≡ some v → v < 32
    waiter_few v waiter = workers_few a.fit v (a.fit.front v waiter)

    -- ---- it serves nobody: it takes what it may run

    abbrev pub Takes : Type 0
    Takes = event a.c a.s w ≡ taking a.c a.s (choice a.c a.s w)

    pub takes_alone : L.front a.c.slots a.s.lock ≡ none → Takes
    takes_alone nobody = event_take_alone a.c a.s w serves nobody

    pub takes_served : m.counts.workers ≤ number_in own + 1 → Takes
    takes_served enough = event_take_served a.c a.s w serves (omega (arith, a.holds.device.workers))

    -- the front waiter may run nothing that is ready
    pub takes_stopped : (v k : ℕ) → L.front a.c.slots a.s.lock ≡ some v → FallsFor m.counts m.device v k
        → m.counts.ready ≤ k → Takes
    takes_stopped v k waiter found past =
        event_stop a.c a.s w serves waiter (choice_past a v k (a.fit.front v waiter) found past)

    -- nothing is ready
    takes_empty : ((v : ℕ) → choice a.c a.s v ≡ nothing) → Takes
    takes_empty nothing_for = go (L.front a.c.slots a.s.lock) refl
      where
        go : (o : Option ℕ) → L.front a.c.slots a.s.lock ≡ o → Takes
        go none e = takes_alone e
        go (some v) e = event_stop a.c a.s w serves e (nothing_for v)

    -- it takes none
    takes_none_lem : Takes → choice a.c a.s w ≡ nothing → (next : List ℕ) → Gone own next LEAVING 0 → Leads a m next
    takes_none_lem takes_it none_chosen next gone =
        goes a takes_none (takes_it ∙ ap (taking a.c a.s) none_chosen) refl leaving refl
        m.counts.ends m.wait m.registrations m.tickets m.cells a.holds.lock
        next gone.kept (gone.there _ _ _ (own_stationed a) refl) tt

    pub empty_acts : m.counts.ready ≡ 0 → (next : List ℕ) → Gone own next LEAVING 0 → Leads a m next
    empty_acts z next gone =
        let nothing_for : (v : ℕ) → choice a.c a.s v ≡ nothing =
        λ v. choose_nowhere (may a.c v) a.s.ready_list (λ j l. absurd (omega (arith, listed_length a))) in
        takes_none_lem (takes_empty nothing_for) (nothing_for w) next gone

    pub none_acts : (k : ℕ) → Takes → FallsFor m.counts m.device w k → k ≡ m.counts.ready → (next : List ℕ)
        → Gone own next LEAVING 0 → Leads a m next
    none_acts k takes_it found past next gone =
        takes_none_lem takes_it (choice_past a w k a.fit.worker found (omega arith)) next gone

    -- ---- the task at place k goes to the front waiter, or the owner takes it; `left` and r are what is left of the ready list

    module _ (k task : ℕ) (there : k < m.counts.ready) (is : task ≡ get_or (ready_in m.counts m.device.ready) k 0)
        (r : Counts) (left : List ℕ)
        (out : (r ≡ one_taken m.counts) × (ready_in r left ≡ without k (ready_in m.counts m.device.ready))) where
      shorter : ready_in (one_taken m.counts) left ≡ without k a.s.ready_list
      shorter = rw out.0 at out.1 ∙ ap (without k) a.holds.device.ready

      -- the device with that list and these givers
      abbrev device_left : List (rust.Option ℕ) → Device
      device_left givers = record { ready = left; givers = givers; masks = m.device.masks }

      pub fill_acts : (v : ℕ) → L.front a.c.slots a.s.lock ≡ some v → FallsFor m.counts m.device v k
          → number_in own + 1 < m.counts.workers → (stamped filled : List ℕ) (rows : List TaskRow) (next : List ℕ)
          → Filled m.counts.ends v task m.tickets stamped m.cells filled
          → HeldOut m.rows rows task
          → Gone own next HANDING (number_in own)
          → Leads a (with_served m r m.registrations stamped filled (device_left m.device.givers) rows) next
      fill_acts v waiter found fewer stamped filled rows next fill held gone =
          let e = fills (number_in own) v task (without k a.s.ready_list) in
          let happens : event a.c a.s w ≡ e =
          event_fill a.c a.s w serves waiter (omega (arith, a.holds.device.workers))
          (choice_inside a v k (a.fit.front v waiter) found task there is) in
          rw out.0
          (acts_hold a.holds e happens (with_served m (one_taken m.counts) m.registrations stamped filled (device_left m.device.givers) rows) next
          (after_fill a v task fill)
          (tasks_after_lem a e happens (Th.holds task) refl rows next (rw gone.kept (held (tasks_of m) (part own) m.counts.picks w)))
          (refl, refl, refl)
          (gone.there (a.s.place w) (handing (number_in own)) (a.s.queue w) (own_stationed a) (refl, refl))
          tt
          (λ u d. refl)
          (mod-lt (m.counts.ready_at + 1) (omega arith))
          shorter
          a.holds.device.givers
          a.holds.device.masks
          refl)

      pub take_acts : Takes → FallsFor m.counts m.device w k → (rows : List TaskRow) (next : List ℕ)
          → Received m.rows own rows next task w m.counts.picks LEAVING
          → Leads a (with_served m r m.registrations m.tickets m.cells (device_left (given_by m.device.givers task w)) rows) next
      take_acts takes_it found rows next got =
          let e = takes task (without k a.s.ready_list) in
          let happens : event a.c a.s w ≡ e =
          takes_it ∙ ap (taking a.c a.s) (choice_inside a w k a.fit.worker found task there is) in
          let known = task_known a k task there is in
          let taken = one_taken m.counts in
          rw out.0
          (acts_hold a.holds e happens
          (with_served m taken m.registrations m.tickets m.cells (device_left (given_by m.device.givers task w)) rows) next
          a.holds.lock
          (tasks_after_lem a e happens (Th.takes task) refl rows next (got.does (tasks_of m)).0)
          (refl, refl, refl)
          (got.there (a.s.place w) leaving (a.s.queue w) (own_stationed a) refl)
          tt
          (λ u d. refl)
          (mod-lt (m.counts.ready_at + 1) (omega arith))
          shorter
          (given_set m.device.givers (length a.c.tasks) a.s.giver task w (omega (arith, a.long.device.givers, tasks_few a.fit task known))
          a.holds.device.givers)
          a.holds.device.masks
          refl)
