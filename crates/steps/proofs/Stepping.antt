-- The memory after a step of a worker that is out of the lock: it minds the tasks, gives one to the device, or finds its queue full.
use Prim.Native.Nat.{ℕ, ◌+◌, ◌≤◌, ◌<◌}
use native.Mathlib.Omega.{arith}
use mathlib.Core.Path.{◌≡◌, refl, ap, ◌∙◌}
use mathlib.Core.Logic.{◌⊎◌}
use mathlib.Core.Bool.{true}
use mathlib.Core.List.{List, [], ◌∷◌, ◌++◌}
use mathlib.Core.Option.{none}
use lib.ListN.{length, get_or}
use Rattle.runs.specs.Update.{upd, upd_same, upd_other}
use Rattle.memory.specs.Layout as numbers
use Rattle.tasks.specs.History as Th
use Rattle.tasks.specs.Duties.{duty}
use Rattle.memory.specs.Memory as T
use Rattle.memory.specs.declared.rows.TaskRow.{TaskRow}
use Rattle.memory.specs.declared.rows.AccessRow.{AccessRow}
use Rattle.memory.specs.declared.tally.Tally.{Tally}
use Rattle.machine.specs.State.{Place, idle, trying}
use Rattle.machine.specs.Event.{minds, pushes, finds_full, event}
use Rattle.machine.specs.Events.{event_mind, event_push, event_find_full, event_create}
use Rattle.machine.specs.Ranges.{acted}
use Rattle.steps.specs.Layout.{station_size, place_at, queued_at, IDLE}
use Rattle.steps.specs.Memory.{part, station, Stationed, Memory, with_tasks, with_tally, Holds, Able}
use Rattle.steps.proofs.Parts.{station_at, station_of, part_of, lent_part, with_part, part_lent, part_back, station_still}
use Rattle.steps.proofs.Acting.{acts_hold, tasks_still, tasks_able, own_stationed, own_long}
use Rattle.steps.proofs.Stations.{idle_at, queue_count}
use Rattle.steps.proofs.Standing.{has_duty, free_of_duty, first_to_add, nothing_to_add, creates}

module _ {m : Memory} {own : List ℕ} {w : ℕ} (a : Able m own w) (at : get_or own place_at 0 ≡ IDLE) where
  is_idle : a.s.place w ≡ idle
  is_idle = idle_at (get_or (station own) place_at 0) _ (a.s.place w) (own_stationed a).place (station_at own place_at (omega arith) ∙ at)

  abbrev parts : ℕ → List ℕ
  parts v = part (a.shares v)

  abbrev tasks_before : T.TaskMemory
  tasks_before = T.memory m.counts.tally m.rows m.accesses

  abbrev able : T.Able tasks_before (lent_part own) w
  able = tasks_able a (part_lent own (own_long a))

  -- the memory and w's share after the step
  abbrev After : Memory → List ℕ → Type 0
  After n next = Holds a.c n (upd a.shares w next) (acted a.c a.s w)

  -- ---- a duty to the tasks

  abbrev minded : Tally → (rows : List TaskRow) (accesses : List AccessRow) → Memory
  minded tally rows accesses = with_tasks m (with_tally m.counts tally) rows accesses

  minds_hold : (d : Th.Duty) → event a.c a.s w ≡ minds d → (tally : Tally) (rows : List TaskRow) (accesses : List AccessRow) (y : List ℕ)
      → T.HoldsTasks a.c.workers a.c.tasks (T.memory tally rows accesses) (upd parts w y)
      (Th.after a.c.tasks m.counts.picks a.s.tasks w (Th.minds d))
      (upd a.s.stand w (Th.stand_after a.c.tasks (a.s.stand w) (Th.minds d)))
      → After (minded tally rows accesses) (with_part own y)
  minds_hold d is tally rows accesses y held =
      acts_hold a.holds (minds d) is (minded tally rows accesses) (with_part own y)
      a.holds.lock
      (rw (part_back own (own_long a) y, ← a.holds.picks) held)
      (refl, refl, refl)
      (rw (station_still own (own_long a) y, ← is_idle) (own_stationed a))
      tt
      (λ v d. refl)
      a.holds.device.ready_at_lem
      a.holds.device.ready
      a.holds.device.givers
      a.holds.device.masks
      refl

  pub mind_acts : (numbers.free < get_or own (station_size + numbers.stand) 0) ⊎ (0 < get_or own (station_size + numbers.mail_count) 0)
      → (tally : Tally) (rows : List TaskRow) (accesses : List AccessRow) (y : List ℕ)
      → T.Acts T.its_duty m.counts.picks tasks_before (lent_part own) (T.memory tally rows accesses) y w
      → After (minded tally rows accesses) (with_part own y)
  mind_acts has tally rows accesses y acts =
      let (d, is) = has_duty a has in
      minds_hold d (event_mind a.c a.s w is_idle is) tally rows accesses y (acts able (Th.minds d) (ap T.as_op is))

  module _ (stand : get_or own (station_size + numbers.stand) 0 ≡ numbers.free) (mail : get_or own (station_size + numbers.mail_count) 0 ≡ 0) where
    no_duty : duty (a.s.stand w) (a.s.tasks.mail w) ≡ none
    no_duty = free_of_duty a stand mail

    pub create_acts : w ≡ 0 → get_or own (station_size + numbers.adds_count) 0 ≡ 0 → T.to_create m.counts.tally ≡ true
        → (tally : Tally) (rows : List TaskRow) (accesses : List AccessRow) (y : List ℕ)
        → T.Acts T.its_creating m.counts.picks tasks_before (lent_part own) (T.memory tally rows accesses) y w
        → After (minded tally rows accesses) (with_part own y)
    create_acts first adds more tally rows accesses y acts =
        let (d, is) = creates a more in
        minds_hold d (event_create a.c a.s w is_idle no_duty (nothing_to_add a adds) first is) tally rows accesses y
        (acts able (Th.minds d) (ap T.as_op is))

    -- ---- the oldest task to add

    module _ (some_adds : 0 < get_or own (station_size + numbers.adds_count) 0) where
      queued : length (a.s.queue w) ≡ get_or own queued_at 0
      queued = omega (arith, queue_count (own_stationed a), station_at own queued_at (omega arith))

      pub push_acts : get_or own queued_at 0 < m.counts.capacity → (y z : List ℕ) (r : ℕ)
          → ((i : ℕ) (is : List ℕ) → a.s.tasks.adds w ≡ i ∷ is → r ≡ i)
          → ((i : ℕ) (is : List ℕ) → T.Does (Th.gives i is) m.counts.picks tasks_before (lent_part own) tasks_before y w)
          → ((p : Place) (q : List ℕ) → Stationed (station own) p q → Stationed z p (q ++ r ∷ []))
          → After m (z ++ y)
      push_acts room y z r is_first gives pushed = let (i, is, e) = first_to_add a some_adds in holds i is e
        where
          holds : (i : ℕ) (is : List ℕ) → a.s.tasks.adds w ≡ i ∷ is → After m (z ++ y)
          holds i is e =
              let few : length (a.s.queue w) < a.c.capacity = omega (arith, queued, room, a.holds.device.capacity) in
              let held = gives i is able (Th.can_give i is e) in
              let behind : Stationed z idle (a.s.queue w ++ i ∷ []) =
              rw (is_idle, is_first i is e) at (pushed (a.s.place w) (a.s.queue w) (own_stationed a)) in
              acts_hold a.holds (pushes i is) (event_push a.c a.s w is_idle no_duty e few) m (z ++ y)
              a.holds.lock
              (rw (part_of z y behind.long, ← a.holds.picks) held)
              (refl, refl, refl)
              (rw (station_of z y behind.long, upd_same a.s.queue w (a.s.queue w ++ i ∷ [])) behind)
              tt
              (λ v d. upd_other a.s.queue w (a.s.queue w ++ i ∷ []) v d)
              a.holds.device.ready_at_lem
              a.holds.device.ready
              a.holds.device.givers
              a.holds.device.masks
              refl

      pub full_acts : m.counts.capacity ≤ get_or own queued_at 0 → (z : List ℕ)
          → ((p : Place) (q : List ℕ) → Stationed (station own) p q → Stationed z trying q)
          → After m (z ++ part own)
      full_acts full z gone =
          let (i, is, e) = first_to_add a some_adds in
          let most : a.c.capacity ≤ length (a.s.queue w) = omega (arith, queued, full, a.holds.device.capacity) in
          let finds = event_find_full a.c a.s w is_idle no_duty e most in
          let there = gone (a.s.place w) (a.s.queue w) (own_stationed a) in
          acts_hold a.holds finds_full finds m (z ++ part own)
          a.holds.lock
          (tasks_still a.holds finds_full finds own (z ++ part own) a.lent (part_of z (part own) there.long) refl)
          (refl, refl, refl)
          (rw (station_of z (part own) there.long) there)
          tt
          (λ v d. refl)
          a.holds.device.ready_at_lem
          a.holds.device.ready
          a.holds.device.givers
          a.holds.device.masks
          refl
