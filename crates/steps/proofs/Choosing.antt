-- The device's ready list: where the choice of a task falls, and the list without the task that is taken out.
use Prim.Native.Nat.{ℕ, zero, suc, ◌-◌, ◌≤◌, ◌<◌}
use native.Mathlib.Omega.{arith}
use native.Mathlib.Numerals.{add-one}
use mathlib.Core.Path.{◌≡◌, refl, sym, ap, ◌∙◌}
use mathlib.Core.List.{List, [], ◌∷◌}
use lib.ListN.{length, get_or}
use Rattle.runs.specs.Counts.{count, count_cons, is_same}
use Rattle.runs.specs.Circular.{entries, entries_length, entries_mod, entries_at, shifted, array_out}
use Rattle.plan.specs.Permits.{is_set}
use Rattle.plan.specs.PermitLaws.{permits_mask}
use Rattle.tasks.specs.Accesses.{task_at}
use Rattle.memory.specs.Layout as layout
use Rattle.machine.specs.Event.{may, choice}
use Rattle.machine.specs.Ready.{nothing, chosen}
use Rattle.machine.proofs.Ready.{choose_at, choose_nowhere}
use Rattle.steps.specs.Layout.{READY}
use Rattle.steps.specs.declared.Counts.{Counts}
use Rattle.steps.specs.declared.device.Device.{Device}
use Rattle.steps.specs.Memory.{Memory, one_taken, Able}
use Rattle.steps.specs.Ready.{ready_in, listed, mask_at, Below, without, First, Falls, FallsFor}

-- what stands at a place is counted
count_at : (xs : List ℕ) (k : ℕ) → k < length xs → 0 < count (get_or xs k 0) xs
count_at [] k l = absurd (omega arith)
count_at (x ∷ xs) zero l = omega (arith, count_cons x x xs, is_same x x refl)
count_at (x ∷ xs) (suc k) l = omega (arith, count_cons (get_or xs k 0) x xs, count_at xs k (omega arith))

module _ (n : Counts) (ready : List ℕ) where
  pub ready_length : length (ready_in n ready) ≡ n.ready
  ready_length = entries_length (λ k. get_or ready k 0) READY n.ready_at n.ready

  pub listed_at : (k : ℕ) → k < n.ready → get_or (ready_in n ready) k 0 ≡ listed n ready k
  listed_at k l = entries_at (λ j. get_or ready j 0) READY n.ready_at n.ready k 0 l

  pub listed_below : (bound : ℕ) → Below bound (ready_in n ready) → (k : ℕ) → k < n.ready → listed n ready k < bound
  listed_below bound below k l =
      rw (listed_at k l) at (below (get_or (ready_in n ready) k 0) (count_at (ready_in n ready) k (omega (arith, ready_length))))

  pub taken_out : (k : ℕ) → READY ≤ length ready → n.ready ≤ READY → k < n.ready
      → ready_in (one_taken n) (shifted READY n.ready_at ready k) ≡ without k (ready_in n ready)
  taken_out k long few l =
      let at = n.ready_at in
      let back : n.ready ≡ suc (n.ready - 1) = omega arith in
      let moved = shifted READY at ready k in
      rw (add-one at)
      (entries_mod (λ j. get_or moved j 0) READY (suc at) (n.ready - 1)
      ∙ array_out READY at ready (n.ready - 1) k long (omega arith) (omega arith)
      ∙ ap (λ (m : ℕ). without k (entries (λ j. get_or ready j 0) READY at m)) (sym back))

-- the first place whose mask has the worker's bit is where the choice falls
pub falls : (n : Counts) (device : Device) (w r : ℕ) → First (λ k. is_set (mask_at n device k) w) n.ready r → FallsFor n device w r
falls n device w r first c masks below worker =
    record {
      inside = λ l. choose_at (may c w) (ready_in n device.ready) r l (λ k b. tests k (omega (arith, first.within, b)) ∙ first.before k b)
          (tests r (omega (arith, ready_length n device.ready)) ∙ first.found (omega (arith, ready_length n device.ready)));
      past = λ l. choose_nowhere (may c w) (ready_in n device.ready)
          (λ k b. tests k (omega (arith, ready_length n device.ready)) ∙ first.before k (omega (arith, ready_length n device.ready)));
    }
  where
    tests : (k : ℕ) → k < n.ready → may c w (get_or (ready_in n device.ready) k 0) ≡ is_set (mask_at n device k) w
    tests k l =
        let task = listed n device.ready k in
        ap (may c w) (listed_at n device.ready k l) ∙ permits_mask c.workers (task_at c.tasks task) w worker
        ∙ ap (λ (mask : ℕ). is_set mask w) (sym (masks task (listed_below n device.ready (length c.tasks) below k l)))

-- ---- the list of a state that is held

module _ {m : Memory} {own : List ℕ} {w : ℕ} (a : Able m own w) where
  pub listed_length : length a.s.ready_list ≡ m.counts.ready
  listed_length = sym (ap length a.holds.device.ready) ∙ ready_length m.counts m.device.ready

  pub ready_few : m.counts.ready ≤ READY
  ready_few = omega (arith, listed_length, a.fit.ready_few)

  ready_below : Below (length a.c.tasks) (ready_in m.counts m.device.ready)
  ready_below = rw a.holds.device.ready a.fit.ready

  pub ready_tasks : Below layout.most_tasks (ready_in m.counts m.device.ready)
  ready_tasks i h = omega (arith, ready_below i h, a.fit.sized.tasks)

  -- the task at a place is one of the plan's
  pub task_known : (k task : ℕ) → k < m.counts.ready → task ≡ get_or (ready_in m.counts m.device.ready) k 0 → task < length a.c.tasks
  task_known k task l is =
      rw is
      (ready_below (get_or (ready_in m.counts m.device.ready) k 0)
      (count_at (ready_in m.counts m.device.ready) k (omega (arith, ready_length m.counts m.device.ready))))

  -- the choice of worker v
  module _ (v k : ℕ) (worker : v < a.c.workers) (at : FallsFor m.counts m.device v k) where
    falls_here : Falls (may a.c v) a.s.ready_list k
    falls_here = rw a.holds.device.ready at (at a.c a.holds.device.masks ready_below worker)

    pub choice_inside : (task : ℕ) → k < m.counts.ready → task ≡ get_or (ready_in m.counts m.device.ready) k 0
        → choice a.c a.s v ≡ chosen task (without k a.s.ready_list)
    choice_inside task l is = rw (is, a.holds.device.ready) (falls_here.inside (omega (arith, listed_length)))

    pub choice_past : m.counts.ready ≤ k → choice a.c a.s v ≡ nothing
    choice_past l = falls_here.past (omega (arith, listed_length))
