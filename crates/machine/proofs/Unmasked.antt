-- Without M lines every run is what it was before there were masks, pick for pick.
use Prim.Native.Nat.{ℕ, zero, suc}
use Rattle.std.proofs.Common.{arith, ◌∙◌}
use Rattle.std.specs.Prelude.{◌≡◌, Bool, true, false, ◌||◌, ltb}
use Rattle.std.proofs.Math.Path.{refl, ap, fun_ext}
use mathlib.Core.List.{List, [], ◌∷◌}
use Rattle.std.proofs.Math.Option.{Option, none, some}
use Rattle.runs.specs.Update.{clash}
use Rattle.runs.specs.Picks.{run}
use Rattle.runs.specs.Traces as Traces
use Rattle.lock.specs.Lock as L
use Rattle.plan.specs.Plan.{Task}
use Rattle.plan.specs.Permits.{is_set, permits, is_masked, any_masked}
use Rattle.tasks.specs.Accesses.{task_at, no_task}
use Rattle.machine.specs.State.{Setup, Place, idle, trying, registering, looking, draining, serving, handing, leaving, State, start, picked}
use Rattle.machine.specs.Ready.{nothing, chosen, choose}
use Rattle.machine.proofs.Ready.{choose_first, choose_nowhere}
use Rattle.machine.specs.Event.{Event, fills, takes, takes_none, most_served, may, choice, taking, serving_with, serving_or_taking, standing_at}
use Rattle.machine.specs.Step.{apply, step, finished, after}
use Rattle.machine.specs.Unmasked.{first_served_or_taken, standing_before, step_before, after_before}

-- ---- the same

unmasked_permits : (t : Task) → is_masked t ≡ false → (w : ℕ) → permits t w ≡ true
unfolding permits
unmasked_permits t e w = go t.mask e
  where
    go : (o : Option ℕ) → elim o [ none ↦ false | some m ↦ true ] ≡ false → elim o [ none ↦ true | some m ↦ is_set m w ] ≡ true
    go none z = refl
    go (some m) z = clash (cc)

neither : (a b : Bool) → (a || b) ≡ false → (a ≡ false) × (b ≡ false)
neither true b e = clash (cc)
neither false b e = (refl, e)

all_permit : (ts : List Task) → any_masked ts ≡ false → (i w : ℕ) → permits (task_at ts i) w ≡ true
unfolding any_masked
all_permit [] e i w = unmasked_permits no_task refl w
all_permit (t ∷ ts) e zero w = unmasked_permits t (neither (is_masked t) (any_masked ts) e).0 w
all_permit (t ∷ ts) e (suc i) w = all_permit ts (neither (is_masked t) (any_masked ts) e).1 i w

module _ (c : Setup) (unmasked : any_masked c.tasks ≡ false) where
  -- every worker may run every task
  pub all_may : (w i : ℕ) → may c w i ≡ true
  all_may w i = all_permit c.tasks unmasked i w

  module _ (s : State) (w : ℕ) where
    serving_before : (n : ℕ) (is : List ℕ) → s.ready_list ≡ is → (o : Option ℕ) → serving_or_taking c s w n o ≡ first_served_or_taken c s n is o
    unfolding serving_or_taking first_served_or_taken
    serving_before n [] q o = go o
      where
        none_for : (v : ℕ) → choice c s v ≡ nothing
        none_for v = ap (choose (may c v)) q ∙ choose_nowhere (may c v) [] (λ j l. absurd (omega arith))

        go : (o : Option ℕ) → serving_or_taking c s w n o ≡ takes_none
        go none = ap (taking c s) (none_for w)
        go (some v) = by (ltb n (most_served c))
          where
            by : (b : Bool) → elim b [ true ↦ serving_with c s w n v (choice c s v) | false ↦ taking c s (choice c s w) ] ≡ takes_none
            by true = ap (serving_with c s w n v) (none_for v) ∙ ap (taking c s) (none_for w)
            by false = ap (taking c s) (none_for w)
    serving_before n (i ∷ is) q o = go o
      where
        first_for : (v : ℕ) → choice c s v ≡ chosen i is
        first_for v = ap (choose (may c v)) q ∙ choose_first (may c v) i is (all_may v i)

        go : (o : Option ℕ) → serving_or_taking c s w n o ≡ first_served_or_taken c s n (i ∷ is) o
        go none = ap (taking c s) (first_for w)
        go (some v) = by (ltb n (most_served c))
          where
            by : (b : Bool)
                → ◌≡◌ {A = Event} (elim b [ true ↦ serving_with c s w n v (choice c s v) | false ↦ taking c s (choice c s w) ])
                (elim b [ true ↦ fills n v i is | false ↦ takes i is ])
            by true = ap (serving_with c s w n v) (first_for v)
            by false = ap (taking c s) (first_for w)

    event_before : (p : Place) → standing_at c s w p ≡ standing_before c s w p
    unfolding standing_at
    event_before idle = refl
    event_before trying = refl
    event_before (registering t) = refl
    event_before (looking t) = refl
    event_before (draining p k) = refl
    event_before (serving n) = serving_before n s.ready_list refl (L.front c.slots s.lock)
    event_before (handing n) = refl
    event_before leaving = refl

    step_before_lem : step c s w ≡ step_before c s w
    unfolding step
    step_before_lem = ap (apply c (picked s) w) (event_before (s.place w))

  -- every run is what it was, pick for pick
  pub unmasked_runs : (ws : List ℕ) → after c ws ≡ after_before c ws
  unfolding after
  unmasked_runs ws =
      ap (λ (f : State → ℕ → State). run (Traces.pick (finished c) f) (start c) ws) (fun_ext (λ s. fun_ext (λ w. step_before_lem s w)))
