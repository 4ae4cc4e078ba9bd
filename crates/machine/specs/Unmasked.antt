-- Without M lines every run is what it was before there were masks, pick for pick.
use Prim.Native.Nat.{ℕ}
use Rattle.std.specs.Prelude.{true, false, ltb}
use mathlib.Core.List.{List, [], ◌∷◌}
use Rattle.std.proofs.Math.Option.{Option, none, some}
use Rattle.runs.specs.Picks.{run}
use Rattle.runs.specs.Traces as Traces
use Rattle.lock.specs.Lock as L
use Rattle.machine.specs.State.{Setup, Place, idle, trying, registering, looking, draining, serving, handing, leaving, State, start, picked}
use Rattle.machine.specs.Event.{Event, fills, takes, takes_none, most_served, standing_at}
use Rattle.machine.specs.Step.{apply, finished}

-- ---- the base's rule

module _ (c : Setup) (s : State) where
  -- a task is ready, a registered front waiter exists and fewer than W - 1 were served: serve it with the first ready task, else take that
  unfoldable pub first_served_or_taken : ℕ → List ℕ → Option ℕ → Event
  first_served_or_taken n [] waiter = takes_none
  first_served_or_taken n (i ∷ is) none = takes i is
  first_served_or_taken n (i ∷ is) (some v) = elim (ltb n (most_served c)) [ true ↦ fills n v i is | false ↦ takes i is ]

  abbrev pub standing_before : ℕ → Place → Event
  standing_before w idle = standing_at c s w idle
  standing_before w trying = standing_at c s w trying
  standing_before w (registering t) = standing_at c s w (registering t)
  standing_before w (looking t) = standing_at c s w (looking t)
  standing_before w (draining p k) = standing_at c s w (draining p k)
  standing_before w (serving n) = first_served_or_taken n s.ready_list (L.front c.slots s.lock)
  standing_before w (handing n) = standing_at c s w (handing n)
  standing_before w leaving = standing_at c s w leaving

-- one pick, and the state after a list of picks, by that rule
abbrev pub step_before : Setup → State → ℕ → State
step_before c s w = apply c (picked s) w (standing_before c s w (s.place w))

abbrev pub after_before : Setup → List ℕ → State
after_before c ws = run (Traces.pick (finished c) (step_before c)) (start c) ws
