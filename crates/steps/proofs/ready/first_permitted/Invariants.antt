-- `ready::first_permitted` meets its contract. The loop's invariant: no task before place k has the worker's bit in its mask.
use Prim.Native.Nat.{ℕ, ◌-◌, ◌≤◌, ◌<◌}
use mathlib.Core.Path.{◌≡◌}
use mathlib.Core.Bool.{false}
use Rattle.plan.specs.Permits.{is_set}
use Rattle.steps.specs.Ready.{mask_at}
use Rattle.steps.proofs.ready.first_permitted.Given as goal

abbrev pub invariant-loop-k : goal.invariant-loop-k
invariant-loop-k l = (l.k ≤ l.n.ready) × ((j : ℕ) → j < l.k → is_set (mask_at l.n l.device j) l.w ≡ false)

abbrev pub decreases-loop-k : goal.decreases-loop-k
decreases-loop-k l = l.n.ready - l.k
