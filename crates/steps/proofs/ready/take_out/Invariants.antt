-- `ready::take_out` meets its contract. The loop's invariant: what is left to move up comes to what there was to move.
use Prim.Native.Nat.{◌≤◌}
use mathlib.Core.Path.{◌≡◌}
use lib.ListN.{length}
use Rattle.runs.specs.Circular.{shifted}
use Rattle.steps.specs.Layout.{READY}
use Rattle.steps.proofs.ready.take_out.Given as goal

abbrev pub invariant-loop-i : goal.invariant-loop-i
invariant-loop-i l =
    (l.i ≤ l.k) × (length l.ready ≡ length l.initial.ready) × (shifted READY l.n.ready_at l.ready l.i ≡ shifted READY l.n.ready_at l.initial.ready l.k)
