-- `text::number::put_digits` meets its contract: the digits of what is left, and behind them those at the back of the array, are all. The
-- measure is what is left. Assumes nothing.
use Prim.Native.Nat.{◌≤◌}
use mathlib.Core.Path.{◌≡◌}
use mathlib.Core.List.{◌++◌}
use lib.ListN.{length, drop}
use Rattle.text.specs.Text.{decimal}
use Rattle.text.proofs.number.put_digits.Given as goal

abbrev pub invariant-loop-left : goal.invariant-loop-left
invariant-loop-left l =
    (decimal l.n ≡ decimal l.left ++ drop l.from l.digits) × (length (decimal l.left) ≤ l.from) × (l.from ≤ 20) × (length l.digits ≡ 20)

abbrev pub decreases-loop-left : goal.decreases-loop-left
decreases-loop-left l = l.left
