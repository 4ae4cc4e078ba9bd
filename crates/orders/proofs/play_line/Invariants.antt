-- `play_line` meets its contract.
use Prim.Native.Nat.{◌-◌}
use Rattle.scheduler.specs.Lent.{memory_of}
use Rattle.orders.proofs.Playing.{Goes}
use Rattle.orders.proofs.play_line.Given as goal

abbrev pub invariant-loop-n : goal.invariant-loop-n
invariant-loop-n l =
    Goes l.end (memory_of l.initial.n l.initial.arrays) l.initial.store l.initial.line
    (memory_of l.n l.arrays) l.store l.line

abbrev pub decreases-loop-n : goal.decreases-loop-n
decreases-loop-n l =
    l.end - l.n.picks
