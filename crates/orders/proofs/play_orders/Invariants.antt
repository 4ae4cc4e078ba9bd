-- `play_orders` meets its contract.
use Rattle.scheduler.specs.Lent.{memory_of}
use Rattle.orders.proofs.LineByLine.{Plays}
use Rattle.orders.proofs.play_orders.Given as goal

abbrev pub invariant-loop-order : goal.invariant-loop-order
invariant-loop-order l =
    Plays l.lines l.limit (memory_of l.initial.n l.initial.arrays) l.initial.store (memory_of l.n l.arrays) l.store l.order-index
