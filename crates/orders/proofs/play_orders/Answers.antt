-- `play_orders` meets its contract. The goal of the loop stands first: its refusal tells which line is not played as it should be.
use native.Mathlib.Omega.{arith}
use mathlib.Core.Path.{sym, ◌∙◌}
use Rattle.steps.specs.Memory.{share}
use Rattle.scheduler.specs.Lent.{memory_of}
use Rattle.orders.proofs.LineByLine.{Played, plays_start, played_full, played_finished, played_none, line_formed_here, line_ends, line_able, plays_line}
use Rattle.orders.proofs.play_orders.Goals as goal
use Rattle.orders.proofs.play_orders.Goals.{then-n-limit-via-then-n-limit, then-n-limit-via-else-n-limit+then-is_finished}

pub loop-order-init : goal.loop-order-init
loop-order-init c = plays_start

pub loop-order-preserved : goal.loop-order-preserved
loop-order-preserved c =
    let line = c.play_line-n in
    plays_line c.loop-order.invariant c.loop-order-test.true c.from.ensures c.count_of-count.ensures c.min-end.ensures
    (memory_of line.result line.new.arrays) line.new.store line.auto.store line.ensures.later line.ensures.held

pub count_of-count-requires : goal.count_of-count-requires
count_of-count-requires c = line_formed_here c.loop-order.invariant c.loop-order-test.true c.requires

pub overflow_add-n : goal.overflow_add-n
overflow_add-n c = omega (arith, line_ends c.loop-order.invariant c.loop-order-test.true c.requires c.count_of-count.ensures)

pub play_line-n-requires : goal.play_line-n-requires
play_line-n-requires c =
    line_able c.loop-order.invariant c.loop-order-test.true c.from.ensures c.count_of-count.ensures c.min-end.ensures c.requires

pub returns-then-n-limit : goal.returns-then-n-limit
returns-then-n-limit c =
    let line = c.play_line-n in
    let then = memory_of line.result line.new.arrays in
    let plays =
    plays_line c.loop-order.invariant c.loop-order-test.true c.from.ensures c.count_of-count.ensures c.min-end.ensures
    then line.new.store line.auto.store line.ensures.later line.ensures.held in
    let played : Played c.args.lines.now c.args.limit (memory_of c.args.begin c.args.arrays.now) c.args.store.now then line.new.store =
    elim c.then-n-limit.branch [
      | then-n-limit-via-then-n-limit w ↦ played_full plays w.if-n-limit.true
      | then-n-limit-via-else-n-limit+then-is_finished w ↦
          played_finished plays
          (λ k s h. sym w.if-is_finished.true ∙ w.is_finished.ensures.meaning then k s (share line.new.store) h)
    ] in
    record { held = played.0; later = played.1 }

pub returns : goal.returns
returns c =
    let played = played_none c.loop-order.invariant (omega arith) in
    record { held = played.0; later = played.1 }
