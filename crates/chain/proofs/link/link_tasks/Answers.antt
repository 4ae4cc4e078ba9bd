use Rattle.std.proofs.Common.{◌-◌, arith}
use Rattle.chain.proofs.Linking.{known_behind, sum_small, linked}
use Rattle.chain.proofs.link.link_tasks.Goals as goal

pub overflow_add-links : goal.overflow_add-links
overflow_add-links c =
    let turn = c.loop-i in
    let (ts, kept) = c.requires.1 in
    let behind = known_behind turn.i (omega (arith, c.loop-i-test.true)) (turn.invariant ts kept) in
    record { fits = sum_small kept (turn.i - 1) (omega arith) (c.find_next-found.ensures ts kept behind) _ }

pub loop-i-preserved : goal.loop-i-preserved
loop-i-preserved c ts kept =
    let turn = c.loop-i in
    let behind = known_behind turn.i (omega (arith, c.loop-i-test.true)) (turn.invariant ts kept) in
    linked kept (turn.i - 1) (omega arith) (c.find_next-found.ensures ts kept behind) _ (omega arith) behind
