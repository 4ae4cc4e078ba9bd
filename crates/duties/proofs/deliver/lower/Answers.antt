-- `deliver::lower` meets its contract: the count stays above 0, was 0, or comes to 0.
use Prim.Native.Nat.{◌<◌}
use native.Mathlib.Omega.{arith}
use Rattle.memory.specs.Rows.{task_row}
use Rattle.duties.proofs.Delivering.{rows_above, rows_none, rows_out, adds_above, adds_none, adds_out}
use Rattle.duties.proofs.deliver.lower.Goals as goal

pub returns-then-by-count : goal.returns-then-by-count
returns-then-by-count c ts s w p mail within h k =
    let a = c.args in (
      rows_above ts a.rows.now s w a.task a.by c.requires.lengths.0 within h c.if-by-count.true,
      adds_above ts a.rows.now s w a.task a.by c.requires.lengths.0 within h a.own.now p mail c.if-by-count.true k,
    )

pub returns-then-count-eq0 : goal.returns-then-count-eq0
returns-then-count-eq0 c ts s w p mail within h k =
    let a = c.args in (
      rows_none ts a.rows.now s w a.task a.by c.requires.lengths.0 within h c.if-count-eq0.true,
      adds_none ts a.rows.now s w a.task a.by c.requires.lengths.0 within h a.own.now p mail c.if-count-eq0.true k,
    )

pub returns : goal.returns
returns c ts s w p mail within h k =
    let a = c.args in
    let least = c.if-by-count.false in
    let some : 0 < (task_row a.rows.now a.task).count = omega (arith, c.if-count-eq0.false) in (
      rows_out ts a.rows.now s w a.task a.by c.requires.lengths.0 within h some least,
      adds_out ts a.rows.now s w a.task a.by c.requires.lengths.0 within h c.add.new.own p mail some least
          (c.add.ensures.meaning p mail (s.adds w) k),
    )
