-- `report::put_report` meets its contract: line after line. Assumes nothing.
use native.Mathlib.Omega.{arith}
use Rattle.std.proofs.Common.{rules}
use Rattle.report.proofs.Lines.{first_none, first_more, wrote_report}
use Rattle.report.proofs.put_report.Goals as goal

pub loop-i-init : goal.loop-i-init
loop-i-init c =
    (omega (arith, c.put_outcome_line.ensures.short), λ setup s shown. first_none shown)

pub put_task-requires : goal.put_task-requires
put_task-requires c =
    let turn = c.loop-i in
    let less = c.loop-i-test.true in
    let (_, _, shown) = c.requires.shown in
    let (rows, places, givers, few) = c.requires.lengths in
    let short = (shown.labels turn.i (omega (arith, shown.count))).short in
    (rows, places, givers, omega (arith, few), short, omega (arith, few, turn.invariant.0))

pub loop-i-preserved : goal.loop-i-preserved
loop-i-preserved c =
    let turn = c.loop-i in
    let (near, lines) = turn.invariant in
    let put = c.put_task.ensures in (
      omega (arith, near, put.short),
      λ setup s shown. first_more shown turn.i c.loop-i-test.true (lines setup s shown) (put.wrote setup s),
    )

pub returns : goal.returns
returns c setup s shown =
    let turn = c.loop-i in
    let lines = turn.invariant.1 setup s shown in
    let lock = c.put_lock_line.ensures in
    let whole = wrote_report shown turn.i c.put_outcome_line.ensures.wrote lines (omega arith) lock in
    let wrote = whole.wrote in
    let same = whole.same in
    search rules
