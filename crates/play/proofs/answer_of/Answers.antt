-- `answer_of` meets its contract.
use Prim.Native.Nat.{◌≤◌}
use native.Mathlib.Omega.{arith}
use mathlib.Core.Path.{sym, ◌∙◌}
use lib.ListN.{length}
use borrow.Author.Tests.{leb-true, leb-false}
use Rattle.text.specs.WritingLaws.{told_length, wrote_whole}
use Rattle.report.specs.Report.{report}
use Rattle.report.specs.Totals.{masks_fit}
use Rattle.play.proofs.Answering.{masks_are, shown, few_tasks, too_short, long_enough}
use Rattle.play.proofs.answer_of.Goals as goal

pub summary_of-summary-requires : goal.summary_of-summary-requires
summary_of-summary-requires c =
    let given = c.args.arrays.now.device.masks in
    let (d, _, sized, _, _, holds) = c.requires.sized in
    let masks = masks_are d given sized holds.device.masks in
    let count = holds.tasks.tasks in record {
      room = (
        c.requires.room,
        omega (arith, holds.device.workers, sized.workers),
        omega (arith, holds.device.slots, sized.ring),
        omega (arith, holds.device.slots, sized.slots),
      );
      masks = (omega (arith, count, sized.tasks), λ i l. masks_fit d given masks i (omega arith));
    }

pub has_room-requires : goal.has_room-requires
has_room-requires c =
    let (d, s, sized, small, labels, holds) = c.requires.sized in
    let summed = c.summary_of-summary.ensures in
    record { few = few_tasks summed sized holds; small = (d, s, small, shown summed sized holds labels) }

pub put_report-length-requires : goal.put_report-length-requires
put_report-length-requires c =
    let a = c.args.arrays.now in
    let (d, s, sized, small, labels, holds) = c.requires.sized in
    let summed = c.summary_of-summary.ensures in
    record {
      lengths = (omega arith, omega arith, omega (arith, a.long.4.givers), few_tasks summed sized holds);
      shown = (d, s, shown summed sized holds labels);
    }

pub returns-then-has_room : goal.returns-then-has_room
returns-then-has_room c d s left sized small labels holds =
    let summed = c.summary_of-summary.ensures in
    let is = shown summed sized holds labels in
    let put = c.put_report-length.ensures d s is in
    let enough : length (report d s) ≤ length c.args.output.now =
    leb-true _ _ (sym (c.has_room.ensures d s small is) ∙ c.if-has_room.true) in
    long_enough summed sized holds left c.args.output.now _ _ enough (told_length put) (wrote_whole put enough)

pub returns : goal.returns
returns c d s left sized small labels holds =
    let summed = c.summary_of-summary.ensures in
    let is = shown summed sized holds labels in
    too_short summed sized holds left c.args.output.now
    (leb-false _ _ (sym (c.has_room.ensures d s small is) ∙ c.if-has_room.false))
