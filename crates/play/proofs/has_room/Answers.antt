-- `has_room` meets its contract: the report is counted, or no report is longer.
use native.Mathlib.Omega.{arith}
use mathlib.Core.Path.{sym, ap}
use lib.Dec.{leb}
use lib.ListN.{length}
use borrow.Author.Tests.{le-leb}
use Rattle.text.specs.WritingLaws.{told_length}
use Rattle.report.specs.Report.{report}
use Rattle.report.proofs.Sizes.{report_short}
use Rattle.play.proofs.has_room.Goals as goal

pub returns-then-size-ge-LONGEST : goal.returns-then-size-ge-LONGEST
returns-then-size-ge-LONGEST c d s small shown =
    let size = c.args.size in
    sym (le-leb (length (report d s)) size (omega (arith, report_short d s small, c.if-size-ge-LONGEST.true)))

pub put_report-requires : goal.put_report-requires
put_report-requires c =
    let a = c.args.arrays.now in
    let (d, s, small, is) = c.requires.small in
    record { lengths = (omega arith, omega arith, omega (arith, a.long.4.givers), c.requires.few); shown = (d, s, is) }

pub returns : goal.returns
returns c d s small shown =
    let size = c.args.size in
    ap (λ n. leb n size) (told_length (c.put_report.ensures d s shown))
