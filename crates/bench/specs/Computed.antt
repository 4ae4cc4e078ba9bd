-- The program's answer with every definition in it opened, so that it is computed where this is unfolded.
use Rattle.std.specs.Prelude.{List, ℕ}
use Rattle.runs.specs.Every.{every}
use Rattle.runs.specs.Sums.{sum}
use Rattle.text.specs.Text.{bytes, all_of, split, value_after, number_of, digits_before, decimal, line}
use Rattle.plan.specs.Plan.{mask_last}
use Rattle.plan.specs.Line.{repeats, ends_unmasked, access_of, line_by, line_of_fields}
use Rattle.plan.specs.Reading.{first_refusal, read_lines, reading}
use Rattle.plan.specs.Orders.{seeded_picks, picks_of_all}
use Rattle.machine.specs.Whereabouts.{owner, due}
use Rattle.machine.specs.Computing.{computing}
use Rattle.report.specs.Report.{task_lines, report}
use Rattle.bench.specs.Answer.{printed_for, printed}

unfoldable pub computed : List ℕ → List ℕ
unfolding bytes every all_of split value_after number_of digits_before decimal line access_of line_by line_of_fields repeats
    mask_last ends_unmasked sum first_refusal read_lines reading seeded_picks picks_of_all computing owner due task_lines report printed_for
computed text = printed text
