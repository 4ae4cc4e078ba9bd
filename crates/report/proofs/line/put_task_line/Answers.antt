-- `report::line::put_task_line` meets its contract: field after field. Assumes nothing.
use mathlib.Core.Path.{refl, ap, ◌∙◌}
use Rattle.text.specs.Text.{bytes}
use Rattle.text.specs.Writers.{option_field}
use Rattle.text.specs.WriterLaws.{writes_field, writes_last, writes_same}
use Rattle.report.proofs.Words.{known_running, known_over, giver_shown}
use Rattle.report.proofs.line.put_task_line.Goals as goal

pub returns-clause-wrote : goal.returns-clause-wrote
unfolding bytes
returns-clause-wrote c x g e f =
    let task = c.args.task in
    let begun = c.le-begun.ensures in
    let runner_known = known_running x task.runner e begun c.then_some.ensures in
    let receipt_known = known_running x task.receipt e begun c.then_some-2.ensures in
    let ending_known = known_over x task.ending e c.le-over.ensures c.then_some-3.ensures in
    let runner = writes_same c.put_option.ensures.wrote runner_known in
    let receipt = writes_same c.put_option-2.ensures.wrote receipt_known in
    let ending = writes_same c.put_option-3.ensures.wrote ending_known in
    let giver = writes_same c.put_option-4.ensures.wrote (giver_shown g ∙ ap option_field f) in
    let times = writes_field receipt (writes_field ending (writes_last giver refl)) in
    let known = writes_field (c.put_status.ensures.wrote x e) (writes_field runner times) in
    writes_field c.put_field.ensures
    (writes_field c.put_number.ensures.wrote (writes_field c.put_field-2.ensures known))
