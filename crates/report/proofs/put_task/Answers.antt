-- `report::put_task` meets its contract: the label is what `label` gives, and the outcome what `outcome_of` gives. Assumes nothing.
use mathlib.Core.Path.{refl}
use Rattle.memory.specs.Labels.{label_at}
use Rattle.report.proofs.Lines.{label_short, wrote_task}
use Rattle.report.proofs.put_task.Goals as goal

pub put_task_line-requires : goal.put_task_line-requires
put_task_line-requires c =
    let place = label_at c.args.labels.now c.args.i in
    (c.requires.5, label_short c.args.text.now place c.label-label.ensures c.requires.4)

pub returns-clause-wrote : goal.returns-clause-wrote
returns-clause-wrote c setup state shown =
    let wrote = c.put_task_line.ensures.wrote in
    wrote_task shown c.label-label.ensures c.outcome_of.ensures refl wrote
