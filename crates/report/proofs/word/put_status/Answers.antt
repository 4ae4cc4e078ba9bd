-- `report::word::put_status` meets its contract. Assumes nothing.
use Rattle.text.specs.Text.{bytes}
use Rattle.text.specs.WriterLaws.{writes_same}
use Rattle.tasks.specs.Tasks.{new, waiting, ready, held, running, over}
use Rattle.report.proofs.Words.{name_is}
use Rattle.report.proofs.word.put_status.Goals.{in-New, in-Waiting, in-Ready, in-Held, in-Running, in-Over}
use Rattle.report.proofs.word.put_status.Goals as goal

pub returns-clause-wrote : goal.returns-clause-wrote
unfolding bytes
returns-clause-wrote c x e =
    elim c.match-status.branch [
      | in-New w ↦ writes_same (rw w.name-is at c.put_field.ensures) (name_is x new _ e w.in-New.is)
      | in-Waiting w ↦ writes_same (rw w.name-is at c.put_field.ensures) (name_is x waiting _ e w.in-Waiting.is)
      | in-Ready w ↦ writes_same (rw w.name-is at c.put_field.ensures) (name_is x ready _ e w.in-Ready.is)
      | in-Held w ↦ writes_same (rw w.name-is at c.put_field.ensures) (name_is x held _ e w.in-Held.is)
      | in-Running w ↦ writes_same (rw w.name-is at c.put_field.ensures) (name_is x running _ e w.in-Running.is)
      | in-Over w ↦ writes_same (rw w.name-is at c.put_field.ensures) (name_is x over _ e w.in-Over.is)
    ]
