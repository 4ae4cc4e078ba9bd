-- `report::word::put_outcome` meets its contract. Assumes nothing.
use Rattle.text.specs.Text.{bytes}
use Rattle.report.proofs.word.put_outcome.Goals.{then-finished, else-finished}
use Rattle.report.proofs.word.put_outcome.Goals as goal

pub returns-clause-wrote : goal.returns-clause-wrote
unfolding bytes
returns-clause-wrote c =
    elim c.if-finished.branch [
      | then-finished w ↦ rw w.if-finished.true (rw w.name-is at c.put_field.ensures)
      | else-finished w ↦ rw w.if-finished.false (rw w.name-is at c.put_field.ensures)
    ]
