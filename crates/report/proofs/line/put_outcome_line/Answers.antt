-- `report::line::put_outcome_line` meets its contract: field after field. Assumes nothing.
use mathlib.Core.Path.{refl}
use Rattle.text.specs.Text.{bytes}
use Rattle.text.specs.WriterLaws.{writes_field, writes_last}
use Rattle.report.proofs.line.put_outcome_line.Goals as goal

pub returns-clause-wrote : goal.returns-clause-wrote
unfolding bytes
returns-clause-wrote c =
    let numbers = writes_field c.put_number.ensures.wrote (writes_last c.put_number-2.ensures.wrote refl) in
    writes_field c.put_field.ensures (writes_field c.put_outcome.ensures.wrote numbers)
