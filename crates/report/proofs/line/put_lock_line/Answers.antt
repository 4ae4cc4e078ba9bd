-- `report::line::put_lock_line` meets its contract: field after field. Assumes nothing.
use mathlib.Core.Path.{refl}
use Rattle.text.specs.Text.{bytes}
use Rattle.text.specs.WriterLaws.{writes_field, writes_last}
use Rattle.report.proofs.line.put_lock_line.Goals as goal

pub returns : goal.returns
unfolding bytes
returns c =
    let last = writes_last c.put_leader.ensures refl in
    let ends = writes_field c.put_number.ensures.wrote (writes_field c.put_number-2.ensures.wrote last) in
    writes_field c.put_field.ensures ends
