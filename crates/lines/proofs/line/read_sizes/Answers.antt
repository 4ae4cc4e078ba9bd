-- `lines::line::read_sizes` meets its contract: by whether two numbers were read. Assumes nothing.
use Rattle.lines.proofs.Wholes.{passed_on, says_left, left_of, sizes_told}
use Rattle.lines.proofs.line.read_sizes.Goals as goal

pub returns-in_err-slots-clause-fields : goal.returns-in_err-slots-clause-fields
returns-in_err-slots-clause-fields c =
    let wrong = c.in_err-slots.field-0.0 in
    rw (passed_on c.from_residual.result wrong c.from_residual.ensures.1)
    (says_left (left_of c.in_err-slots.ensures.fields))

pub returns-clause-fields : goal.returns-clause-fields
returns-clause-fields c =
    sizes_told c.in_ok-slots.ensures.fields
