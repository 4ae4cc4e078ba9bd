-- `lines::line::last_number` meets its contract: by whether a number was read, and what ended it. Assumes nothing.
use Rattle.lines.proofs.Wholes.{passed_on, says_left, number_left, number_told, number_ends, number_goes_on}
use Rattle.lines.proofs.line.last_number.Goals as goal

pub returns-in_err-field-clause-field : goal.returns-in_err-field-clause-field
returns-in_err-field-clause-field c =
    let wrong = c.in_err-field.field-0.0 in
    rw (passed_on c.from_residual.result wrong c.from_residual.ensures.1)
    (says_left (number_left c.args.cursor.now.within c.in_err-field.ensures.field))

pub returns-then-field-clause-field : goal.returns-then-field-clause-field
returns-then-field-clause-field c =
    number_goes_on (number_told c.args.cursor.now.within c.in_ok-field.ensures.field) c.if-field.true

pub returns-clause-field : goal.returns-clause-field
returns-clause-field c =
    number_ends (number_told c.args.cursor.now.within c.in_ok-field.ensures.field) c.if-field.false
