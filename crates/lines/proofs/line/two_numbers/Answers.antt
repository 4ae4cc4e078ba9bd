-- `lines::line::two_numbers` meets its contract: by whether numbers were read, and what ended them. Assumes nothing.
use borrow.Author.Tests.{not-true, not-false}
use Rattle.lines.proofs.Wholes.{passed_on, says_left, numbers_left, number_told, numbers_end, second_left, second_told}
use Rattle.lines.proofs.line.two_numbers.Goals as goal

pub returns-in_err-field-clause-fields : goal.returns-in_err-field-clause-fields
returns-in_err-field-clause-fields c =
    let wrong = c.in_err-field.field-0.0 in
    rw (passed_on c.from_residual.result wrong c.from_residual.ensures.1)
    (says_left (numbers_left c.args.cursor.now.within c.in_err-field.ensures.field))

pub returns-then-not-field-clause-fields : goal.returns-then-not-field-clause-fields
returns-then-not-field-clause-fields c =
    let field = c.in_ok-field.field in
    numbers_end (number_told c.args.cursor.now.within c.in_ok-field.ensures.field) (not-true field.more c.if-not-field.true)

pub returns-in_err-last-clause-fields : goal.returns-in_err-last-clause-fields
returns-in_err-last-clause-fields c =
    let field = c.in_ok-field.field in
    let wrong = c.in_err-last.field-0.0 in
    let t = number_told c.args.cursor.now.within c.in_ok-field.ensures.field in
    rw (passed_on c.from_residual-in_err-last.result wrong c.from_residual-in_err-last.ensures.1)
    (says_left (second_left t (not-false field.more c.if-not-field.false) (rw c.number.ensures.text at c.in_err-last.ensures.field)))

pub returns-clause-fields : goal.returns-clause-fields
returns-clause-fields c =
    let field = c.in_ok-field.field in
    let t = number_told c.args.cursor.now.within c.in_ok-field.ensures.field in
    second_told t (not-false field.more c.if-not-field.false) (rw c.number.ensures.text at c.in_ok-last.ensures.field)
