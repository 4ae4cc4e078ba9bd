-- `lines::line::read_task` meets its contract: by what was read of its label and its cost. Assumes nothing.
use Rattle.std.specs.Prelude.{◌≡◌, not, ◌||◌, eqb}
use Rattle.std.proofs.Common.{◌∙◌, ne_eqb}
use borrow.Author.Tests.{eq-eqb, not-true, not-false}
use Rattle.text.proofs.FieldLaws.{fields_none}
use Rattle.lines.proofs.Wholes.{passed_on, told}
use Rattle.lines.proofs.Heads.{head_unlabelled, head_ends, head_costless, head_begun}
use Rattle.lines.proofs.line.read_task.Goals as goal
use Rattle.lines.proofs.line.read_task.Goals.{then-sofar-eq0, else-sofar-eq0}

pub returns-in_err-label-clause-line : goal.returns-in_err-label-clause-line
returns-in_err-label-clause-line c p sums =
    let wrong = c.in_err-label.field-0.0 in
    rw (passed_on c.from_residual.result wrong c.from_residual.ensures.1)
    (head_unlabelled c.args.cursor.now.within c.in_err-label.ensures.field)

pub returns-then-not-label-clause-line : goal.returns-then-not-label-clause-line
returns-then-not-label-clause-line c p sums =
    let start = c.args.cursor.now in
    let label = c.in_ok-label.label in
    let t = told (fields_none start.text.now start.at start.within) c.in_ok-label.ensures.field in
    head_ends t (not-true label.more c.if-not-label.true)

pub returns-in_err-cost-clause-line : goal.returns-in_err-cost-clause-line
returns-in_err-cost-clause-line c p sums =
    let start = c.args.cursor.now in
    let label = c.in_ok-label.label in
    let wrong = c.in_err-cost.field-0.0 in
    let t = told (fields_none start.text.now start.at start.within) c.in_ok-label.ensures.field in
    rw (passed_on c.from_residual-in_err-cost.result wrong c.from_residual-in_err-cost.ensures.1)
    (head_costless t (not-false label.more c.if-not-label.false) (rw c.read_label.ensures.text at c.in_err-cost.ensures.field))

pub returns-clause-line : goal.returns-clause-line
returns-clause-line c p sums =
    let start = c.args.cursor.now in
    let sofar = c.args.sofar in
    let label = c.in_ok-label.label in
    let t = told (fields_none start.text.now start.at start.within) c.in_ok-label.ensures.field in
    let place : c.if-sofar-eq0.misplaced ≡ (eqb sofar.workers 0 || not (eqb sofar.orders 0)) =
    elim c.if-sofar-eq0.branch [
      | then-sofar-eq0 w ↦ w.misplaced-is ∙ simp (eq-eqb sofar.workers 0 w.if-sofar-eq0.true)
      | else-sofar-eq0 w ↦ w.misplaced-is ∙ simp (ne_eqb sofar.workers 0 w.if-sofar-eq0.false)
    ] in
    head_begun sums t (not-false label.more c.if-not-label.false) (rw c.read_label.ensures.text at c.in_ok-cost.ensures.field)
    c.looks-place.ensures place c.judge_first.ensures
