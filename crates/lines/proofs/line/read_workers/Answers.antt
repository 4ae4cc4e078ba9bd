-- `lines::line::read_workers` meets its contract: by what was read of the workers, and of the sizes after them. Assumes nothing.
use Rattle.std.specs.Prelude.{not}
use Rattle.std.proofs.Common.{ap}
use Rattle.text.specs.declared.read.Number.{Number}
use Rattle.plan.specs.declared.form.Form.TheVariants.{First, Second}
use Rattle.plan.specs.Line.{workers_line}
use Rattle.lines.proofs.Wholes.{passed_on, number_told, workers_left, sizes_left, first_formed, sizes_formed}
use Rattle.lines.proofs.Judged.{workers_judged, none_yet}
use Rattle.lines.proofs.line.read_workers.Goals as goal
use Rattle.lines.proofs.line.read_workers.Goals.{then-field+in_ok-form, else-field}

pub returns-in_err-field-clause-line : goal.returns-in_err-field-clause-line
returns-in_err-field-clause-line c p sums =
    let wrong = c.in_err-field.field-0.0 in
    rw (passed_on c.from_residual.result wrong c.from_residual.ensures.1)
    (workers_left (workers_line p) c.args.cursor.now.within c.in_err-field.ensures.field)

pub returns-in_err-form-clause-line : goal.returns-in_err-form-clause-line
returns-in_err-form-clause-line c p sums =
    let wrong = c.in_err-form.field-0.0 in
    let t = number_told c.args.cursor.now.within c.in_ok-field.ensures.field in
    rw (passed_on c.from_residual-in_err-form.result wrong c.from_residual-in_err-form.ensures.1)
    (sizes_left (workers_line p) t c.if-field.true (rw c.number.ensures.text at c.in_err-form.ensures.fields))

pub returns-clause-line : goal.returns-clause-line
returns-clause-line c p sums =
    let t = number_told c.args.cursor.now.within c.in_ok-field.ensures.field in
    let workers = ap (λ (k : Number). k.value) t.holds in
    let judged = c.judge_workers.ensures p (ap not (none_yet sums)) in
    elim c.if-field.branch [
      | then-field+in_ok-form w ↦
          sizes_formed (workers_line p) t w.if-field.true
          (rw (c.number.ensures.text, ← w.form-is, ← w.cursor-is) at w.in_ok-form.ensures.fields)
          (λ slots capacity e. workers_judged p t.it (Second slots capacity) workers e judged)
      | else-field w ↦
          let same = w.cursor-is in
          rw same (first_formed (workers_line p) t w.if-field.false (workers_judged p t.it First workers w.form-is judged))
    ]
