-- `bench_check::answer::answer` meets its contract: by the verdict. Assumes nothing.
use mathlib.Core.Path.{sym, ap, ◌∙◌}
use native.Mathlib.Omega.{arith}
use Rattle.refusals.specs.Number.{number}
use Rattle.refusals.specs.Line.{refusal_fields}
use Rattle.reader.specs.declared.CheckedText.{CheckedText}
use Rattle.tools.proofs.Printing.{line_front}
use Rattle.bench_check.specs.Checking.{accepted_fields}
use Rattle.bench_check.proofs.Prints.{accepted_prints, refused_prints}
use Rattle.bench_check.proofs.answer.answer.Goals as goal

pub returns-in-Ok : goal.returns-in-Ok
returns-in-Ok c =
    let text = c.args.text.now in
    let put = c.put_accepted in
    let answer = c.check-answer.ensures.answer in
    let is = sym (ap (λ (r : CheckedText). r.checked) answer) ∙ c.in-Ok.is in
    let looks = ap (λ (r : CheckedText). r.looks) answer in
    rw (← accepted_prints text is, ← looks) (line_front (accepted_fields _) put.ensures.0 (omega (arith, put.ensures.1, c.requires)))

pub returns-in-Err : goal.returns-in-Err
returns-in-Err c =
    let text = c.args.text.now in
    let put = c.show in
    let answer = c.check-answer.ensures.answer in
    let is = sym (ap (λ (r : CheckedText). r.checked) answer) ∙ c.in-Err.is in
    rw (← refused_prints text _ is)
    (line_front (refusal_fields (number _) _) put.ensures.0 (omega (arith, put.ensures.1, c.requires)))
