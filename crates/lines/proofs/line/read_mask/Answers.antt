-- `lines::line::read_mask` meets its contract: by whether a mask was read. Assumes nothing.
use Rattle.std.proofs.Common.{ap, arith}
use Rattle.std.specs.Prelude.{not}
use Rattle.text.specs.declared.read.Number.{Number}
use Rattle.plan.specs.Line.{mask_line}
use Rattle.lines.proofs.Wholes.{passed_on, one_left, one_formed}
use Rattle.lines.proofs.Judged.{mask_judged}
use Rattle.lines.proofs.line.read_mask.Goals as goal

pub returns-in_err-mask-clause-line : goal.returns-in_err-mask-clause-line
returns-in_err-mask-clause-line c p sums =
    let wrong = c.in_err-mask.field-0.0 in
    rw (passed_on c.from_residual.result wrong c.from_residual.ensures.1) (one_left (mask_line p) c.in_err-mask.ensures.field)

pub returns-clause-line : goal.returns-clause-line
returns-clause-line c p sums =
    let mask = c.in_ok-mask.field-0 in
    one_formed (mask_line p) c.in_ok-mask.ensures.field
    (λ m e.
    let is = ap (λ (k : Number). k.value) e in
    mask_judged m mask.value is p (omega (arith, c.requires, sums.workers))
    (c.judge_mask.ensures p m sums.workers is (ap not sums.after)))
