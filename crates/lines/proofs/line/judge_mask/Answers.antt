-- `lines::line::judge_mask` meets its contract: no bit is judged where place and range have no fault. Assumes nothing.
use Rattle.std.specs.Prelude.{Err, Ok, ◌^◌, refl, ltb}
use Rattle.std.proofs.Common.{sym, ◌∙◌, arith}
use borrow.Author.Tests.{le-ltb, lt-ltb}
use Rattle.refusals.specs.declared.Refusal.TheVariants.{EmptyMask}
use Rattle.plan.specs.Line.{after_task}
use Rattle.plan.specs.Reading.{first_refusal}
use Rattle.lines.proofs.Wholes.{passed_on}
use Rattle.lines.proofs.Judged.{third_judged, mask_range, some_bit}
use Rattle.lines.proofs.line.judge_mask.Goals as goal

pub returns-in_err-judge_first : goal.returns-in_err-judge_first
returns-in_err-judge_first c p m workers is place =
    let a = c.args in
    let r = c.in_err-judge_first.field-0.0 in
    passed_on c.from_residual.result r c.from_residual.ensures.1
    ∙ third_judged (after_task p) (ltb m (2 ^ p.workers)) (ltb 0 m) EmptyMask place (mask_range m a.mask is p a.workers c.requires workers)
    (Err r) _ c.in_err-judge_first.ensures refl

pub returns-then-mask-eq0 : goal.returns-then-mask-eq0
unfolding first_refusal
returns-then-mask-eq0 c p m workers is place =
    let a = c.args in
    let no-bit = sym (some_bit m a.mask is) ∙ le-ltb 0 a.mask (omega arith) in
    third_judged (after_task p) (ltb m (2 ^ p.workers)) (ltb 0 m) EmptyMask place (mask_range m a.mask is p a.workers c.requires workers)
    (Ok tt) (Err EmptyMask) c.in_ok-judge_first.ensures (rw no-bit)

pub returns : goal.returns
unfolding first_refusal
returns c p m workers is place =
    let a = c.args in
    let bit = sym (some_bit m a.mask is) ∙ lt-ltb 0 a.mask (omega arith) in
    third_judged (after_task p) (ltb m (2 ^ p.workers)) (ltb 0 m) EmptyMask place (mask_range m a.mask is p a.workers c.requires workers)
    (Ok tt) (Ok tt) c.in_ok-judge_first.ensures (rw bit)
