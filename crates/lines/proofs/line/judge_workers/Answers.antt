-- `lines::line::judge_workers` meets its contract: the slots are judged where place and numbers have no fault. Assumes nothing.
use Rattle.std.specs.Prelude.{Err, Ok, ◌&&◌, refl, leb}
use Rattle.std.proofs.Common.{◌∙◌, arith}
use borrow.Author.Tests.{le-leb, lt-leb}
use Rattle.refusals.specs.declared.Refusal.TheVariants.{TooFewSlots}
use Rattle.text.specs.Text.{within}
use Rattle.plan.specs.Plan.{slots_of}
use Rattle.plan.specs.Line.{at_start, sizes_in_range}
use Rattle.plan.specs.Reading.{first_refusal}
use Rattle.lines.proofs.Wholes.{passed_on}
use Rattle.lines.proofs.Judged.{third_judged}
use Rattle.lines.proofs.line.judge_workers.Goals as goal

pub returns-in_err-judge_first : goal.returns-in_err-judge_first
returns-in_err-judge_first c p place =
    let a = c.args in
    let r = c.in_err-judge_first.field-0.0 in
    passed_on c.from_residual.result r c.from_residual.ensures.1
    ∙ third_judged (at_start p) (within 1 32 a.workers && sizes_in_range a.form) (leb a.workers (slots_of a.form)) TooFewSlots place
    c.workers_outside.ensures (Err r) _ c.in_err-judge_first.ensures refl

pub returns-then-slots_of-workers : goal.returns-then-slots_of-workers
unfolding first_refusal
returns-then-slots_of-workers c p place =
    let a = c.args in
    let few = lt-leb a.workers (slots_of a.form) (omega (arith, c.slots_of.ensures)) in
    third_judged (at_start p) (within 1 32 a.workers && sizes_in_range a.form) (leb a.workers (slots_of a.form)) TooFewSlots place
    c.workers_outside.ensures (Ok tt) (Err TooFewSlots) c.in_ok-judge_first.ensures (rw few)

pub returns : goal.returns
unfolding first_refusal
returns c p place =
    let a = c.args in
    let enough = le-leb a.workers (slots_of a.form) (omega (arith, c.slots_of.ensures)) in
    third_judged (at_start p) (within 1 32 a.workers && sizes_in_range a.form) (leb a.workers (slots_of a.form)) TooFewSlots place
    c.workers_outside.ensures (Ok tt) (Ok tt) c.in_ok-judge_first.ensures (rw enough)
