-- `lines::line::judge_first` meets its contract: by the two flags. Assumes nothing.
use Rattle.plan.specs.Reading.{first_refusal}
use Rattle.lines.proofs.line.judge_first.Goals as goal

pub returns-then-misplaced : goal.returns-then-misplaced
unfolding first_refusal
returns-then-misplaced c =
    simp c.if-misplaced.true

pub returns-then-out : goal.returns-then-out
unfolding first_refusal
returns-then-out c =
    simp (c.if-misplaced.false, c.if-out.true)

pub returns : goal.returns
unfolding first_refusal
returns c =
    simp (c.if-misplaced.false, c.if-out.false)
