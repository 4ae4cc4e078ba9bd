-- `lines::line::read_picks` meets its contract: by whether a worker and a count were read. Assumes nothing.
use Rattle.std.specs.Prelude.{◌≡◌, not, ◌||◌, leb}
use Rattle.std.proofs.Common.{ap, ◌∙◌}
use borrow.Author.Tests.{le-leb, lt-leb}
use Rattle.text.specs.declared.read.Number.{Number}
use Rattle.text.specs.Text.{within}
use Rattle.plan.specs.Line.{picks_line}
use Rattle.lines.proofs.Wholes.{passed_on, two_left, two_formed}
use Rattle.lines.proofs.Judged.{picks_judged}
use Rattle.lines.proofs.line.read_picks.Goals as goal
use Rattle.lines.proofs.line.read_picks.Goals.{then-sofar-worker, else-sofar-worker}

pub returns-in_err-worker-clause-line : goal.returns-in_err-worker-clause-line
returns-in_err-worker-clause-line c p sums =
    let wrong = c.in_err-worker.field-0.0 in
    rw (passed_on c.from_residual.result wrong c.from_residual.ensures.1) (two_left (picks_line p) c.in_err-worker.ensures.fields)

pub returns-clause-line : goal.returns-clause-line
returns-clause-line c p sums =
    let read = c.in_ok-worker in
    let workers = c.args.sofar.workers in
    let out : c.if-sofar-worker.out ≡ (leb workers read.worker.value || not (within 1 4096 read.count.value)) =
    elim c.if-sofar-worker.branch [
      | then-sofar-worker w ↦ w.out-is ∙ simp (le-leb workers read.worker.value w.if-sofar-worker.true)
      | else-sofar-worker w ↦ w.out-is ∙ w.outside-out.ensures ∙ simp (lt-leb workers read.worker.value w.if-sofar-worker.false)
    ] in
    two_formed (picks_line p) read.ensures.fields
    (λ v n e f.
    picks_judged sums c.requires v n (ap (λ (k : Number). k.value) e) (ap (λ (k : Number). k.value) f) c.narrow.ensures c.narrow-2.ensures out
    c.order_line.ensures)
