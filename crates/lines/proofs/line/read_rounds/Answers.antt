-- `lines::line::read_rounds` meets its contract: by whether a count was read. Assumes nothing.
use Rattle.std.proofs.Common.{ap}
use Rattle.text.specs.declared.read.Number.{Number}
use Rattle.plan.specs.Line.{rounds_line}
use Rattle.lines.proofs.Wholes.{passed_on, one_left, one_formed}
use Rattle.lines.proofs.Judged.{rounds_judged}
use Rattle.lines.proofs.line.read_rounds.Goals as goal

pub returns-in_err-count-clause-line : goal.returns-in_err-count-clause-line
returns-in_err-count-clause-line c p sums =
    let wrong = c.in_err-count.field-0.0 in
    rw (passed_on c.from_residual.result wrong c.from_residual.ensures.1) (one_left (rounds_line p) c.in_err-count.ensures.field)

pub returns-clause-line : goal.returns-clause-line
returns-clause-line c p sums =
    one_formed (rounds_line p) c.in_ok-count.ensures.field
    (λ n e. rounds_judged sums n (ap (λ (k : Number). k.value) e) c.narrow.ensures c.outside.ensures c.order_line.ensures)
