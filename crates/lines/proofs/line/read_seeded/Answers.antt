-- `lines::line::read_seeded` meets its contract: by whether a seed and a count were read. Assumes nothing.
use Rattle.std.specs.Prelude.{◌≡◌, not, ◌||◌}
use Rattle.std.proofs.Common.{ap, ◌∙◌}
use Rattle.text.specs.declared.read.Number.{Number}
use Rattle.text.specs.Text.{within}
use Rattle.plan.specs.Line.{seeded_line}
use Rattle.lines.proofs.Wholes.{passed_on, two_left, two_formed}
use Rattle.lines.proofs.Judged.{seeded_judged}
use Rattle.lines.proofs.line.read_seeded.Goals as goal
use Rattle.lines.proofs.line.read_seeded.Goals.{then-not-seed, else-not-seed}

pub returns-in_err-seed-clause-line : goal.returns-in_err-seed-clause-line
returns-in_err-seed-clause-line c p sums =
    let wrong = c.in_err-seed.field-0.0 in
    rw (passed_on c.from_residual.result wrong c.from_residual.ensures.1) (two_left (seeded_line p) c.in_err-seed.ensures.fields)

pub returns-clause-line : goal.returns-clause-line
returns-clause-line c p sums =
    let read = c.in_ok-seed in
    let out : c.if-not-seed.out ≡ (not read.seed.fits || not (within 1 1000000 read.count.value)) =
    elim c.if-not-seed.branch [
      | then-not-seed w ↦ w.out-is ∙ simp w.if-not-seed.true
      | else-not-seed w ↦
          let far : w.outside-out.result ≡ not (within 1 1000000 read.count.value) = w.outside-out.ensures in
          w.out-is ∙ far ∙ simp w.if-not-seed.false
    ] in
    two_formed (seeded_line p) read.ensures.fields
    (λ v n e f.
    seeded_judged sums v n (ap (λ (k : Number). k.value) e) (ap (λ (k : Number). k.fits) e) (ap (λ (k : Number). k.value) f) c.narrow.ensures
    out c.order_line.ensures)
