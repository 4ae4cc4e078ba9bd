-- `bench_c::salfunye_run` meets its contract: what the run answers, in numbers. Assumes nothing.
use mathlib.Core.Path.{ap, ◌∙◌}
use Rattle.play.specs.Outcome.{Outcome}
use Rattle.bench_c.specs.Numbers.{ran_numbers}
use Rattle.bench_c.proofs.salfunye_run.Goals as goal

pub returns : goal.returns
returns c =
    let ran = c.run.ensures.outcome in
    record {
      answer = c.from.ensures ∙ ap (λ (o : Outcome). ran_numbers o.answer) ran;
      store = ap (λ (o : Outcome). o.store) ran;
      output = ap (λ (o : Outcome). o.output) ran;
    }
