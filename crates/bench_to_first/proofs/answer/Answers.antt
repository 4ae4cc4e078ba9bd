-- `bench_to_first::answer` meets its contract: no result has more than 65,536 bytes. Assumes nothing.
use native.Mathlib.Omega.{arith}
use Rattle.tools.proofs.Printing.{prints}
use Rattle.convert.specs.Convert.{to_first}
use Rattle.convert.proofs.Moved.{first_short}
use Rattle.bench_to_first.proofs.answer.Goals as goal

pub returns : goal.returns
returns c =
    let text = c.args.text.now in
    prints c.args.output.now _ _ _ _ c.show.ensures (omega (arith, c.requires)) (to_first text)
    (λ bs e. omega (arith, c.requires, first_short text bs e)) c.to_first.ensures.outcome
