-- `bench_to_second::answer` meets its contract: no result has more than 65,536 bytes. Assumes nothing.
use native.Mathlib.Omega.{arith}
use Rattle.tools.proofs.Printing.{prints}
use Rattle.convert.specs.Convert.{to_second}
use Rattle.convert.proofs.Moved.{second_short}
use Rattle.bench_to_second.proofs.answer.Goals as goal

pub returns : goal.returns
returns c =
    let text = c.args.text.now in
    prints c.args.output.now _ _ _ _ c.show.ensures (omega (arith, c.requires)) (to_second text)
    (λ bs e. omega (arith, c.requires, second_short text bs e)) c.to_second.ensures.outcome
