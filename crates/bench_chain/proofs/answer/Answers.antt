-- `bench_chain::answer` meets its contract: no line has more than 409 bytes. Assumes nothing.
use native.Mathlib.Omega.{arith}
use Rattle.tools.proofs.Printing.{prints}
use Rattle.chain.specs.Longest.{chain_of}
use Rattle.chain.proofs.Short.{result_short}
use Rattle.bench_chain.proofs.answer.Goals as goal

pub returns : goal.returns
returns c =
    let text = c.args.text.now in
    prints c.args.output.now _ _ _ _ c.show.ensures (omega (arith, c.requires)) (chain_of text)
    (λ bs e. omega (arith, c.requires, result_short text bs e)) c.longest_chain.ensures.outcome
