-- `bench_chain::serve` meets its contract: what it reads of a longer text is enough.
use Rattle.std.proofs.Common.{ap}
use Rattle.tools.specs.Result.{result, printed}
use Rattle.tools.specs.Cut.{cut_alike}
use Rattle.chain.specs.Longest.{chain_line, chain_of}
use Rattle.bench_chain.proofs.serve.Goals as goal

pub returns : goal.returns
unfolding chain_of
returns g c =
    c.serve.ensures (λ text. printed (chain_of text)) (record { at = λ text lent left n e front. front.bytes })
    (λ text. ap printed (cut_alike (λ t p. result (chain_line p.tasks)) text))
