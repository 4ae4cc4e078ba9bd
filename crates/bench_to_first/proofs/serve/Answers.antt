-- `bench_to_first::serve` meets its contract: what it reads of a longer text is enough.
use Rattle.std.proofs.Common.{ap}
use Rattle.tools.specs.Result.{printed}
use Rattle.tools.specs.Cut.{cut_alike}
use Rattle.convert.specs.Convert.{in_first, to_first}
use Rattle.bench_to_first.proofs.serve.Goals as goal

pub returns : goal.returns
unfolding to_first
returns g c =
    c.serve.ensures (λ text. printed (to_first text)) (record { at = λ text lent left n e front. front.bytes })
    (λ text. ap printed (cut_alike in_first text))
