-- `bench_to_second::serve` meets its contract: what it reads of a longer text is enough.
use Rattle.std.proofs.Common.{ap}
use Rattle.tools.specs.Result.{printed}
use Rattle.tools.specs.Cut.{cut_alike}
use Rattle.convert.specs.Convert.{in_second, to_second}
use Rattle.bench_to_second.proofs.serve.Goals as goal

pub returns : goal.returns
unfolding to_second
returns g c =
    c.serve.ensures (λ text. printed (to_second text)) (record { at = λ text lent left n e front. front.bytes })
    (λ text. ap printed (cut_alike in_second text))
