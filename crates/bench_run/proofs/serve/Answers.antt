-- `bench_run::serve` meets its contract: what it reads of a longer text is enough.
use Rattle.std.proofs.Common.{rules}
use Rattle.bench.specs.Answer.{printed}
use Rattle.bench_run.specs.Cut.{cut_alike}
use Rattle.bench_run.proofs.serve.Goals as goal

pub returns : goal.returns
returns g c =
    c.serve.ensures printed (record { at = λ text lent left n e met. search rules }) cut_alike
