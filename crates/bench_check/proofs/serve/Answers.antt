-- `bench_check::serve` meets its contract: what it reads of a longer text is enough.
use Rattle.std.proofs.Common.{ap}
use Rattle.tools.specs.Result.{result, printed}
use Rattle.tools.specs.Cut.{cut_alike}
use Rattle.text.specs.Text.{line}
use Rattle.reader.specs.Verdict.{verdict}
use Rattle.bench_check.specs.Checking.{accepted_fields, checking}
use Rattle.bench_check.proofs.serve.Goals as goal

pub returns : goal.returns
returns g c =
    c.serve.ensures (λ text. printed (checking text)) (record { at = λ text lent left n e front. front.bytes })
    (λ text. ap printed (cut_alike (λ t p. result (line (accepted_fields (verdict t).looks))) text))
