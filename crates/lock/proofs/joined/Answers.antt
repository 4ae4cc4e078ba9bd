-- `lock::joined` meets its contract.
use mathlib.Core.Path.{refl}
use Rattle.lock.specs.Lock.{join}
use Rattle.lock.proofs.joined.Goals as goal

pub returns : goal.returns
unfolding join
returns c =
    refl
