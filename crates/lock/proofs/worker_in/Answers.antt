-- `lock::worker_in` meets its contract.
use mathlib.Core.Path.{refl}
use Rattle.lock.specs.Lock.{worker_in}
use Rattle.lock.proofs.worker_in.Goals as goal

pub returns : goal.returns
unfolding worker_in
returns c =
    refl
