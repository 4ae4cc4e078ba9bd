-- `ready::task_at` meets its contract.
use mathlib.Core.Path.{refl, sym}
use Rattle.steps.proofs.Choosing.{listed_at}
use Rattle.steps.proofs.ready.task_at.Goals as goal

pub returns : goal.returns
returns c =
    let x = c.args in
    let pre = c.requires in record { numbers = refl; meaning = sym (listed_at x.n x.ready.now x.k pre.3) }
