-- `fresh` meets its contract.
use mathlib.Core.Path.{ap}
use Rattle.memory.specs.declared.tally.Tally.{Tally}
use Rattle.steps.specs.Memory.{with_tally}
use Rattle.scheduler.specs.Starting.{fresh_counts}
use Rattle.scheduler.proofs.fresh.Goals as goal

pub returns : goal.returns
returns c =
    let x = c.args in
    ap (λ (tally : Tally). with_tally (fresh_counts x.ends x.workers x.slots x.capacity x.tasks) tally) c.fresh-tally.ensures
