-- `tally::is_finished` meets its contract: what the numbers say is so of the tasks that they count.
use borrow.Author.Tests.{eq-eqb, ne_eqb}
use Rattle.memory.specs.Memory.{memory}
use Rattle.memory.proofs.Finishing.{finished_counts}
use Rattle.memory.proofs.tally.is_finished.Goals as goal

pub returns-then-n-eq0-clause-meaning : goal.returns-then-n-eq0-clause-meaning
returns-then-n-eq0-clause-meaning c m W ts parts t st h =
    rw (finished_counts W ts (memory c.args.n m.rows m.accesses) parts t st h, eq-eqb c.args.n.left 0 c.if-n-eq0.true)

pub returns-else-n-eq0-clause-meaning : goal.returns-else-n-eq0-clause-meaning
returns-else-n-eq0-clause-meaning c m W ts parts t st h =
    rw (finished_counts W ts (memory c.args.n m.rows m.accesses) parts t st h, ne_eqb c.args.n.left 0 c.if-n-eq0.false)
