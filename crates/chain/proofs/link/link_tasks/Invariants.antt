-- `link_tasks` meets its contract. Assumes nothing.
use Rattle.std.proofs.Common.{List}
use Rattle.plan.specs.Plan.{Task}
use Rattle.chain.specs.Links.{Kept, Known}
use Rattle.chain.proofs.link.link_tasks.Given as goal

abbrev pub invariant-loop-i : goal.invariant-loop-i
invariant-loop-i l = (ts : List Task) → Kept l.rows ts → Known ts l.links l.i
