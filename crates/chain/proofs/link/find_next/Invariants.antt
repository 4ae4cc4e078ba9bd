-- `find_next` meets its contract. Assumes nothing.
use Rattle.std.proofs.Common.{◌<◌, List}
use Rattle.std.specs.Prelude.{suc}
use Rattle.plan.specs.Plan.{Task}
use Rattle.chain.specs.Links.{Kept, Found, Known}
use Rattle.chain.proofs.Scan.{Upto, Joins}
use Rattle.chain.proofs.link.find_next.Given as goal

abbrev pub invariant-loop-j : goal.invariant-loop-j
invariant-loop-j l =
    (l.i < l.j)
    × ((ts : List Task) → Kept l.rows ts → Known ts l.links (suc l.i)
    → Found ts l.links (Upto ts (Joins ts l.i) (Unit {0}) l.j) l.found.sum l.found.next)
