-- `find_first` meets its contract. Assumes nothing.
use Rattle.std.proofs.Common.{◌≡◌, ◌<◌, List, length}
use Rattle.plan.specs.Plan.{Task}
use Rattle.chain.specs.Links.{Found, Known}
use Rattle.chain.proofs.Scan.{Upto, There}
use Rattle.chain.proofs.link.find_first.Given as goal

abbrev pub invariant-loop-j : goal.invariant-loop-j
invariant-loop-j l =
    record {
      none : l.j ≡ 0 → l.first ≡ record { sum = 0; next = 0 };
      found : (ts : List Task) → length l.links ≡ length ts → Known ts l.links 0 → 0 < l.j
          → Found ts l.links (Upto ts (There ts) ⊥ l.j) l.first.sum l.first.next;
    }
