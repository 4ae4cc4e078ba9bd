-- `tables::access::lay_accesses` meets its contract: so many of the task's accesses are laid.
-- Assumes nothing.
use Prim.Native.Nat.{◌+◌}
use mathlib.Core.Path.{◌≡◌}
use mathlib.Core.List.{List}
use Rattle.plan.specs.Plan.{Task}
use Rattle.tasks.specs.Accesses.{total as Total}
use Rattle.memory.specs.declared.rows.AccessRow.{AccessRow}
use Rattle.tables.specs.Laid.{Laid, AreAccesses}
use Rattle.tables.proofs.access.lay_accesses.Given as goal

abbrev pub invariant-loop-k : goal.invariant-loop-k
invariant-loop-k l =
    (ts : List Task) (start : List AccessRow) → Total ts ≡ l.total → AreAccesses ts l.task l.at l.row → Laid ts l.at start l.initial.accesses
    → Laid ts (l.at + l.k) start l.accesses
