-- `tables::access::lay_plan_accesses` meets its contract: the accesses of the tasks before i are laid.
-- Assumes nothing.
use Prim.Native.Nat.{◌*◌, ◌≤◌}
use mathlib.Core.Path.{◌≡◌}
use Rattle.tasks.specs.Accesses.{total as Total}
use Rattle.memory.specs.Layout as layout
use Rattle.tables.specs.Tables.{OfPlan}
use Rattle.tables.proofs.Accesses.{AccessesTo}
use Rattle.tables.proofs.access.lay_plan_accesses.Given as goal

abbrev pub invariant-loop-i : goal.invariant-loop-i
invariant-loop-i l =
    (l.at ≤ layout.most_task_accesses * l.i)
    × OfPlan l.plan l.count (λ text p. l.total ≡ Total p.tasks → AccessesTo p l.initial.accesses l.i l.at l.accesses)
