-- `tables::task::lay_plan_tasks` meets its contract: the tasks before i are laid, and so many accesses are theirs.
-- Assumes nothing.
use Prim.Native.Nat.{◌*◌, ◌≤◌}
use Rattle.memory.specs.Layout as layout
use Rattle.tables.specs.Tables.{OfPlan}
use Rattle.tables.proofs.Tasks.{TasksTo}
use Rattle.tables.proofs.task.lay_plan_tasks.Given as goal

abbrev pub invariant-loop-i : goal.invariant-loop-i
invariant-loop-i l =
    (l.total ≤ layout.most_task_accesses * l.i)
    × OfPlan l.plan l.count (λ text p. TasksTo p l.plan l.initial.tasks l.initial.labels l.i l.total l.tasks l.labels)
