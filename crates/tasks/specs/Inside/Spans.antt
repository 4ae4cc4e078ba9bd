-- How long a task takes from its receipt to its ending.
use Rattle.std.specs.Prelude.{ℕ, suc, ◌+◌, ◌*◌, ◌≤◌}
use mathlib.Core.List.{List}
use Rattle.plan.specs.Plan.{Task}
use Rattle.tasks.specs.Accesses.{task_at}
use Rattle.tasks.specs.Tasks.{Tasks}

-- where each worker's moves are M apart: one for each step of its work, and one more, the ending
abbrev pub Span : List Task → ℕ → Tasks → ℕ → Type 0
Span ts M t i = t.receipt i + suc (task_at ts i).cost * M ≤ t.ending i
