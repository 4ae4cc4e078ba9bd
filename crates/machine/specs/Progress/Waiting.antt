-- The waiting figure: how many picks a registered worker waits at the most, where every B picks in a row include each worker.
use Rattle.std.specs.Prelude.{ℕ, ◌≡◌, ◌⊎◌}
use Rattle.tasks.specs.Accesses.{task_at}
use Rattle.tasks.specs.Tasks as T
use Rattle.machine.specs.State.{Setup, for_serving, idle, draining, State}

-- worker w has received a task, or owns the lock
abbrev pub OutOfWait : Setup → ℕ → State → Type 0
OutOfWait c w s =
    ((i : ℕ) × (s.place w ≡ idle) × (s.stand w ≡ T.working i (task_at c.tasks i).cost)) ⊎ (s.place w ≡ draining for_serving 0)
