-- What there is room for: the code has the same names (src/layout.rt).
use Rattle.std.specs.Prelude.{ℕ}

abbrev pub most_tasks : ℕ
most_tasks = 128

abbrev pub most_task_accesses : ℕ
most_task_accesses = 4
