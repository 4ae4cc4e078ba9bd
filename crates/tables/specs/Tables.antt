-- What is laid out of a plan whose tasks are kept.
use Rattle.std.specs.Prelude.{ℕ, ◌<◌, ◌≡◌, Bool, not, List, length, get_or, drop}
use Rattle.plan.specs.Plan.{Task, Plan}
use Rattle.plan.specs.PermitLaws.{mask_of}
use Rattle.plan.specs.Reading.{reading, accepted}
use Rattle.tasks.specs.Accesses as plan
use Rattle.tasks.specs.Accesses.{task_at, access_at, addr}
use Rattle.tasks.specs.Flags.{no_flag}
use Rattle.tasks.specs.Tasks.{new}
use Rattle.kept.specs.declared.tasks.Row.{Row}
use Rattle.kept.specs.Tasks.{row_at, HasTasks}
use Rattle.memory.specs.Codes.{option_of}
use Rattle.memory.specs.Rows.{TaskRows, AccessRows, new_task, new_access}
use Rattle.memory.specs.declared.rows.TaskRow.{TaskRow}
use Rattle.memory.specs.declared.rows.AccessRow.{AccessRow}
use Rattle.memory.specs.declared.labels.Label.{Label}

-- so many tasks are kept, of an accepted plan
abbrev pub Readable : List Row → ℕ → Type 0
Readable plan count =
    (text : List ℕ) × (p : Plan) × (reading text ≡ accepted p) × (count ≡ length p.tasks) × HasTasks text plan p.tasks

-- of whatever accepted plan they are kept
abbrev pub OfPlan : List Row → ℕ → (List ℕ → Plan → Type 0) → Type 0
OfPlan plan count Q =
    (text : List ℕ) (p : Plan) → reading text ≡ accepted p → count ≡ length p.tasks → HasTasks text plan p.tasks → Q text p

-- the rows of tasks that are not yet created, and of accesses with no flag set
abbrev pub NewTasks : Plan → List TaskRow → Type 0
NewTasks p rows = TaskRows p.tasks rows (λ _. 0) (λ _. new) (λ _. 0) (λ _. 0) (λ _. 0)

abbrev pub NewAccesses : Plan → List AccessRow → Type 0
NewAccesses p rows = AccessRows p.tasks rows (λ _. no_flag)

-- ---- the rows

-- whether access a only reads
abbrev pub only_reads : List Task → ℕ → Bool
only_reads ts a = not (access_at ts a).writes

-- the row of task i before it is created
abbrev pub task_row_of : List Task → ℕ → TaskRow
task_row_of ts i = new_task (task_at ts i).cost (plan.first ts i) (length (task_at ts i).accesses)

-- the row of access a with no flag set, before access y
abbrev pub access_row_before : List Task → ℕ → ℕ → AccessRow
access_row_before ts a y = new_access (plan.task_of ts a) (only_reads ts a) (option_of (plan.prev ts a)) y (addr ts a)

abbrev pub access_row_of : List Task → ℕ → AccessRow
access_row_of ts a = access_row_before ts a (plan.next ts a)

-- the place of label i, and the mask of task i
abbrev pub label_of : List Row → ℕ → Label
label_of plan i = record { place = (row_at plan i).place; size = (row_at plan i).size }

abbrev pub task_mask : ℕ → List Task → ℕ → ℕ
task_mask W ts i = mask_of W (task_at ts i).mask

-- the first n are these, where `blank` stands for one that there is not, and what is behind them is as it was before
pub record LaidRows {A : Type 0} (blank : A) (n : ℕ) (row : ℕ → A) (before after : List A) : Type 0 where
  pub rows : (i : ℕ) → i < n → get_or after i blank ≡ row i
  pub rest : drop n after ≡ drop n before
