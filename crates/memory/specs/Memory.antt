-- The tasks as they lie in arrays, in small numbers and in the workers' parts of the store.
use Rattle.std.specs.Prelude.{ℕ, ◌+◌, ◌≤◌, ◌<◌, ◌≡◌, List, length, eqb, ltb, Bool, true, not, ◌&&◌, Some, None}
use Rattle.std.proofs.Math.Option.{Option, none, some}
use Rattle.runs.specs.Update.{upd}
use Rattle.runs.specs.Sums.{sum}
use Rattle.runs.specs.Counts.{one}
use Rattle.plan.specs.Plan.{Task}
use Rattle.tasks.specs.Accesses.{task_at}
use Rattle.tasks.specs.Tasks.{Stand, free, telling, working, Status, is_over, Tasks}
use Rattle.tasks.proofs.Promise.{Kept}
use Rattle.tasks.specs.History.{Duty, Op, minds, Can, after, stand_after}
use Rattle.tasks.specs.Duties.{duty, creating}
use Rattle.memory.specs.Layout as layout
use Rattle.memory.specs.Codes.{Making}
use Rattle.memory.specs.Rows.{task_row, TaskRows, AccessRows}
use Rattle.memory.specs.Shares.{Stored}
use Rattle.memory.specs.declared.rows.TaskRow.{TaskRow}
use Rattle.memory.specs.declared.rows.AccessRow.{AccessRow}
use Rattle.memory.specs.declared.tally.Tally.{Tally}

-- what all workers share; each worker lies in its part
pub record TaskMemory : Type 0 where
  pub tally : Tally
  pub rows : List TaskRow
  pub accesses : List AccessRow

abbrev pub memory : Tally → List TaskRow → List AccessRow → TaskMemory
memory tally rows accesses = record { tally = tally; rows = rows; accesses = accesses }

pub record Long (m : TaskMemory) : Type 0 where
  pub rows : length m.rows ≡ layout.most_tasks
  pub accesses : length m.accesses ≡ layout.most_accesses

-- 1 for a task that is not over, and for a notice that is to be given
abbrev pub unfinished : Status → ℕ
unfinished x = one (not (is_over x))

abbrev pub notices : Stand → ℕ
notices free = 0
notices (telling a f) = 1
notices (working i n) = 0

-- The tasks lie in these rows and numbers. What this does not speak of is left to the program: rows past the last task and the last access,
-- and the address; in a part the numbers without a name, slots without an entry, and what a free worker's stand is about; parts past the
-- last worker's. They may be anything, before and after: what is held after an operation does not depend on them.
pub record HoldsTasks (W : ℕ) (ts : List Task) (m : TaskMemory) (parts : ℕ → List ℕ) (t : Tasks) (st : ℕ → Stand) : Type 0 where
  pub tasks : m.tally.tasks ≡ length ts
  pub stored : (v : ℕ) → v < W → Stored (parts v) (st v) (t.mail v) (t.adds v)
  pub task_rows_lem : TaskRows ts m.rows t.count t.status t.runner t.receipt t.ending
  pub access_rows_lem : AccessRows ts m.accesses t.flags
  pub creation : Making m.tally.task m.tally.access t.creation
  -- tasks that are not over; messages and notices that are pending
  pub left : m.tally.left ≡ sum (length ts) (λ i. unfinished (t.status i))
  pub pending : m.tally.pending ≡ sum W (λ v. length (t.mail v) + notices (st v))

-- the sizes that the layout has room for
pub record Sized (W : ℕ) (ts : List Task) : Type 0 where
  pub workers : W ≤ layout.most_workers
  pub tasks : length ts ≤ layout.most_tasks
  pub each : (i : ℕ) → length (task_at ts i).accesses ≤ layout.most_task_accesses

-- what an operation of worker w rests on: the tasks' promise, and mailboxes within their room
pub record Fit (W : ℕ) (ts : List Task) (t : Tasks) (st : ℕ → Stand) (w : ℕ) : Type 0 where
  pub sized : Sized W ts
  pub worker : w < W
  pub kept : Kept W ts t st
  pub mails : (v : ℕ) → length (t.mail v) ≤ layout.mail_room

-- worker w, its part being `own`, can act
pub record Able (m : TaskMemory) (own : List ℕ) (w : ℕ) : Type 0 where
  pub W : ℕ
  pub ts : List Task
  pub t : Tasks
  pub st : ℕ → Stand
  pub parts : ℕ → List ℕ
  pub lent : parts w ≡ own
  pub long : Long m
  pub holds : HoldsTasks W ts m parts t st
  pub fit : Fit W ts t st w

-- memory n, with w's part as `next`, holds the tasks after w's operation, the time being k
module _ {m : TaskMemory} {own : List ℕ} {w : ℕ} (a : Able m own w) where
  abbrev pub HeldAfter : ℕ → Op → TaskMemory → List ℕ → Type 0
  HeldAfter k op n next =
      HoldsTasks a.W a.ts n (upd a.parts w next) (after a.ts k a.t w op) (upd a.st w (stand_after a.ts (a.st w) op))

-- worker w's operation, which the state chooses, leads from one memory and part to another
abbrev pub Acts : (List Task → Tasks → Stand → ℕ → Option Op) → ℕ → TaskMemory → List ℕ → TaskMemory → List ℕ → ℕ → Type 0
Acts choose k m own n next w = (a : Able m own w) (op : Op) → choose a.ts a.t (a.st w) w ≡ some op → HeldAfter a k op n next

-- likewise of a given operation, where it is allowed
abbrev pub Does : Op → ℕ → TaskMemory → List ℕ → TaskMemory → List ℕ → ℕ → Type 0
Does op k m own n next w = (a : Able m own w) → Can a.W a.ts a.t (a.st w) w op → HeldAfter a k op n next

abbrev pub as_op : Option Duty → Option Op
as_op none = none
as_op (some d) = some (minds d)

-- a worker's duty, and creating
abbrev pub its_duty : List Task → Tasks → Stand → ℕ → Option Op
its_duty ts t x w = as_op (duty x (t.mail w))

abbrev pub its_creating : List Task → Tasks → Stand → ℕ → Option Op
its_creating ts t x w = as_op (creating ts t.creation)

-- where the accesses of the task in creation end, by its row
abbrev pub end_of : Tally → List TaskRow → ℕ
end_of n rows = (task_row rows n.task).first + (task_row rows n.task).accesses

-- whether tasks are still to be created, by the numbers
unfoldable pub to_create : Tally → Bool
to_create n = elim n.access [ None ↦ ltb n.task n.tasks | Some a ↦ true ]

-- whether no task is left and nothing is pending, by the numbers
abbrev pub nothing_left : Tally → Bool
nothing_left n = eqb n.left 0 && eqb n.pending 0

-- the numbers of a plan of so many tasks, with nothing done
abbrev pub fresh_tally : ℕ → Tally
fresh_tally tasks = record { tasks = tasks; task = 0; access = None; left = tasks; pending = 0 }
