-- Rows of accesses while they are laid: the first n of a plan's accesses are there.
use Rattle.std.specs.Prelude.{ℕ, ◌≤◌, ◌<◌, ◌≡◌, Bool, List, length, get_or, set, drop, eqb, Option, Some, None}
use Rattle.plan.specs.Plan.{Task}
use Rattle.tasks.specs.Accesses as plan
use Rattle.tasks.specs.Accesses.{no_access, total, addr, task_at}
use Rattle.kept.specs.declared.tasks.Row.{Row}
use Rattle.memory.specs.Rows.{access_row}
use Rattle.memory.specs.declared.rows.AccessRow.{AccessRow}
use Rattle.tables.specs.Tables.{only_reads, access_row_before}

-- the access in row b is to this address
abbrev pub at_address : List AccessRow → ℕ → ℕ → Bool
at_address rows address b = eqb address (access_row rows b).address

-- access a follows this one, or none
abbrev pub followed : List AccessRow → Option ℕ → ℕ → List AccessRow
followed rows None a = rows
followed rows (Some b) a =
    let row = access_row rows b in
    set rows b (record { flags = row.flags; task = row.task; reader = row.reader; prev = row.prev; next = a; address = row.address })

-- y is the access after a, or the number of all while it is not among the first n
abbrev pub Follows : List Task → ℕ → ℕ → ℕ → Type 0
Follows ts n a y = (plan.next ts a < n → y ≡ plan.next ts a) × (n ≤ plan.next ts a → y ≡ total ts)

-- the rows are as they will be, but for the access after; what is behind them is as it was before
pub record Laid (ts : List Task) (n : ℕ) (before rows : List AccessRow) : Type 0 where
  pub laid : (a : ℕ) → a < n → (y : ℕ) × Follows ts n a y × (access_row rows a ≡ access_row_before ts a y)
  pub rest : drop n rows ≡ drop n before

-- access a of a plan
pub record IsAccess (ts : List Task) (a task : ℕ) (reads : Bool) (address : ℕ) : Type 0 where
  pub low : a < total ts
  pub of : plan.task_of ts a ≡ task
  pub kind : only_reads ts a ≡ reads
  pub at : addr ts a ≡ address

-- the accesses of task i, which begin with number `at`, as its row has them
pub record AreAccesses (ts : List Task) (i at : ℕ) (row : Row) : Type 0 where
  pub low : i < length ts
  pub begins : plan.first ts i ≡ at
  pub count : length (task_at ts i).accesses ≡ row.count
  pub accesses : (k : ℕ) → k < row.count → get_or row.accesses k no_access ≡ get_or (task_at ts i).accesses k no_access
