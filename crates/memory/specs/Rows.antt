-- Tasks and accesses in their rows.
use Rattle.std.specs.Prelude.{ℕ, ◌<◌, ◌≡◌, Bool, false, List, length, get_or, set, Option, None}
use Rattle.plan.specs.Plan.{Task}
use Rattle.tasks.specs.Accesses as plan
use Rattle.tasks.specs.Accesses.{task_at}
use Rattle.tasks.specs.Flags.{Flags, flag_number}
use Rattle.tasks.specs.Tasks as tasks
use Rattle.memory.specs.Codes.{status_of, reader_number, option_of}
use Rattle.memory.specs.declared.rows.Status.{Status}
use Rattle.memory.specs.declared.rows.Status.TheVariants.{New, Held, Running}
use Rattle.memory.specs.declared.rows.TaskRow.{TaskRow}
use Rattle.memory.specs.declared.rows.AccessRow.{AccessRow}
use Rattle.memory.specs.declared.rows.Outcome.{Outcome}

-- the row of a task that is not yet created
abbrev pub new_task : ℕ → ℕ → ℕ → TaskRow
new_task cost first accesses =
    record { count = 0; status = New; runner = 0; receipt = 0; ending = 0; cost = cost; first = first; accesses = accesses }

-- the row of an access without flags
abbrev pub new_access : ℕ → Bool → Option ℕ → ℕ → ℕ → AccessRow
new_access task reader prev next address =
    record { flags = 0; task = task; reader = reader; prev = prev; next = next; address = address }

-- what stands for a row that there is not
abbrev pub no_task : TaskRow
no_task = new_task 0 0 0

abbrev pub no_access : AccessRow
no_access = new_access 0 false None 0 0

-- the row of a task, and of an access
abbrev pub task_row : List TaskRow → ℕ → TaskRow
task_row rows i = get_or rows i no_task

abbrev pub access_row : List AccessRow → ℕ → AccessRow
access_row rows a = get_or rows a no_access

-- what the row of task i tells of it: by the run, and of the plan the cost, the number of the first access, and how many there are
abbrev pub row_of : List Task → ℕ → ℕ → tasks.Status → ℕ → ℕ → ℕ → TaskRow
row_of ts i count status runner receipt ending =
    record {
      count = count;
      status = status_of status;
      runner = runner;
      receipt = receipt;
      ending = ending;
      cost = (task_at ts i).cost;
      first = plan.first ts i;
      accesses = length (task_at ts i).accesses;
    }

abbrev pub TaskRows : List Task → List TaskRow → (ℕ → ℕ) → (ℕ → tasks.Status) → (ℕ → ℕ) → (ℕ → ℕ) → (ℕ → ℕ) → Type 0
TaskRows ts rows counts statuses runners receipts endings =
    (i : ℕ) → i < length ts → task_row rows i ≡ row_of ts i (counts i) (statuses i) (runners i) (receipts i) (endings i)

pub record AccessRows (ts : List Task) (rows : List AccessRow) (set : ℕ → Flags) : Type 0 where
  pub flags : (a : ℕ) → a < plan.total ts → (access_row rows a).flags ≡ flag_number (set a)
  -- of the plan: the task, 1 for a reader, the access before at the address or none, and the one after
  pub task : (a : ℕ) → a < plan.total ts → (access_row rows a).task ≡ plan.task_of ts a
  pub reader : (a : ℕ) → a < plan.total ts → reader_number (access_row rows a).reader ≡ plan.reader ts a
  pub prev : (a : ℕ) → a < plan.total ts → (access_row rows a).prev ≡ option_of (plan.prev ts a)
  pub next : (a : ℕ) → a < plan.total ts → (access_row rows a).next ≡ plan.next ts a

-- ---- rows that are changed and shown

-- a task's row with another count and status
abbrev pub counted : TaskRow → ℕ → Status → TaskRow
counted row count status =
    record {
      count = count;
      status = status;
      runner = row.runner;
      receipt = row.receipt;
      ending = row.ending;
      cost = row.cost;
      first = row.first;
      accesses = row.accesses;
    }

-- with another runner, receipt and ending
abbrev pub timed : TaskRow → ℕ → ℕ → ℕ → TaskRow
timed row runner receipt ending =
    record {
      count = row.count;
      status = row.status;
      runner = runner;
      receipt = receipt;
      ending = ending;
      cost = row.cost;
      first = row.first;
      accesses = row.accesses;
    }

-- with task i held out, and with it received by worker w at a time
abbrev pub held_rows : List TaskRow → ℕ → List TaskRow
held_rows rows i = let row = task_row rows i in set rows i (counted row row.count Held)

abbrev pub received_rows : List TaskRow → ℕ → ℕ → ℕ → List TaskRow
received_rows rows i w time =
    let row = task_row rows i in set rows i (timed (counted row row.count Running) w time row.ending)

-- with flags of access a
abbrev pub flagged_rows : List AccessRow → ℕ → ℕ → List AccessRow
flagged_rows rows a flags =
    let row = access_row rows a in
    set rows a
    (record { flags = flags; task = row.task; reader = row.reader; prev = row.prev; next = row.next; address = row.address })

-- what has become of task i, as its row has it
abbrev pub outcome_at : List TaskRow → ℕ → Outcome
outcome_at rows i =
    let row = task_row rows i in
    record { status = row.status; runner = row.runner; receipt = row.receipt; ending = row.ending }
