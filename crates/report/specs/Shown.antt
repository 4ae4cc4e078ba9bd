-- What a summary, the rows of the tasks, their labels' places, their givers, and the plan's text say of a state.
use Rattle.std.specs.Prelude.{ℕ, ◌<◌, ◌≡◌, List, length, get_or}
use Rattle.std.specs.Prelude as rust
use Rattle.tasks.specs.Accesses.{task_at}
use Rattle.machine.specs.State.{Setup, State}
use Rattle.machine.specs.Step.{finished}
use Rattle.memory.specs.Codes.{status_of, option_of}
use Rattle.memory.specs.Rows.{TaskRows, outcome_at}
use Rattle.memory.specs.Labels.{label_at, label_in, Labels}
use Rattle.machine.specs.Whereabouts.{leader}
use Rattle.report.specs.Report.{task_fields, total_permitted}
use Rattle.memory.specs.declared.rows.TaskRow.{TaskRow}
use Rattle.memory.specs.declared.labels.Label.{Label}
use Rattle.report.specs.declared.Summary.{Summary}

-- the fields of task i's line
abbrev pub fields_of : Setup → State → ℕ → List (List ℕ)
fields_of c s i =
    let now = s.tasks in
    task_fields i (task_at c.tasks i).label (now.status i) (now.runner i) (now.receipt i) (now.ending i) (s.giver i)

-- of one task
pub record TaskShown (c : Setup) (s : State) (table : List TaskRow) (places : List Label) (given : List (rust.Option ℕ)) (text : List ℕ) (i : ℕ) : Type 0 where
  pub outcome :
      outcome_at table i
      ≡ record {
        status = status_of (s.tasks.status i);
        runner = s.tasks.runner i;
        receipt = s.tasks.receipt i;
        ending = s.tasks.ending i;
      }
  pub label : label_in text (label_at places i) ≡ (task_at c.tasks i).label
  pub giver : get_or given i rust.None ≡ option_of (s.giver i)

pub record Shown (c : Setup) (s : State) (summary : Summary) (table : List TaskRow) (places : List Label) (given : List (rust.Option ℕ)) (text : List ℕ) : Type 0 where
  pub finished : summary.finished ≡ finished c s
  pub picks : summary.picks ≡ s.picks
  pub permitted : summary.permitted ≡ total_permitted c
  pub head : summary.head ≡ s.lock.head
  pub tail : summary.tail ≡ s.lock.tail
  pub leader : summary.leader ≡ leader c s
  pub count : summary.tasks ≡ length c.tasks
  pub rows : TaskRows c.tasks table s.tasks.count s.tasks.status s.tasks.runner s.tasks.receipt s.tasks.ending
  pub labels : Labels c.tasks text places
  pub givers : (i : ℕ) → i < length c.tasks → get_or given i rust.None ≡ option_of (s.giver i)
