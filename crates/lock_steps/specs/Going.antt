-- A worker's share becomes another, in which the worker is elsewhere; the device's givers become others, in which a task has its giver.
use Rattle.std.specs.Prelude.{ℕ, ◌≡◌, List, set}
use Rattle.std.specs.Prelude as rust
use Rattle.std.proofs.Math.Option.{Option, none, some}
use Rattle.tasks.specs.History as Th
use Rattle.memory.specs.declared.rows.TaskRow.{TaskRow}
use Rattle.memory.specs.Memory as T
use Rattle.machine.specs.State.{Place}
use Rattle.machine.specs.Event.{Handed}
use Rattle.steps.specs.Codes.{Coded}
use Rattle.steps.specs.Memory.{part, station, Stationed}

-- the device's part: the worker is at the place that has code k and number a, and its queue is as it was
abbrev pub Moved : (own next : List ℕ) → (k a : ℕ) → Type 0
Moved own next k a = (p to : Place) (queue : List ℕ) → Stationed (station own) p queue → Coded k a to → Stationed (station next) to queue

-- it is at that place, and has in hand what it had
pub record Gone (own next : List ℕ) (k a : ℕ) : Type 0 where
  pub kept : part next ≡ part own
  pub there : Moved own next k a

-- the tasks' part: a task is received, be it from the device itself or one that was held out
abbrev pub ReceivedBy : (rows : List TaskRow) → (before : List ℕ) → (after : List TaskRow) → (next : List ℕ) → (task w time : ℕ) → Type 0
ReceivedBy rows before after next task w time =
    (m : T.TaskMemory)
    → T.Does (Th.takes task) time (T.memory m.tally rows m.accesses) before (T.memory m.tally after m.accesses) next w
    × T.Does (Th.receives task) time (T.memory m.tally rows m.accesses) before (T.memory m.tally after m.accesses) next w

-- it is at the place of code k and has received a task
pub record Received (rows : List TaskRow) (own : List ℕ) (after : List TaskRow) (next : List ℕ) (task w time k : ℕ) : Type 0 where
  pub does : ReceivedBy rows (part own) after (part next) task w time
  pub there : Moved own next k 0

-- the givers with that of a task, and with that of the task that is handed over, if any
abbrev pub given_by : List (rust.Option ℕ) → ℕ → ℕ → List (rust.Option ℕ)
given_by givers task giver = set givers task (rust.Some giver)

abbrev pub handed_on : List (rust.Option ℕ) → Option Handed → List (rust.Option ℕ)
handed_on givers none = givers
handed_on givers (some h) = given_by givers h.task h.by
