-- How long a report can be.
use Rattle.std.specs.Prelude.{ℕ, ◌+◌, ◌*◌, ◌^◌, ◌≤◌, ◌<◌, ◌≡◌}
use Rattle.std.proofs.Math.Option.{some}
use Rattle.std.proofs.Math.ListN.{length}
use Rattle.tasks.specs.Accesses.{task_at}
use Rattle.machine.specs.State.{Setup, State}
use Rattle.memory.specs.Layout as layout
use Rattle.machine.specs.declared.Leader.{Leader}
use Rattle.machine.specs.declared.Leader.TheVariants.{Nobody, Owner, Due}
use Rattle.machine.specs.Whereabouts.{leader}
use Rattle.report.specs.Report.{total_permitted}
use Rattle.text.specs.Decimals.{number_size}

-- how many bytes the words of a status and of an outcome have at most, with the tab after them
abbrev pub status_size : ℕ
status_size = 8

abbrev pub outcome_size : ℕ
outcome_size = 9

-- and lines, whatever their numbers
abbrev pub outcome_line_size : ℕ
outcome_line_size = 2 + outcome_size + 2 * number_size

abbrev pub task_line_size : ℕ
task_line_size = 2 + number_size + (layout.most_label + 1) + status_size + 4 * number_size

-- the leader's number may have `>` before it
abbrev pub leader_size : ℕ
leader_size = 1 + number_size

abbrev pub lock_line_size : ℕ
lock_line_size = 2 + 2 * number_size + leader_size

-- the first line has at most 37: the total of permitted workers has four digits. A task's line has at most 112: its number has three digits,
-- and only `over` has four numbers after it
abbrev pub longest : ℕ
longest = 37 + 112 * layout.most_tasks + lock_line_size

-- who leads has a number below that, if anybody does
abbrev pub LeaderBelow : ℕ → Leader → Type 0
LeaderBelow n Nobody = Unit {0}
LeaderBelow n (Owner w) = w < n
LeaderBelow n (Due w) = w < n

-- at most so many tasks, labels of at most so many bytes, and numbers of 64 bits
pub record Small (c : Setup) (s : State) : Type 0 where
  pub tasks : length c.tasks ≤ layout.most_tasks
  pub labels : (i : ℕ) → i < length c.tasks → length (task_at c.tasks i).label ≤ layout.most_label
  pub picks : s.picks < 2 ^ 64
  pub permitted : total_permitted c < 10 ^ 4
  pub head : s.lock.head < 2 ^ 64
  pub tail : s.lock.tail < 2 ^ 64
  pub leader : LeaderBelow (2 ^ 64) (leader c s)
  pub runner : (i : ℕ) → i < length c.tasks → s.tasks.runner i < 2 ^ 64
  pub receipt : (i : ℕ) → i < length c.tasks → s.tasks.receipt i < 2 ^ 64
  pub ending : (i : ℕ) → i < length c.tasks → s.tasks.ending i < 2 ^ 64
  pub giver : (i g : ℕ) → i < length c.tasks → s.giver i ≡ some g → g < 2 ^ 64
