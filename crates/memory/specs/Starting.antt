-- A memory in which nothing is done yet holds the tasks as they are at the start.
use Rattle.std.specs.Prelude.{ℕ, ◌<◌, ◌≡◌, refl, List, [], length, get_or}
use Rattle.std.proofs.Common.{arith}
use Rattle.runs.specs.Circular.{entries_none}
use Rattle.runs.specs.Sums.{sum_const}
use Rattle.plan.specs.Plan.{Task}
use Rattle.tasks.specs.Flags.{no_flag}
use Rattle.tasks.specs.Tasks.{free, new, start}
use Rattle.memory.specs.Layout as layout
use Rattle.memory.specs.Rows.{TaskRows, AccessRows}
use Rattle.memory.specs.Shares.{mail_slot, add_slot, Stored}
use Rattle.memory.specs.Memory.{memory, HoldsTasks, fresh_tally}
use Rattle.memory.specs.declared.rows.TaskRow.{TaskRow}
use Rattle.memory.specs.declared.rows.AccessRow.{AccessRow}

-- a part of zeros: the worker is free and has neither mail nor tasks to add
pub part_starts : (own : List ℕ) → length own ≡ layout.part → ((k : ℕ) → get_or own k 0 ≡ 0) → Stored own free [] []
part_starts own long zeros =
    record {
      long = long;
      stand = zeros layout.stand;
      adds_at_lem = omega (arith, zeros layout.adds_at);
      adds = rw (zeros layout.adds_count) (entries_none (add_slot own) layout.add_room (get_or own layout.adds_at 0));
      mail_at_lem = omega (arith, zeros layout.mail_at);
      mail = rw (zeros layout.mail_count) (entries_none (mail_slot own) layout.mail_room (get_or own layout.mail_at 0));
    }

pub starts : (W : ℕ) (ts : List Task) (rows : List TaskRow) (accesses : List AccessRow) (parts : ℕ → List ℕ)
    → TaskRows ts rows (λ _. 0) (λ _. new) (λ _. 0) (λ _. 0) (λ _. 0) → AccessRows ts accesses (λ _. no_flag)
    → ((v : ℕ) → v < W → Stored (parts v) free [] [])
    → HoldsTasks W ts (memory (fresh_tally (length ts)) rows accesses) parts start (λ _. free)
unfolding start
starts W ts rows accesses parts task_rows_lem access_rows_lem stored =
    record {
      tasks = refl;
      stored = stored;
      task_rows_lem = task_rows_lem;
      access_rows_lem = access_rows_lem;
      creation = (refl, refl);
      left = omega (arith, sum_const (length ts) 1);
      pending = omega (arith, sum_const W 0);
    }
