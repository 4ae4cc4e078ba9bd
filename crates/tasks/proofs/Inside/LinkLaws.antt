-- What is known of the accesses of a plan in which no task names an address twice: where each task's accesses lie,
-- and which access follows which.
use Rattle.std.specs.Prelude.{ℕ, suc, ◌+◌, ◌≤◌, ◌<◌, ◌≡◌, ◌≢◌, List, length}
use Rattle.std.proofs.Math.Option.{none, some}
use Rattle.plan.specs.Plan.{Task}
use Rattle.tasks.specs.Accesses.{total, task_of, task_at, addr, first, reader, prev, next}

pub record Links (ts : List Task) : Type 0 where
  -- task i has the accesses from first i up to first (i + 1)
  pub first_zero : first ts 0 ≡ 0
  pub first_suc : (i : ℕ) → i < length ts → first ts (suc i) ≡ first ts i + length (task_at ts i).accesses
  pub first_all : (i : ℕ) → length ts ≤ i → first ts i ≡ total ts
  pub first_mono : (i j : ℕ) → i ≤ j → first ts i ≤ first ts j
  pub task_of_lem : (a : ℕ) → a < total ts → (task_of ts a < length ts) × (first ts (task_of ts a) ≤ a) × (a < first ts (suc (task_of ts a)))
  pub of_task : (a i : ℕ) → i < length ts → first ts i ≤ a → a < first ts (suc i) → task_of ts a ≡ i
  -- the access before at the same address, and the one after
  pub prev_some : (a b : ℕ) → prev ts b ≡ some a → (a < b) × (addr ts a ≡ addr ts b) × ((x : ℕ) → a < x → x < b → addr ts x ≢ addr ts b)
  pub prev_none : (b : ℕ) → prev ts b ≡ none → (x : ℕ) → x < b → addr ts x ≢ addr ts b
  pub next_le : (a : ℕ) → a < total ts → next ts a ≤ total ts
  pub next_is : (a : ℕ) → a < total ts → next ts a < total ts
      → (a < next ts a) × (addr ts a ≡ addr ts (next ts a)) × ((x : ℕ) → a < x → x < next ts a → addr ts x ≢ addr ts a)
  pub prev_next : (a b : ℕ) → b < total ts → prev ts b ≡ some a → next ts a ≡ b
  pub next_prev : (a b : ℕ) → a < total ts → b < total ts → next ts a ≡ b → prev ts b ≡ some a
  -- accesses to one address are of different tasks
  pub apart : (a b : ℕ) → b < total ts → a < b → addr ts a ≡ addr ts b → task_of ts a < task_of ts b
  pub reader_one : (a : ℕ) → reader ts a ≤ 1
