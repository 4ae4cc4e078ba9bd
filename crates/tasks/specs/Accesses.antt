-- The accesses of a plan's tasks, numbered through the plan in plan order, which follows which at one address, and what all tasks cost.
use Rattle.std.specs.Prelude.{ℕ, suc, ◌-◌, ◌<◌, ◌≡◌, Bool, true, false, cond, List, [], ◌∷◌, ◌++◌, length, get_or, take, eqb, ltb}
use Rattle.std.proofs.Math.Option.{Option}
use Rattle.runs.specs.Sums.{sum}
use Rattle.runs.specs.Searches.{last_below, first_from}
use Rattle.plan.specs.Plan.{Task}
use Rattle.plan.specs.declared.access.Access.{Access}
use Rattle.plan.specs.Line.{repeats}
-- the task of a number, and what stands for a task or an access that is not there
pub use Rattle.plan.specs.Chains.{no_task, no_access, task_at}

unfoldable pub accesses : List Task → List Access
accesses [] = []
accesses (t ∷ ts) = t.accesses ++ accesses ts

-- the task of access a
unfoldable pub task_of : List Task → ℕ → ℕ
task_of [] a = 0
task_of (t ∷ ts) a = elim (ltb a (length t.accesses)) [ true ↦ 0 | false ↦ suc (task_of ts (a - length t.accesses)) ]

module _ (ts : List Task) where
  -- the number of accesses
  abbrev pub total : ℕ
  total = length (accesses ts)

  abbrev pub access_at : ℕ → Access
  access_at a = get_or (accesses ts) a no_access

  abbrev pub addr : ℕ → ℕ
  addr a = (access_at a).address

  -- the number of task i's first access
  unfoldable pub first : ℕ → ℕ
  first i = length (accesses (take i ts))

  -- 1 for a reader, 0 for a writer
  unfoldable pub reader : ℕ → ℕ
  reader a = cond (access_at a).writes 0 1

  unfoldable pub same_address : ℕ → ℕ → Bool
  same_address a b = eqb (access_at a).address (access_at b).address

  -- the last access before a with a's address
  unfoldable pub prev : ℕ → Option ℕ
  prev a = last_below (same_address a) a

  -- the first access after a with a's address, its successor; where there is none, the number of accesses
  unfoldable pub next : ℕ → ℕ
  next a = first_from (same_address a) (suc a) (length (accesses ts) - suc a)

-- what all tasks cost
abbrev pub total_cost : List Task → ℕ
total_cost ts = sum (length ts) (λ i. (task_at ts i).cost)

-- no address stands twice in a task
abbrev pub Distinct : List Task → Type 0
Distinct ts = (i : ℕ) → i < length ts → repeats (task_at ts i).accesses ≡ false
