-- Which tasks of a plan conflict, chains of them, and what a chain costs. Where a task graph has the conflicts as its edges, a chain is one
-- of its paths.
use Rattle.std.specs.Prelude.{◌≡◌, ℕ, ◌+◌, ◌<◌, ◌≤◌, Bool, true, false, not, ◌&&◌, ◌||◌, List, [], ◌∷◌, length, ◌==◌, slice_index_or, refl}
use Rattle.std.proofs.Common.{arith}
use Rattle.std.proofs.Math.Option.{none}
use Rattle.runs.specs.Every.{every}
use Rattle.plan.specs.Plan.{Access, Task}

-- what stands for a task, and for an access, that is not there
abbrev pub no_task : Task
no_task = record { label = []; cost = 0; accesses = []; mask = none }

abbrev pub no_access : Access
no_access = record { writes = false; address = 0 }

abbrev pub task_at : List Task → ℕ → Task
task_at ts i = slice_index_or ts i no_task

-- two accesses to one address, of which one writes
abbrev pub meet : Access → Access → Bool
meet a b = a.address == b.address && (a.writes || b.writes)

-- two tasks conflict when they share an address and one writes
unfoldable pub conflict : Task → Task → Bool
conflict t u = not (every (λ a. every (λ b. not (meet a b)) u.accesses) t.accesses)

module _ (ts : List Task) where
  -- what may come after task i in a chain: each task is later than the one before it and conflicts with it
  abbrev pub Follow : ℕ → List ℕ → Type 0
  Follow i [] = Unit {0}
  Follow i (j ∷ js) = (i < j) × (j < length ts) × (conflict (task_at ts i) (task_at ts j) ≡ true) × Follow j js

  -- a chain, by the numbers of its tasks; it has at least one
  abbrev pub Chain : List ℕ → Type 0
  Chain [] = ⊥
  Chain (i ∷ is) = (i < length ts) × Follow i is

  -- the sum of its tasks' costs
  unfoldable pub chain_cost : List ℕ → ℕ
  chain_cost [] = 0
  chain_cost (i ∷ is) = (task_at ts i).cost + chain_cost is

-- a chain doesn't go back
pub no_way_back : (ts : List Task) (i j : ℕ) (js : List ℕ) → j ≤ i → ¬ Chain ts (i ∷ j ∷ js)
no_way_back ts i j js l (a, (b, c, e, f)) = omega arith

-- the last task of the chain that begins with task i and goes on so
abbrev pub last_of : ℕ → List ℕ → ℕ
last_of i [] = i
last_of i (j ∷ js) = last_of j js

-- it is a task of the plan
pub last_below_lem : (ts : List Task) (i : ℕ) (is : List ℕ) → Chain ts (i ∷ is) → last_of i is < length ts
last_below_lem ts i [] (l, f) = l
last_below_lem ts i (j ∷ js) (l, (a, b, x, f)) = last_below_lem ts j js (b, f)

-- computed: a writer and a reader of one address conflict, two readers don't, and neither do writers of two addresses
abbrev touching : Bool → ℕ → Task
touching writes address = record { label = []; cost = 0; accesses = record { writes = writes; address = address } ∷ []; mask = none }

pub who_conflicts : (conflict (touching true 5) (touching false 5) ≡ true)
    × (conflict (touching false 5) (touching false 5) ≡ false)
    × (conflict (touching true 5) (touching true 6) ≡ false)
unfolding conflict every
who_conflicts = (refl, refl, refl)
