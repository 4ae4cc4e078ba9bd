-- How the longest chain lies in links: for each task what the longest chain that begins with it costs, and the task that is next in it.
use Rattle.std.specs.Prelude.{ℕ, ◌+◌, ◌≤◌, ◌<◌, ◌≡◌, List, [], ◌∷◌, length, get_or}
use Rattle.plan.specs.Plan.{Task}
use Rattle.plan.specs.declared.access.Access.{Access}
use Rattle.plan.specs.Chains.{task_at, Follow, chain_cost}
use Rattle.kept.specs.Layout as layout
use Rattle.kept.specs.declared.tasks.Row.{Row}
use Rattle.kept.specs.Tasks.{HasTasks}
use Rattle.chain.specs.declared.link.Link.{Link}
use Rattle.chain.specs.Longest.{Dearest, longest}

-- the rows are those of the tasks of an accepted text: a cost is at most 1,000
pub record Kept (rows : List Row) (ts : List Task) : Type 0 where
  pub text : List ℕ
  pub tasks : HasTasks text rows ts
  pub count : length rows ≡ length ts
  pub few : length rows ≤ layout.most_tasks
  pub accesses : (i : ℕ) → i < length ts → length (task_at ts i).accesses ≤ layout.most_task_accesses
  pub cheap : (i : ℕ) → i < length ts → (task_at ts i).cost ≤ 1000

-- a row has the accesses of a task
pub record IsRow (row : Row) (t : Task) : Type 0 where
  pub count : row.count ≡ length t.accesses
  pub few : length t.accesses ≤ layout.most_task_accesses
  pub accesses : (k : ℕ) → k < length t.accesses → (d : Access) → get_or row.accesses k d ≡ get_or t.accesses k d

abbrev pub no_link : Link
no_link = record { sum = 0; next = 0 }

abbrev pub sum_of : List Link → ℕ → ℕ
sum_of links i = (get_or links i no_link).sum

abbrev pub next_of : List Link → ℕ → ℕ
next_of links i = (get_or links i no_link).next

-- from task `at` on the links lead through these tasks, and to n after the last
abbrev pub Leads : List Link → ℕ → ℕ → List ℕ → Type 0
Leads links n at [] = at ≡ n
Leads links n at (i ∷ is) = (at ≡ i) × (i < n) × Leads links n (next_of links i) is

-- of the chains of a kind the longest is found: what it costs, and its first task, or n for none
pub record Found (ts : List Task) (links : List Link) (Kind : List ℕ → Type 0) (cost next : ℕ) : Type 0 where
  pub whole : List ℕ
  pub leads : Leads links (length ts) next whole
  pub dearest : Dearest ts Kind whole
  pub sum : cost ≡ chain_cost ts whole

-- of task j are known what comes after it in the longest chain that begins with it, and what that chain costs
pub record KnownAt (ts : List Task) (links : List Link) (j : ℕ) : Type 0 where
  pub rest : ℕ
  pub after : Found ts links (Follow ts j) rest (next_of links j)
  pub sum : sum_of links j ≡ (task_at ts j).cost + rest

-- and so of all tasks from i on
abbrev pub Known : List Task → List Link → ℕ → Type 0
Known ts links i = (j : ℕ) → i ≤ j → j < length ts → KnownAt ts links j

-- the longest chain: what it costs, and its first task, or n
pub record Starts (ts : List Task) (links : List Link) (link : Link) : Type 0 where
  pub leads : Leads links (length ts) link.next (longest ts)
  pub sum : link.sum ≡ chain_cost ts (longest ts)

-- every next task is a later one
abbrev pub Rising : List Link → Type 0
Rising links = (i : ℕ) → i < length links → i < next_of links i
