-- What holds of the tasks and of where the workers stand with them, throughout a history.
-- Each part speaks of just the fields that it depends on.
use Rattle.std.specs.Prelude.{ℕ, ◌≤◌, ◌<◌, ◌≡◌, List, []}
use Rattle.runs.specs.Sums.{sum}
use Rattle.plan.specs.Plan.{Task}
use Rattle.tasks.specs.Accesses.{task_at}
use Rattle.tasks.specs.Tasks.{Message, Stand, free, telling, working, Tasks, is_ready, is_running, in_hand, to_add}
use Rattle.tasks.proofs.Inside.LinkLaws.{Links}
use Rattle.tasks.proofs.Inside.Messages.{Messages}
use Rattle.tasks.proofs.Inside.Counting.{Counts, Counting}

-- who has a task in hand has an empty mailbox, and no more work left than the task costs
abbrev pub Busy : List Task → Stand → List Message → Type 0
Busy ts free ms = Unit {0}
Busy ts (telling a f) ms = Unit {0}
Busy ts (working i n) ms = (ms ≡ []) × (n ≤ (task_at ts i).cost)

pub record Inv (W : ℕ) (ts : List Task) (t : Tasks) (st : ℕ → Stand) : Type 0 where
  pub links : Links ts
  pub messages : Messages W ts t st
  pub counting : Counting ts t
  pub counts : Counts ts t.count t.status t.creation
  -- a task that runs is in one worker's hands, and that worker received it
  pub hands : (i : ℕ) → sum W (λ w. in_hand i (st w)) ≡ is_running (t.status i)
  pub runners : (w i : ℕ) → w < W → 0 < in_hand i (st w) → t.runner i ≡ w
  -- what is to be added is ready, and is there once
  pub to_adds : (i : ℕ) → to_add W t.adds i ≤ is_ready (t.status i)
  pub busy : (w : ℕ) → Busy ts (st w) (t.mail w)
