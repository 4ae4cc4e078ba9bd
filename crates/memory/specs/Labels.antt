-- Where the labels of a plan's tasks stand in its text.
use Rattle.std.specs.Prelude.{ℕ, ◌≤◌, ◌<◌, ◌≡◌, List, length, get_or, take, drop}
use Rattle.plan.specs.Plan.{Task}
use Rattle.tasks.specs.Accesses.{task_at}
use Rattle.memory.specs.Layout as layout
use Rattle.memory.specs.declared.labels.Label.{Label}

-- what stands for a label that there is not
abbrev pub no_label : Label
no_label = record { place = 0; size = 0 }

-- where label i stands
abbrev pub label_at : List Label → ℕ → Label
label_at labels i = get_or labels i no_label

-- the bytes that stand there
abbrev pub label_in : List ℕ → Label → List ℕ
label_in text l = take l.size (drop l.place text)

-- a task's label stands there
pub record LabelOf (t : Task) (text : List ℕ) (l : Label) : Type 0 where
  pub label : label_in text l ≡ t.label
  pub size : l.size ≡ length t.label
  pub short : l.size ≤ layout.most_label

abbrev pub Labels : List Task → List ℕ → List Label → Type 0
Labels ts text labels = (i : ℕ) → i < length ts → LabelOf (task_at ts i) text (label_at labels i)
