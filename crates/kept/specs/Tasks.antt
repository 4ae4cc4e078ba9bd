-- The tasks of a plan as they are kept: a row for each.
use Rattle.std.specs.Prelude as rust
use Rattle.std.specs.Prelude.{ℕ, ◌-◌, ◌≤◌, ◌<◌, ◌≡◌, false, List, [], ◌++◌, map, length, take, drop, get_or, set, replicate}
use Rattle.std.proofs.Math.Option.{Option, none, some}
use Rattle.std.proofs.lemmas.List.Edits.{sets}
use Rattle.plan.specs.Plan.{Task}
use Rattle.plan.specs.declared.access.Access.{Access}
use Rattle.plan.specs.Accepted.{Each}
use Rattle.kept.specs.Layout as layout
use Rattle.kept.specs.declared.tasks.Row.{Row}

-- a task, and the place of its label in the text
pub record Placed : Type 0 where
  pub at : ℕ
  pub task : Task

-- accesses in a row: those that are not there read address 0
abbrev pub no_access : Access
no_access = record { writes = false; address = 0 }

abbrev pub spread : List Access → List Access
spread xs = xs ++ replicate (layout.most_task_accesses - length xs) no_access

abbrev pub mask_in : Option ℕ → rust.Option ℕ
mask_in none = rust.None
mask_in (some m) = rust.Some m

-- its row
abbrev pub row_of : Placed → Row
row_of t =
    record {
      place = t.at;
      size = length t.task.label;
      cost = t.task.cost;
      mask = mask_in t.task.mask;
      count = length t.task.accesses;
      accesses = spread t.task.accesses;
    }

-- the bytes of a text from a place on, so many
abbrev pub label_at : List ℕ → ℕ → ℕ → List ℕ
label_at text start len = take len (drop start text)

abbrev pub Labelled : List ℕ → Placed → Type 0
Labelled text t = label_at text t.at (length t.task.label) ≡ t.task.label

-- tasks of a text are kept in rows, as far as these reach; what follows is left. A label's place is any at which the text has its bytes.
pub record KeepsTasks (text : List ℕ) (rows : List Row) (ts : List Task) (after : List Row) : Type 0 where
  pub placed : List Placed
  pub tasks : map (λ t. t.task) placed ≡ ts
  pub labels : Each (Labelled text) placed
  pub few : Each (λ t. length t.task.accesses ≤ layout.most_task_accesses) placed
  pub stores : after ≡ sets rows 0 (map row_of placed)

-- a row that there is not
abbrev pub blank : Row
blank = record { place = 0; size = 0; cost = 0; mask = rust.None; count = 0; accesses = [] }

-- row i
abbrev pub row_at : List Row → ℕ → Row
row_at rows i = get_or rows i blank

-- the rows with another mask in row i
abbrev pub masked_row : ℕ → Row → Row
masked_row m r =
    record { place = r.place; size = r.size; cost = r.cost; mask = rust.Some m; count = r.count; accesses = r.accesses }

abbrev pub with_mask : List Row → ℕ → ℕ → List Row
with_mask rows i m = set rows i (masked_row m (row_at rows i))

-- row i is that of a task of the text
pub record TaskIn (text : List ℕ) (rows : List Row) (i : ℕ) (t : Task) : Type 0 where
  pub label : label_at text (row_at rows i).place (row_at rows i).size ≡ t.label
  pub size : (row_at rows i).size ≡ length t.label
  pub cost : (row_at rows i).cost ≡ t.cost
  pub mask : (row_at rows i).mask ≡ mask_in t.mask
  pub count : (row_at rows i).count ≡ length t.accesses
  pub accesses : (k : ℕ) → k < length t.accesses → (d : Access) → get_or (row_at rows i).accesses k d ≡ get_or t.accesses k d

-- the rows have these tasks of the text
abbrev pub HasTasks : List ℕ → List Row → List Task → Type 0
HasTasks text rows ts = (i : ℕ) → i < length ts → (d : Task) → TaskIn text rows i (get_or ts i d)
