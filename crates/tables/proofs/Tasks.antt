-- Rows of tasks and places of labels while they are laid. Assumes nothing.
use Prim.Native.Nat.{ℕ, ◌+◌, ◌<◌}
use mathlib.Core.Path.{◌≡◌, sym, ◌∙◌}
use mathlib.Core.List.{List}
use native.Mathlib.Omega.{arith}
use native.Mathlib.Numerals.{add-one}
use lib.ListN.{length, set}
use Rattle.plan.specs.Plan.{Plan}
use Rattle.plan.specs.Reading.{reading, accepted}
use Rattle.tasks.specs.Accesses.{first, total}
use Rattle.tasks.proofs.Promise.{first_zero, first_all}
use Rattle.kept.specs.declared.tasks.Row.{Row}
use Rattle.kept.specs.Tasks.{row_at, HasTasks}
use Rattle.memory.specs.declared.labels.Label.{Label}
use Rattle.memory.specs.declared.rows.TaskRow.{TaskRow}
use Rattle.memory.specs.Rows.{no_task, new_task}
use Rattle.memory.specs.Labels.{no_label, Labels}
use Rattle.tables.specs.Tables.{NewTasks, task_row_of, label_of, LaidRows}
use Rattle.tables.proofs.Plans.{RowSays, says_row, first_next}
use Rattle.tables.proofs.Rows.{rows_none, rows_more}

-- ---- what the rows mean

module _ (text : List ℕ) (p : Plan) (e : reading text ≡ accepted p) (count : ℕ) (size : count ≡ length p.tasks)
    (kept : List Row) (has : HasTasks text kept p.tasks) where
  pub new_tasks : (before rows : List TaskRow) → LaidRows no_task count (task_row_of p.tasks) before rows → NewTasks p rows
  new_tasks before rows h = rw size at h.rows

  pub new_labels : (before places : List Label) → LaidRows no_label count (label_of kept) before places → Labels p.tasks text places
  new_labels before places h i l = rw (h.rows i (omega (arith, size))) (says_row text p e kept has i l).label

-- ---- the tasks and labels of a plan, up to task i; `begin` is the number of its first access

abbrev pub TasksTo : Plan → List Row → List TaskRow → List Label → ℕ → ℕ → List TaskRow → List Label → Type 0
TasksTo p kept rows₀ places₀ i begin rows places =
    (begin ≡ first p.tasks i) × LaidRows no_task i (task_row_of p.tasks) rows₀ rows × LaidRows no_label i (label_of kept) places₀ places

pub tasks_begin : (p : Plan) (kept : List Row) (rows : List TaskRow) (places : List Label) → TasksTo p kept rows places 0 0 rows places
tasks_begin p kept rows places =
    (sym (first_zero p.tasks), rows_none no_task (task_row_of p.tasks) rows, rows_none no_label (label_of kept) places)

module _ (text : List ℕ) (p : Plan) (e : reading text ≡ accepted p) (count : ℕ) (size : count ≡ length p.tasks)
    (kept : List Row) (has : HasTasks text kept p.tasks) (rows₀ : List TaskRow) (places₀ : List Label) where
  pub task_laid : (i begin : ℕ) (row : Row) (rows : List TaskRow) (places : List Label) → i < count → row ≡ row_at kept i
      → i < length rows → i < length places → TasksTo p kept rows₀ places₀ i begin rows places
      → TasksTo p kept rows₀ places₀ (i + 1) (begin + row.count) (set rows i (new_task row.cost begin row.count))
      (set places i (record { place = row.place; size = row.size }))
  task_laid i begin row rows places l is fits fits' (b, h, k) =
      let low : i < length p.tasks = omega (arith, size) in
      let s : RowSays text p e kept has i row = rw is (says_row text p e kept has i low) in
      rw (add-one i) (
        omega (arith, first_next text p e kept has i row low s),
        rw (s.cost, s.count, b) (rows_more no_task i (task_row_of p.tasks) rows₀ rows fits h),
        rw is (rows_more no_label i (label_of kept) places₀ places fits' k),
      )

  pub tasks_end : (i begin : ℕ) (rows : List TaskRow) (places : List Label) → i ≡ count → TasksTo p kept rows₀ places₀ i begin rows places
      → LaidRows no_task count (task_row_of p.tasks) rows₀ rows
      × LaidRows no_label count (label_of kept) places₀ places × (begin ≡ total p.tasks)
  tasks_end i begin rows places z (b, h, k) = (rw z at h, rw z at k, b ∙ first_all p.tasks i (omega (arith, size)))
