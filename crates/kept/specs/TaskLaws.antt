-- Rows of tasks while they are kept one after the other, and what they say when all are.
use Rattle.std.specs.Prelude.{ℕ, zero, suc, ◌+◌, ◌-◌, ◌≤◌, ◌<◌, ◌≡◌, refl, List, [], ◌∷◌, ◌++◌, map, length, get_or, set, replicate}
use Rattle.std.proofs.Common.{sym, ap, ◌∙◌, ⊎_elim, arith}
use Rattle.std.proofs.Math.Option.{some}
use Rattle.std.proofs.Math.ListN.{get_or-append, get_or-map}
use Rattle.std.proofs.lemmas.List.{length-map}
use Rattle.std.proofs.lemmas.List.Edits.{sets}
use Rattle.std.proofs.Math.Seq.{length-sets, set_out}
use mathlib.Core.List.{map-append}
use Rattle.runs.specs.Update.{order}
use Rattle.runs.specs.Stores.{get_d_any, sets_append, sets_at, set_sets}
use Rattle.plan.specs.Plan.{Task, mask_last}
use Rattle.plan.specs.declared.access.Access.{Access}
use Rattle.plan.specs.Accepted.{Each}
use Rattle.plan.proofs.Accepted.{each_more}
use Rattle.kept.specs.Layout as layout
use Rattle.kept.specs.declared.tasks.Row.{Row}
use Rattle.kept.specs.Tasks.{Placed, no_access, spread, row_of, Labelled, KeepsTasks, blank, row_at, masked_row, with_mask, TaskIn, HasTasks}

abbrev Few : Placed → Type 0
Few t = length t.task.accesses ≤ layout.most_task_accesses

-- access k among the accesses of a row
pub access_at : (xs : List Access) (k : ℕ) (d : Access) → k < length xs → get_or (spread xs) k d ≡ get_or xs k d
access_at xs k d l = get_or-append xs (replicate (layout.most_task_accesses - length xs) no_access) d k l

-- ---- the last task with a mask

abbrev masked : ℕ → Placed → Placed
masked m t =
    record { at = t.at; task = record { label = t.task.label; cost = t.task.cost; accesses = t.task.accesses; mask = some m } }

unfoldable last_masked : ℕ → List Placed → List Placed
last_masked m [] = []
last_masked m (t ∷ []) = masked m t ∷ []
last_masked m (t ∷ u ∷ ts) = t ∷ last_masked m (u ∷ ts)

masked_tasks : (m : ℕ) (ts : List Placed) → map (λ t. t.task) (last_masked m ts) ≡ mask_last m (map (λ t. t.task) ts)
unfolding last_masked mask_last
masked_tasks m [] = refl
masked_tasks m (t ∷ []) = refl
masked_tasks m (t ∷ u ∷ ts) = ap (λ us. t.task ∷ us) (masked_tasks m (u ∷ ts))

-- what does not speak of masks holds as before
masked_each : (P : Placed → Type 0) (m : ℕ) → ((t : Placed) → P t → P (masked m t)) → (ts : List Placed) → Each P ts
    → Each P (last_masked m ts)
unfolding last_masked
masked_each P m f [] h i l d = absurd (omega arith)
masked_each P m f (t ∷ []) h zero l d = f t (h 0 (omega arith) d)
masked_each P m f (t ∷ []) h (suc i) l d = absurd (omega arith)
masked_each P m f (t ∷ u ∷ ts) h zero l d = h 0 (omega arith) d
masked_each P m f (t ∷ u ∷ ts) h (suc i) l d = masked_each P m f (u ∷ ts) (λ j k. h (suc j) (omega arith)) i (omega arith) d

masked_rows : (m : ℕ) (ts : List Placed) (i : ℕ) → length ts ≡ suc i → with_mask (map row_of ts) i m ≡ map row_of (last_masked m ts)
unfolding last_masked
masked_rows m [] i e = absurd (omega arith)
masked_rows m (t ∷ []) i e = let z : i ≡ 0 = omega arith in rw z refl
masked_rows m (t ∷ u ∷ ts) zero e = absurd (omega arith)
masked_rows m (t ∷ u ∷ ts) (suc i) e = ap (λ rows. row_of t ∷ rows) (masked_rows m (u ∷ ts) i (omega arith))

-- ---- tasks are kept one by one

pub no_tasks : (text : List ℕ) (rows : List Row) → KeepsTasks text rows [] rows
no_tasks text rows =
    record {
      placed = [];
      tasks = refl;
      labels = λ i l. absurd (omega arith);
      few = λ i l. absurd (omega arith);
      stores = refl;
    }

module _ {text : List ℕ} {rows : List Row} where
  placed_count : {ts : List Task} {after : List Row} (h : KeepsTasks text rows ts after) → length h.placed ≡ length ts
  placed_count h = sym (length-map h.placed (λ t. t.task)) ∙ ap length h.tasks

  rows_count : {ts : List Task} {after : List Row} (h : KeepsTasks text rows ts after) → length (map row_of h.placed) ≡ length ts
  rows_count h = length-map h.placed row_of ∙ placed_count h

  pub task_kept : {ts : List Task} {mid after : List Row} → KeepsTasks text rows ts mid → (t : Placed) → Labelled text t
      → length t.task.accesses ≤ layout.most_task_accesses → after ≡ set mid (length ts) (row_of t)
      → KeepsTasks text rows (ts ++ t.task ∷ []) after
  task_kept {ts} {after = after} h t label few e =
      record {
        placed = h.placed ++ t ∷ [];
        tasks = map-append (λ u. u.task) h.placed (t ∷ []) ∙ ap (λ us. us ++ t.task ∷ []) h.tasks;
        labels = each_more (Labelled text) h.placed t h.labels label;
        few = each_more Few h.placed t h.few few;
        stores = stores;
      }
    where
      at : length ts ≡ 0 + length (map row_of h.placed)
      at = omega (arith, rows_count h)

      stores : after ≡ sets rows 0 (map row_of (h.placed ++ t ∷ []))
      stores =
          rw (e, h.stores, at, map-append row_of h.placed (t ∷ []))
          (sym (sets_append (map row_of h.placed) (row_of t ∷ []) rows 0))

  -- the mask of the last task is kept
  pub mask_kept : {ts : List Task} {mid after : List Row} → KeepsTasks text rows ts mid → (m i : ℕ) → length ts ≡ suc i
      → after ≡ with_mask mid i m → KeepsTasks text rows (mask_last m ts) after
  mask_kept {ts} {after = after} h m i last e =
      record {
        placed = last_masked m h.placed;
        tasks = masked_tasks m h.placed ∙ ap (mask_last m) h.tasks;
        labels = masked_each (Labelled text) m (λ t l. l) h.placed h.labels;
        few = masked_each Few m (λ t l. l) h.placed h.few;
        stores =
            e ∙ ap (λ (l : List Row). with_mask l i m) h.stores ∙ same
            ∙ rw place at (set_sets (map row_of h.placed) rows 0 i (masked_row m row) (omega (arith, rows_count h)))
            ∙ ap (sets rows 0) (masked_rows m h.placed i (placed_count h ∙ last));
      }
    where
      kept : List Row
      kept = sets rows 0 (map row_of h.placed)

      row : Row
      row = row_at (map row_of h.placed) i

      place : 0 + i ≡ i
      place = omega arith

      -- the row is there, or nothing is kept
      same : with_mask kept i m ≡ set kept i (masked_row m row)
      same =
          ⊎_elim
          (λ (here : i < length rows).
          ap (λ (r : Row). set kept i (masked_row m r))
          (rw place at (sets_at (map row_of h.placed) rows 0 i blank (omega (arith, rows_count h)) (omega (arith, rows_count h)))))
          (λ (past : length rows ≤ i).
          let out : length kept ≤ i = omega (arith, length-sets rows 0 (map row_of h.placed)) in
          set_out kept i (masked_row m (row_at kept i)) out ∙ sym (set_out kept i (masked_row m row) out))
          (order i (length rows))

  pub tasks_length : {ts : List Task} {after : List Row} → KeepsTasks text rows ts after → length after ≡ length rows
  tasks_length h = ap length h.stores ∙ length-sets rows 0 (map row_of h.placed)

-- ---- the rows say what the tasks are

module _ {text : List ℕ} {rows : List Row} {ts : List Task} {after : List Row} (h : KeepsTasks text rows ts after)
    (fits : length ts ≤ length rows) (i : ℕ) (l : i < length ts) (d : Task) where
  abbrev other : Placed
  other = record { at = 0; task = d }

  abbrev t : Placed
  t = get_or h.placed i other

  row : row_at after i ≡ row_of t
  row =
      let place : 0 + i ≡ i = omega arith in
      let count = rows_count h in
      ap (λ (xs : List Row). row_at xs i) h.stores
      ∙ rw place at (sets_at (map row_of h.placed) rows 0 i blank (omega (arith, count)) (omega (arith, count)))
      ∙ get_d_any (map row_of h.placed) i blank (row_of other) (omega (arith, count))
      ∙ get_or-map row_of h.placed i other

  is : get_or ts i d ≡ t.task
  is = ap (λ us. get_or us i d) (sym h.tasks) ∙ get_or-map (λ u. u.task) h.placed i other

  task_in : TaskIn text after i (get_or ts i d)
  task_in =
      rw is
      record {
        label = rw row (h.labels i (omega (arith, placed_count h)) other);
        size = rw row refl;
        cost = rw row refl;
        mask = rw row refl;
        count = rw row refl;
        accesses = λ k b a. rw row (access_at t.task.accesses k a b);
      }

pub has_tasks : {text : List ℕ} {rows : List Row} {ts : List Task} {after : List Row} → KeepsTasks text rows ts after
    → length ts ≤ length rows → HasTasks text after ts
has_tasks h fits i l d = task_in h fits i l d
