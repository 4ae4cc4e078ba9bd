-- Rows of tasks and accesses after a store to one of them, and what is shown of a task.
use Rattle.std.specs.Prelude.{ℕ, ◌<◌, ◌≡◌, refl, ◌≢◌, List, length, get_or, set}
use Rattle.std.proofs.Common.{sym, ap, ◌∙◌, ⊎_elim, get_or-set_same, get_or-set_other}
use Rattle.runs.specs.Update.{same, upd, upd_same, upd_other}
use Rattle.plan.specs.Plan.{Task}
use Rattle.tasks.specs.Flags.{Flags, flag_number}
use Rattle.tasks.specs.Tasks.{Status}
use Rattle.tasks.specs.Accesses.{total}
use Rattle.memory.specs.Codes.{status_of, reader_number}
use Rattle.memory.specs.Rows.{no_task, no_access, task_row, access_row, row_of, TaskRows, AccessRows, counted, timed, flagged_rows, outcome_at}
use Rattle.memory.specs.declared.rows.TaskRow.{TaskRow}
use Rattle.memory.specs.declared.rows.AccessRow.{AccessRow}

-- a field of the first n elements after a store to element i: there it is what is stored, and elsewhere as it was
module _ {A B : Type 0} (blank : A) (n : ℕ) (l : List A) (i : ℕ) (x : A) (fits : i < length l) (field : A → B) (f g : ℕ → B) where
  pub field_set : (i < n → field x ≡ g i) → ((j : ℕ) → j ≢ i → g j ≡ f j) → ((j : ℕ) → j < n → field (get_or l j blank) ≡ f j)
      → (j : ℕ) → j < n → field (get_or (set l i x) j blank) ≡ g j
  field_set here there old j b =
      ⊎_elim
      (λ (e : j ≡ i). rw e (ap field (get_or-set_same l i x blank fits) ∙ here (rw e at b)))
      (λ (d : j ≢ i). ap field (get_or-set_other l i j x blank d) ∙ old j b ∙ sym (there j d))
      (same j i)

module _ (ts : List Task) (rows : List TaskRow) (counts : ℕ → ℕ) (statuses : ℕ → Status) (runners receipts endings : ℕ → ℕ)
    (r : TaskRows ts rows counts statuses runners receipts endings) (i : ℕ) (fits : i < length rows) where
  -- what is stored tells of task i, and of the others all is as it was
  pub row_set : (row : TaskRow) (counts' : ℕ → ℕ) (statuses' : ℕ → Status) (runners' receipts' endings' : ℕ → ℕ)
      → (i < length ts → row ≡ row_of ts i (counts' i) (statuses' i) (runners' i) (receipts' i) (endings' i))
      → ((j : ℕ) → j ≢ i
      → row_of ts j (counts' j) (statuses' j) (runners' j) (receipts' j) (endings' j)
      ≡ row_of ts j (counts j) (statuses j) (runners j) (receipts j) (endings j))
      → TaskRows ts (set rows i row) counts' statuses' runners' receipts' endings'
  row_set row counts' statuses' runners' receipts' endings' here there =
      field_set no_task (length ts) rows i row fits (λ x. x)
      (λ j. row_of ts j (counts j) (statuses j) (runners j) (receipts j) (endings j))
      (λ j. row_of ts j (counts' j) (statuses' j) (runners' j) (receipts' j) (endings' j)) here there r

  -- one field of its row alone is stored
  abbrev row : TaskRow
  row = task_row rows i

  pub count_set : (v : ℕ) → TaskRows ts (set rows i (counted row v row.status)) (upd counts i v) statuses runners receipts endings
  count_set v =
      row_set _ (upd counts i v) statuses runners receipts endings (λ l. rw (r i l, upd_same counts i v))
      (λ j d. rw (upd_other counts i v j d))

  pub status_set : (x : Status)
      → TaskRows ts (set rows i (counted row row.count (status_of x))) counts (upd statuses i x) runners receipts endings
  status_set x =
      row_set _ counts (upd statuses i x) runners receipts endings (λ l. rw (r i l, upd_same statuses i x))
      (λ j d. rw (upd_other statuses i x j d))

  pub runner_set : (v : ℕ)
      → TaskRows ts (set rows i (timed row v row.receipt row.ending)) counts statuses (upd runners i v) receipts endings
  runner_set v =
      row_set _ counts statuses (upd runners i v) receipts endings (λ l. rw (r i l, upd_same runners i v))
      (λ j d. rw (upd_other runners i v j d))

  pub receipt_set : (v : ℕ)
      → TaskRows ts (set rows i (timed row row.runner v row.ending)) counts statuses runners (upd receipts i v) endings
  receipt_set v =
      row_set _ counts statuses runners (upd receipts i v) endings (λ l. rw (r i l, upd_same receipts i v))
      (λ j d. rw (upd_other receipts i v j d))

  pub ending_set : (v : ℕ)
      → TaskRows ts (set rows i (timed row row.runner row.receipt v)) counts statuses runners receipts (upd endings i v)
  ending_set v =
      row_set _ counts statuses runners receipts (upd endings i v) (λ l. rw (r i l, upd_same endings i v))
      (λ j d. rw (upd_other endings i v j d))

module _ (ts : List Task) (rows : List AccessRow) (flags : ℕ → Flags) (r : AccessRows ts rows flags) (a : ℕ) (fits : a < length rows) where
  -- what is not stored to
  beside : {B : Type 0} (n : ℕ) (field : AccessRow → B) (f : ℕ → B) → field (access_row (flagged_rows rows a n) a) ≡ field (access_row rows a)
      → ((b : ℕ) → b < total ts → field (access_row rows b) ≡ f b)
      → (b : ℕ) → b < total ts → field (access_row (flagged_rows rows a n) b) ≡ f b
  beside n field f kept old =
      field_set no_access (total ts) rows a _ fits field f f
      (λ l. ap field (sym (get_or-set_same rows a _ no_access fits)) ∙ kept ∙ old a l) (λ b d. refl) old

  pub flags_set : (f : Flags) → AccessRows ts (flagged_rows rows a (flag_number f)) (upd flags a f)
  flags_set f =
      let n = flag_number f in
      let now = get_or-set_same rows a _ no_access fits in
      record {
        flags =
            field_set no_access (total ts) rows a _ fits (λ (x : AccessRow). x.flags) (λ b. flag_number (flags b))
            (λ b. flag_number (upd flags a f b)) (λ l. ap flag_number (sym (upd_same flags a f)))
            (λ b d. ap flag_number (upd_other flags a f b d)) r.flags;
        task = beside n (λ (x : AccessRow). x.task) _ (ap (λ (x : AccessRow). x.task) now) r.task;
        reader = beside n (λ (x : AccessRow). reader_number x.reader) _ (ap (λ (x : AccessRow). reader_number x.reader) now) r.reader;
        prev = beside n (λ (x : AccessRow). x.prev) _ (ap (λ (x : AccessRow). x.prev) now) r.prev;
        next = beside n (λ (x : AccessRow). x.next) _ (ap (λ (x : AccessRow). x.next) now) r.next;
      }

-- what is shown of a task
pub outcome_is : (ts : List Task) (rows : List TaskRow) (counts : ℕ → ℕ) (statuses : ℕ → Status) (runners receipts endings : ℕ → ℕ)
    → TaskRows ts rows counts statuses runners receipts endings → (i : ℕ) → i < length ts
    → outcome_at rows i ≡ record { status = status_of (statuses i); runner = runners i; receipt = receipts i; ending = endings i }
outcome_is ts rows counts statuses runners receipts endings r i l = rw (r i l)
