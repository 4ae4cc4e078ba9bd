-- What a delivery does in the memory: a task's count that falls, the flags of an access, what is passed on and noticed.
use Prim.Native.Nat.{ℕ, ◌+◌, ◌-◌, ◌*◌, ◌%◌, ◌≤◌, ◌<◌}
use native.Mathlib.Omega.{arith}
use mathlib.Core.Path.{◌≡◌, refl, sym, ap, ◌∙◌}
use mathlib.Core.Bool.{Bool, true, false, ◌&&◌}
use mathlib.Core.Logic.{⊎_elim, ◌≢◌}
use mathlib.Core.List.{List, [], ◌∷◌, ◌++◌}
use mathlib.Core.Option.{Option, none, some}
use Rattle.std.specs.Prelude.{Some, None}
use Rattle.std.proofs.lemmas.Option.{none-some}
use lib.ListN.{length, set}
use lib.Dec.{eqb}
use borrow.Author.Tests.{eqb-true, eq-eqb, ne_eqb, lt-ltb, le-ltb}
use Rattle.runs.specs.Update.{order, upd, upd_same, upd_other, upd_id}
use Rattle.plan.specs.Plan.{Task}
use Rattle.tasks.specs.Accesses.{reader, next}
use Rattle.tasks.specs.Flags.{Flags, granting, flag_number, passes_read, passes_write, Once}
use Rattle.tasks.specs.Tasks.{Tasks, Message, Stand, free, ready, with_adds, with_count, with_status}
use Rattle.tasks.specs.History.{lowered, passed, notice_of}
use Rattle.memory.specs.Layout as layout
use Rattle.memory.specs.Codes.{Coded, letter, option_of}
use Rattle.memory.specs.Memory.{notices}
use Rattle.memory.specs.Rows.{task_row, TaskRows, counted}
use Rattle.memory.specs.declared.rows.TaskRow.{TaskRow}
use Rattle.memory.specs.declared.rows.Status.TheVariants.{Ready}
use Rattle.memory.specs.Shares.{Stored}
use Rattle.duties.proofs.Flagging.{rights_of}
use Rattle.memory.specs.RowLaws.{row_set, count_set}

-- ---- a task's count falls

module _ (s : Tasks) (w i x : ℕ) where
  -- the count stays above 0, is 0 already, or comes to 0
  pub lowered_above : x < s.count i → lowered s w i x ≡ with_count s i (s.count i - x)
  unfolding lowered
  lowered_above l = rw (lowered, lt-ltb 0 (s.count i) (omega arith), ne_eqb (s.count i - x) 0 (omega arith))

  pub lowered_none : s.count i ≡ 0 → lowered s w i x ≡ with_count s i (s.count i - x)
  unfolding lowered
  lowered_none z = rw (lowered, le-ltb 0 (s.count i) (omega arith))

  pub lowered_out : 0 < s.count i → s.count i ≤ x
      → lowered s w i x ≡ with_adds (with_status (with_count s i 0) i ready) w (s.adds w ++ i ∷ [])
  unfolding lowered
  lowered_out l b = rw (lowered, lt-ltb 0 (s.count i) l, eq-eqb (s.count i - x) 0 (omega arith))

  -- so it comes to 0, or it was 0 or stays above
  pub lowered_ways : (P : Tasks → Type 0) → (0 < s.count i → P (with_adds (with_status (with_count s i 0) i ready) w (s.adds w ++ i ∷ [])))
      → P (with_count s i (s.count i - x)) → P (lowered s w i x)
  lowered_ways P out stays =
      ⊎_elim
      (λ (l : x < s.count i). rw (lowered_above l) stays)
      (λ (b : s.count i ≤ x). ⊎_elim (λ (l : 0 < s.count i). rw (lowered_out l b) (out l))
      (λ (z : s.count i ≤ 0). rw (lowered_none (omega arith)) stays) (order 0 (s.count i)))
      (order x (s.count i))

-- the rows of tasks after that
module _ (ts : List Task) (rows : List TaskRow) (s : Tasks) (w i x : ℕ) (fits : i < length rows) (within : i < length ts)
    (h : TaskRows ts rows s.count s.status s.runner s.receipt s.ending) where
  abbrev row : TaskRow
  row = task_row rows i

  stands : row.count ≡ s.count i
  stands = ap (λ (r : TaskRow). r.count) (h i within)

  pub rows_above : x < row.count
      → TaskRows ts (set rows i (counted row (row.count - x) row.status)) (lowered s w i x).count (lowered s w i x).status s.runner s.receipt
      s.ending
  rows_above l =
      rw (lowered_above s w i x (omega (arith, stands)), stands)
      (count_set ts rows s.count s.status s.runner s.receipt s.ending h i fits (s.count i - x))

  pub rows_none : row.count ≡ 0
      → TaskRows ts rows (lowered s w i x).count (lowered s w i x).status s.runner s.receipt s.ending
  rows_none z =
      let n : s.count i ≡ 0 = sym stands ∙ z in
      let e : s.count i - x ≡ s.count i = omega arith in
      rw (lowered_none s w i x n, e, upd_id s.count i) h

  pub rows_out : 0 < row.count → row.count ≤ x
      → TaskRows ts (set rows i (counted row 0 Ready)) (lowered s w i x).count (lowered s w i x).status s.runner s.receipt s.ending
  rows_out l b =
      rw (lowered_out s w i x (omega (arith, stands)) (omega (arith, stands)))
      (row_set ts rows s.count s.status s.runner s.receipt s.ending h i fits _ (upd s.count i 0) (upd s.status i ready) s.runner s.receipt
      s.ending (λ b. rw (h i b, upd_same s.count i 0, upd_same s.status i ready))
      (λ j d. rw (upd_other s.count i 0 j d, upd_other s.status i ready j d)))

  -- and the worker's tasks to add
  module _ (own : List ℕ) (p : Stand) (mail : List Message) where
    pub adds_above : x < row.count → Stored own p mail (s.adds w) → Stored own p mail ((lowered s w i x).adds w)
    adds_above l k = rw (lowered_above s w i x (omega (arith, stands))) k

    pub adds_none : row.count ≡ 0 → Stored own p mail (s.adds w) → Stored own p mail ((lowered s w i x).adds w)
    adds_none z k = rw (lowered_none s w i x (sym stands ∙ z)) k

    pub adds_out : 0 < row.count → row.count ≤ x → Stored own p mail (s.adds w ++ i ∷ [])
        → Stored own p mail ((lowered s w i x).adds w)
    adds_out l b k = rw (lowered_out s w i x (omega (arith, stands)) (omega (arith, stands)), upd_same) k

-- ---- what an access passes on

module _ (ts : List Task) (a : ℕ) (e f : Flags) (q n : ℕ) (is_reader : q ≡ reader ts a)
    (is : n ≡ passes_read q f - passes_read q e + 2 * (passes_write f - passes_write e)) where
  -- READ and WRITE that pass on now
  abbrev reads : ℕ
  reads = passes_read (reader ts a) f - passes_read (reader ts a) e

  abbrev writes : ℕ
  writes = passes_write f - passes_write e

  abbrev message : Message
  message = record { to = next ts a; flags = granting reads writes; sender = some a }

  in_all : n ≡ reads + 2 * writes
  in_all = rw is_reader at is

  pub passed_none : n ≡ 0 → passed ts a e f ≡ []
  unfolding passed
  passed_none z = rw (passed, eq-eqb reads 0 (omega (arith, in_all)), eq-eqb writes 0 (omega (arith, in_all)))

  passed_some : n ≢ 0 → passed ts a e f ≡ message ∷ []
  unfolding passed
  passed_some d = go (eqb reads 0) refl (eqb writes 0) refl
    where
      go : (x : Bool) → eqb reads 0 ≡ x → (y : Bool) → eqb writes 0 ≡ y
          → ◌≡◌ {A = List Message} (elim (x && y) [ true ↦ [] | false ↦ message ∷ [] ]) (message ∷ [])
      go true x true y = absurd (d (omega (arith, in_all, eqb-true reads 0 x, eqb-true writes 0 y)))
      go true x false y = refl
      go false x true y = refl
      go false x false y = refl

  pub passed_one : n ≢ 0 → (m : Message) × (passed ts a e f ≡ m ∷ []) × (letter m ≡ record { to = next ts a; flags = n; sender = Some a })
  passed_one d =
      let number : flag_number (granting reads writes) ≡ n = omega (arith, in_all) in
      (message, passed_some d, rw number refl)

-- ---- the notice after a delivery

module _ (m : Message) where
  pub notice_none : (o : Option ℕ) → None ≡ option_of o → notice_of m o ≡ free
  notice_none none z = refl
  notice_none (some b) z = absurd (none-some b z)

  pub notice_some : (o : Option ℕ) (n k : ℕ) → Once m.flags → k ≡ flag_number m.flags → Some n ≡ option_of o
      → Coded layout.telling n (k % 4) (notice_of m o) × (1 ≡ notices (notice_of m o))
  notice_some none n k once is z = absurd (none-some n (sym z))
  notice_some (some b) n k once is z = ((refl, cc, rights_of m.flags once k is), refl)
