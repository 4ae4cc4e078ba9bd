-- An access is laid behind those before it. Assumes nothing.
use Prim.Native.Nat.{ℕ, zero, suc, ◌-◌, ◌≤◌, ◌<◌}
use mathlib.Core.Path.{◌≡◌, refl, sym, ap, ◌∙◌}
use mathlib.Core.Logic.{⊎_elim, ◌≢◌}
use mathlib.Core.Bool.{Bool, true, false, cond, not}
use mathlib.Core.List.{List}
use mathlib.Core.Option.{Option, none, some}
use native.Mathlib.Omega.{arith}
use lib.ListN.{length, set, drop, length-set}
use lib.Seq.{get_or-set_same, get_or-set_other, drop-set-lt}
use lib.Dec.{eqb}
use Rattle.std.specs.Prelude.{Option as RustOption, Some, None, IfSome}
use Rattle.runs.specs.Update.{same, order, clash}
use Rattle.plan.specs.Plan.{Task}
use Rattle.runs.specs.Searches.{last_below, last_same, last_zero, last_found, last_below_lem}
use Rattle.tasks.specs.Accesses.{total, addr, access_at, reader, same_address, prev, next}
use Rattle.tasks.specs.Flags.{no_flag}
use Rattle.tasks.proofs.Promise.{prev_some, next_le, next_is, prev_next, next_prev}
use Rattle.memory.specs.Layout as layout
use Rattle.memory.specs.Codes.{reader_number, option_of}
use Rattle.memory.specs.Rows.{no_access, access_row, AccessRows, new_access}
use Rattle.memory.specs.declared.rows.AccessRow.{AccessRow}
use Rattle.tables.specs.Tables.{access_row_before, access_row_of, LaidRows}
use Rattle.tables.specs.Laid.{at_address, followed, Follows, Laid, IsAccess}
use Rattle.tables.proofs.Rows.{rest_more}

-- ---- a search for the last below n, which goes down and has come to i

pub found_last : (test : ℕ → Bool) (n i : ℕ) → 0 < i → test (i - 1) ≡ true → last_below test i ≡ last_below test n
    → Some (i - 1) ≡ option_of (last_below test n)
found_last test n zero l e h = absurd (omega arith)
found_last test n (suc i) l e h = let down : suc i - 1 ≡ i = omega arith in rw (down, ← h, last_found test i (rw down at e)) refl

pub found_none : (test : ℕ → Bool) (n i : ℕ) → i ≤ 0 → last_below test i ≡ last_below test n → None ≡ option_of (last_below test n)
found_none test n zero l h = rw (← h, last_zero test) refl
found_none test n (suc i) l h = absurd (omega arith)

pub found_below : (test : ℕ → Bool) (n m : ℕ) → n ≤ m → IfSome (option_of (last_below test n)) (λ b. b < m)
found_below test n m few = go (last_below test n) refl
  where
    go : (o : Option ℕ) → last_below test n ≡ o → IfSome (option_of o) (λ b. b < m)
    go none e = tt
    go (some b) e = omega (arith, last_below_lem test n b e)

-- ---- one access more

module _ (ts : List Task) where
  pub laid_none : (rows : List AccessRow) → Laid ts 0 rows rows
  laid_none rows = record { laid = λ i l. absurd (omega arith); rest = refl }

  -- the search in the rows finds the access before
  found : (before rows : List AccessRow) (a : ℕ) → Laid ts a before rows → last_below (at_address rows (addr ts a)) a ≡ prev ts a
  unfolding prev same_address
  found before rows a h =
      last_same (at_address rows (addr ts a)) (same_address ts a) a
      (λ b l. let (y, says, is) = h.laid b l in ap (λ (x : AccessRow). eqb (addr ts a) x.address) is)

module _ (ts : List Task) (before rows : List AccessRow) (a : ℕ) (low : a < total ts) (fits : a < length rows) (old : Laid ts a before rows) where
  -- the access is there, none comes after it yet, and the one before it does not say so yet
  abbrev put : List AccessRow
  put = set rows a (access_row_before ts a (total ts))

  after : a < next ts a
  after =
      ⊎_elim
      (λ (l : next ts a < total ts). (next_is ts a low l).0)
      (λ (l : total ts ≤ next ts a). omega (arith, low))
      (order (next ts a) (total ts))

  -- what is said of access x among the first of them, once this one is there
  abbrev Says : List AccessRow → ℕ → Type 0
  Says xs x = (y : ℕ) × Follows ts (suc a) x y × (access_row xs x ≡ access_row_before ts x y)

  -- the access after x is said, where it is not a
  unlinked : (x : ℕ) → x < suc a → prev ts a ≢ some x → Says put x
  unlinked x l n = ⊎_elim at_new at_old (same x a)
    where
      at_new : x ≡ a → Says put x
      at_new z =
          rw z
          (total ts, (λ k. absurd (omega (arith, after)), λ k. refl), get_or-set_same rows a (access_row_before ts a (total ts)) no_access fits)

      at_old : x ≢ a → Says put x
      at_old z =
          let (y, (said, unsaid), is) = old.laid x (omega arith) in (
            y,
            (
              λ k. ⊎_elim
                  (λ (w : next ts x ≡ a). absurd (n (next_prev ts x a (omega (arith, low)) low w)))
                  (λ (w : next ts x ≢ a). said (omega arith))
                  (same (next ts x) a),
              λ k. unsaid (omega arith),
            ),
            get_or-set_other rows a x (access_row_before ts a (total ts)) no_access z ∙ is,
          )

  rest : drop (suc a) put ≡ drop (suc a) before
  rest = rest_more a before rows (access_row_before ts a (total ts)) old.rest

  alone : prev ts a ≡ none → Laid ts (suc a) before put
  alone e = record { laid = λ x l. unlinked x l (λ w. let q : none ≡ some x = sym e ∙ w in clash (cc)); rest = rest }

  behind : (b : ℕ) → prev ts a ≡ some b → Laid ts (suc a) before (followed put (option_of (some b)) a)
  behind b e =
      record {
        laid = λ x l. ⊎_elim at_before (others x l) (same x b);
        rest = drop-set-lt (suc a) put b _ (omega (arith, (prev_some ts b a e).0)) ∙ rest;
      }
    where
      link : List AccessRow
      link = followed put (option_of (some b)) a

      at_before : {x : ℕ} → x ≡ b → Says link x
      at_before z =
          let below = (prev_some ts b a e).0 in
          let (y, says, is) = old.laid b below in
          let was : access_row put b ≡ access_row_before ts b y =
          get_or-set_other rows a b (access_row_before ts a (total ts)) no_access (λ q. omega arith) ∙ is in
          rw z (
            a,
            (λ k. sym (prev_next ts b a low e), λ k. absurd (omega (arith, prev_next ts b a low e))),
            get_or-set_same put b _ no_access (omega (arith, length-set rows a (access_row_before ts a (total ts)))) ∙ rw was refl,
          )

      others : (x : ℕ) → x < suc a → x ≢ b → Says link x
      others x l n =
          let (y, says, is) = unlinked x l (λ w. let q : some b ≡ some x = sym e ∙ w in n (cc)) in
          (y, says, get_or-set_other put b x _ no_access n ∙ is)

  linked : (o : Option ℕ) → prev ts a ≡ o → Laid ts (suc a) before (followed put (option_of o) a)
  linked none e = alone e
  linked (some b) e = behind b e

-- once all are there, each says which comes after it
pub laid_all : (ts : List Task) (before rows : List AccessRow) → Laid ts (total ts) before rows
    → LaidRows no_access (total ts) (access_row_of ts) before rows
laid_all ts before rows h =
    record {
      rows = λ a l.
          let (y, (said, unsaid), is) = h.laid a l in
          let right : y ≡ next ts a =
          ⊎_elim said (λ (k : total ts ≤ next ts a). unsaid k ∙ omega (arith, next_le ts a l)) (order (next ts a) (total ts)) in
          rw right at is;
      rest = h.rest;
    }

-- 1 for a reader
reads : (w : Bool) → reader_number (not w) ≡ cond w 0 1
reads true = refl
reads false = refl

pub new_accesses : (ts : List Task) (before rows : List AccessRow) → LaidRows no_access (total ts) (access_row_of ts) before rows
    → AccessRows ts rows (λ _. no_flag)
unfolding reader
new_accesses ts before rows h =
    record {
      flags = λ a l. ap (λ (x : AccessRow). x.flags) (h.rows a l);
      task = λ a l. ap (λ (x : AccessRow). x.task) (h.rows a l);
      reader = λ a l. ap (λ (x : AccessRow). reader_number x.reader) (h.rows a l) ∙ reads (access_at ts a).writes;
      prev = λ a l. ap (λ (x : AccessRow). x.prev) (h.rows a l);
      next = λ a l. ap (λ (x : AccessRow). x.next) (h.rows a l);
    }

-- what laying one access comes to: the search, the row and the word to the access before
pub laid_access : (rows last : List AccessRow) (a task : ℕ) (reads : Bool) (address count : ℕ) (before : RustOption ℕ)
    → length rows ≡ layout.most_accesses → a < layout.most_accesses → before ≡ option_of (last_below (at_address rows address) a)
    → last ≡ followed (set rows a (new_access task reads before count address)) before a
    → (ts : List Task) (start : List AccessRow) → total ts ≡ count → IsAccess ts a task reads address → Laid ts a start rows
    → Laid ts (suc a) start last
laid_access rows last a task reads address count before long fits e1 e2 ts start e new old =
    rw (e2, e1, ← e, ← new.of, ← new.kind, ← new.at, found ts start rows a old)
    (linked ts start rows a new.low (omega arith) old (prev ts a) refl)
