-- The laws of the accesses of a plan in which no task names an address twice.
use Prim.Native.Nat.{ℕ, zero, suc, ◌+◌, ◌-◌, ◌≤◌, ◌<◌}
use Rattle.std.specs.Prelude.{◌≡◌, refl, ◌≢◌, Bool, not, ◌||◌, List, [], ◌∷◌, ◌++◌, length, get_or, take, eqb, ltb}
use Rattle.std.proofs.Math.Path.{sym}
use Rattle.std.proofs.Common.{ap, ◌∙◌, ⊎_elim, true≢false, length-append, get_or-append-add}
use Rattle.std.proofs.Math.Bool.{true, false, cond}
use Rattle.std.proofs.Math.Option.{Option, none, some}
use native.Mathlib.Omega.{arith}
use Rattle.std.proofs.Math.ListN.{get_or-append}
use borrow.Author.Tests.{eqb-true, eqb-false, ltb-true, ltb-false, not-true, not-false}
use Rattle.runs.specs.Update.{same, by_order}
use Rattle.runs.specs.Every.{every}
use Rattle.plan.specs.Plan.{Task}
use Rattle.plan.specs.declared.access.Access.{Access}
use Rattle.plan.specs.Line.{repeats}
use Rattle.plan.specs.Accepted.{Each}
use Rattle.plan.proofs.Accepted.{every_each}
use Rattle.runs.specs.Searches.{last_below, first_from}
use Rattle.tasks.specs.Accesses.{no_access, Distinct, accesses, task_of, task_at, access_at, first, reader}
use Rattle.tasks.specs.Accesses.{same_address, prev, next, total, addr}
use Rattle.tasks.proofs.Inside.LinkLaws.{Links}

-- ---- where a task's accesses lie

pub first_zero : (ts : List Task) → first ts 0 ≡ 0
unfolding first accesses
first_zero ts = refl

first_nil : (i : ℕ) → first [] i ≡ 0
unfolding first accesses
first_nil zero = refl
first_nil (suc i) = refl

first_cons : (t : Task) (ts : List Task) (i : ℕ) → first (t ∷ ts) (suc i) ≡ length t.accesses + first ts i
unfolding first accesses
first_cons t ts i = length-append t.accesses (accesses (take i ts))

total_nil : total [] ≡ 0
unfolding accesses
total_nil = refl

total_cons : (t : Task) (ts : List Task) → total (t ∷ ts) ≡ length t.accesses + total ts
unfolding accesses
total_cons t ts = length-append t.accesses (accesses ts)

pub first_suc : (ts : List Task) (i : ℕ) → i < length ts → first ts (suc i) ≡ first ts i + length (task_at ts i).accesses
first_suc [] i l = absurd (omega arith)
first_suc (t ∷ ts) zero l = omega (arith, first_cons t ts 0, first_zero ts, first_zero (t ∷ ts))
first_suc (t ∷ ts) (suc i) l = omega (arith, first_cons t ts i, first_cons t ts (suc i), first_suc ts i (omega arith))

pub first_all : (ts : List Task) (i : ℕ) → length ts ≤ i → first ts i ≡ total ts
first_all [] i l = first_nil i ∙ sym total_nil
first_all (t ∷ ts) zero l = absurd (omega arith)
first_all (t ∷ ts) (suc i) l = omega (arith, first_cons t ts i, total_cons t ts, first_all ts i (omega arith))

pub first_mono : (ts : List Task) (i j : ℕ) → i ≤ j → first ts i ≤ first ts j
first_mono [] i j l = omega (arith, first_nil i)
first_mono (t ∷ ts) zero j l = omega (arith, first_zero (t ∷ ts))
first_mono (t ∷ ts) (suc i) zero l = absurd (omega arith)
first_mono (t ∷ ts) (suc i) (suc j) l = omega (arith, first_cons t ts i, first_cons t ts j, first_mono ts i j (omega arith))

-- access a is one of task i's
abbrev Of : List Task → ℕ → ℕ → Type 0
Of ts a i = (i < length ts) × (first ts i ≤ a) × (a < first ts (suc i))

pub task_of_lem : (ts : List Task) (a : ℕ) → a < total ts → Of ts a (task_of ts a)
unfolding task_of
task_of_lem [] a l = absurd (omega (arith, total_nil))
task_of_lem (t ∷ ts) a l = go (ltb a n) refl (task_of ts (a - n)) (task_of_lem ts (a - n))
  where
    n : ℕ
    n = length t.accesses

    go : (b : Bool) → ltb a n ≡ b → (i : ℕ) → (a - n < total ts → Of ts (a - n) i) → Of (t ∷ ts) a (elim b [ true ↦ 0 | false ↦ suc i ])
    go true e i h = (omega arith, omega (arith, first_zero (t ∷ ts)), omega (arith, first_cons t ts 0, ltb-true a n e))
    go false e i h =
        let after : n ≤ a = ltb-false a n e in
        let (x, y, z) = h (omega (arith, total_cons t ts)) in
        (omega arith, omega (arith, first_cons t ts i), omega (arith, first_cons t ts (suc i)))

-- it is one of no other task's
of_one : (ts : List Task) (a i j : ℕ) → Of ts a i → Of ts a j → i ≡ j
of_one ts a i j p q =
    by_order i j (λ l. absurd (omega (arith, first_mono ts (suc i) j l))) (λ e. e) (λ l. absurd (omega (arith, first_mono ts (suc j) i l)))

pub of_task : (ts : List Task) (a i : ℕ) → i < length ts → first ts i ≤ a → a < first ts (suc i) → task_of ts a ≡ i
of_task ts a i l low high =
    of_one ts a (task_of ts a) i (task_of_lem ts a (omega (arith, first_mono ts (suc i) (length ts) l, first_all ts (length ts) (omega arith))))
    (l, low, high)

-- access a is the one at place a - first i of task i
access_in : (ts : List Task) (a i : ℕ) → Of ts a i → (d : Access) → get_or (accesses ts) a d ≡ get_or (task_at ts i).accesses (a - first ts i) d
unfolding accesses
access_in [] a i (x, y, z) d = absurd (omega arith)
access_in (t ∷ ts) a zero (x, y, z) d =
    get_or-append t.accesses (accesses ts) d a (omega (arith, first_cons t ts 0, first_zero ts))
    ∙ ap (λ k. get_or t.accesses k d) (omega (arith, first_zero (t ∷ ts)))
access_in (t ∷ ts) a (suc i) (x, y, z) d =
    let n = length t.accesses in
    ap (λ k. get_or (t.accesses ++ accesses ts) k d) (omega (arith, first_cons t ts i))
    ∙ get_or-append-add t.accesses (accesses ts) (a - n) d
    ∙ access_in ts (a - n) i (omega arith, omega (arith, first_cons t ts i), omega (arith, first_cons t ts i, first_cons t ts (suc i))) d
    ∙ ap (λ k. get_or (task_at ts i).accesses k d) (omega (arith, first_cons t ts i))

-- access k of task i
pub access_of : (ts : List Task) (i k : ℕ) → i < length ts → k < length (task_at ts i).accesses
    → access_at ts (first ts i + k) ≡ get_or (task_at ts i).accesses k no_access
access_of ts i k l h =
    access_in ts (first ts i + k) i (l, omega arith, omega (arith, first_suc ts i l)) _
    ∙ ap (λ x. get_or (task_at ts i).accesses x no_access) (omega arith)

-- ---- different addresses

neither : (a b : Bool) → a || b ≡ false → (a ≡ false) × (b ≡ false)
neither true b e = absurd (true≢false e)
neither false b e = (refl, e)

repeats_not : (a : Access) (xs : List Access) → repeats (a ∷ xs) ≡ false → Each (λ b. a.address ≢ b.address) xs × (repeats xs ≡ false)
unfolding repeats
repeats_not a xs h =
    let (e, rest) = neither (not (every (λ b. not (eqb a.address b.address)) xs)) (repeats xs) h in
    (λ i l d. eqb-false _ _ (not-true _ (every_each (λ b. not (eqb a.address b.address)) xs (not-false _ e) i l d)), rest)

distinct_at : (xs : List Access) → repeats xs ≡ false → (i j : ℕ) → i < j → j < length xs → (d : Access)
    → (get_or xs i d).address ≢ (get_or xs j d).address
distinct_at [] h i j l k d = absurd (omega arith)
distinct_at (a ∷ xs) h i zero l k d = absurd (omega arith)
distinct_at (a ∷ xs) h zero (suc j) l k d = (repeats_not a xs h).0 j (omega arith) d
distinct_at (a ∷ xs) h (suc i) (suc j) l k d = distinct_at xs (repeats_not a xs h).1 i j (omega arith) (omega arith) d

module _ (ts : List Task) (h : Distinct ts) where
  distinct_in : (i a b : ℕ) → Of ts a i → Of ts b i → a < b → addr ts a ≢ addr ts b
  distinct_in i a b p q l e =
      distinct_at (task_at ts i).accesses (h i p.0) (a - first ts i) (b - first ts i) (omega arith)
      (omega (arith, first_suc ts i p.0)) _
      (sym (ap (λ x. x.address) (access_in ts a i p _)) ∙ e ∙ ap (λ x. x.address) (access_in ts b i q _))

  pub apart : (a b : ℕ) → b < total ts → a < b → addr ts a ≡ addr ts b → task_of ts a < task_of ts b
  apart a b l o e = go (task_of ts a) (task_of ts b) (task_of_lem ts a (omega arith)) (task_of_lem ts b l)
    where
      go : (i j : ℕ) → Of ts a i → Of ts b j → i < j
      go i j p q =
          by_order i j (λ k. k) (λ k. absurd (distinct_in j a b (rw k at p) q o e)) (λ k. absurd (omega (arith, first_mono ts (suc j) i k)))

-- ---- searches

-- k is the last below n that passes the test, or none does
abbrev Last : (ℕ → Bool) → ℕ → Option ℕ → Type 0
Last test n none = (x : ℕ) → x < n → test x ≡ false
Last test n (some k) = (k < n) × (test k ≡ true) × ((x : ℕ) → k < x → x < n → test x ≡ false)

last_is : (test : ℕ → Bool) (n : ℕ) → Last test n (last_below test n)
unfolding last_below
last_is test zero = λ x l. absurd (omega arith)
last_is test (suc n) = go (test n) refl (last_below test n) (last_is test n)
  where
    wider : (low : ℕ) → test n ≡ false → ((x : ℕ) → low ≤ x → x < n → test x ≡ false) → (x : ℕ) → low ≤ x → x < suc n → test x ≡ false
    wider low e h x k l = ⊎_elim (λ (z : x ≡ n). ap test z ∙ e) (λ (z : x ≢ n). h x k (omega arith)) (same x n)

    go : (b : Bool) → test n ≡ b → (o : Option ℕ) → Last test n o → Last test (suc n) (elim b [ true ↦ some n | false ↦ o ])
    go true e o h = (omega arith, e, λ x k l. absurd (omega arith))
    go false e none h = λ x l. wider 0 e (λ y _ k. h y k) x (omega arith) l
    go false e (some k) (a, b, c) = (omega arith, b, wider (suc k) e c)

-- y is the first that passes the test of the n from a on, or the number after them
record First (test : ℕ → Bool) (a n y : ℕ) : Type 0 where
  low : a ≤ y
  high : y ≤ a + n
  is : y < a + n → test y ≡ true
  none_before : (x : ℕ) → a ≤ x → x < y → test x ≡ false

first_is : (test : ℕ → Bool) (a n : ℕ) → First test a n (first_from test a n)
unfolding first_from
first_is test a zero =
    record { low = omega arith; high = omega arith; is = λ l. absurd (omega arith); none_before = λ x k l. absurd (omega arith) }
first_is test a (suc n) = go (test a) refl (first_from test (suc a) n) (first_is test (suc a) n)
  where
    go : (b : Bool) → test a ≡ b → (y : ℕ) → First test (suc a) n y → First test a (suc n) (elim b [ true ↦ a | false ↦ y ])
    go true e y h = record { low = omega arith; high = omega arith; is = λ l. e; none_before = λ x k l. absurd (omega arith) }
    go false e y h =
        record {
          low = omega (arith, h.low);
          high = omega (arith, h.high);
          is = λ l. h.is (omega arith);
          none_before = λ x k l. ⊎_elim (λ (z : x ≡ a). ap test z ∙ e) (λ (z : x ≢ a). h.none_before x (omega arith) l) (same x a);
        }

-- ---- the access before and the access after

module _ (ts : List Task) where
  alike : (a x : ℕ) → same_address ts a x ≡ true → addr ts x ≡ addr ts a
  unfolding same_address
  alike a x e = sym (eqb-true _ _ e)

  unlike : (a x : ℕ) → same_address ts a x ≡ false → addr ts x ≢ addr ts a
  unfolding same_address
  unlike a x e z = eqb-false _ _ e (sym z)

  prev_is : (b : ℕ) → Last (same_address ts b) b (prev ts b)
  unfolding prev
  prev_is b = last_is (same_address ts b) b

  pub prev_some : (a b : ℕ) → prev ts b ≡ some a → (a < b) × (addr ts a ≡ addr ts b) × ((x : ℕ) → a < x → x < b → addr ts x ≢ addr ts b)
  prev_some a b e =
      let (l, z, h) : Last (same_address ts b) b (some a) = rw e at (prev_is b) in
      (l, alike b a z, λ x k m. unlike b x (h x k m))

  pub prev_none : (b : ℕ) → prev ts b ≡ none → (x : ℕ) → x < b → addr ts x ≢ addr ts b
  prev_none b e x l = let h : Last (same_address ts b) b none = rw e at (prev_is b) in unlike b x (h x l)

  next_first : (a : ℕ) → First (same_address ts a) (suc a) (total ts - suc a) (next ts a)
  unfolding next
  next_first a = first_is (same_address ts a) (suc a) (total ts - suc a)

  pub next_le : (a : ℕ) → a < total ts → next ts a ≤ total ts
  next_le a l = omega (arith, (next_first a).high)

  pub next_is : (a : ℕ) → a < total ts → next ts a < total ts
      → (a < next ts a) × (addr ts a ≡ addr ts (next ts a)) × ((x : ℕ) → a < x → x < next ts a → addr ts x ≢ addr ts a)
  next_is a l k =
      ((next_first a).low, sym (alike a (next ts a) ((next_first a).is (omega arith))), λ x m o. unlike a x ((next_first a).none_before x m o))

  pub prev_next : (a b : ℕ) → b < total ts → prev ts b ≡ some a → next ts a ≡ b
  prev_next a b l e =
      let (k, z, between) = prev_some a b e in
      by_order (next ts a) b
      (λ o. let (m, y, _) = next_is a (omega arith) (omega arith) in absurd (between (next ts a) m o (sym y ∙ z)))
      (λ q. q)
      (λ o. absurd (unlike a b ((next_first a).none_before b k o) (sym z)))

  pub next_prev : (a b : ℕ) → a < total ts → b < total ts → next ts a ≡ b → prev ts b ≡ some a
  next_prev a b l k e = go (prev ts b) refl
    where
      alike_both : addr ts a ≡ addr ts b
      alike_both = (next_is a l (omega arith)).1 ∙ ap (addr ts) e

      go : (o : Option ℕ) → prev ts b ≡ o → prev ts b ≡ some a
      go none q = absurd (prev_none b q a (omega (arith, (next_first a).low)) alike_both)
      go (some c) q =
          let (m, z, between) = prev_some c b q in
          by_order c a
          (λ o. absurd (between a o (omega (arith, (next_first a).low)) alike_both))
          (λ o. q ∙ ap {B = Option ℕ} some o)
          (λ o. absurd (unlike a c ((next_first a).none_before c o (omega arith)) (z ∙ sym alike_both)))

  pub reader_one : (a : ℕ) → reader ts a ≤ 1
  unfolding reader
  reader_one a = go (access_at ts a).writes
    where
      go : (b : Bool) → cond b 0 1 ≤ 1
      go true = omega arith
      go false = omega arith

pub links : (ts : List Task) → Distinct ts → Links ts
links ts h =
    record {
      first_zero = first_zero ts;
      first_suc = first_suc ts;
      first_all = first_all ts;
      first_mono = first_mono ts;
      task_of_lem = task_of_lem ts;
      of_task = of_task ts;
      prev_some = prev_some ts;
      prev_none = prev_none ts;
      next_le = next_le ts;
      next_is = next_is ts;
      prev_next = prev_next ts;
      next_prev = next_prev ts;
      apart = apart ts h;
      reader_one = reader_one ts;
    }
