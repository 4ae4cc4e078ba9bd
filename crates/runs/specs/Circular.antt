-- A list that lies in a circular buffer of M slots: its length, the same list in another buffer, an entry put behind, one taken away, and
-- one taken out of the middle.
use Prim.Native.Nat.{ℕ, zero, suc, ◌+◌, ◌-◌, ◌%◌, ◌≤◌, ◌<◌}
use Rattle.std.specs.Prelude.{◌≡◌, ◌≢◌, length, set, take, drop}
use Rattle.std.proofs.Math.Path.{refl, ap}
use Rattle.std.proofs.Common.{◌∙◌, add-one}
use Rattle.std.proofs.Math.Logic.{⊎_elim}
use mathlib.Core.List.{List, [], ◌∷◌, ◌++◌}
use native.Mathlib.Omega.{arith}
use Rattle.std.proofs.Math.Numerals.{unary_clauses}
use Rattle.std.proofs.Math.Nat.{add-zero, mod-lt, mod-add-mod}
use Rattle.std.proofs.Math.ListN.{get_or, length-set}
use Rattle.std.proofs.Math.Seq.{get_or-set_same, get_or-set_other, drop-set-lt}
use Rattle.runs.specs.Update.{clash, same}
use Rattle.runs.specs.Near.{near_mod}

-- so many entries, the oldest in slot `at`
unfoldable pub entries : {A : Type 0} → (ℕ → A) → ℕ → ℕ → ℕ → List A
entries slot M at zero = []
entries slot M at (suc n) = slot (at % M) ∷ entries slot M (suc at) n

next : (a k : ℕ) → suc a + k ≡ a + suc k
next a k = omega arith

module _ {A : Type 0} (M : ℕ) where
  -- equal entries, in two buffers or from two slots on
  pub entries_equal : (f g : ℕ → A) (a b n : ℕ) → ((k : ℕ) → k < n → f ((a + k) % M) ≡ g ((b + k) % M)) → entries f M a n ≡ entries g M b n
  unfolding entries
  entries_equal f g a b zero same = refl
  entries_equal f g a b (suc n) same =
      let first : f (a % M) ≡ g (b % M) = simp unary_clauses at (same 0 (omega arith)) in
      let rest : entries f M (suc a) n ≡ entries g M (suc b) n =
      entries_equal f g (suc a) (suc b) n (λ k h. rw (next a k, next b k) (same (suc k) (omega arith))) in
      cc

  pub entries_same : (f g : ℕ → A) (at n : ℕ) → ((k : ℕ) → k < n → f ((at + k) % M) ≡ g ((at + k) % M))
      → entries f M at n ≡ entries g M at n
  entries_same f g at n same = entries_equal f g at at n same

module _ {A : Type 0} (slot : ℕ → A) (M : ℕ) where
  pub entries_length : (at n : ℕ) → length (entries slot M at n) ≡ n
  unfolding entries
  entries_length at zero = refl
  entries_length at (suc n) = ap suc (entries_length (suc at) n)

  pub entries_none : (at : ℕ) → entries slot M at 0 ≡ []
  unfolding entries
  entries_none at = refl

  pub entries_cons : (at n : ℕ) → entries slot M at (suc n) ≡ slot (at % M) ∷ entries slot M (suc at) n
  unfolding entries
  entries_cons at n = refl

  pub entries_snoc : (at n : ℕ) → entries slot M at (suc n) ≡ entries slot M at n ++ slot ((at + n) % M) ∷ []
  unfolding entries
  entries_snoc at zero = rw add-zero refl
  entries_snoc at (suc n) =
      ap (λ (l : List A). slot (at % M) ∷ l) (rw (next at n) at (entries_snoc (suc at) n))

  -- a slot's number counts up to M and starts again at 0
  pub entries_mod : (at n : ℕ) → entries slot M (at % M) n ≡ entries slot M at n
  entries_mod at n = entries_equal M slot slot (at % M) at n (λ k h. ap slot (mod-add-mod at M k))

  -- the oldest entry and those behind it
  pub entries_pop : (at n : ℕ) (v : A) (vs : List A) → entries slot M at n ≡ v ∷ vs
      → (n ≡ suc (n - 1)) × (slot (at % M) ≡ v) × (entries slot M (suc at) (n - 1) ≡ vs)
  unfolding entries
  entries_pop at zero v vs e = clash (cc)
  entries_pop at (suc n) v vs e =
      let back : suc n - 1 ≡ n = omega arith in
      (omega arith, cc, rw back (cc))

-- an entry is put into the slot behind the last
pub entries_push : {A : Type 0} (f g : ℕ → A) (M at n : ℕ) (v : A) → 0 < M → n < M → g ((at + n) % M) ≡ v
    → ((k : ℕ) → k < M → k ≢ (at + n) % M → g k ≡ f k) → entries g M at (suc n) ≡ entries f M at n ++ v ∷ []
entries_push f g M at n v some room new old =
    let apart : (k : ℕ) → k < n → (at + k) % M ≢ (at + n) % M =
    λ k h e. omega (arith, near_mod M (at + k) (at + n) e (omega arith) (omega arith)) in
    rw (entries_snoc g M at n, new, entries_same M g f at n (λ k h. old ((at + k) % M) (mod-lt (at + k) some) (apart k h)))

-- likewise where the buffer is an array
pub array_push : (l : List ℕ) (M at n v : ℕ) → M ≤ length l → n < M
    → entries (λ k. get_or (set l ((at + n) % M) v) k 0) M at (suc n) ≡ entries (λ k. get_or l k 0) M at n ++ v ∷ []
array_push l M at n v long room =
    let i = (at + n) % M in
    let below : i < M = mod-lt (at + n) (omega arith) in
    entries_push (λ k. get_or l k 0) (λ k. get_or (set l i v) k 0) M at n v (omega arith) room (get_or-set_same l i v 0 (omega arith))
    (λ k small other. get_or-set_other l i k v 0 other)

-- the entry at a place
pub entries_at : {A : Type 0} (slot : ℕ → A) (M at n k : ℕ) (d : A) → k < n → get_or (entries slot M at n) k d ≡ slot ((at + k) % M)
unfolding entries
entries_at slot M at zero k d l = absurd (omega arith)
entries_at slot M at (suc n) zero d l = rw add-zero refl
entries_at slot M at (suc n) (suc k) d l = rw (← next at k) (entries_at slot M (suc at) n k d (omega arith))

-- the entry at place k is taken out: the k before it move up by one slot, so that the oldest is one slot further, and those behind it stay
pub entries_out : {A : Type 0} (f g : ℕ → A) (M at n k : ℕ) → k ≤ n → ((j : ℕ) → j < k → g ((at + suc j) % M) ≡ f ((at + j) % M))
    → ((j : ℕ) → k < j → j ≤ n → g ((at + j) % M) ≡ f ((at + j) % M))
    → entries g M (suc at) n ≡ take k (entries f M at (suc n)) ++ drop (suc k) (entries f M at (suc n))
unfolding entries
entries_out f g M at n zero l up still =
    entries_same M g f (suc at) n (λ j b. rw (next at j) (still (suc j) (omega arith) (omega arith)))
entries_out f g M at zero (suc k) l up still = absurd (omega arith)
entries_out f g M at (suc n) (suc k) l up still =
    let first : g (suc at % M) ≡ f (at % M) = rw (add-zero, add-one) at (up 0 (omega arith)) in
    let rest =
    entries_out f g M (suc at) n k (omega arith) (λ j b. rw (next at (suc j), next at j) (up (suc j) (omega arith)))
    (λ j b c. rw (next at j) (still (suc j) (omega arith) (omega arith))) in
    cc

-- ---- the entry at place k is taken out of an array

module _ (M at : ℕ) where
  -- the entry at place k moves up by one slot; the first k entries do, the last of them first
  abbrev pub one_up : List ℕ → ℕ → List ℕ
  one_up l k = set l ((at + suc k) % M) (get_or l ((at + k) % M) 0)

  unfoldable pub shifted : List ℕ → ℕ → List ℕ
  shifted l zero = l
  shifted l (suc k) = shifted (one_up l k) k

  pub shifted_none : (l : List ℕ) → shifted l 0 ≡ l
  unfolding shifted
  shifted_none l = refl

  -- as a loop does it that counts down
  pub shifted_turn : (l : List ℕ) (i : ℕ) → 0 < i → shifted (set l ((at + i) % M) (get_or l ((at + (i - 1)) % M) 0)) (i - 1) ≡ shifted l i
  unfolding shifted
  shifted_turn l zero h = absurd (omega arith)
  shifted_turn l (suc i) h = let back : suc i - 1 ≡ i = omega arith in rw back refl

  pub shifted_length : (k : ℕ) (l : List ℕ) → length (shifted l k) ≡ length l
  unfolding shifted
  shifted_length zero l = refl
  shifted_length (suc k) l = shifted_length k (one_up l k) ∙ length-set l _ _

  -- no other slot changes, and nothing behind the M slots
  shifted_other : (k : ℕ) (l : List ℕ) (i : ℕ) → ((j : ℕ) → j < k → i ≢ (at + suc j) % M) → get_or (shifted l k) i 0 ≡ get_or l i 0
  unfolding shifted
  shifted_other zero l i other = refl
  shifted_other (suc k) l i other =
      shifted_other k (one_up l k) i (λ j b. other j (omega arith))
      ∙ get_or-set_other l ((at + suc k) % M) i (get_or l ((at + k) % M) 0) 0 (other k (omega arith))

  pub shifted_behind : (k : ℕ) (l : List ℕ) → 0 < M → drop M (shifted l k) ≡ drop M l
  unfolding shifted
  shifted_behind zero l some = refl
  shifted_behind (suc k) l some =
      shifted_behind k (one_up l k) some ∙ drop-set-lt M l ((at + suc k) % M) (get_or l ((at + k) % M) 0) (mod-lt (at + suc k) some)

  -- places that are fewer than M apart have slots of their own
  apart : (i j : ℕ) → i < M → j < M → i ≢ j → (at + i) % M ≢ (at + j) % M
  apart i j a b d e = d (omega (arith, near_mod M (at + i) (at + j) e (omega arith) (omega arith)))

  shifted_at : (k : ℕ) (l : List ℕ) (j : ℕ) → M ≤ length l → k < M → j < k
      → get_or (shifted l k) ((at + suc j) % M) 0 ≡ get_or l ((at + j) % M) 0
  unfolding shifted
  shifted_at zero l j long few b = absurd (omega arith)
  shifted_at (suc k) l j long few b =
      ⊎_elim last (λ d. earlier d (shifted_at k (one_up l k) j (omega (arith, length-set l ((at + suc k) % M) (get_or l ((at + k) % M) 0)))
      (omega arith) (omega arith))) (same j k)
    where
      last : j ≡ k → get_or (shifted (one_up l k) k) ((at + suc j) % M) 0 ≡ get_or l ((at + j) % M) 0
      last e =
          rw e
          (shifted_other k (one_up l k) ((at + suc k) % M) (λ i b. apart (suc k) (suc i) (omega arith) (omega arith) (omega arith))
          ∙ get_or-set_same l ((at + suc k) % M) (get_or l ((at + k) % M) 0) 0 (omega (arith, mod-lt (at + suc k) {m = M} (omega arith))))

      earlier : j ≢ k → get_or (shifted (one_up l k) k) ((at + suc j) % M) 0 ≡ get_or (one_up l k) ((at + j) % M) 0
          → get_or (shifted (one_up l k) k) ((at + suc j) % M) 0 ≡ get_or l ((at + j) % M) 0
      earlier d up =
          up ∙ get_or-set_other l ((at + suc k) % M) ((at + j) % M) (get_or l ((at + k) % M) 0) 0
          (apart j (suc k) (omega arith) (omega arith) (omega arith))

  pub array_out : (l : List ℕ) (n k : ℕ) → M ≤ length l → n < M → k ≤ n
      → entries (λ j. get_or (shifted l k) j 0) M (suc at) n
      ≡ take k (entries (λ j. get_or l j 0) M at (suc n)) ++ drop (suc k) (entries (λ j. get_or l j 0) M at (suc n))
  array_out l n k long room few =
      entries_out (λ j. get_or l j 0) (λ j. get_or (shifted l k) j 0) M at n k few
      (λ j b. shifted_at k l j long (omega arith) b)
      (λ j b c. shifted_other k l ((at + j) % M) (λ i d. apart j (suc i) (omega arith) (omega arith) (omega arith)))
