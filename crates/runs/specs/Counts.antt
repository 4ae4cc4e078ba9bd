-- Tests as numbers, how often a number stands in a list, and a measure of a row that changes at one place.
use Rattle.std.specs.Prelude.{◌≡◌, refl, ◌≢◌, Bool, true, false, List, [], ◌∷◌, ◌++◌, ℕ, ◌+◌, ◌*◌, ◌≤◌, ◌<◌, eqb, length}
use Rattle.std.proofs.Common.{sym, ⊎_elim, arith, eq-eqb, ne_eqb}
use Rattle.runs.specs.Update.{same, order, upd, upd_same, upd_other}
use Rattle.runs.specs.Sums.{sum, sum_at, sum_le, sum_add, sum_const}

-- 1 for true, 0 for false
abbrev pub one : Bool → ℕ
one true = 1
one false = 0

pub one_le : (b : Bool) → one b ≤ 1
one_le true = omega arith
one_le false = omega arith

pub one_true : (b : Bool) → 0 < one b → b ≡ true
one_true true l = refl
one_true false l = absurd (omega arith)

-- 1 where the two are equal, else 0
unfoldable pub is : ℕ → ℕ → ℕ
is a b = one (eqb a b)

pub is_same : (a b : ℕ) → a ≡ b → is a b ≡ 1
unfolding is
is_same a b e = rw (eq-eqb a b e, is)

pub is_other : (a b : ℕ) → a ≢ b → is a b ≡ 0
unfolding is
is_other a b e = rw (ne_eqb a b e, is)

pub is_equal : (a b : ℕ) → 0 < is a b → a ≡ b
is_equal a b l = ⊎_elim (λ (e : a ≡ b). e) (λ n. absurd (omega (arith, is_other a b n))) (same a b)

-- a row that changes at i from a to x, measured at j
pub moved : {A : Type 0} (m : A → ℕ) (f : ℕ → A) (i : ℕ) (a x : A) → f i ≡ a → (j : ℕ)
    → m (upd f i x j) + is i j * m a ≡ m (f j) + is i j * m x
moved m f i a x e j =
    ⊎_elim
    (λ (q : j ≡ i). rw (q, is_same i i refl, upd_same f i x, e) (omega arith))
    (λ (q : j ≢ i). rw (is_other i j (λ z. q (sym z)), upd_other f i x j q) (omega arith))
    (same j i)

unfoldable pub count : ℕ → List ℕ → ℕ
count i [] = 0
count i (x ∷ xs) = is x i + count i xs

pub count_nil : (i : ℕ) → count i [] ≡ 0
unfolding count
count_nil i = refl

pub count_cons : (i x : ℕ) (xs : List ℕ) → count i (x ∷ xs) ≡ is x i + count i xs
unfolding count
count_cons i x xs = refl

pub count_append : (i : ℕ) (xs ys : List ℕ) → count i (xs ++ ys) ≡ count i xs + count i ys
unfolding count
count_append i [] ys = omega arith
count_append i (x ∷ xs) ys = omega (arith, count_append i xs ys)

-- one number is counted once among those below n
sum_is : (n x : ℕ) → x < n → sum n (is x) ≡ 1
sum_is n x l = omega (arith, sum_at n (λ i. 0) (is x) x l (λ i b e. is_other x i (omega arith)), sum_const n 0, is_same x x refl)

-- the elements are all below n: the counts of the numbers below n come to the length
pub count_length : (n : ℕ) (xs : List ℕ) → ((i : ℕ) → n ≤ i → count i xs ≡ 0) → length xs ≡ sum n (λ i. count i xs)
unfolding count
count_length n [] h = omega (arith, sum_const n 0)
count_length n (x ∷ xs) h =
    ⊎_elim
    (λ (l : x < n). omega (arith, sum_add n (is x) (λ i. count i xs), sum_is n x l, count_length n xs (λ i b. omega (arith, h i b))))
    (λ (l : n ≤ x). absurd (omega (arith, h x l, is_same x x refl)))
    (order x n)

-- none twice and all below n: there are at most n
pub count_bounds : (n : ℕ) (xs : List ℕ) → ((i : ℕ) → count i xs ≤ 1) → ((i : ℕ) → n ≤ i → count i xs ≡ 0) → length xs ≤ n
count_bounds n xs once h = omega (arith, count_length n xs h, sum_le n (λ i. count i xs) (λ i. 1) (λ i l. once i), sum_const n 1)

-- likewise, the elements being those that are counted
pub bounded : (n : ℕ) (xs : List ℕ) → ((i : ℕ) → count i xs ≤ 1) → ((i : ℕ) → 0 < count i xs → i < n) → length xs ≤ n
bounded n xs once below =
    count_bounds n xs once
    (λ i b. ⊎_elim (λ (z : 0 < count i xs). absurd (omega (arith, below i z))) (λ (z : count i xs ≤ 0). omega arith) (order 0 (count i xs)))
