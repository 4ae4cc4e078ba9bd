-- A number's digits, one by one, and how many there are.
use Rattle.std.specs.Prelude.{ℕ, zero, suc, ◌+◌, ◌/◌, ◌%◌, ◌^◌, ◌≤◌, ◌<◌, ◌≡◌, refl, List, [], ◌∷◌, ◌++◌, length}
use Rattle.std.proofs.Common.{sym, ap, ◌∙◌, append_assoc, ⊎_elim, arith, div-lt_iff_lt-mul, mod-eq_of_lt, pow-suc, length-append, lt-ltb, le-ltb}
use Rattle.std.proofs.Math.Nat.{div-lt_self}
use Rattle.runs.specs.Update.{order}
use Rattle.text.specs.Text.{digits_before, decimal}

pub tens_less : (n : ℕ) → 10 ≤ n → n / 10 < n
tens_less n h = div-lt_self {n = n} {k = 10} (omega arith) (omega arith)

digits_append : (k n : ℕ) (ds : List ℕ) → digits_before k n ds ≡ digits_before k n [] ++ ds
unfolding digits_before
digits_append zero n ds = refl
digits_append (suc k) n ds =
    ⊎_elim (λ (low : n < 10). rw (lt-ltb n 10 low, digits_before))
    (λ (high : 10 ≤ n). rw (le-ltb n 10 high, digits_before)
    (digits_append k (n / 10) ((48 + n % 10) ∷ ds)
    ∙ sym (append_assoc (digits_before k (n / 10) []) ((48 + n % 10) ∷ []) ds)
    ∙ ap (λ (l : List ℕ). l ++ ds) (sym (digits_append k (n / 10) ((48 + n % 10) ∷ [])))))
    (order n 10)

digits_fuel : (k m n : ℕ) (ds : List ℕ) → n < k → n < m → digits_before k n ds ≡ digits_before m n ds
unfolding digits_before
digits_fuel zero m n ds h g = absurd (omega arith)
digits_fuel (suc k) zero n ds h g = absurd (omega arith)
digits_fuel (suc k) (suc m) n ds h g =
    ⊎_elim (λ (low : n < 10). rw (lt-ltb n 10 low, digits_before))
    (λ (high : 10 ≤ n). rw (le-ltb n 10 high, digits_before)
    (digits_fuel k m (n / 10) ((48 + n % 10) ∷ ds) (omega (arith, tens_less n high)) (omega (arith, tens_less n high))))
    (order n 10)

pub decimal_low : (n : ℕ) → n < 10 → decimal n ≡ (48 + n) ∷ []
unfolding decimal digits_before
decimal_low n h = rw (lt-ltb n 10 h, digits_before)

pub decimal_last : (n : ℕ) → n < 10 → decimal n ≡ (48 + n % 10) ∷ []
decimal_last n h = rw (mod-eq_of_lt {n = n} {m = 10} h) (decimal_low n h)

pub decimal_more : (n : ℕ) → 10 ≤ n → decimal n ≡ decimal (n / 10) ++ ((48 + n % 10) ∷ [])
unfolding decimal digits_before
decimal_more n h =
    rw (le-ltb n 10 h, digits_before)
    (digits_append n (n / 10) ((48 + n % 10) ∷ [])
    ∙ ap (λ (l : List ℕ). l ++ ((48 + n % 10) ∷ [])) (digits_fuel n (suc (n / 10)) (n / 10) [] (tens_less n h) (omega arith)))

pub length_low : (n : ℕ) → n < 10 → length (decimal n) ≡ 1
length_low n h = ap length (decimal_low n h)

pub length_more : (n : ℕ) → 10 ≤ n → length (decimal n) ≡ length (decimal (n / 10)) + 1
length_more n h = ap length (decimal_more n h) ∙ length-append (decimal (n / 10)) ((48 + n % 10) ∷ [])

pub decimal_some : (n : ℕ) → 1 ≤ length (decimal n)
decimal_some n =
    ⊎_elim (λ (low : n < 10). omega (arith, length_low n low)) (λ (high : 10 ≤ n). omega (arith, length_more n high)) (order n 10)

-- a number below a power of ten has no more digits than that
pub decimal_short : (k n : ℕ) → n < 10 ^ suc k → length (decimal n) ≤ suc k
decimal_short zero n h = omega (arith, length_low n h)
decimal_short (suc k) n h =
    ⊎_elim (λ (low : n < 10). omega (arith, length_low n low))
    (λ (high : 10 ≤ n). omega (
      arith,
      length_more n high,
      decimal_short k (n / 10) ((div-lt_iff_lt-mul {k = 10} {x = n} {y = 10 ^ suc k} (omega arith)).1 (rw (pow-suc 10 (suc k)) at h)),
    ))
    (order n 10)

-- 64 bits
pub decimal_20 : (n : ℕ) → n < 2 ^ 64 → length (decimal n) ≤ 20
decimal_20 n h = decimal_short 19 n (omega arith)

-- so a number's field has at most so many bytes, with the tab or the line feed after it
abbrev pub number_size : ℕ
number_size = 21
