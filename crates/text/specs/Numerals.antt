-- A number has one writing: its decimal digits are read as that number, and no other field is.
use Rattle.std.specs.Prelude.{ℕ, zero, suc, ◌+◌, ◌*◌, ◌-◌, ◌/◌, ◌%◌, ◌≤◌, ◌<◌, ◌≡◌, refl, true, not, ◌&&◌, List, [], ◌∷◌, ◌++◌, eqb, leb}
use Rattle.std.proofs.Common.{sym, ap, ◌∙◌, append_assoc, append-nil, ⊎_elim, arith, mod-lt, mod-eq_of_lt, div-add-mod', leb-true, le-leb, ne_eqb}
use Rattle.std.proofs.Math.Option.{some}
use Rattle.std.proofs.Math.Nat.{div-eq_of_lt, mul-add-div_right, mul-add-mod_self_right}
use Rattle.std.proofs.lemmas.Bool.{eqb-false, not-true}
use Rattle.runs.specs.Every.{every, every_append}
use Rattle.runs.specs.Tests.{ways, both_left, both_right}
use Rattle.runs.specs.Update.{order, clash}
use Rattle.text.specs.Text.{is_digit, value_after, number_of, decimal}
use Rattle.text.specs.Decimals.{tens_less, decimal_low, decimal_more}

digit_low : (b : ℕ) → is_digit b ≡ true → 48 ≤ b
digit_low b e = leb-true 48 b (both_left (leb 48 b) (leb b 57) e)

digit_high : (b : ℕ) → is_digit b ≡ true → b ≤ 57
digit_high b e = leb-true b 57 (both_right (leb 48 b) (leb b 57) e)

is_digit_lem : (b : ℕ) → 48 ≤ b → b ≤ 57 → is_digit b ≡ true
is_digit_lem b low high = simp (le-leb 48 b low, le-leb b 57 high)

-- ---- read, then written

-- one digit more
decimal_digit : (v b : ℕ) → 1 ≤ v → is_digit b ≡ true → decimal (v * 10 + (b - 48)) ≡ decimal v ++ b ∷ []
decimal_digit v b some_digit e =
    let low : 48 ≤ b = digit_low b e in
    let small : b - 48 < 10 = omega (arith, digit_high b e) in
    let tens : (v * 10 + (b - 48)) / 10 ≡ v = mul-add-div_right {m = 10} (omega arith) v (b - 48) ∙ omega (arith, div-eq_of_lt small) in
    let last : 48 + (v * 10 + (b - 48)) % 10 ≡ b =
    omega (arith, mul-add-mod_self_right v 10 (b - 48), mod-eq_of_lt small) in
    decimal_more (v * 10 + (b - 48)) (omega arith) ∙ rw (tens, last)

decimal_after : (v : ℕ) (bs : List ℕ) → 1 ≤ v → every is_digit bs ≡ true → decimal (value_after v bs) ≡ decimal v ++ bs
unfolding every value_after
decimal_after v [] h e = sym (append-nil (decimal v))
decimal_after v (b ∷ bs) h e =
    let digit : is_digit b ≡ true = both_left (is_digit b) (every is_digit bs) e in
    decimal_after (v * 10 + (b - 48)) bs (omega arith) (both_right (is_digit b) (every is_digit bs) e)
    ∙ ap (λ (l : List ℕ). l ++ bs) (decimal_digit v b h digit) ∙ append_assoc (decimal v) (b ∷ []) bs

decimal_one : (b : ℕ) → is_digit b ≡ true → decimal (b - 48) ≡ b ∷ []
decimal_one b e =
    let back : 48 + (b - 48) ≡ b = omega (arith, digit_low b e) in decimal_low (b - 48) (omega (arith, digit_high b e)) ∙ rw back

-- a field that is read as a number is its digits
pub decimal_number : (f : List ℕ) (n : ℕ) → number_of f ≡ some n → f ≡ decimal n
unfolding number_of every value_after
decimal_number [] n e = clash (cc)
decimal_number (b ∷ []) n e =
    ways (is_digit b) (λ d. let is : b - 48 ≡ n = cc in sym (decimal_one b d) ∙ ap decimal is) (λ d. clash (cc))
decimal_number (b ∷ c ∷ bs) n e =
    ways (every is_digit (b ∷ c ∷ bs) && not (eqb b 48))
    (λ d.
    let digits : every is_digit (b ∷ c ∷ bs) ≡ true = both_left (every is_digit (b ∷ c ∷ bs)) (not (eqb b 48)) d in
    let digit : is_digit b ≡ true = both_left (is_digit b) (every is_digit (c ∷ bs)) digits in
    let other = eqb-false b 48 (not-true (eqb b 48) (both_right (every is_digit (b ∷ c ∷ bs)) (not (eqb b 48)) d)) in
    let first : 0 * 10 + (b - 48) ≡ b - 48 = omega arith in
    let is : value_after (b - 48) (c ∷ bs) ≡ n = rw (← first) (cc) in
    sym
    (ap decimal (sym is)
    ∙ decimal_after (b - 48) (c ∷ bs) (omega (arith, other, digit_low b digit)) (both_right (is_digit b) (every is_digit (c ∷ bs)) digits)
    ∙ ap (λ (l : List ℕ). l ++ c ∷ bs) (decimal_one b digit)))
    (λ d. clash (cc))

-- ---- written, then read

value_append : (v : ℕ) (bs : List ℕ) (c : ℕ) → value_after v (bs ++ c ∷ []) ≡ value_after v bs * 10 + (c - 48)
unfolding value_after
value_append v [] c = refl
value_append v (b ∷ bs) c = value_append (v * 10 + (b - 48)) bs c

-- digits that say n, of which the first is not 0
record Says (n : ℕ) (ds : List ℕ) : Type 0 where
  first : ℕ
  rest : List ℕ
  are : ds ≡ first ∷ rest
  some_first : 49 ≤ first
  first_digit : first ≤ 57
  digits : every is_digit rest ≡ true
  value : value_after (first - 48) rest ≡ n

says : (k n : ℕ) → 1 ≤ n → n < k → Says n (decimal n)
unfolding every value_after
says zero n h l = absurd (omega arith)
says (suc k) n h l =
    ⊎_elim
    (λ (low : n < 10). record {
      first = 48 + n;
      rest = [];
      are = decimal_low n low;
      some_first = omega arith;
      first_digit = omega arith;
      digits = refl;
      value = omega arith;
    })
    (λ (high : 10 ≤ n).
    let before = says k (n / 10) (omega (arith, div-add-mod' n 10, mod-lt n {m = 10} (omega arith))) (omega (arith, tens_less n high)) in
    let digit = is_digit_lem (48 + n % 10) (omega arith) (omega (arith, mod-lt n {m = 10} (omega arith))) in
    record {
      first = before.first;
      rest = before.rest ++ (48 + n % 10) ∷ [];
      are = decimal_more n high ∙ ap (λ (l : List ℕ). l ++ (48 + n % 10) ∷ []) before.are;
      some_first = before.some_first;
      first_digit = before.first_digit;
      digits = every_append is_digit before.rest ((48 + n % 10) ∷ []) ∙ simp (before.digits, digit);
      value =
          value_append (before.first - 48) before.rest (48 + n % 10)
          ∙ omega (arith, before.value, div-add-mod' n 10, mod-lt n {m = 10} (omega arith));
    })
    (order n 10)

number_says : (n b : ℕ) (bs : List ℕ) → 49 ≤ b → b ≤ 57 → every is_digit bs ≡ true → value_after (b - 48) bs ≡ n → number_of (b ∷ bs) ≡ some n
unfolding number_of every value_after
number_says n b [] low high e v = simp (is_digit_lem b (omega arith) high) (ap some v)
number_says n b (c ∷ bs) low high e v =
    let first : 0 * 10 + (b - 48) ≡ b - 48 = omega arith in
    simp (is_digit_lem b (omega arith) high, e, ne_eqb b 48 (omega arith), first) (ap some v)

-- a number's digits are read as that number
pub number_decimal : (n : ℕ) → number_of (decimal n) ≡ some n
unfolding number_of
number_decimal zero = rw (decimal_low 0 (omega arith))
number_decimal (suc n) =
    let s = says (suc (suc n)) (suc n) (omega arith) (omega arith) in
    ap number_of s.are ∙ number_says (suc n) s.first s.rest s.some_first s.first_digit s.digits s.value

pub decimal_digits : (n : ℕ) → every is_digit (decimal n) ≡ true
unfolding every
decimal_digits zero = rw (decimal_low 0 (omega arith))
decimal_digits (suc n) =
    let s = says (suc (suc n)) (suc n) (omega arith) (omega arith) in
    ap (every is_digit) s.are ∙ simp (is_digit_lem s.first (omega (arith, s.some_first)) s.first_digit, s.digits)
