-- The reader of a number, byte by byte, finds what the definition says of the field.
use Rattle.std.specs.Prelude.{Result, Err, ℕ, ◌+◌, ◌-◌, ◌*◌, ◌^◌, ◌≤◌, ◌<◌, ◌≡◌, refl, Bool, true, false, not, List, [], ◌∷◌, ◌≢◌, eqb, leb, length, get_or}
use Rattle.std.specs.Prelude as rust
use Rattle.std.proofs.Common.{sym, ap, ◌∙◌, ⊎_elim, arith, ne_eqb, lt-ltb, le-ltb, eqb-true, ltb-false, leb-true}
use Rattle.std.proofs.lemmas.Bool.{eqb-false}
use Rattle.std.proofs.Math.Option.{none}
use Rattle.std.proofs.Math.ListN.{get_or-eq_default}
use Rattle.runs.specs.Every.{every}
use Rattle.runs.specs.Update.{order, clash}
use Rattle.runs.specs.Tests.{ways, both_left, both_right}
use Rattle.text.specs.declared.read.Field.{Field}
use Rattle.text.specs.declared.read.Malformed.{Malformed}
use Rattle.text.specs.declared.read.Number.{Number}
use Rattle.text.specs.Text.{tab, line_feed, is_digit, value_after, number_of}
use Rattle.text.specs.LineEnds.{NONE, after_look, seen_at, is_line_feed}
use Rattle.text.specs.Fields.{malformed, ended, fits_in, held, Clipped, ReadNumber, digit_seen, digit_after, more_of, MoreDigits}
use Rattle.text.proofs.LineEnds.{look_within}
use Rattle.text.proofs.FieldLaws.{byte_within, answers_end, answers_empty, answers_on, answers_bad}

-- ---- one digit more

pub held_more : (n d : ℕ) → digit_after (held n) d ≡ held (n * 10 + d)
held_more n d =
    ways (fits_in n)
    (λ e. ways (fits_in (n * 10 + d)) (λ f. simp (e, f)) (λ f. simp (e, f)))
    (λ e. let f : fits_in (n * 10 + d) ≡ false = le-ltb (n * 10 + d) (2 ^ 64) (omega (arith, ltb-false n (2 ^ 64) e)) in
    simp (e, f))

pub held_clipped : (n : ℕ) → Clipped (held n)
held_clipped n e = simp e

-- ---- what is seen

-- what does not tell the text's end from a byte that there is not, sees the byte there
pub seen_any : {A : Type 0} (f : rust.Option ℕ → A) → f rust.None ≡ f (rust.Some NONE) → (text : List ℕ) (at : ℕ)
    → f (seen_at text at) ≡ f (rust.Some (get_or text at NONE))
seen_any f e text at =
    ⊎_elim (λ (here : at < length text). rw (lt-ltb at (length text) here) refl)
    (λ (past : length text ≤ at). rw (le-ltb at (length text) past, get_or-eq_default text NONE past) e)
    (order at (length text))

-- a digit is seen, and where
pub record SeenDigit (text : List ℕ) (at d : ℕ) : Type 0 where
  pub is : is_digit (get_or text at NONE) ≡ true
  pub low : 48 ≤ get_or text at NONE
  pub high : get_or text at NONE ≤ 57
  pub value : d ≡ get_or text at NONE - 48
  pub here : at < length text

module _ (text : List ℕ) (at : ℕ) where
  abbrev b : ℕ
  b = get_or text at NONE

  digit_at : digit_seen (seen_at text at) ≡ digit_seen (rust.Some b)
  digit_at = seen_any digit_seen refl text at

  pub seen_digit : {d : ℕ} → digit_seen (seen_at text at) ≡ rust.Some d → SeenDigit text at d
  seen_digit {d} e =
      ways (is_digit b)
      (λ y.
      let low : 48 ≤ b = leb-true 48 b (both_left (leb 48 b) (leb b 57) y) in
      let high : b ≤ 57 = leb-true b 57 (both_right (leb 48 b) (leb b 57) y) in
      let is : rust.Some (b - 48) ≡ rust.Some d = simp y at (sym digit_at ∙ e) in
      record { is = y; low = low; high = high; value = cc; here = byte_within text at (omega arith) })
      (λ n. let is : rust.None ≡ rust.Some d = simp n at (sym digit_at ∙ e) in clash (cc))

  pub seen_other : digit_seen (seen_at text at) ≡ rust.None → is_digit b ≡ false
  seen_other e =
      ways (is_digit b)
      (λ y. let is : rust.Some (b - 48) ≡ rust.None = simp y at (sym digit_at ∙ e) in clash (cc))
      (λ n. n)

-- ---- the digits after the first

more_other : (n b : ℕ) → is_digit b ≡ false → (x : List ℕ) → more_of n (b ∷ x) ≡ none
unfolding every
more_other n b d x = simp d

-- no digit follows a leading zero
more_zero : (b : ℕ) (x : List ℕ) → more_of 0 (b ∷ x) ≡ none
more_zero b x = ways (every is_digit (b ∷ x)) (λ e. simp e) (λ e. simp e)

more_on : (n b : ℕ) → n ≢ 0 → is_digit b ≡ true → (x : List ℕ) → more_of (n * 10 + (b - 48)) x ≡ more_of n (b ∷ x)
unfolding every value_after
more_on n b z d [] = simp (d, ne_eqb n 0 z)
more_on n b z d (c ∷ x) = simp (d, ne_eqb n 0 z, ne_eqb (n * 10 + (b - 48)) 0 (omega arith))

module _ (v : ℕ) (text : List ℕ) (at : ℕ) (in_text : at ≤ length text) where
  pub more_end : digit_seen (seen_at text at) ≡ rust.None → {r : Result (Field Number) Malformed} → r ≡ ended (held v) (seen_at text at)
      → MoreDigits v text at r (after_look text at)
  more_end none_seen {r} is =
      let b = get_or text at NONE in
      let there = is ∙ seen_any (ended (held v)) refl text at in
      ways (eqb b tab)
      (λ e. answers_end held (more_of v) text at in_text true (eqb-true b tab e) v refl (there ∙ simp e)) (λ e.
      ways (eqb b line_feed)
      (λ q. answers_end held (more_of v) text at in_text false (eqb-true b line_feed q) v refl (there ∙ simp (e, q)))
      (λ q. answers_bad held (more_of v) text at in_text (eqb-false b tab e) (eqb-false b line_feed q)
      (more_other v b (seen_other text at none_seen)) (there ∙ simp (e, q))))

  module _ {d : ℕ} (seen : digit_seen (seen_at text at) ≡ rust.Some d) where
    pub more_leading : v ≡ 0 → MoreDigits v text at (malformed true) (after_look text at)
    more_leading z =
        let digit = seen_digit text at seen in
        answers_bad held (more_of v) text at in_text (omega (arith, digit.low)) (omega (arith, digit.low))
        (rw z (more_zero (get_or text at NONE))) refl

    pub more_digit : v ≢ 0 → {r : Result (Field Number) Malformed} {n : ℕ}
        → MoreDigits (v * 10 + d) text (after_look text at) r n → MoreDigits v text at r n
    more_digit z so =
        let digit = seen_digit text at seen in
        answers_on held (more_of v) text at in_text (omega (arith, digit.low)) (omega (arith, digit.low)) digit.here
        (more_of (v * 10 + (get_or text at NONE - 48))) (more_on v (get_or text at NONE) z digit.is)
        (rw (digit.value, look_within text at digit.here) at so)

-- ---- the first digit

first_other : (b : ℕ) → is_digit b ≡ false → (x : List ℕ) → number_of (b ∷ x) ≡ none
unfolding number_of every
first_other b d [] = simp d
first_other b d (c ∷ x) = simp d

same_zero : (b : ℕ) → 48 ≤ b → eqb (b - 48) 0 ≡ eqb b 48
same_zero b l =
    ways (eqb b 48) (λ e. rw (eqb-true b 48 e) refl) (λ e. rw e (ne_eqb (b - 48) 0 (omega (arith, eqb-false b 48 e))))

first_digit : (b : ℕ) → 48 ≤ b → is_digit b ≡ true → (x : List ℕ) → more_of (b - 48) x ≡ number_of (b ∷ x)
unfolding number_of every value_after
first_digit b l d [] = simp d
first_digit b l d (c ∷ x) =
    let q : 0 * 10 + (b - 48) ≡ b - 48 = omega arith in
    rw (same_zero b l) (simp (d, q))

module _ (text : List ℕ) (at : ℕ) (in_text : at ≤ length text) where
  pub number_none : digit_seen (seen_at text at) ≡ rust.None → {r : Malformed} → r.goes_on ≡ not (is_line_feed (seen_at text at))
      → ReadNumber text at (Err r) (after_look text at)
  unfolding number_of
  number_none none_seen {r} is =
      let b = get_or text at NONE in
      let there = is ∙ ap not (seen_any is_line_feed refl text at) in
      ways (eqb b line_feed)
      (λ q. answers_empty held number_of text at in_text false (eqb-true b line_feed q) refl (shown (there ∙ simp q))) (λ q.
      ways (eqb b tab)
      (λ e. answers_empty held number_of text at in_text true (eqb-true b tab e) refl (shown (there ∙ simp q)))
      (λ e. answers_bad held number_of text at in_text (eqb-false b tab e) (eqb-false b line_feed q)
      (first_other b (seen_other text at none_seen)) (shown (there ∙ simp q))))
    where
      shown : {more : Bool} → r.goes_on ≡ more → ◌≡◌ {A = Result (Field Number) Malformed} (Err r) (malformed more)
      shown e = ap (λ (m : Bool). Err (record { goes_on = m })) e

  pub number_digit : {d : ℕ} → digit_seen (seen_at text at) ≡ rust.Some d → {r : Result (Field Number) Malformed} {n : ℕ}
      → MoreDigits d text (after_look text at) r n → ReadNumber text at r n
  number_digit seen so =
      let digit = seen_digit text at seen in
      answers_on held number_of text at in_text (omega (arith, digit.low)) (omega (arith, digit.low)) digit.here
      (more_of (get_or text at NONE - 48)) (first_digit (get_or text at NONE) digit.low digit.is)
      (rw (digit.value, look_within text at digit.here) at so)
