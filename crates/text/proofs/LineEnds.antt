-- Where the lines of a text end, and how far a reading has come in one.
use Rattle.std.specs.Prelude.{ℕ, zero, suc, ◌+◌, ◌≤◌, ◌<◌, ◌≡◌, Bool, true, false, not, Some, None, List, [], ◌∷◌, ◌++◌, map, ◌≢◌, eqb, length, drop, get_or}
use Rattle.std.proofs.Math.Path.{refl}
use Rattle.std.proofs.Common.{sym, ap, ◌∙◌, ⊎_elim, arith, drop_of_length-le, ne_eqb, lt-ltb, le-ltb, eqb-true}
use Rattle.std.proofs.Math.ListN.{get_or-eq_default}
use Rattle.std.proofs.lemmas.Bool.{eqb-false}
use Rattle.runs.specs.Update.{order, clash}
use Rattle.runs.specs.Tests.{ways}
use Rattle.runs.specs.Stores.{drop_from}
use Rattle.text.specs.Text.{bytes, line_feed}
use Rattle.text.specs.LineEnds.{lines_size, line_end, NONE, after_look, seen_at, Reaches}

-- ---- the end of a line, by a byte

module _ (text : List ℕ) (at : ℕ) where
  pub end_feed : at < length text → get_or text at NONE ≡ line_feed → line_end text at ≡ at + 1
  unfolding lines_size
  end_feed h e = rw (drop_from text at NONE h, e) refl

  pub end_on : at < length text → get_or text at NONE ≢ line_feed → line_end text (at + 1) ≡ line_end text at
  unfolding lines_size
  end_on h e = rw (drop_from text at NONE h) (simp (ne_eqb (get_or text at NONE) line_feed e) (omega arith))

  pub end_past : length text ≤ at → line_end text at ≡ at
  unfolding lines_size
  end_past h = rw (drop_of_length-le text h) (omega arith)

  pub look_within : at < length text → after_look text at ≡ at + 1
  look_within h = simp (lt-ltb at (length text) h)

  pub look_past : length text ≤ at → after_look text at ≡ at
  look_past h = simp (le-ltb at (length text) h)

-- ---- how far a reading has come

pub reaches_none : (text : List ℕ) (at : ℕ) → at ≤ length text → Reaches text at true at
reaches_none text at h = record { on = omega arith; within = h; line = refl }

pub reaches_on : {text : List ℕ} {at next after : ℕ} {more : Bool} → Reaches text at true next → Reaches text next more after
    → Reaches text at more after
reaches_on so then = record { on = omega (arith, so.on, then.on); within = then.within; line = then.line ∙ so.line }

module _ (text : List ℕ) (at : ℕ) (in_text : at ≤ length text) where
  -- a look at a line feed
  pub reaches_feed : get_or text at NONE ≡ line_feed → Reaches text at false (after_look text at)
  reaches_feed e =
      ⊎_elim
      (λ (here : at < length text). rw (look_within text at here)
      (record { on = omega arith; within = omega arith; line = sym (end_feed text at here e) }))
      (λ (past : length text ≤ at). absurd (omega (arith, get_or-eq_default text NONE past)))
      (order at (length text))

  -- and at anything else, or past the end
  pub reaches_other : get_or text at NONE ≢ line_feed → Reaches text at true (after_look text at)
  reaches_other e =
      ⊎_elim
      (λ (here : at < length text). rw (look_within text at here)
      (record { on = omega arith; within = omega arith; line = end_on text at here e }))
      (λ (past : length text ≤ at). rw (look_past text at past) (reaches_none text at in_text))
      (order at (length text))

  -- so the line goes on after a look exactly where no line feed was seen
  pub reaches_look : Reaches text at (not (eqb (get_or text at NONE) line_feed)) (after_look text at)
  reaches_look =
      let b = get_or text at NONE in
      ways (eqb b line_feed) (λ e. rw e (reaches_feed (eqb-true b line_feed e))) (λ e. rw e (reaches_other (eqb-false b line_feed e)))

-- ---- what a look sees

module _ (text : List ℕ) (at : ℕ) where
  pub seen_byte : {b : ℕ} → seen_at text at ≡ Some b → (at < length text) × (get_or text at NONE ≡ b)
  seen_byte {b} e =
      ⊎_elim
      (λ (here : at < length text). let is : Some (get_or text at NONE) ≡ Some b = simp (lt-ltb at (length text) here) at e in (here, cc))
      (λ (past : length text ≤ at). let no : None ≡ Some b = simp (le-ltb at (length text) past) at e in clash (cc))
      (order at (length text))

  pub seen_none : seen_at text at ≡ None → length text ≤ at
  seen_none e =
      ⊎_elim
      (λ (here : at < length text).
      let no : Some (get_or text at NONE) ≡ None = simp (lt-ltb at (length text) here) at e in clash (cc))
      (λ (past : length text ≤ at). past)
      (order at (length text))

-- ---- lines one after the other

-- the bytes of m lines, and of those after them
pub lines_more : (m n : ℕ) (text : List ℕ) → lines_size (m + n) text ≡ lines_size m text + lines_size n (drop (lines_size m text) text)
unfolding lines_size
lines_more zero n text = let q : 0 + n ≡ n = omega arith in rw q (omega arith)
lines_more (suc m) zero [] = let q : suc m + 0 ≡ suc m = omega arith in rw q refl
lines_more (suc m) (suc n) [] = let q : suc m + suc n ≡ suc (m + suc n) = omega arith in rw q refl
lines_more (suc m) n (b ∷ bs) =
    let q : suc m + n ≡ suc (m + n) = omega arith in
    rw q (ways (eqb b line_feed)
    (λ e. simp e (ap suc (lines_more m n bs) ∙ omega arith))
    (λ e. simp e (ap suc (rw q at (lines_more (suc m) n bs)) ∙ omega arith)))

-- they are the text's
pub lines_within : (n : ℕ) (text : List ℕ) → lines_size n text ≤ length text
unfolding lines_size
lines_within zero text = omega arith
lines_within (suc n) [] = omega arith
lines_within (suc n) (b ∷ bs) =
    ways (eqb b line_feed) (λ e. simp e (omega (arith, lines_within n bs))) (λ e. simp e (omega (arith, lines_within (suc n) bs)))

-- computed: no line, one, two, all of three lines, of which the second is empty and the last has no line feed, and more than there are
pub lines_counted : map (λ n. lines_size n (bytes "ab" ++ line_feed ∷ line_feed ∷ bytes "cde")) (0 ∷ 1 ∷ 2 ∷ 3 ∷ 4 ∷ []) ≡ 0 ∷ 3 ∷ 4 ∷ 7 ∷ 7 ∷ []
unfolding lines_size bytes
lines_counted = refl
