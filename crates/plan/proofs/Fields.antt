-- The readers of a plan's own fields, byte by byte, find what the definition says of the field.
use Rattle.std.specs.Prelude.{◌≡◌, ℕ, suc, ◌+◌, ◌<◌, ◌≤◌, Bool, true, false, cond, not, ◌&&◌, ◌⊎◌, eqb, leb, ◌≢◌, Result, Ok, Err, List, [], ◌∷◌, length, get_or, drop, refl}
use Rattle.std.specs.Prelude as rust
use Rattle.std.proofs.Common.{sym, ap, ◌∙◌, subst, ⊎_elim, add-zero, zero-add, arith, eqb-true, le-ltb, le-leb, inl, inr}
use Rattle.std.proofs.lemmas.Bool.{eqb-false, lt-leb}
use Rattle.std.proofs.Math.Option.{Option, none, some, map}
use mathlib.Core.Path.{fun_ext}
use Rattle.runs.specs.Every.{every}
use Rattle.runs.specs.Update.{order, clash}
use Rattle.runs.specs.Tests.{ways}
use Rattle.text.specs.declared.read.Field.{Field}
use Rattle.text.specs.declared.read.Malformed.{Malformed}
use Rattle.text.specs.declared.read.Number.{Number}
use Rattle.text.specs.Text.{tab, line_feed, within, number_of}
use Rattle.text.specs.LineEnds.{NONE, after_look, seen_at, is_line_feed}
use Rattle.text.specs.Fields.{Cut, endless, cut, field_of, Unsaid, as_field, malformed, ended, Answers, said, unsaid, ReadNumber}
use Rattle.text.proofs.LineEnds.{look_within}
use Rattle.text.proofs.FieldLaws.{byte_within, answers_end, answers_empty, answers_on, answers_bad}
use Rattle.text.proofs.Reading.{seen_any}
use Rattle.plan.specs.declared.access.Access.{Access}
use Rattle.plan.specs.Line.{'r', 'w', is_label_byte, access, access_of}
use Rattle.plan.specs.PassFields.{is_label_seen, label_size, ReadLabel, writes_seen, held_access, ReadAccess}

-- the byte that shows it
shown : {A : Type 0} {m : Malformed} {more : Bool} → m.goes_on ≡ more → ◌≡◌ {A = Result (Field A) Malformed} (Err m) (malformed more)
shown e = ap (λ (more : Bool). Err (record { goes_on = more })) e

-- ---- labels

-- the length of a label of which n bytes stand before
abbrev pub late_size : ℕ → List ℕ → Option ℕ
late_size n x = cond (within 1 16 (n + length x) && every is_label_byte x) (some (n + length x)) none

-- the answer for the field at a place, of which n bytes stand before
abbrev pub LateLabel : ℕ → List ℕ → ℕ → Result (Field ℕ) Malformed → ℕ → Type 0
LateLabel n = Answers (λ k. k) (late_size n)

late_whole : (x : List ℕ) → late_size 0 x ≡ label_size x
late_whole x = rw (zero-add (length x))

pub label_whole : (text : List ℕ) (at : ℕ) {r : Result (Field ℕ) Malformed} {k : ℕ} → LateLabel 0 text at r k → ReadLabel text at r k
label_whole text at {r} {k} so = subst (λ (says : List ℕ → Option ℕ). Answers (λ k. k) says text at r k) (fun_ext late_whole) so

late_more : (n b : ℕ) → is_label_byte b ≡ true → (x : List ℕ) → late_size (n + 1) x ≡ late_size n (b ∷ x)
unfolding every
late_more n b is x =
    let q : n + 1 + length x ≡ n + suc (length x) = omega arith in
    simp (q, is)

late_never : (n b : ℕ) → is_label_byte b ≡ false → (x : List ℕ) → late_size n (b ∷ x) ≡ none
unfolding every
late_never n b other x = ways (within 1 16 (n + suc (length x))) (λ e. simp (e, other)) (λ e. simp (e, other))

late_empty : (n : ℕ) → within 1 16 n ≡ true → late_size n [] ≡ some n
unfolding every
late_empty n w = rw (add-zero n) (simp w)

late_no : (n : ℕ) → within 1 16 n ≡ false → late_size n [] ≡ none
unfolding every
late_no n w = rw (add-zero n) (simp w)

pub size_fits : (n : ℕ) → 1 ≤ n → n ≤ 16 → within 1 16 n ≡ true
size_fits n l h = simp (le-leb 1 n l, le-leb n 16 h)

pub size_unfit : (n : ℕ) → (n < 1) ⊎ ((1 ≤ n) × (16 < n)) → within 1 16 n ≡ false
size_unfit n (inl l) = simp (lt-leb 1 n l)
size_unfit n (inr (l, h)) = simp (le-leb 1 n l, lt-leb n 16 h)

no_tab : (b : ℕ) → is_label_byte b ≡ true → b ≢ tab
no_tab b is e = let no : true ≡ false = sym (rw e at is) in clash (cc)

no_feed : (b : ℕ) → is_label_byte b ≡ true → b ≢ line_feed
no_feed b is e = let no : true ≡ false = sym (rw e at is) in clash (cc)

-- it stands in the text
pub label_here : (text : List ℕ) (at : ℕ) → is_label_seen (seen_at text at) ≡ true → at < length text
label_here text at seen =
    ⊎_elim (λ (w : at < length text). w)
    (λ (w : length text ≤ at). (let no : false ≡ true = rw (le-ltb at (length text) w) at seen in clash (cc)))
    (order at (length text))

module _ (n : ℕ) (text : List ℕ) (at : ℕ) (in_text : at ≤ length text) where
  -- the label ends here
  pub label_end : is_label_seen (seen_at text at) ≡ false → within 1 16 n ≡ true → {r : Result (Field ℕ) Malformed}
      → r ≡ ended n (seen_at text at) → LateLabel n text at r (after_look text at)
  label_end other fits is =
      let b = get_or text at NONE in
      let there = is ∙ seen_any (ended n) refl text at in
      ways (eqb b tab)
      (λ e. answers_end (λ k. k) (late_size n) text at in_text true (eqb-true b tab e) n (late_empty n fits) (there ∙ simp e)) (λ e.
      ways (eqb b line_feed)
      (λ q. answers_end (λ k. k) (late_size n) text at in_text false (eqb-true b line_feed q) n (late_empty n fits) (there ∙ simp (e, q)))
      (λ q. answers_bad (λ k. k) (late_size n) text at in_text (eqb-false b tab e) (eqb-false b line_feed q)
      (late_never n b (sym (seen_any is_label_seen refl text at) ∙ other)) (there ∙ simp (e, q))))

  -- but it is none of that length
  pub label_bad : is_label_seen (seen_at text at) ≡ false → within 1 16 n ≡ false → {m : Malformed}
      → m.goes_on ≡ not (is_line_feed (seen_at text at)) → LateLabel n text at (Err m) (after_look text at)
  label_bad other unfit is =
      let b = get_or text at NONE in
      let there = is ∙ ap not (seen_any is_line_feed refl text at) in
      ways (eqb b line_feed)
      (λ q. answers_empty (λ k. k) (late_size n) text at in_text false (eqb-true b line_feed q) (late_no n unfit) (shown (there ∙ simp q))) (λ q.
      ways (eqb b tab)
      (λ e. answers_empty (λ k. k) (late_size n) text at in_text true (eqb-true b tab e) (late_no n unfit) (shown (there ∙ simp q)))
      (λ e. answers_bad (λ k. k) (late_size n) text at in_text (eqb-false b tab e) (eqb-false b line_feed q)
      (late_never n b (sym (seen_any is_label_seen refl text at) ∙ other)) (shown (there ∙ simp q))))

  -- it goes on
  pub label_on : is_label_seen (seen_at text at) ≡ true → {r : Result (Field ℕ) Malformed} {k : ℕ}
      → LateLabel (n + 1) text (after_look text at) r k → LateLabel n text at r k
  label_on seen so =
      let is : is_label_byte (get_or text at NONE) ≡ true = sym (seen_any is_label_seen refl text at) ∙ seen in
      let here = label_here text at seen in
      answers_on (λ k. k) (late_size n) text at in_text (no_tab (get_or text at NONE) is) (no_feed (get_or text at NONE) is) here
      (late_size (n + 1)) (late_more n (get_or text at NONE) is) (rw (look_within text at here) at so)

-- ---- accesses

-- the answer for a number, as that for an access to this address
abbrev pub addressed : Bool → Result (Field Number) Malformed → Result (Field Access) Malformed
addressed writes (Ok f) = as_field (record { writes = writes; address = f.value.value }) f.more
addressed writes (Err m) = Err m

module _ (text : List ℕ) (at : ℕ) where
  -- the number at a place, as the address of an access
  address_of : (writes : Bool) {m : Result (Field Number) Malformed} {n : ℕ} → ReadNumber text at m n
      → Answers held_access (λ x. map (access writes) (number_of x)) text at (addressed writes m) n
  address_of writes (said x v more rest e s q i) = said x (access writes v) more rest e (rw s refl) q (rw i refl)
  address_of writes (unsaid more u reach i) = unsaid more (no_address (field_of (drop at text)) u) reach (rw i refl)
    where
      no_address : (k : Cut) → Unsaid number_of k → Unsaid (λ x. map (access writes) (number_of x)) k
      no_address endless u = tt
      no_address (cut x m after) u = rw u refl

-- what the letter is
letter_is : (b : ℕ) (w : Bool) → writes_seen (rust.Some b) ≡ rust.Some w → b ≡ cond w 'w' 'r'
letter_is b true h =
    ways (eqb b 'r') (λ e. let q : rust.Some false ≡ rust.Some true = simp e at h in clash (cc)) (λ n.
    ways (eqb b 'w') (λ e. eqb-true b 'w' e) (λ m. let q : rust.None ≡ rust.Some true = simp (n, m) at h in clash (cc)))
letter_is b false h =
    ways (eqb b 'r') (λ e. eqb-true b 'r' e) (λ n.
    ways (eqb b 'w') (λ e. let q : rust.Some true ≡ rust.Some false = simp (n, e) at h in clash (cc))
    (λ m. let q : rust.None ≡ rust.Some false = simp (n, m) at h in clash (cc)))

no_letter : (b : ℕ) → writes_seen (rust.Some b) ≡ rust.None → (x : List ℕ) → access_of (b ∷ x) ≡ none
unfolding access_of
no_letter b h x =
    ways (eqb b 'r') (λ e. let q : rust.Some false ≡ rust.None = simp e at h in clash (cc)) (λ n.
    ways (eqb b 'w') (λ e. let q : rust.Some true ≡ rust.None = simp (n, e) at h in clash (cc)) (λ m. simp (n, m)))

module _ (text : List ℕ) (at : ℕ) (in_text : at ≤ length text) where
  -- the letter stands before an address
  pub access_letter : {writes : Bool} → writes_seen (seen_at text at) ≡ rust.Some writes
      → {m : Result (Field Number) Malformed} {n : ℕ} → ReadNumber text (after_look text at) m n
      → ReadAccess text at (addressed writes m) n
  unfolding access_of
  access_letter {writes} seen so =
      let e = letter_is (get_or text at NONE) writes (sym (seen_any writes_seen refl text at) ∙ seen) in
      let here = byte_within text at (in_byte writes e) in
      answers_on held_access access_of text at in_text (off_tab writes e) (off_feed writes e) here
      (λ x. map (access writes) (number_of x)) (λ x. says writes e x) (address_of text (at + 1) writes (rw (look_within text at here) at so))
    where
      off_tab : (w : Bool) → get_or text at NONE ≡ cond w 'w' 'r' → get_or text at NONE ≢ tab
      off_tab true e = omega arith
      off_tab false e = omega arith

      off_feed : (w : Bool) → get_or text at NONE ≡ cond w 'w' 'r' → get_or text at NONE ≢ line_feed
      off_feed true e = omega arith
      off_feed false e = omega arith

      in_byte : (w : Bool) → get_or text at NONE ≡ cond w 'w' 'r' → get_or text at NONE < NONE
      in_byte true e = omega arith
      in_byte false e = omega arith

      says : (w : Bool) → get_or text at NONE ≡ cond w 'w' 'r' → (x : List ℕ)
          → map (access w) (number_of x) ≡ access_of (get_or text at NONE ∷ x)
      says true e x = rw e refl
      says false e x = rw e refl

  pub access_other : writes_seen (seen_at text at) ≡ rust.None → {m : Malformed}
      → m.goes_on ≡ not (is_line_feed (seen_at text at)) → ReadAccess text at (Err m) (after_look text at)
  unfolding access_of
  access_other none_seen is =
      let b = get_or text at NONE in
      let there = is ∙ ap not (seen_any is_line_feed refl text at) in
      ways (eqb b line_feed)
      (λ q. answers_empty held_access access_of text at in_text false (eqb-true b line_feed q) refl (shown (there ∙ simp q))) (λ q.
      ways (eqb b tab)
      (λ e. answers_empty held_access access_of text at in_text true (eqb-true b tab e) refl (shown (there ∙ simp q)))
      (λ e. answers_bad held_access access_of text at in_text (eqb-false b tab e) (eqb-false b line_feed q)
      (no_letter b (sym (seen_any writes_seen refl text at) ∙ none_seen)) (shown (there ∙ simp q))))
