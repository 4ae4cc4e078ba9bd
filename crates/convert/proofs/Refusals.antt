-- When exactly the converters give the refusals 6, 8 and 10.
use Rattle.std.specs.Prelude as rust
use Rattle.std.specs.Prelude.{ℕ, Ok, Err, ◌+◌, ◌≤◌, ◌<◌, ◌≡◌, refl, true, false, List, ◌⊎◌, ◌↔◌, length}
use Rattle.std.proofs.Common.{sym, ◌∙◌, inl, inr, ⊎_elim, arith, ltb-true, eq-eqb}
use Rattle.std.proofs.Math.Path.{ap}
use Rattle.refusals.specs.declared.Refusal.{Refusal}
use Rattle.refusals.specs.declared.Refusal.TheVariants.{TextTooLong, OutputTooShort, TooFewSlots, OtherSizes, EmptyMask}
use Rattle.refusals.specs.declared.Refused.{Refused}
use Rattle.refusals.specs.Number.{number}
use Rattle.runs.specs.Tests.{ways}
use Rattle.runs.specs.Update.{order, clash}
use Rattle.plan.specs.declared.form.Form.{Form}
use Rattle.plan.specs.declared.form.Form.TheVariants.{First, Second}
use Rattle.plan.specs.Plan.{slots_of, capacity_of, Plan}
use Rattle.plan.specs.Reading.{Reading, accepted, refused, is_too_long, reading}
use Rattle.plan.specs.Lengths.{reading_long}
use Rattle.plan.proofs.Accepted.{accepted_length}
use Rattle.plan.specs.Refused.{ByAuthor}
use Rattle.plan.proofs.Refused.{refused_by}
use Rattle.reader.specs.Verdict.{refused_at}
use Rattle.tools.specs.Result.{Result, result, refusal, of_plan, plan_text, Outcome, written}
use Rattle.tools.specs.Written.{text_long, written_short, written_whole}
use Rattle.convert.specs.Convert.{rewritten, spelled_out, has_first_sizes, in_second, in_first, to_second, to_first}
use Rattle.convert.proofs.Reread.{own_line}
use Rattle.convert.proofs.Moved.{second_is, are_first, first_sizes, second_stays, spelled_length, unspelled_length}

-- ---- where a refusal comes from

-- a plan's text is refused where it is too long, and only with 6
text_refusal : (bs : List ℕ) (r : Refusal) (n : ℕ) → plan_text bs ≡ refusal r n → (r ≡ TextTooLong) × (n ≡ 0) × (65536 < length bs)
text_refusal bs r n e = ways (is_too_long bs) (λ l. (cc, cc, ltb-true 65536 (length bs) l)) (λ l. clash (cc))

-- a refusal is the reader's, or is made of a plan
made : {C : Type 0} (make : Plan → Result) (x : Reading) (r : Refusal) (n : ℕ) → of_plan make x ≡ refusal r n
    → (x ≡ refused r n → C) → ((p : Plan) → x ≡ accepted p → make p ≡ refusal r n → C) → C
made make (accepted p) r n e read of = of p refl e
made make (refused why k) r n e read of = read (let same : why ≡ r = cc in let line : k ≡ n = cc in rw (same, line))

by_author : {C : Type 0} (r : Refusal) → ByAuthor r → (number r ≤ 5 → C) → (r ≡ TooFewSlots → C) → (r ≡ EmptyMask → C) → C
by_author r h low few empty = ⊎_elim low (⊎_elim few empty) h

-- the reader gives 6 for a text that is too long
read_6 : (text : List ℕ) (n : ℕ) → reading text ≡ refused TextTooLong n → (n ≡ 0) × (65536 < length text)
read_6 text n e =
    ⊎_elim (λ (h : (TextTooLong ≡ TextTooLong) × (n ≡ 0) × (65536 < length text)). (h.1, h.2))
    (λ (h : ByAuthor TextTooLong × (1 ≤ n)).
    by_author TextTooLong h.0 (λ l. absurd (omega arith)) (λ q. clash (cc)) (λ q. clash (cc)))
    (refused_by text TextTooLong n e)

-- and neither 8 nor 10
unread : (text : List ℕ) (r : Refusal) (n : ℕ) → 6 < number r → (r ≡ TooFewSlots → ⊥) → (r ≡ EmptyMask → ⊥) → reading text ≡ refused r n
    → ⊥
unread text r n high other empty e =
    ⊎_elim (λ (h : (r ≡ TextTooLong) × (n ≡ 0) × (65536 < length text)). absurd (omega (arith, ap number h.0)))
    (λ (h : ByAuthor r × (1 ≤ n)). by_author r h.0 (λ l. absurd (omega arith)) other empty)
    (refused_by text r n e)

unread_8 : (text : List ℕ) (n : ℕ) → reading text ≡ refused OutputTooShort n → ⊥
unread_8 text n = unread text OutputTooShort n (omega arith) (λ is. clash (cc)) (λ is. clash (cc))

unread_10 : (text : List ℕ) (n : ℕ) → reading text ≡ refused OtherSizes n → ⊥
unread_10 text n = unread text OtherSizes n (omega arith) (λ is. clash (cc)) (λ is. clash (cc))

-- ---- what is refused of a plan

module _ (text : List ℕ) (p : Plan) (e : reading text ≡ accepted p) where
  -- spelled out it may be too long
  second_long : (r : Refusal) (n : ℕ) → in_second text p ≡ refusal r n
      → (r ≡ TextTooLong) × (n ≡ 0) × (p.form ≡ First) × (65536 < length text + 5)
  second_long r n q = go p.form refl
    where
      go : (form : Form) → p.form ≡ form → (r ≡ TextTooLong) × (n ≡ 0) × (p.form ≡ First) × (65536 < length text + 5)
      go First own =
          let (is, line, long) = text_refusal (rewritten (Second 64 8) p text) r n (rw (ap spelled_out own) at q) in
          (is, line, own, omega (arith, spelled_length text p e own))
      go (Second slots capacity) own =
          let is : in_second text p ≡ result text = sym (second_is text p e) ∙ second_stays text p e slots capacity own in clash (cc)

  -- the first form is never too long
  first_fits : has_first_sizes p.form ≡ true → length (rewritten First p text) ≤ 65536
  first_fits sizes = go p.form refl
    where
      go : (form : Form) → p.form ≡ form → length (rewritten First p text) ≤ 65536
      go First own = omega (arith, accepted_length text p e, ap length (rw own at (own_line text p e)))
      go (Second slots capacity) own =
          omega (arith, accepted_length text p e, unspelled_length text p e (own ∙ first_sizes slots capacity (rw own at sizes)))

  -- but there is none for other sizes
  first_other : (r : Refusal) (n : ℕ) → in_first text p ≡ refusal r n → (r ≡ OtherSizes) × (n ≡ 1) × (has_first_sizes p.form ≡ false)
  first_other r n q =
      ways (has_first_sizes p.form)
      (λ sizes.
      let (is, line, long) = text_refusal (rewritten First p text) r n (rw sizes at q) in
      absurd (omega (arith, first_fits sizes)))
      (λ sizes. (cc, cc, sizes))

-- ---- and of any text

module _ (text : List ℕ) where
  second_refused : {C : Type 0} (r : Refusal) (n : ℕ) → to_second text ≡ refusal r n → (reading text ≡ refused r n → C)
      → ((p : Plan) → reading text ≡ accepted p → (r ≡ TextTooLong) × (n ≡ 0) × (p.form ≡ First) × (65536 < length text + 5) → C) → C
  unfolding to_second
  second_refused r n q read of = made (in_second text) (reading text) r n q read (λ p e h. of p e (second_long text p e r n h))

  first_refused : {C : Type 0} (r : Refusal) (n : ℕ) → to_first text ≡ refusal r n → (reading text ≡ refused r n → C)
      → ((p : Plan) → reading text ≡ accepted p → (r ≡ OtherSizes) × (n ≡ 1) × (has_first_sizes p.form ≡ false) → C) → C
  unfolding to_first
  first_refused r n q read of = made (in_first text) (reading text) r n q read (λ p e h. of p e (first_other text p e r n h))

  second_unread : 65536 < length text → to_second text ≡ refusal TextTooLong 0
  unfolding to_second
  second_unread l = ap (of_plan (in_second text)) (reading_long text l)

  first_unread : 65536 < length text → to_first text ≡ refusal TextTooLong 0
  unfolding to_first
  first_unread l = ap (of_plan (in_first text)) (reading_long text l)

  first_apart : (p : Plan) → reading text ≡ accepted p → has_first_sizes p.form ≡ false → to_first text ≡ refusal OtherSizes 1
  unfolding to_first
  first_apart p e sizes = ap (of_plan (in_first text)) e ∙ simp sizes

not_both : (form : Form) → has_first_sizes form ≡ false → (slots_of form ≡ 64) × (capacity_of form ≡ 8) → ⊥
not_both form apart (slots, capacity) =
    let is : has_first_sizes form ≡ true = simp (eq-eqb (slots_of form) 64 slots, eq-eqb (capacity_of form) 8 capacity) in clash (cc)

apart : (form : Form) → ((slots_of form ≡ 64) × (capacity_of form ≡ 8) → ⊥) → has_first_sizes form ≡ false
apart form other = ways (has_first_sizes form) (λ e. absurd (other (are_first form e))) (λ e. e)

module _ (text : List ℕ) (n : ℕ) where
  -- ---- 6, line 0: the text is too long, or it is once its sizes are spelled out

  pub second_6 : (to_second text ≡ refusal TextTooLong n)
      ↔ ((n ≡ 0) × ((65536 < length text) ⊎ ((p : Plan) × (reading text ≡ accepted p) × (p.form ≡ First) × (65536 < length text + 5))))
  second_6 = (
    λ q. second_refused text TextTooLong n q (λ e. let (line, long) = read_6 text n e in (line, inl long))
        (λ p e h. (h.1, inr (p, e, h.2, h.3))),
    λ (line, why). ⊎_elim (λ (long : 65536 < length text). second_unread text long ∙ rw line)
        (λ (h : (p : Plan) × (reading text ≡ accepted p) × (p.form ≡ First) × (65536 < length text + 5)).
        let (p, e, own, long) = h in
        second_is text p e ∙ rw (ap spelled_out own)
        (text_long (rewritten (Second 64 8) p text) (omega (arith, spelled_length text p e own)) ∙ rw line))
        why,
  )

  -- the way back makes no text longer: only the reader gives 6
  pub first_6 : (to_first text ≡ refusal TextTooLong n) ↔ ((n ≡ 0) × (65536 < length text))
  first_6 = (
    λ q. first_refused text TextTooLong n q (read_6 text n) (λ p e h. clash (cc h.0)),
    λ (line, long). first_unread text long ∙ rw line,
  )

  -- ---- 10, line 1: by the way back, of a plan that is read, where the slots and the capacity are not 64 and 8

  pub first_10 : (to_first text ≡ refusal OtherSizes n)
      ↔ ((n ≡ 1) × ((p : Plan) × (reading text ≡ accepted p) × (((slots_of p.form ≡ 64) × (capacity_of p.form ≡ 8)) → ⊥)))
  first_10 = (
    λ q. first_refused text OtherSizes n q (λ e. absurd (unread_10 text n e))
        (λ p e h. (h.1, (p, e, not_both p.form h.2))),
    λ (line, why). let (p, e, other) = why in first_apart text p e (apart p.form other) ∙ rw line,
  )

  -- and by no other way
  pub second_no_10 : to_second text ≡ refusal OtherSizes n → ⊥
  second_no_10 q = second_refused text OtherSizes n q (unread_10 text n) (λ p e h. clash (cc h.0))

-- ---- 8, line 0, last: there is a result, and the output is shorter

-- one answer has one refusal
same_refused : {f g : Refused} (a : rust.Result ℕ Refused) → a ≡ Err f → a ≡ Err g → f ≡ g
same_refused {f} {g} a e h = let same : Err f ≡ Err g = sym e ∙ h in cc

short_8 : (x : Result) → ((k : ℕ) → x ≡ refusal OutputTooShort k → ⊥) → (output : List ℕ) (n : ℕ)
    → ((written output x).answer ≡ refused_at OutputTooShort n)
    ↔ ((n ≡ 0) × ((moved : List ℕ) × (x ≡ result moved) × (length output < length moved)))
unfolding written
short_8 (refusal r k) never output n = (
  λ q. absurd (never k (ap (λ f. refusal f.refusal k) (same_refused _ refl q))),
  λ (line, (moved, is, short)). clash (cc),
)
short_8 (result bs) never output n = (
  λ q. ⊎_elim
      (λ (l : length output < length bs).
      let at_0 = ap (λ (o : Outcome). o.answer) (written_short output bs l) in
      (ap (λ f. f.line) (same_refused _ q at_0), (bs, refl, l)))
      (λ (l : length bs ≤ length output).
      let whole : refused_at OutputTooShort n ≡ Ok (length bs) = sym q ∙ ap (λ (o : Outcome). o.answer) (written_whole output bs l) in
      clash (cc))
      (order (length output) (length bs)),
  λ (line, (moved, is, short)).
      let same : bs ≡ moved = cc in
      ap (λ (o : Outcome). o.answer) (written_short output bs (rw same short)) ∙ rw line,
)

module _ (output text : List ℕ) (n : ℕ) where
  pub second_8 : ((written output (to_second text)).answer ≡ refused_at OutputTooShort n)
      ↔ ((n ≡ 0) × ((moved : List ℕ) × (to_second text ≡ result moved) × (length output < length moved)))
  second_8 =
      short_8 (to_second text) (λ k q. second_refused text OutputTooShort k q (unread_8 text k) (λ p e h. clash (cc h.0))) output n

  pub first_8 : ((written output (to_first text)).answer ≡ refused_at OutputTooShort n)
      ↔ ((n ≡ 0) × ((moved : List ℕ) × (to_first text ≡ result moved) × (length output < length moved)))
  first_8 =
      short_8 (to_first text) (λ k q. first_refused text OutputTooShort k q (unread_8 text k) (λ p e h. clash (cc h.0))) output n
