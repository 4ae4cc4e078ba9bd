-- What moving a plan's text to the other form promises.
use Rattle.std.specs.Prelude.{ℕ, ◌+◌, ◌≤◌, ◌≡◌, refl, true, List, ◌++◌, eqb, length}
use Rattle.std.proofs.Common.{sym, ◌∙◌, arith, length-append, eqb-true, le-leb, ltb-false}
use Rattle.std.proofs.Math.Path.{ap}
use Rattle.refusals.specs.declared.Refusal.TheVariants.{OtherSizes}
use Rattle.runs.specs.Tests.{ways, both_left, both_right}
use Rattle.runs.specs.Update.{clash}
use Rattle.text.specs.Text.{bytes, decimal, line}
use Rattle.text.specs.Decimals.{length_low, length_more}
use Rattle.text.specs.Lines.{length_2, length_4}
use Rattle.plan.specs.declared.form.Form.{Form}
use Rattle.plan.specs.declared.form.Form.TheVariants.{First, Second}
use Rattle.plan.specs.Plan.{slots_of, capacity_of, Plan}
use Rattle.plan.specs.Line.{sizes_in_range}
use Rattle.plan.specs.Reading.{Reading, accepted, refused, is_too_long, reading}
use Rattle.plan.specs.Accepted.{WellFormed}
use Rattle.plan.proofs.Accepted.{accepted_well_formed, accepted_length}
use Rattle.tools.specs.Result.{Result, result, refusal, of_plan, plan_text}
use Rattle.tools.specs.Written.{text_whole}
use Rattle.convert.specs.Convert.{after_line, workers_fields, rewritten, spelled_out, has_first_sizes}
use Rattle.convert.specs.Convert.{in_second, in_first, to_second, to_first}
use Rattle.convert.specs.Reread.{with_form}
use Rattle.convert.proofs.Reread.{own_line, reread, after_rewritten}

-- ---- a plan's text as a result

result_text : (bs moved : List ℕ) → plan_text bs ≡ result moved → (moved ≡ bs) × (length moved ≤ 65536)
result_text bs moved e =
    ways (is_too_long bs) (λ l. clash (cc))
    (λ l. let same : moved ≡ bs = cc in (same, rw same (ltb-false 65536 (length bs) l)))

-- a result is made of a plan
result_plan : (make : Plan → Result) (r : Reading) (moved : List ℕ) → of_plan make r ≡ result moved
    → (p : Plan) × (r ≡ accepted p) × (make p ≡ result moved)
result_plan make (accepted p) moved e = (p, refl, e)
result_plan make (refused r n) moved e = clash (cc)

-- ---- forms

spelled_sizes : (p : Plan) → WellFormed p → sizes_in_range (spelled_out p.form) ≡ true
spelled_sizes p f = go p.form f.slots_enough f.slots_few f.capacity_some f.capacity_few
  where
    go : (form : Form) → p.workers ≤ slots_of form → slots_of form ≤ 64 → 1 ≤ capacity_of form → capacity_of form ≤ 16
        → sizes_in_range (spelled_out form) ≡ true
    go First enough few some low = refl
    go (Second slots capacity) enough few some low =
        simp (le-leb 1 slots (omega (arith, f.workers_some)), le-leb slots 64 few, le-leb 1 capacity some, le-leb capacity 16 low)

-- spelled out, a form means the same
pub spelled_alike : (form : Form) → (slots_of (spelled_out form) ≡ slots_of form) × (capacity_of (spelled_out form) ≡ capacity_of form)
spelled_alike First = (refl, refl)
spelled_alike (Second slots capacity) = (refl, refl)

-- the sizes that the first form means
pub are_first : (form : Form) → has_first_sizes form ≡ true → (slots_of form ≡ 64) × (capacity_of form ≡ 8)
are_first form e = (
  eqb-true (slots_of form) 64 (both_left (eqb (slots_of form) 64) (eqb (capacity_of form) 8) e),
  eqb-true (capacity_of form) 8 (both_right (eqb (slots_of form) 64) (eqb (capacity_of form) 8) e),
)

pub first_sizes : (slots capacity : ℕ) → has_first_sizes (Second slots capacity) ≡ true → Second slots capacity ≡ Second 64 8
first_sizes slots capacity e = let (s, c) = are_first (Second slots capacity) e in rw (s, c)

-- they have five bytes
five : (n : ℕ) (rest : List ℕ) → length (line (workers_fields n (Second 64 8)) ++ rest) ≡ length (line (workers_fields n First) ++ rest) + 5
five n rest =
    omega (
      arith,
      length-append (line (workers_fields n (Second 64 8))) rest,
      length-append (line (workers_fields n First)) rest,
      length_4 (bytes "W") (decimal n) (decimal 64) (decimal 8),
      length_2 (bytes "W") (decimal n),
      length_more 64 (omega arith),
      length_low 6 (omega arith),
      length_low 8 (omega arith),
    )

module _ (text : List ℕ) (p : Plan) (e : reading text ≡ accepted p) where
  -- what each way makes of it
  pub second_is : to_second text ≡ plan_text (rewritten (spelled_out p.form) p text)
  unfolding to_second
  second_is = ap (of_plan (in_second text)) e

  first_is : has_first_sizes p.form ≡ true → to_first text ≡ plan_text (rewritten First p text)
  unfolding to_first
  first_is sizes = ap (of_plan (in_first text)) e ∙ simp sizes

  second_result : (moved : List ℕ) → to_second text ≡ result moved
      → (moved ≡ rewritten (spelled_out p.form) p text) × (length moved ≤ 65536)
  second_result moved r = result_text (rewritten (spelled_out p.form) p text) moved (sym second_is ∙ r)

  first_result : (moved : List ℕ) → to_first text ≡ result moved
      → (has_first_sizes p.form ≡ true) × (moved ≡ rewritten First p text) × (length moved ≤ 65536)
  unfolding to_first
  first_result moved r =
      ways (has_first_sizes p.form)
      (λ sizes. let (is, short) = result_text (rewritten First p text) moved (sym (first_is sizes) ∙ r) in (sizes, is, short))
      (λ sizes. let not : to_first text ≡ refusal OtherSizes 1 = ap (of_plan (in_first text)) e ∙ simp sizes in clash (cc))

  -- with the W line of its own form it is unchanged
  text_again : (form : Form) → p.form ≡ form → plan_text (rewritten form p text) ≡ result text
  text_again form own =
      ap (λ (f : Form). plan_text (rewritten f p text)) (sym own) ∙ ap plan_text (own_line text p e)
      ∙ text_whole text (accepted_length text p e)

  -- ---- a plan already in the wanted form comes out unchanged

  pub second_stays : (slots capacity : ℕ) → p.form ≡ Second slots capacity → to_second text ≡ result text
  second_stays slots capacity own =
      second_is ∙ ap (λ (f : Form). plan_text (rewritten (spelled_out f) p text)) own ∙ text_again (Second slots capacity) own

  pub first_stays : p.form ≡ First → to_first text ≡ result text
  first_stays own = first_is (ap has_first_sizes own) ∙ text_again First own

  -- ---- moved, it means the same plan in the other form

  pub second_means : (moved : List ℕ) → to_second text ≡ result moved → reading moved ≡ accepted (with_form (spelled_out p.form) p)
  second_means moved r =
      let (is, short) = second_result moved r in
      let formed = accepted_well_formed text p e in
      ap reading is
      ∙ reread text p e (spelled_out p.form) (spelled_sizes p formed) (omega (arith, (spelled_alike p.form).0, formed.slots_enough))
      (rw is at short)

  pub first_means : (moved : List ℕ) → to_first text ≡ result moved → reading moved ≡ accepted (with_form First p)
  first_means moved r =
      let (sizes, is, short) = first_result moved r in
      ap reading is ∙ reread text p e First refl (omega (arith, (accepted_well_formed text p e).workers_few)) (rw is at short)

  -- what is taken back had the sizes that the first form means
  pub first_had : (moved : List ℕ) → to_first text ≡ result moved → (slots_of p.form ≡ 64) × (capacity_of p.form ≡ 8)
  first_had moved r = are_first p.form (first_result moved r).0

  -- with its own W line put back into a text that has another one
  again : (own other : Form) → p.form ≡ own → (moved : List ℕ) → moved ≡ rewritten other p text
      → plan_text (rewritten own (with_form other p) moved) ≡ result text
  again own other is moved so =
      ap (λ (rest : List ℕ). plan_text (line (workers_fields p.workers own) ++ rest)) (ap after_line so ∙ after_rewritten text p e other)
      ∙ text_again own is

-- ---- moved and moved back it is the old bytes, and moved back and moved again likewise

module _ (text : List ℕ) (p : Plan) (e : reading text ≡ accepted p) where
  pub there_and_back : p.form ≡ First → (moved : List ℕ) → to_second text ≡ result moved → to_first moved ≡ result text
  there_and_back own moved r =
      let spelled : spelled_out p.form ≡ Second 64 8 = ap spelled_out own in
      let means : reading moved ≡ accepted (with_form (Second 64 8) p) = rw spelled at (second_means text p e moved r) in
      first_is moved (with_form (Second 64 8) p) means refl
      ∙ again text p e First (Second 64 8) own moved (rw spelled at (second_result text p e moved r).0)

  pub back_and_there : (slots capacity : ℕ) → p.form ≡ Second slots capacity → (moved : List ℕ) → to_first text ≡ result moved
      → to_second moved ≡ result text
  back_and_there slots capacity own moved r =
      let (sizes, is, short) = first_result text p e moved r in
      second_is moved (with_form First p) (first_means text p e moved r)
      ∙ again text p e (Second 64 8) First (own ∙ first_sizes slots capacity (rw own at sizes)) moved is

  -- ---- what is spelled out has five bytes

  pub spelled_length : p.form ≡ First → length (rewritten (Second 64 8) p text) ≡ length text + 5
  spelled_length own =
      let before : rewritten First p text ≡ text = rw own at (own_line text p e) in
      five p.workers (after_line text) ∙ ap (λ (t : List ℕ). length t + 5) before

  pub unspelled_length : p.form ≡ Second 64 8 → length (rewritten First p text) + 5 ≡ length text
  unspelled_length own =
      let before : rewritten (Second 64 8) p text ≡ text = rw own at (own_line text p e) in
      sym (five p.workers (after_line text)) ∙ ap length before

  pub second_length : p.form ≡ First → (moved : List ℕ) → to_second text ≡ result moved → length moved ≡ length text + 5
  second_length own moved r =
      let is : moved ≡ rewritten (Second 64 8) p text = rw (ap spelled_out own) at (second_result text p e moved r).0 in
      ap length is ∙ spelled_length own

  pub first_length : (slots capacity : ℕ) → p.form ≡ Second slots capacity → (moved : List ℕ) → to_first text ≡ result moved
      → length moved + 5 ≡ length text
  first_length slots capacity own moved r =
      let (sizes, is, short) = first_result text p e moved r in
      ap (λ (t : List ℕ). length t + 5) is ∙ unspelled_length (own ∙ first_sizes slots capacity (rw own at sizes))

-- ---- of every text

module _ (text moved : List ℕ) where
  -- a result is that of a plan
  pub second_plan : to_second text ≡ result moved → (p : Plan) × (reading text ≡ accepted p)
  unfolding to_second
  second_plan r = let (p, e, made) = result_plan (in_second text) (reading text) moved r in (p, e)

  pub first_plan : to_first text ≡ result moved → (p : Plan) × (reading text ≡ accepted p)
  unfolding to_first
  first_plan r = let (p, e, made) = result_plan (in_first text) (reading text) moved r in (p, e)

  -- and has at most 65,536 bytes
  pub second_short : to_second text ≡ result moved → length moved ≤ 65536
  second_short r = let (p, e) = second_plan r in (second_result text p e moved r).1

  pub first_short : to_first text ≡ result moved → length moved ≤ 65536
  first_short r = let (p, e) = first_plan r in (first_result text p e moved r).2
