-- How lines are judged: the code sees what 64 bits hold of their numbers. Assumes nothing.
use Rattle.std.specs.Prelude.{Result, Ok, Err, ℕ, ◌*◌, ◌%◌, ◌^◌, ◌≤◌, ◌<◌, ◌≡◌, refl, Bool, true, false, not, ◌&&◌, ◌||◌, [], ◌∷◌, eqb, leb, ltb}
use Rattle.std.proofs.Common.{sym, ap, ◌∙◌, arith, pow_mono, shl_exact}
use mathlib.Core.Bool.{not-not}
use lib.Dec.{leb-suc-suc}
use borrow.Author.Tests.{le-leb, lt-leb, le-ltb, lt-ltb, leb-true, leb-false, ltb-true, ltb-false}
use Rattle.runs.specs.Tests.{ways, both_left, both_right, not_both}
use Rattle.refusals.specs.declared.Refusal.{Refusal}
use Rattle.refusals.specs.declared.Refusal.TheVariants.{OutOfRange, Misplaced}
use Rattle.text.specs.Text.{within}
use Rattle.text.specs.Fields.{clipped, fits_in}
use Rattle.plan.specs.declared.form.Form.{Form}
use Rattle.plan.specs.declared.form.Form.TheVariants as forms
use Rattle.plan.specs.declared.order.Order.{Order}
use Rattle.plan.specs.declared.order.Order.TheVariants.{Picks as picks, Rounds as rounds, Seeded as seeded}
use Rattle.plan.specs.Plan.{Plan}
use Rattle.plan.specs.Line.{ask, at_start, has_orders, ends_unmasked, sizes_in_range}
use Rattle.plan.specs.Line.{workers_line, mask_line, order_line, picks_line, rounds_line, seeded_line}
use Rattle.plan.specs.Reading.{first_refusal}
use Rattle.plan.proofs.Accepted.{granted, ends_some}
use Rattle.lines.specs.declared.line.Kind.TheVariants as kinds
use Rattle.lines.specs.declared.line.Sofar.{Sofar}
use Rattle.lines.specs.declared.line.Line.{Line}
use Rattle.lines.specs.Lines.{Sums, judged_by, judges, judges_first, narrowed, ordered}
use Rattle.lines.proofs.Wholes.{Judged}

-- ---- ranges of a number are those of what 64 bits hold of it

pub above_below : (m n : ℕ) → ltb m n ≡ not (leb n m)
above_below m n =
    ways (leb n m) (λ e. simp (e, le-ltb m n (leb-true n m e))) (λ e. simp (e, lt-ltb m n (leb-false n m e)))

module _ (m : ℕ) where
  fits_clipped : fits_in m ≡ true → clipped m ≡ m
  fits_clipped e = simp e

  pub low_clipped : m < 18446744073709551615 → clipped m ≡ m
  low_clipped h = fits_clipped (lt-ltb m (2 ^ 64) (omega arith))

  large : fits_in m ≡ false → 18446744073709551616 ≤ m
  large e = omega (arith, ltb-false m (2 ^ 64) e)

  -- the code sees what 64 bits hold
  range_clipped : (high : ℕ) → high < 18446744073709551615 → within 1 high (clipped m) ≡ within 1 high m
  range_clipped high h =
      ways (fits_in m) (λ e. simp e) (λ e.
      let big = large e in
      simp (e, lt-leb 18446744073709551615 high h, lt-leb m high (omega arith), le-leb 1 m (omega arith)))

  pub above_clipped : (n : ℕ) → n ≤ 18446744073709551615 → leb n (clipped m) ≡ not (ltb m n)
  above_clipped n h =
      ways (fits_in m) (λ e. simp (e, above_below m n, not-not)) (λ e.
      let big = large e in
      simp (e, le-leb n 18446744073709551615 h, le-ltb m n (omega arith)))

  within_low : (low high : ℕ) → high < 18446744073709551615 → within low high m ≡ true → (clipped m ≡ m) × (m ≤ high)
  within_low low high h e =
      let top : m ≤ high = leb-true m high (both_right (leb low m) (leb m high) e) in
      (low_clipped (omega arith), top)

  -- and 32 bits hold a number in a range that ends below 2^32
  narrow_low : (low high : ℕ) → high < 2 ^ 32 → {n kept : ℕ} → n ≡ clipped m → kept ≡ narrowed n
      → within low high m ≡ true → kept ≡ m
  narrow_low low high h is narrow e =
      let (same, top) = within_low low high (omega arith) e in
      omega (arith, narrow, is, same, top)

-- ---- what is asked, in its order

-- the code tells what does not hold
pub first_is : (place range : Bool) {misplaced out : Bool} → misplaced ≡ not place → out ≡ not range
    → judges_first misplaced out ≡ judged_by (first_refusal (ask place Misplaced ∷ ask range OutOfRange ∷ []))
first_is place range a b = rw (a, b) (simp not-not)

-- the first of two answers
abbrev pub first_of : Result (Unit {0}) Refusal → Result (Unit {0}) Refusal → Result (Unit {0}) Refusal
first_of (Ok x) next = next
first_of (Err r) next = Err r

-- the third that is asked of a line is judged last
pub third_judged : (place range third : Bool) (why : Refusal) {misplaced out : Bool} → misplaced ≡ not place → out ≡ not range
    → (sofar last : Result (Unit {0}) Refusal) → sofar ≡ judges_first misplaced out → last ≡ judged_by (first_refusal (ask third why ∷ []))
    → first_of sofar last ≡ judged_by (first_refusal (ask place Misplaced ∷ ask range OutOfRange ∷ ask third why ∷ []))
unfolding first_refusal
third_judged place range third why a b sofar last f e = rw (f, e, first_is place range a b) (by place range third)
  where
    by : (a b c : Bool)
        → first_of (judged_by (first_refusal (ask a Misplaced ∷ ask b OutOfRange ∷ []))) (judged_by (first_refusal (ask c why ∷ [])))
        ≡ judged_by (first_refusal (ask a Misplaced ∷ ask b OutOfRange ∷ ask c why ∷ []))
    by true true c = refl
    by true false c = refl
    by false b c = refl

-- ---- a W line, as 64 bits hold its numbers

abbrev pub clipped_form : Form → Form
clipped_form forms.First = forms.First
clipped_form (forms.Second slots capacity) = forms.Second (clipped slots) (clipped capacity)

sizes_clipped : (form : Form) → sizes_in_range (clipped_form form) ≡ sizes_in_range form
sizes_clipped forms.First = refl
sizes_clipped (forms.Second slots capacity) = rw (range_clipped slots 64 (omega arith), range_clipped capacity 16 (omega arith))

form_low : (form : Form) → sizes_in_range form ≡ true → clipped_form form ≡ form
form_low forms.First e = refl
form_low (forms.Second slots capacity) e =
    rw (
      (within_low slots 1 64 (omega arith) (both_left (within 1 64 slots) (within 1 16 capacity) e)).0,
      (within_low capacity 1 16 (omega arith) (both_right (within 1 64 slots) (within 1 16 capacity) e)).0,
    )

module _ (p : Plan) (n : ℕ) (form : Form) where
  in_range_lem : within 1 32 n && sizes_in_range form ≡ true → (clipped n ≡ n) × (n ≤ 32) × (clipped_form form ≡ form)
  in_range_lem e =
      let (is, few) = within_low n 1 32 (omega arith) (both_left (within 1 32 n) (sizes_in_range form) e) in
      (is, few, form_low form (both_right (within 1 32 n) (sizes_in_range form) e))

  same_judged : judges (workers_line p (clipped n) (clipped_form form)) ≡ judges (workers_line p n form)
  unfolding first_refusal
  same_judged =
      ways (within 1 32 n && sizes_in_range form) (λ e. let low = in_range_lem e in rw (low.0, low.2))
      (λ e. rw (range_clipped n 32 (omega arith), sizes_clipped form, e))

  pub workers_judged : {m : ℕ} {f : Form} {judged : Result (Unit {0}) Refusal} → m ≡ clipped n → f ≡ clipped_form form
      → judged ≡ judges (workers_line p m f)
      → Judged p (workers_line p n form) (record { kind = kinds.Workers m f; judged = judged; more = false })
  workers_judged a b e =
      rw (e, a, b)
      (record {
        ended = refl;
        whole = tt;
        judged = same_judged;
        makes = λ h.
            let low = in_range_lem (granted (workers_line p n form).asks h).1.0 in
            (rw (low.0, low.2), rw low.0 low.1);
      })

-- ---- a mask, as 64 bits hold it

module _ (m n : ℕ) (is : n ≡ clipped m) where
  pub mask_range : (p : Plan) (workers : ℕ) → workers ≤ 32 → workers ≡ p.workers
      → leb (1 * 2 ^ workers % 2 ^ 64) n ≡ not (ltb m (2 ^ p.workers))
  mask_range p workers few e =
      let top : 2 ^ workers ≤ 2 ^ 32 = pow_mono few in
      let whole : 1 * 2 ^ workers % 2 ^ 64 ≡ 2 ^ workers = omega (arith, shl_exact {a = 1} 1 workers 64 (omega arith) (omega arith)) in
      rw (whole, is, ← e) (above_clipped m (2 ^ workers) (omega arith))

  pub some_bit : ltb 0 n ≡ ltb 0 m
  some_bit = rw is (above_clipped m 1 (omega arith) ∙ ap not (leb-suc-suc m 0) ∙ sym (above_below 0 m))

  pub mask_judged : (p : Plan) → p.workers ≤ 32 → {judged : Result (Unit {0}) Refusal} → judged ≡ judges (mask_line p m)
      → Judged p (mask_line p m) (record { kind = kinds.Mask n; judged = judged; more = false })
  mask_judged p few judged =
      record {
        ended = refl;
        whole = tt;
        judged = judged;
        makes = λ h.
            let asked = granted (mask_line p m).asks h in
            let top : 2 ^ p.workers ≤ 2 ^ 32 = pow_mono few in
            let same : n ≡ m = is ∙ low_clipped m (omega (arith, ltb-true m (2 ^ p.workers) asked.1.0)) in
            (rw same, ends_some p.tasks (both_right (not (has_orders p)) (ends_unmasked p.tasks) asked.0));
      }

-- ---- an order line

pub none_yet : {s : Sofar} {p : Plan} → Sums s p → eqb s.workers 0 ≡ at_start p
none_yet sums = rw sums.workers

module _ {s : Sofar} {p : Plan} (sums : Sums s p) {out : Bool} {line : Line} where
  order_judged : (range : Bool) (order kept : Order) → out ≡ not range → (range ≡ true → kept ≡ order)
      → line ≡ ordered kept (eqb s.workers 0) out → Judged p (order_line p range order) line
  order_judged range order kept is same e =
      rw e
      (record {
        ended = refl;
        whole = tt;
        judged = first_is (not (at_start p)) range (none_yet sums ∙ sym (not-not (at_start p))) is;
        makes = λ h. rw (same (granted (order_line p range order).asks h).1.0);
      })

  pub rounds_judged : (n : ℕ) {count kept : ℕ} → count ≡ clipped n → kept ≡ narrowed count → out ≡ not (within 1 1000000 count)
      → line ≡ ordered (rounds kept) (eqb s.workers 0) out → Judged p (rounds_line p n) line
  rounds_judged n {count} {kept} is narrow far =
      order_judged (within 1 1000000 n) (rounds n) (rounds kept) (far ∙ rw is (ap not (range_clipped n 1000000 (omega arith))))
      (λ h. ap rounds (narrow_low n 1 1000000 (omega arith) is narrow h))

  -- a worker or a seed before the count
  pair_judged : (before : Bool) (n most : ℕ) → most ≤ 1000000 → (make : ℕ → Order) (kept : ℕ → Order) {count times : ℕ} → count ≡ clipped n
      → times ≡ narrowed count → out ≡ (not before || not (within 1 most count)) → (before ≡ true → kept n ≡ make n)
      → line ≡ ordered (kept times) (eqb s.workers 0) out → Judged p (order_line p (before && within 1 most n) (make n)) line
  pair_judged before n most small make kept {count} {times} is narrow far same =
      order_judged (before && within 1 most n) (make n) (kept times)
      (far ∙ rw (is, range_clipped n most (omega arith)) (not_both before (within 1 most n)))
      (λ h.
      let low : times ≡ n = narrow_low n 1 most (omega arith) is narrow (both_right before (within 1 most n) h) in
      ap kept low ∙ same (both_left before (within 1 most n) h))

  pub picks_judged : s.workers ≤ 32 → (v n : ℕ) {worker count who times : ℕ} → worker ≡ clipped v → count ≡ clipped n
      → who ≡ narrowed worker → times ≡ narrowed count → out ≡ (leb s.workers worker || not (within 1 4096 count))
      → line ≡ ordered (picks who times) (eqb s.workers 0) out → Judged p (picks_line p v n) line
  picks_judged few v n {worker} {count} {who} {times} named is who_is times_is far =
      pair_judged (ltb v p.workers) n 4096 (omega arith) (picks v) (picks who) is times_is
      (far ∙ ap (λ (b : Bool). b || not (within 1 4096 count)) (rw (named, ← sums.workers) (above_clipped v s.workers (omega arith))))
      (λ h.
      let low : v < 32 = omega (arith, few, sums.workers, ltb-true v p.workers h) in
      ap (λ (w : ℕ). picks w n) (omega (arith, who_is, named, low_clipped v (omega (arith, low)), low)))

  pub seeded_judged : (v n : ℕ) {seed count times : ℕ} {fits : Bool} → seed ≡ clipped v → fits ≡ fits_in v → count ≡ clipped n
      → times ≡ narrowed count → out ≡ (not fits || not (within 1 1000000 count))
      → line ≡ ordered (seeded times seed) (eqb s.workers 0) out → Judged p (seeded_line p v n) line
  seeded_judged v n {seed} {count} start whole is narrow far =
      pair_judged (fits_in v) n 1000000 (omega arith) (λ k. seeded k v) (λ k. seeded k seed) is narrow
      (far ∙ ap (λ (b : Bool). not b || not (within 1 1000000 count)) whole)
      (λ h. ap (seeded n) (start ∙ fits_clipped v h))
