-- A plan's text has the W line of its plan, and with the W line of another form it means the same plan in that form.
use Rattle.std.specs.Prelude.{ℕ, suc, ◌≤◌, ◌≡◌, true, false, eqb, leb, length}
use Rattle.std.proofs.Math.Path.{refl, ap}
use Rattle.std.proofs.Common.{sym, ◌∙◌, arith, leb-true, le-leb, ne_eqb}
use mathlib.Core.List.{List, [], ◌∷◌, ◌++◌}
use Rattle.std.proofs.Math.Option.{Option, none, some}
use Rattle.refusals.specs.declared.Refusal.{Refusal}
use Rattle.runs.specs.Every.{every}
use Rattle.runs.specs.Tests.{ways, both_left, both_right}
use Rattle.runs.specs.Update.{clash}
use Rattle.text.specs.Text.{line_feed, tab, within, is_digit, split, bytes, decimal, line}
use Rattle.text.proofs.FieldLaws.{some_part}
use Rattle.text.specs.Numerals.{number_decimal, decimal_digits}
use Rattle.plan.specs.declared.form.Form.{Form}
use Rattle.plan.specs.declared.form.Form.TheVariants.{First, Second}
use Rattle.plan.specs.Plan.{Task, slots_of, Plan, empty_plan, with_workers, mask_last}
use Rattle.plan.specs.declared.order.Order.{Order}
use Rattle.plan.specs.declared.order.Order.TheVariants.{Picks as picks, Rounds as rounds, Seeded as seeded}
use Rattle.plan.specs.Line.{Line, ends_unmasked, workers_line, task_line, mask_line, picks_line, rounds_line, seeded_line}
use Rattle.plan.specs.Line.{sizes_in_range, in_form, line_by, line_of_fields, line_of}
use Rattle.plan.specs.Reading.{Reading, accepted, refused, first_refusal, read_line, read_lines, is_too_long, reading}
use Rattle.plan.specs.Lengths.{reading_short}
use Rattle.plan.proofs.Accepted.{granted}
use Rattle.convert.specs.Convert.{after_line, workers_fields, rewritten}
use Rattle.convert.specs.FirstLine.{is_field_byte, Whole}
use Rattle.convert.proofs.FirstLine.{line_splits, after_line_lem, line_before, parts_after}
use Rattle.convert.specs.Kinds.{Kind, malformed, workers, task, mask, order, Spelled, line_of_kind}
use Rattle.convert.proofs.KindLaws.{kind_of}
use Rattle.convert.specs.Reread.{with_form}

-- ---- the lines after the W line are read alike in each form

module _ (n : ℕ) (started : eqb n 0 ≡ false) (own other : Form) where
  -- the plan so far
  abbrev so_far : Form → List Task → List Order → Plan
  so_far form ts os = record { workers = n; form = form; tasks = ts; orders = os }

  -- what is read in its own form, and what in the other
  abbrev Alike : Reading → Reading → Type 0
  Alike (accepted p) r = (p ≡ so_far own p.tasks p.orders) × (r ≡ accepted (with_form other p))
  Alike (refused why k) r = r ≡ refused why k

  module _ (k : ℕ) (ts : List Task) (os : List Order) (next : Plan → Reading)
      (h : (us : List Task) (rs : List Order) → Alike (next (so_far own us rs)) (next (so_far other us rs))) where
    -- where the same is asked
    alike_asked : (asked : Option Refusal) (us : List Task) (rs : List Order)
        → Alike (elim asked [ none ↦ next (so_far own us rs) | some r ↦ refused r k ])
        (elim asked [ none ↦ next (so_far other us rs) | some r ↦ refused r k ])
    alike_asked none us rs = h us rs
    alike_asked (some r) us rs = refl

    alike_kind : (kind : Kind)
        → Alike (read_line k (line_of_kind (so_far own ts os) kind) next) (read_line k (line_of_kind (so_far other ts os) kind) next)
    unfolding first_refusal
    alike_kind malformed = refl
    alike_kind (workers m form) = simp started
    alike_kind (task t) = alike_asked (first_refusal (task_line (so_far own ts os) t).asks) (ts ++ t ∷ []) os
    alike_kind (mask m) = alike_asked (first_refusal (mask_line (so_far own ts os) m).asks) (mask_last m ts) os
    alike_kind (order (picks worker m)) =
        alike_asked (first_refusal (picks_line (so_far own ts os) worker m).asks) ts (os ++ picks worker m ∷ [])
    alike_kind (order (rounds m)) = alike_asked (first_refusal (rounds_line (so_far own ts os) m).asks) ts (os ++ rounds m ∷ [])
    alike_kind (order (seeded m seed)) =
        alike_asked (first_refusal (seeded_line (so_far own ts os) seed m).asks) ts (os ++ seeded m seed ∷ [])

    alike_line : (part : List ℕ)
        → Alike (read_line k (line_of (so_far own ts os) part) next) (read_line k (line_of (so_far other ts os) part) next)
    alike_line part =
        let line = kind_of (split tab part) in
        rw (line.is (so_far own ts os), line.is (so_far other ts os)) (alike_kind line.kind)

  alike_lines : (parts : List (List ℕ)) (k : ℕ) (ts : List Task) (os : List Order)
      → Alike (read_lines (so_far own ts os) k parts) (read_lines (so_far other ts os) k parts)
  unfolding read_lines
  alike_lines [] k ts os = refl
  alike_lines ([] ∷ []) k ts os = simp started (refl, refl)
  alike_lines ((b ∷ bs) ∷ []) k ts os = refl
  alike_lines (part ∷ next ∷ parts) k ts os =
      alike_line k ts os (λ q. read_lines q (suc k) (next ∷ parts)) (alike_lines (next ∷ parts) (suc k)) part

-- ---- a text begins with a W line

-- it is read, and so are the lines after it, also where it is in another form
record Begun (text : List ℕ) (p : Plan) : Type 0 where
  part : List ℕ
  next : List ℕ
  parts : List (List ℕ)
  splits : split line_feed text ≡ part ∷ next ∷ parts
  fields : split tab part ≡ workers_fields p.workers p.form
  few : within 1 32 p.workers ≡ true
  later : (form : Form) → read_lines (with_workers empty_plan p.workers form) 2 (next ∷ parts) ≡ accepted (with_form form p)

module _ (text : List ℕ) (p : Plan) where
  module _ (part next : List ℕ) (parts : List (List ℕ)) (splits : split line_feed text ≡ part ∷ next ∷ parts) where
    begun_workers : (n : ℕ) (form : Form) → split tab part ≡ workers_fields n form → within 1 32 n ≡ true
        → read_lines (with_workers empty_plan n form) 2 (next ∷ parts) ≡ accepted p → Begun text p
    begun_workers n form fields few e =
        let low : 1 ≤ n = leb-true 1 n (both_left (leb 1 n) (leb n 32) few) in
        let started : eqb n 0 ≡ false = ne_eqb n 0 (omega arith) in
        let alike : (other : Form) → Alike n started form other (accepted p) (read_lines (with_workers empty_plan n other) 2 (next ∷ parts)) =
        λ other. rw e at (alike_lines n started form other (next ∷ parts) 2 [] []) in
        let same : p.workers ≡ n = ap (λ (q : Plan). q.workers) (alike form).0 in
        let own : p.form ≡ form = ap (λ (q : Plan). q.form) (alike form).0 in
        record {
          part = part;
          next = next;
          parts = parts;
          splits = splits;
          fields = rw (same, own) fields;
          few = rw same few;
          later = λ other. ap (λ (k : ℕ). read_lines (with_workers empty_plan k other) 2 (next ∷ parts)) same ∙ (alike other).1;
        }

    begun_asked : (n : ℕ) (form : Form) → split tab part ≡ workers_fields n form → (asked : Option Refusal)
        → first_refusal (workers_line empty_plan n form).asks ≡ asked
        → elim asked [ none ↦ read_lines (with_workers empty_plan n form) 2 (next ∷ parts) | some r ↦ refused r 1 ] ≡ accepted p
        → Begun text p
    begun_asked n form fields (some r) a e = clash (cc)
    begun_asked n form fields none a e =
        begun_workers n form fields
        (both_left (within 1 32 n) (sizes_in_range form) (granted (workers_line empty_plan n form).asks a).1.0) e

    begun_kind : (kind : Kind) → Spelled (split tab part) kind
        → read_line 1 (line_of_kind empty_plan kind) (λ q. read_lines q 2 (next ∷ parts)) ≡ accepted p → Begun text p
    unfolding first_refusal ends_unmasked
    begun_kind malformed s e = clash (cc)
    begun_kind (workers n form) s e = begun_asked n form s (first_refusal (workers_line empty_plan n form).asks) refl e
    begun_kind (task t) s e = clash (cc)
    begun_kind (mask m) s e = clash (cc)
    begun_kind (order (picks worker n)) s e = clash (cc)
    begun_kind (order (rounds n)) s e = clash (cc)
    begun_kind (order (seeded n seed)) s e = clash (cc)

  begun_parts : (part : List ℕ) (parts : List (List ℕ)) → split line_feed text ≡ part ∷ parts
      → read_lines empty_plan 1 (part ∷ parts) ≡ accepted p → Begun text p
  unfolding read_lines
  begun_parts [] [] splits e = clash (cc)
  begun_parts (b ∷ bs) [] splits e = clash (cc)
  begun_parts part (next ∷ parts) splits e =
      let line = kind_of (split tab part) in
      begun_kind part next parts splits line.kind line.spelled (rw (line.is empty_plan) at e)

  begun : reading text ≡ accepted p → Begun text p
  unfolding reading
  begun e =
      let (part, parts, splits) = some_part line_feed text in
      ways (is_too_long text) (λ l. clash (cc)) (λ l. begun_parts part parts splits (rw (l, splits) at e))

-- ---- another W line

digit_byte : (b : ℕ) → is_digit b ≡ true → is_field_byte b ≡ true
digit_byte b e =
    let low : 48 ≤ b = leb-true 48 b (both_left (leb 48 b) (leb b 57) e) in
    simp (ne_eqb b tab (omega arith), ne_eqb b line_feed (omega arith))

digit_bytes : (bs : List ℕ) → every is_digit bs ≡ true → every is_field_byte bs ≡ true
unfolding every
digit_bytes [] e = refl
digit_bytes (b ∷ bs) e =
    simp (digit_byte b (both_left (is_digit b) (every is_digit bs) e)) (digit_bytes bs (both_right (is_digit b) (every is_digit bs) e))

number_bytes_lem : (n : ℕ) → every is_field_byte (decimal n) ≡ true
number_bytes_lem n = digit_bytes (decimal n) (decimal_digits n)

whole_fields : (n : ℕ) (form : Form) → Whole (workers_fields n form)
unfolding bytes every
whole_fields n First = (refl, (number_bytes_lem n, tt))
whole_fields n (Second slots capacity) = (refl, (number_bytes_lem n, (number_bytes_lem slots, (number_bytes_lem capacity, tt))))

module _ (n : ℕ) (rest : List ℕ) where
  -- it is one part more, of its fields
  another_splits : (form : Form)
      → (part : List ℕ) × (split line_feed (line (workers_fields n form) ++ rest) ≡ part ∷ split line_feed rest)
      × (split tab part ≡ workers_fields n form)
  another_splits First = line_splits _ _ (whole_fields n First) rest
  another_splits (Second slots capacity) = line_splits _ _ (whole_fields n (Second slots capacity)) rest

  after_another : (form : Form) → after_line (line (workers_fields n form) ++ rest) ≡ rest
  after_another First = after_line_lem _ _ (whole_fields n First) rest
  after_another (Second slots capacity) = after_line_lem _ _ (whole_fields n (Second slots capacity)) rest

another_line : (n : ℕ) (form : Form) → line_of_fields empty_plan (workers_fields n form) ≡ some (workers_line empty_plan n form)
unfolding bytes line_by line_of_fields
another_line n First = rw (number_decimal n)
another_line n (Second slots capacity) = rw (number_decimal n, in_form, number_decimal slots, number_decimal capacity)

another_read : (n : ℕ) (form : Form) → within 1 32 n ≡ true → sizes_in_range form ≡ true → n ≤ slots_of form → (next : Plan → Reading)
    → read_line 1 (some (workers_line empty_plan n form)) next ≡ next (with_workers empty_plan n form)
unfolding first_refusal
another_read n form few sizes slots next = simp (few, sizes, le-leb n (slots_of form) slots)

module _ (text : List ℕ) (p : Plan) (e : reading text ≡ accepted p) where
  -- a text has the W line of its plan
  pub own_line : rewritten p.form p text ≡ text
  own_line =
      let b = begun text p e in
      ap (λ (fs : List (List ℕ)). line fs ++ after_line text) (sym b.fields)
      ∙ sym (line_before text b.part b.next b.parts b.splits)

  -- another W line leaves the text after it as it is
  pub after_rewritten : (form : Form) → after_line (rewritten form p text) ≡ after_line text
  after_rewritten = after_another p.workers (after_line text)

  -- with the W line of another form it means the same plan in that form
  pub reread : (form : Form) → sizes_in_range form ≡ true → p.workers ≤ slots_of form → length (rewritten form p text) ≤ 65536
      → reading (rewritten form p text) ≡ accepted (with_form form p)
  unfolding read_lines
  reread form sizes slots short =
      let b = begun text p e in
      let (part, splits, fields) = another_splits p.workers (after_line text) form in
      let after = parts_after text b.part b.next b.parts b.splits in
      let next : Plan → Reading = λ q. read_lines q 2 (b.next ∷ b.parts) in
      reading_short (rewritten form p text) short
      ∙ ap (read_lines empty_plan 1) (splits ∙ ap (λ (parts : List (List ℕ)). part ∷ parts) after)
      ∙ ap (λ (l : Option Line). read_line 1 l next) (ap (line_of_fields empty_plan) fields ∙ another_line p.workers form)
      ∙ another_read p.workers form b.few sizes slots next
      ∙ b.later form
