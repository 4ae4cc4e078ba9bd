-- The refusals that the reading of a text gives: 6 with line 0, or one that the plan's author causes, with a line from 1.
use Rattle.std.specs.Prelude.{◌≡◌, ℕ, suc, ◌<◌, ◌≤◌, Bool, true, false, cond, ◌⊎◌, List, [], ◌∷◌, map, length, ◌==◌, refl}
use Rattle.std.proofs.Math.Option
use Rattle.std.proofs.Math.Option.{Option, none, some}
use Rattle.std.proofs.Common.{inl, inr, arith, ltb-true}
use Rattle.runs.specs.Update.{clash}
use Rattle.refusals.specs.declared.Refusal.{Refusal}
use Rattle.refusals.specs.declared.Refusal.TheVariants.{TextTooLong, Misplaced}
use Rattle.text.specs.Text.{line_feed, tab, all_of, split, number_of}
use Rattle.plan.specs.declared.form.Form.{Form}
use Rattle.plan.specs.declared.form.Form.TheVariants.{First, Second}
use Rattle.plan.specs.Plan.{Access, Plan, empty_plan}
use Rattle.plan.specs.Line.{'M', 'P', 'R', 'S', 'T', 'W', Ask, Line, at_start, is_label, access_of}
use Rattle.plan.specs.Line.{workers_line, task_line, mask_line, picks_line, rounds_line, seeded_line}
use Rattle.plan.specs.Line.{one_number, with_both, two_numbers, in_form, with_cost, label_and_cost, line_by, line_of_fields, line_of}
use Rattle.plan.specs.Reading.{Reading, accepted, refused, first_refusal, read_line, read_lines, is_too_long, reading}
use Rattle.plan.specs.Refused.{ByAuthor}

-- ---- what is asked of a line

abbrev AuthorAsks : List Ask → Type 0
AuthorAsks [] = Unit {0}
AuthorAsks (a ∷ asks) = ByAuthor a.otherwise × AuthorAsks asks

abbrev AuthorLine : Option Line → Type 0
AuthorLine none = Unit {0}
AuthorLine (some l) = AuthorAsks l.asks

module _ (p : Plan) where
  one : (make : ℕ → Line) → ((n : ℕ) → AuthorAsks (make n).asks) → (fields : List (List ℕ)) → AuthorLine (one_number make fields)
  one make h [] = tt
  one make h (f ∷ []) = go (number_of f)
    where
      go : (x : Option ℕ) → AuthorLine (Option.map make x)
      go none = tt
      go (some n) = h n
  one make h (f ∷ g ∷ gs) = tt

  two : (make : ℕ → ℕ → Line) → ((m n : ℕ) → AuthorAsks (make m n).asks) → (fields : List (List ℕ)) → AuthorLine (two_numbers make fields)
  two make h [] = tt
  two make h (f ∷ []) = tt
  two make h (f ∷ g ∷ []) = go (number_of f) (number_of g)
    where
      go : (x y : Option ℕ) → AuthorLine (with_both make x y)
      go none y = tt
      go (some m) none = tt
      go (some m) (some n) = h m n
  two make h (f ∷ g ∷ k ∷ ks) = tt

  workers_asks : (n : ℕ) (form : Form) → AuthorAsks (workers_line p n form).asks
  workers_asks n form = (inl (omega arith), (inl (omega arith), (inr (inl refl), tt)))

  in_form_lem : (fields : List (List ℕ)) → AuthorLine (in_form (workers_line p) fields)
  in_form_lem [] = tt
  in_form_lem (f ∷ []) = one (λ n. workers_line p n First) (λ n. workers_asks n First) (f ∷ [])
  in_form_lem (f ∷ g ∷ gs) = go (number_of f)
    where
      go : (x : Option ℕ)
          → AuthorLine (elim x [ none ↦ none | some n ↦ two_numbers (λ slots capacity. workers_line p n (Second slots capacity)) (g ∷ gs) ])
      go none = tt
      go (some n) =
          two (λ slots capacity. workers_line p n (Second slots capacity))
          (λ slots capacity. workers_asks n (Second slots capacity)) (g ∷ gs)

  labelled : (fields : List (List ℕ)) → AuthorLine (label_and_cost (task_line p) fields)
  labelled [] = tt
  labelled (f ∷ []) = tt
  labelled (f ∷ g ∷ gs) = go (is_label f) (number_of g) (all_of (map access_of gs))
    where
      go : (b : Bool) (c : Option ℕ) (xs : Option (List Access)) → AuthorLine (cond b (with_cost (task_line p) f c xs) none)
      go false c xs = tt
      go true none xs = tt
      go true (some c) none = tt
      go true (some c) (some xs) = (inl (omega arith), (inl (omega arith), (inl (omega arith), (inl (omega arith), tt))))

  either : (b : Bool) (x y : Option Line) → AuthorLine x → AuthorLine y → AuthorLine (cond b x y)
  either true x y f g = f
  either false x y f g = g

  by_letter : (letter : ℕ) (fields : List (List ℕ)) → AuthorLine (line_by p letter fields)
  unfolding line_by
  by_letter letter fields =
      either (letter == 'W') _ _ (in_form_lem fields)
      (either (letter == 'T') _ _ (labelled fields)
      (either (letter == 'M') _ _ (one (mask_line p) (λ m. (inl (omega arith), (inl (omega arith), (inr (inr refl), tt)))) fields)
      (either (letter == 'P') _ _ (two (picks_line p) (λ w n. (inl (omega arith), (inl (omega arith), tt))) fields)
      (either (letter == 'R') _ _ (one (rounds_line p) (λ n. (inl (omega arith), (inl (omega arith), tt))) fields)
      (either (letter == 'S') _ none (two (seeded_line p) (λ s n. (inl (omega arith), (inl (omega arith), tt))) fields) tt)))))

  of_line : (fields : List (List ℕ)) → AuthorLine (line_of_fields p fields)
  unfolding line_of_fields
  of_line [] = tt
  of_line ([] ∷ fields) = tt
  of_line ((letter ∷ []) ∷ fields) = by_letter letter fields
  of_line ((letter ∷ b ∷ bs) ∷ fields) = tt

first_asked : (asks : List Ask) → AuthorAsks asks → (r : Refusal) → first_refusal asks ≡ some r → ByAuthor r
unfolding first_refusal
first_asked [] h r e = clash (cc)
first_asked (a ∷ asks) (h, rest) r e = go a.holds e (first_asked asks rest r)
  where
    go : (b : Bool) → cond b (first_refusal asks) (some a.otherwise) ≡ some r → (first_refusal asks ≡ some r → ByAuthor r)
        → ByAuthor r
    go true e later = later e
    go false e later = let same : a.otherwise ≡ r = cc in rw same at h

-- ---- line after line

abbrev Author : Reading → Type 0
Author (accepted p) = Unit {0}
Author (refused r n) = ByAuthor r × (1 ≤ n)

author_line : (n : ℕ) (x : Option Line) (next : Plan → Reading) → 1 ≤ n → AuthorLine x → ((q : Plan) → Author (next q))
    → Author (read_line n x next)
author_line n none next l f rest = (inl (omega arith), l)
author_line n (some x) next l f rest = by (first_refusal x.asks) refl
  where
    by : (y : Option Refusal) → first_refusal x.asks ≡ y → Author (elim y [ none ↦ next x.plan | some r ↦ refused r n ])
    by none e = rest x.plan
    by (some r) e = (first_asked x.asks f r e, l)

author_lines : (parts : List (List ℕ)) (p : Plan) (n : ℕ) → 1 ≤ n → Author (read_lines p n parts)
unfolding read_lines
author_lines [] p n l = (inl (omega arith), l)
author_lines ([] ∷ []) p n l = go (at_start p)
  where
    go : (b : Bool) → Author (cond b (refused Misplaced n) (accepted p))
    go true = (inl (omega arith), l)
    go false = tt
author_lines ((b ∷ bs) ∷ []) p n l = (inl (omega arith), l)
author_lines (part ∷ next ∷ parts) p n l =
    author_line n (line_of p part) (λ q. read_lines q (suc n) (next ∷ parts)) l (of_line p (split tab part))
    (λ q. author_lines (next ∷ parts) q (suc n) (omega arith))

-- a text is refused with 6 and line 0 where it is too long, and else only by what its author causes
pub refused_by : (text : List ℕ) (r : Refusal) (n : ℕ) → reading text ≡ refused r n
    → ((r ≡ TextTooLong) × (n ≡ 0) × (65536 < length text)) ⊎ (ByAuthor r × (1 ≤ n))
unfolding reading
refused_by text r n e = go (is_too_long text) refl e
  where
    go : (b : Bool) → is_too_long text ≡ b
        → cond b (refused TextTooLong 0) (read_lines empty_plan 1 (split line_feed text)) ≡ refused r n
        → ((r ≡ TextTooLong) × (n ≡ 0) × (65536 < length text)) ⊎ (ByAuthor r × (1 ≤ n))
    go true f e = inl (cc, cc, ltb-true 65536 (length text) f)
    go false f e = inr (rw e at (author_lines (split line_feed text) empty_plan 1 (omega arith)))
