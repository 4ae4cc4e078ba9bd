-- A line by its letter: the fields after it say what the line is. Assumes nothing.
use Rattle.std.specs.Prelude.{Result, Ok, Err, ℕ, ◌+◌, ◌≤◌, ◌<◌, ◌≡◌, refl, Bool, true, false, cond, not, List, [], ◌∷◌, ◌≢◌, length, drop, get_or, eqb, nat_eq}
use Rattle.std.specs.Prelude as rust
use Rattle.std.specs.Option.{option_eq}
use Rattle.std.proofs.Common.{sym, ap, ◌∙◌, arith, ne_eqb, eqb-true}
use Rattle.std.proofs.Math.Option.{Option, none}
use borrow.Author.Tests.{eqb-false, not-true, not-false}
use Rattle.text.specs.declared.read.Malformed.{Malformed}
use Rattle.text.specs.Text.{tab, line_feed}
use Rattle.text.specs.LineEnds.{NONE, seen_at, is_line_feed, after_look, Reaches}
use Rattle.text.specs.Fields.{First, unended, first, first_line, Fields}
use Rattle.text.proofs.LineEnds.{look_within, reaches_on, reaches_feed, reaches_other, reaches_look, seen_byte}
use Rattle.text.proofs.FieldLaws.{byte_within, fields_letter, letter_of, letter_alone}
use Rattle.text.proofs.Reading.{seen_any}
use Rattle.plan.specs.Plan.{Plan}
use Rattle.plan.specs.Line as plans
use Rattle.plan.specs.Line.{'M', 'P', 'R', 'S', 'T', 'W', label_and_cost, task_line, line_by, line_of_fields}
use Rattle.kept.specs.declared.tasks.Row.{Row}
use Rattle.lines.specs.declared.line.Line.{Line}
use Rattle.lines.specs.Lines.{Formless, Whole, TaskHead, begun, LineAt, whole, task}
use Rattle.lines.specs.Lines.Whole.{malformed}
use Rattle.lines.proofs.Wholes.{fields_after, left_same, whole_after}

-- ---- lines of no letter

cond_none : (t : Bool) → cond {A = Option plans.Line} t none none ≡ none
cond_none true = refl
cond_none false = refl

module _ (text : List ℕ) (at : ℕ) {p : Plan} {row : Row} {more : Bool} {n : ℕ} (reach : Reaches text at more n) where
  unlettered : ((letter : ℕ) (fs : List (List ℕ)) (rest : List ℕ) → first_line (drop at text) ≡ first ((letter ∷ []) ∷ fs) rest
      → line_by p letter fs ≡ none) → LineAt text at p row (Err (record { goes_on = more })) n
  unfolding line_of_fields
  unlettered h = whole (malformed more refl (by (first_line (drop at text)) refl) reach)
    where
      by : (l : First) → first_line (drop at text) ≡ l → Formless (line_of_fields p) l
      by unended e = tt
      by (first [] rest) e = refl
      by (first ([] ∷ fs) rest) e = refl
      by (first ((letter ∷ []) ∷ fs) rest) e = h letter fs rest e
      by (first ((letter ∷ b ∷ bs) ∷ fs) rest) e = refl

  no_tab : get_or text (at + 1) NONE ≢ tab → LineAt text at p row (Err (record { goes_on = more })) n
  unfolding line_by
  no_tab ends = unlettered (λ letter fs rest e. rw (letter_alone text at letter fs rest e ends) (simp cond_none))

  pub no_letter : (letter : ℕ) → get_or text at NONE ≡ letter → letter ≢ 'W' → letter ≢ 'T' → letter ≢ 'M' → letter ≢ 'P' → letter ≢ 'R'
      → letter ≢ 'S' → LineAt text at p row (Err (record { goes_on = more })) n
  unfolding line_by
  no_letter letter here w t m q r s =
      unlettered (λ b fs rest e.
      let same : b ≡ letter = cc (letter_of text at b fs rest e) in
      rw same
      (simp (
        ne_eqb letter 'W' w,
        ne_eqb letter 'T' t,
        ne_eqb letter 'M' m,
        ne_eqb letter 'P' q,
        ne_eqb letter 'R' r,
        ne_eqb letter 'S' s,
      )))

-- ---- a letter and a tab

-- a tab was seen after the first byte, and another text and place are those after it
pub record Tabbed (text : List ℕ) (at : ℕ) (text2 : List ℕ) (at2 : ℕ) : Type 0 where
  pub same : text2 ≡ text
  pub place : at2 ≡ at + 2
  pub ends : get_or text (at + 1) NONE ≡ tab
  pub reach : Reaches text at true at2

module _ {text : List ℕ} {at : ℕ} {text2 : List ℕ} {at2 : ℕ} (t : Tabbed text at text2 at2) where
  lettered : (b : ℕ) → get_or text at NONE ≡ b → 65 ≤ b → b ≤ 90 → Fields text at ((b ∷ []) ∷ []) (at + 2) true
  lettered b here l u = fields_letter text at b here (omega arith) (omega arith) (omega arith) t.ends

  pub whole_line : (b : ℕ) → get_or text at NONE ≡ b → 65 ≤ b → b ≤ 90 → (form : List (List ℕ) → Option plans.Line)
      → {p : Plan} → ((fs : List (List ℕ)) → line_by p b fs ≡ form fs) → {row : Row} {r : Result Line Malformed} {n : ℕ}
      → Whole text2 at2 p form r n → LineAt text at p row r n
  unfolding line_of_fields
  whole_line b here l u form {p} e w =
      whole (whole_after (lettered b here l u) form (line_of_fields p) (λ f fs. e (f ∷ fs)) (rw (t.same, t.place) at w))

  pub task_line_lem : get_or text at NONE ≡ 'T' → {p : Plan} {row : Row} {r : Result Line Malformed} {n : ℕ}
      → TaskHead text2 at2 p row r n → LineAt text at p row r n
  unfolding line_of_fields line_by
  task_line_lem here {p} {row} {r} {n} h = by (rw (t.same, t.place) at h)
    where
      so : Fields text at (('T' ∷ []) ∷ []) (at + 2) true
      so = lettered 'T' here (omega arith) (omega arith)

      by : TaskHead text (at + 2) p row r n → LineAt text at p row r n
      by (TaskHead.malformed more wrong h reach) =
          whole (left_same so (label_and_cost (task_line p)) (line_of_fields p) (λ f fs. refl) more wrong h reach)
      by (begun b) = task b (fields_after so b.fields)

-- ---- by what was looked at

-- a look sees the byte there
seen_is : (text : List ℕ) (at b : ℕ) → eqb NONE b ≡ false → {seen : rust.Option ℕ} → seen ≡ seen_at text at
    → option_eq nat_eq seen (rust.Some b) ≡ eqb (get_or text at NONE) b
seen_is text at b e byte =
    ap (λ (o : rust.Option ℕ). option_eq nat_eq o (rust.Some b)) byte
    ∙ seen_any (λ o. option_eq nat_eq o (rust.Some b)) (sym e) text at

pub first_byte : (text : List ℕ) (at : ℕ) {seen : rust.Option ℕ} → seen ≡ seen_at text at → {b k : ℕ} → seen ≡ rust.Some k → k ≡ b
    → get_or text at NONE ≡ b
first_byte text at byte e q = (seen_byte text at (sym byte ∙ e)).1 ∙ q

module _ {text : List ℕ} {at : ℕ} (here : at < length text) {seen : rust.Option ℕ} {at1 : ℕ} (byte : seen ≡ seen_at text at)
    (counted : at1 ≡ after_look text at) where
  pub empty_line : {p : Plan} {row : Row} → option_eq nat_eq seen (rust.Some line_feed) ≡ true
      → LineAt text at p row (Err (record { goes_on = false })) at1
  empty_line e =
      let feed = eqb-true (get_or text at NONE) line_feed (sym (seen_is text at line_feed refl byte) ∙ e) in
      rw counted
      (no_letter text at (reaches_feed text at (omega arith) feed) line_feed feed (omega arith) (omega arith) (omega arith) (omega arith)
      (omega arith) (omega arith))

  module _ {text1 : List ℕ} (same : text1 ≡ text) (other : option_eq nat_eq seen (rust.Some line_feed) ≡ false) {then : rust.Option ℕ} {text2 : List ℕ} {at2 : ℕ}
      (byte2 : then ≡ seen_at text1 at1) (counted2 : at2 ≡ after_look text1 at1) (same2 : text2 ≡ text1) where
    next : at1 ≡ at + 1
    next = counted ∙ look_within text at here

    after_first : Reaches text at true (at + 1)
    after_first =
        rw (look_within text at here) at
        (reaches_other text at (omega arith) (eqb-false (get_or text at NONE) line_feed (sym (seen_is text at line_feed refl byte) ∙ other)))

    second : then ≡ seen_at text (at + 1)
    second = rw (same, next) at byte2

    counted_second : at2 ≡ after_look text (at + 1)
    counted_second = rw (same, next) at counted2

    tab_seen : option_eq nat_eq then (rust.Some tab) ≡ eqb (get_or text (at + 1) NONE) tab
    tab_seen = seen_is text (at + 1) tab refl second

    pub no_tab_seen : not (option_eq nat_eq then (rust.Some tab)) ≡ true → {wrong : Malformed} → wrong.goes_on ≡ not (is_line_feed then)
        → {p : Plan} {row : Row} → LineAt text at p row (Err wrong) at2
    no_tab_seen e is =
        let ends = eqb-false (get_or text (at + 1) NONE) tab (sym tab_seen ∙ not-true (option_eq nat_eq then (rust.Some tab)) e) in
        let on = is ∙ ap not (ap is_line_feed second ∙ seen_any is_line_feed refl text (at + 1)) in
        no_tab text at (rw (counted_second, on) (reaches_on after_first (reaches_look text (at + 1) (omega arith)))) ends

    pub tabbed : not (option_eq nat_eq then (rust.Some tab)) ≡ false → Tabbed text at text2 at2
    tabbed e =
        let ends = eqb-true (get_or text (at + 1) NONE) tab (sym tab_seen ∙ not-false (option_eq nat_eq then (rust.Some tab)) e) in
        let place = counted_second ∙ look_within text (at + 1) (byte_within text (at + 1) (omega arith)) in
        record {
          same = same2 ∙ same;
          place = place ∙ omega arith;
          ends = ends;
          reach = rw counted_second (reaches_on after_first (reaches_other text (at + 1) (omega arith) (omega arith)));
        }
