-- Laws of fields: where the first one stands, one field more of a line, and the line that they are.
use Rattle.std.specs.Prelude.{Result, ℕ, suc, ◌+◌, ◌≤◌, ◌<◌, ◌≡◌, refl, Bool, true, false, cond, List, [], ◌∷◌, ◌++◌, ◌≢◌, eqb, length, take, drop, get_or}
use Rattle.std.proofs.Common.{sym, ap, ◌∙◌, append_assoc, ⊎_elim, arith, add-zero, length-append, length-drop, drop_of_length-le, drop-drop, get_or-drop, ne_eqb, eqb-true}
use Rattle.std.proofs.Math.Option.{Option, none, some}
use Rattle.std.proofs.Math.ListN.{get_or-eq_default}
use Rattle.std.proofs.Math.Seq.{take-append_seam, drop-append-add}
use Rattle.runs.specs.Update.{order, clash}
use Rattle.runs.specs.Tests.{ways}
use Rattle.runs.specs.Stores.{drop_from}
use Rattle.text.specs.declared.read.Field.{Field}
use Rattle.text.specs.declared.read.Malformed.{Malformed}
use Rattle.text.specs.Text.{tab, line_feed, on_first, split}
use Rattle.text.specs.LineEnds.{NONE, lines_size, line_end, after_look, Reaches}
use Rattle.text.proofs.LineEnds.{look_within, reaches_on, reaches_feed, reaches_other}
use Rattle.text.specs.Fields.{Cut, endless, cut, cut_after, field_of, Unsaid, as_field, malformed, Answers, said, unsaid}
use Rattle.text.specs.Fields.{First, unended, first, behind, begun, first_line, goes_on, Fields}

-- ---- the first field from a place on, by the byte there

module _ (text : List ℕ) (at : ℕ) where
  -- a byte is seen in the text only
  pub byte_within : get_or text at NONE < NONE → at < length text
  byte_within h =
      ⊎_elim (λ (w : at < length text). w) (λ (w : length text ≤ at). absurd (omega (arith, get_or-eq_default text NONE w)))
      (order at (length text))

  pub field_past : length text ≤ at → field_of (drop at text) ≡ endless
  unfolding field_of
  field_past h = rw (drop_of_length-le text h)

  pub field_tab : get_or text at NONE ≡ tab → field_of (drop at text) ≡ cut [] true (drop (at + 1) text)
  unfolding field_of
  field_tab e = rw (drop_from text at NONE (byte_within (omega arith)), e)

  pub field_line_feed : get_or text at NONE ≡ line_feed → field_of (drop at text) ≡ cut [] false (drop (at + 1) text)
  unfolding field_of
  field_line_feed e = rw (drop_from text at NONE (byte_within (omega arith)), e)

  pub field_on : at < length text → get_or text at NONE ≢ tab → get_or text at NONE ≢ line_feed
      → field_of (drop at text) ≡ cut_after (get_or text at NONE) (field_of (drop (at + 1) text))
  unfolding field_of
  field_on h t l = rw (drop_from text at NONE h) (simp (ne_eqb (get_or text at NONE) tab t, ne_eqb (get_or text at NONE) line_feed l))

-- ---- what a reader answers for that field, by the byte there

-- the byte ends an empty field
module _ (text : List ℕ) (at : ℕ) where
  empty_field : (more : Bool) → get_or text at NONE ≡ cond more tab line_feed → field_of (drop at text) ≡ cut [] more (drop (at + 1) text)
  empty_field true e = field_tab text at e
  empty_field false e = field_line_feed text at e

  empty_within : (more : Bool) → get_or text at NONE ≡ cond more tab line_feed → at < length text
  empty_within true e = byte_within text at (omega arith)
  empty_within false e = byte_within text at (omega arith)

  empty_reach : at ≤ length text → (more : Bool) → get_or text at NONE ≡ cond more tab line_feed → Reaches text at more (after_look text at)
  empty_reach in_text true e = reaches_other text at in_text (omega arith)
  empty_reach in_text false e = reaches_feed text at in_text e

module _ {A B : Type 0} (value : B → A) (says : List ℕ → Option B) (text : List ℕ) (at : ℕ)
    (in_text : at ≤ length text) where
  abbrev Here : Result (Field A) Malformed → Type 0
  Here r = Answers value says text at r (after_look text at)

  module _ (more : Bool) (ends : get_or text at NONE ≡ cond more tab line_feed) where
    -- the empty field says something
    pub answers_end : (b : B) → says [] ≡ some b → {r : Result (Field A) Malformed} → r ≡ as_field (value b) more → Here r
    answers_end b s is =
        let n = look_within text at (empty_within text at more ends) in
        said [] b more (drop (at + 1) text) (empty_field text at more ends) s n is

    -- or nothing
    pub answers_empty : says [] ≡ none → {r : Result (Field A) Malformed} → r ≡ malformed more → Here r
    answers_empty s is = unsaid more (rw (empty_field text at more ends) s) (empty_reach text at in_text more ends) is

  module _ (t : get_or text at NONE ≢ tab) (l : get_or text at NONE ≢ line_feed) where
    -- the byte is one of the field: it is answered by the rest of it
    pub answers_on : at < length text → (next : List ℕ → Option B) → ((x : List ℕ) → next x ≡ says (get_or text at NONE ∷ x))
        → {r : Result (Field A) Malformed} {n : ℕ} → Answers value next text (at + 1) r n → Answers value says text at r n
    answers_on here next h {r} {n} (said x b more rest e s q is) =
        said (get_or text at NONE ∷ x) b more rest (field_on text at here t l ∙ rw e) (sym (h x) ∙ s) (omega arith) is
    answers_on here next h {r} {n} (unsaid more u reach is) =
        unsaid more (rw (field_on text at here t l) (later (field_of (drop (at + 1) text)) u))
        (reaches_on (rw (look_within text at here) at (reaches_other text at in_text l)) reach) is
      where
        later : (k : Cut) → Unsaid next k → Unsaid says (cut_after (get_or text at NONE) k)
        later endless u = tt
        later (cut x m after) u = sym (h x) ∙ u

    -- no field begins so
    pub answers_bad : ((x : List ℕ) → says (get_or text at NONE ∷ x) ≡ none) → {r : Result (Field A) Malformed} → r ≡ malformed true
        → Here r
    answers_bad h is = unsaid true none_there (reaches_other text at in_text l) is
      where
        never : (k : Cut) → Unsaid says (cut_after (get_or text at NONE) k)
        never endless = tt
        never (cut x m after) = h x

        none_there : Unsaid says (field_of (drop at text))
        none_there =
            ⊎_elim
            (λ (here : at < length text). rw (field_on text at here t l) (never (field_of (drop (at + 1) text))))
            (λ (past : length text ≤ at). rw (field_past text at past) tt)
            (order at (length text))

-- ---- the first field's bytes in the text

abbrev Whole : List ℕ → Cut → Type 0
Whole t endless = Unit
Whole t (cut x more rest) = t ≡ x ++ cond more tab line_feed ∷ rest

whole_after : (b : ℕ) (bs : List ℕ) (k : Cut) → Whole bs k → Whole (b ∷ bs) (cut_after b k)
whole_after b bs endless h = tt
whole_after b bs (cut x more rest) h = ap (λ (l : List ℕ). b ∷ l) h

whole : (t : List ℕ) → Whole t (field_of t)
unfolding field_of
whole [] = tt
whole (b ∷ bs) =
    ways (eqb b tab) (λ e. simp e (ap (λ (n : ℕ). n ∷ bs) (eqb-true b tab e))) (λ e.
    ways (eqb b line_feed) (λ q. simp (e, q) (ap (λ (n : ℕ). n ∷ bs) (eqb-true b line_feed q)))
    (λ q. simp (e, q) (whole_after b bs (field_of bs) (whole bs))))

module _ (t x : List ℕ) (more : Bool) (rest : List ℕ) (e : field_of t ≡ cut x more rest) where
  -- the text is the field, its end and the rest
  pub field_whole : t ≡ x ++ cond more tab line_feed ∷ rest
  field_whole = rw e at (whole t)

  pub field_rest : drop (length x + 1) t ≡ rest
  field_rest = rw field_whole (drop-append-add x (cond more tab line_feed ∷ rest) 1)

  pub field_length : length t ≡ length x + 1 + length rest
  field_length = rw field_whole (length-append x (cond more tab line_feed ∷ rest) ∙ omega arith)

-- so the field's bytes stand where it begins
pub field_bytes : (text : List ℕ) (at : ℕ) (x : List ℕ) (more : Bool) (rest : List ℕ) → field_of (drop at text) ≡ cut x more rest
    → take (length x) (drop at text) ≡ x
field_bytes text at x more rest e =
    rw (field_whole (drop at text) x more rest e) (take-append_seam x (cond more tab line_feed ∷ rest))

-- ---- fields of a line, one after the other

-- the line whose first field is this
abbrev line_with : Cut → First
line_with endless = unended
line_with (cut x more rest) = goes_on (x ∷ []) more rest

begun_behind : (b : ℕ) (x : List ℕ) (l : First) → begun b (behind (x ∷ []) l) ≡ behind ((b ∷ x) ∷ []) l
begun_behind b x unended = refl
begun_behind b x (first fs rest) = refl

behind_behind : (fs gs : List (List ℕ)) (l : First) → behind fs (behind gs l) ≡ behind (fs ++ gs) l
behind_behind fs gs unended = refl
behind_behind fs gs (first hs rest) = rw (append_assoc fs gs hs)

line_after : (b : ℕ) (k : Cut) → begun b (line_with k) ≡ line_with (cut_after b k)
line_after b endless = refl
line_after b (cut x true rest) = begun_behind b x (first_line rest)
line_after b (cut x false rest) = refl

line_with_lem : (t : List ℕ) → first_line t ≡ line_with (field_of t)
unfolding first_line field_of
line_with_lem [] = refl
line_with_lem (b ∷ bs) =
    ways (eqb b tab) (λ e. simp e) (λ e.
    ways (eqb b line_feed) (λ q. simp (e, q))
    (λ q. simp (e, q) (ap (begun b) (line_with_lem bs) ∙ line_after b (field_of bs))))

behind_field : (fs : List (List ℕ)) (x : List ℕ) (more : Bool) (rest : List ℕ)
    → behind fs (goes_on (x ∷ []) more rest) ≡ goes_on (fs ++ x ∷ []) more rest
behind_field fs x true rest = behind_behind fs (x ∷ []) (first_line rest)
behind_field fs x false rest = refl

behind_none : (l : First) → l ≡ behind [] l
behind_none unended = refl
behind_none (first fs rest) = refl

-- no field yet
pub fields_none : (text : List ℕ) (at : ℕ) → at ≤ length text → Fields text at [] at true
fields_none text at h = record { on = omega arith; within = h; line = behind_none (first_line (drop at text)) }

module _ {text : List ℕ} {at : ℕ} {fs : List (List ℕ)} {next : ℕ} (so : Fields text at fs next true) where
  -- one field more
  pub fields_more : (x : List ℕ) (more : Bool) (rest : List ℕ) → field_of (drop next text) ≡ cut x more rest
      → Fields text at (fs ++ x ∷ []) (next + (length x + 1)) more
  fields_more x more rest e =
      let size = field_length (drop next text) x more rest e in
      let after : rest ≡ drop (next + (length x + 1)) text =
      sym (field_rest (drop next text) x more rest e) ∙ drop-drop (length x + 1) next text in
      record {
        on = omega (arith, so.on, length-append fs (x ∷ []));
        within = omega (arith, so.within, size, length-drop next text);
        line =
            so.line ∙ ap (behind fs) (line_with_lem (drop next text) ∙ ap line_with e) ∙ behind_field fs x more rest
            ∙ ap (goes_on (fs ++ x ∷ []) more) after;
      }

  -- no field more: the text ends before a line feed
  pub fields_endless : field_of (drop next text) ≡ endless → first_line (drop at text) ≡ unended
  fields_endless e = so.line ∙ ap (behind fs) (line_with_lem (drop next text) ∙ ap line_with e)

-- a line's letter: one byte, and a tab after it
pub fields_letter : (text : List ℕ) (at b : ℕ) → get_or text at NONE ≡ b → b < NONE → b ≢ tab → b ≢ line_feed → get_or text (at + 1) NONE ≡ tab
    → Fields text at ((b ∷ []) ∷ []) (at + 2) true
fields_letter text at b e h t l after =
    let here : at < length text = byte_within text at (rw e h) in
    fields_more (fields_none text at (omega arith)) (b ∷ []) true (drop (at + 1 + 1) text)
    (field_on text at here (rw e t) (rw e l) ∙ rw (e, field_tab text (at + 1) after))

-- ---- where the fields of a line lead

-- n bytes of m are those of the first line, by what follows it
abbrev Fills : ℕ → ℕ → First → Type 0
Fills n m unended = n ≡ m
Fills n m (first fs rest) = n + length rest ≡ m

fills_behind : (n m : ℕ) (fs : List (List ℕ)) (l : First) → Fills n m l → Fills (suc n) (suc m) (behind fs l)
fills_behind n m fs unended h = ap suc h
fills_behind n m fs (first gs rest) h = omega (arith, h)

fills_begun : (n m b : ℕ) (l : First) → Fills n m l → Fills (suc n) (suc m) (begun b l)
fills_begun n m b unended h = ap suc h
fills_begun n m b (first gs rest) h = omega (arith, h)

line_fills : (t : List ℕ) → Fills (lines_size 1 t) (length t) (first_line t)
unfolding first_line lines_size
line_fills [] = refl
line_fills (b ∷ bs) =
    ways (eqb b tab) (λ e. rw (eqb-true b tab e) (fills_behind (lines_size 1 bs) (length bs) ([] ∷ []) (first_line bs) (line_fills bs))) (λ e.
    ways (eqb b line_feed) (λ q. simp (e, q) (omega arith))
    (λ q. simp (e, q) (fills_begun (lines_size 1 bs) (length bs) b (first_line bs) (line_fills bs))))

-- the line goes on after them, or has ended
pub fields_reach : {text : List ℕ} {at : ℕ} {fs : List (List ℕ)} {next : ℕ} (more : Bool) → Fields text at fs next more
    → Reaches text at more next
fields_reach {text} {at} {fs} {next} false so =
    record {
      on = omega (arith, so.on);
      within = so.within;
      line = omega (
        arith,
        so.on,
        so.within,
        length-drop at text,
        length-drop next text,
        rw so.line at (line_fills (drop at text)),
      );
    }
fields_reach {text} {at} {fs} {next} true so =
    record {
      on = omega (arith, so.on);
      within = so.within;
      line = by (first_line (drop next text)) (line_fills (drop next text)) (rw so.line at (line_fills (drop at text)));
    }
  where
    by : (l : First) → Fills (lines_size 1 (drop next text)) (length (drop next text)) l
        → Fills (lines_size 1 (drop at text)) (length (drop at text)) (behind fs l) → line_end text next ≡ line_end text at
    by unended h k = omega (arith, so.on, so.within, length-drop at text, length-drop next text)
    by (first gs rest) h k = omega (arith, so.on, so.within, length-drop at text, length-drop next text)

-- ---- the first line among the parts of a text

abbrev Parts : List ℕ → First → List (List ℕ) → Type 0
Parts t unended parts = parts ≡ t ∷ []
Parts t (first fs rest) parts = (part : List ℕ) × (parts ≡ part ∷ split line_feed rest) × (split tab part ≡ fs)

parts_tab : (bs : List ℕ) (l : First) (parts : List (List ℕ)) → Parts bs l parts → Parts (tab ∷ bs) (behind ([] ∷ []) l) (on_first tab parts)
unfolding split
parts_tab bs unended parts h = ap (on_first tab) h
parts_tab bs (first fs rest) parts h = (tab ∷ h.0, ap (on_first tab) h.1, ap (λ (ps : List (List ℕ)). [] ∷ ps) h.2)

parts_on : (b : ℕ) → eqb b tab ≡ false → (bs : List ℕ) (l : First) (parts : List (List ℕ)) → Parts bs l parts
    → Parts (b ∷ bs) (begun b l) (on_first b parts)
unfolding split
parts_on b e bs unended parts h = ap (on_first b) h
parts_on b e bs (first fs rest) parts h = (b ∷ h.0, ap (on_first b) h.1, simp e (ap (on_first b) h.2))

parts_of : (t : List ℕ) → Parts t (first_line t) (split line_feed t)
unfolding first_line split
parts_of [] = refl
parts_of (b ∷ bs) =
    ways (eqb b tab)
    (λ e. rw (eqb-true b tab e) (parts_tab bs (first_line bs) (split line_feed bs) (parts_of bs)))
    (λ e. ways (eqb b line_feed)
    (λ q. simp (e, q) ([], refl, refl))
    (λ q. simp (e, q) (parts_on b e bs (first_line bs) (split line_feed bs) (parts_of bs))))

-- a text has a first part
pub some_part : (separator : ℕ) (t : List ℕ) → (y : List ℕ) × (ys : List (List ℕ)) × (split separator t ≡ y ∷ ys)
unfolding split
some_part separator [] = ([], [], refl)
some_part separator (b ∷ bs) = go (eqb b separator) (split separator bs)
  where
    go : (t : Bool) (parts : List (List ℕ)) → (y : List ℕ) × (ys : List (List ℕ)) × (cond t ([] ∷ parts) (on_first b parts) ≡ y ∷ ys)
    go true parts = ([], parts, refl)
    go false [] = (b ∷ [], [], refl)
    go false (part ∷ parts) = (b ∷ part, parts, refl)

-- its bytes are the first part between line feeds, and its fields the parts of that between tabs
pub line_parts : (text : List ℕ) (fs : List (List ℕ)) (rest : List ℕ) → first_line text ≡ first fs rest
    → (part : List ℕ) × (split line_feed text ≡ part ∷ split line_feed rest) × (split tab part ≡ fs)
line_parts text fs rest e = rw e at (parts_of text)

-- a text with no line feed is one part
pub line_unended : (text : List ℕ) → first_line text ≡ unended → split line_feed text ≡ text ∷ []
line_unended text e = rw e at (parts_of text)

-- ---- a first field of one byte: it is the line's first byte, and stands alone where no tab follows

first_is : (x y : List ℕ) (fs : List (List ℕ)) (rest : List ℕ) (l : First) → behind (x ∷ []) l ≡ first (y ∷ fs) rest → x ≡ y
first_is x y fs rest unended e = clash (cc)
first_is x y fs rest (first gs r) e = cc

module _ (text : List ℕ) (at b : ℕ) (fs : List (List ℕ)) (rest : List ℕ) (e : first_line (drop at text) ≡ first ((b ∷ []) ∷ fs) rest) where
  letter_bytes : (end : ℕ) (r : List ℕ) → drop at text ≡ b ∷ end ∷ r → (get_or text at NONE ≡ b) × (get_or text (at + 1) NONE ≡ end)
  letter_bytes end r w =
      (rw (← add-zero at) (rw (← get_or-drop at text 0 NONE, w)), rw (← get_or-drop at text 1 NONE, w))

  letter_by : (k : Cut) → Whole (drop at text) k → line_with k ≡ first ((b ∷ []) ∷ fs) rest
      → (get_or text at NONE ≡ b) × (get_or text (at + 1) NONE ≢ tab → fs ≡ [])
  letter_by endless w q = clash (cc)
  letter_by (cut x true r) w q =
      let is : x ≡ b ∷ [] = first_is x (b ∷ []) fs rest (first_line r) q in
      let seen = letter_bytes tab r (rw is at w) in
      (seen.0, λ no. absurd (no seen.1))
  letter_by (cut x false r) w q =
      let is : x ≡ b ∷ [] = cc in
      ((letter_bytes line_feed r (rw is at w)).0, λ no. cc)

  pub letter_of : get_or text at NONE ≡ b
  letter_of = (letter_by (field_of (drop at text)) (whole (drop at text)) (sym (line_with_lem (drop at text)) ∙ e)).0

  pub letter_alone : get_or text (at + 1) NONE ≢ tab → fs ≡ []
  letter_alone = (letter_by (field_of (drop at text)) (whole (drop at text)) (sym (line_with_lem (drop at text)) ∙ e)).1
