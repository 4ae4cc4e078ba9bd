-- The first line of a text: the fields that it is written from are those that it is read as, and the rest follows it.
use Rattle.std.specs.Prelude.{ℕ, ◌≡◌, refl, true, false, ◌||◌, List, [], ◌∷◌, ◌++◌, eqb}
use Rattle.std.proofs.Common.{ap, ◌∙◌, append_assoc, eqb-true}
use Rattle.std.proofs.lemmas.Bool.{not-true}
use Rattle.runs.specs.Every.{every}
use Rattle.runs.specs.Tests.{ways, both_left, both_right, or_left, or_right}
use Rattle.runs.specs.Update.{clash}
use Rattle.text.specs.Text.{tab, line_feed, split, line}
use Rattle.text.specs.Fields.{First, unended, first, behind, begun, first_line}
use Rattle.text.proofs.FieldLaws.{line_parts, line_unended}
use Rattle.convert.specs.Convert.{after_line}
use Rattle.convert.specs.FirstLine.{is_field_byte, Whole}

-- ---- written, then read

-- a byte of a field is before a line
before_line : (b : ℕ) (t : List ℕ) → is_field_byte b ≡ true → first_line (b ∷ t) ≡ begun b (first_line t)
unfolding first_line
before_line b t e =
    let ends : (eqb b tab || eqb b line_feed) ≡ false = not-true (eqb b tab || eqb b line_feed) e in
    simp (or_left (eqb b tab) (eqb b line_feed) ends, or_right (eqb b tab) (eqb b line_feed) ends)

-- a field, and what follows it from its end on
field_first : (f : List ℕ) (t : List ℕ) (fs : List (List ℕ)) (rest : List ℕ) → every is_field_byte f ≡ true
    → first_line t ≡ first ([] ∷ fs) rest → first_line (f ++ t) ≡ first (f ∷ fs) rest
unfolding every
field_first [] t fs rest e q = q
field_first (b ∷ bs) t fs rest e q =
    before_line b (bs ++ t) (both_left (is_field_byte b) (every is_field_byte bs) e)
    ∙ ap (begun b) (field_first bs t fs rest (both_right (is_field_byte b) (every is_field_byte bs) e) q)

line_first : (f : List ℕ) (fs : List (List ℕ)) (rest : List ℕ) → Whole (f ∷ fs) → first_line (line (f ∷ fs) ++ rest) ≡ first (f ∷ fs) rest
unfolding line first_line
line_first f [] rest (e, tt) = rw (append_assoc f (line_feed ∷ []) rest) (field_first f (line_feed ∷ rest) [] rest e refl)
line_first f (g ∷ gs) rest (e, more) =
    rw (append_assoc f (tab ∷ line (g ∷ gs)) rest)
    (field_first f (tab ∷ line (g ∷ gs) ++ rest) (g ∷ gs) rest e (ap (behind ([] ∷ [])) (line_first g gs rest more)))

-- ---- read, then written

-- a text whose first line is this
abbrev Cut : List ℕ → First → Type 0
Cut text unended = Unit {0}
Cut text (first fs rest) = (f : List ℕ) × (gs : List (List ℕ)) × (fs ≡ f ∷ gs) × (text ≡ line fs ++ rest) × (after_line text ≡ rest)

cut_tab : (t : List ℕ) (l : First) → Cut t l → Cut (tab ∷ t) (behind ([] ∷ []) l)
unfolding line after_line
cut_tab t unended h = tt
cut_tab t (first fs rest) (f, gs, e, q, a) = ([], fs, refl, rw e (ap (λ (u : List ℕ). tab ∷ u) (rw e at q)), a)

cut_on : (b : ℕ) (t : List ℕ) → eqb b line_feed ≡ false → (l : First) → Cut t l → Cut (b ∷ t) (begun b l)
unfolding line after_line
cut_on b t n unended h = tt
cut_on b t n (first [] rest) (f, gs, e, q, a) = clash (cc)
cut_on b t n (first (f ∷ []) rest) (g, gs, e, q, a) = (b ∷ f, [], refl, ap (λ (u : List ℕ). b ∷ u) q, simp n a)
cut_on b t n (first (f ∷ h ∷ hs) rest) (g, gs, e, q, a) = (b ∷ f, h ∷ hs, refl, ap (λ (u : List ℕ). b ∷ u) q, simp n a)

cut_of : (t : List ℕ) → Cut t (first_line t)
unfolding first_line after_line line
cut_of [] = tt
cut_of (b ∷ bs) =
    ways (eqb b tab)
    (λ e. rw (eqb-true b tab e) (cut_tab bs (first_line bs) (cut_of bs)))
    (λ e. ways (eqb b line_feed)
    (λ q. rw (eqb-true b line_feed q) ([], [], refl, refl, refl))
    (λ q. simp (e, q) (cut_on b bs q (first_line bs) (cut_of bs))))

-- ---- a line before a text

module _ (f : List ℕ) (fs : List (List ℕ)) (h : Whole (f ∷ fs)) (rest : List ℕ) where
  -- it is one part more between line feeds, and its parts between tabs are the fields
  pub line_splits : (part : List ℕ) × (split line_feed (line (f ∷ fs) ++ rest) ≡ part ∷ split line_feed rest) × (split tab part ≡ f ∷ fs)
  line_splits = line_parts (line (f ∷ fs) ++ rest) (f ∷ fs) rest (line_first f fs rest h)

  -- the text follows it
  pub after_line_lem : after_line (line (f ∷ fs) ++ rest) ≡ rest
  after_line_lem = (rw (line_first f fs rest h) at (cut_of (line (f ∷ fs) ++ rest))).4

-- ---- a text that has a line: it is that line's fields, and what follows

module _ (text part next : List ℕ) (parts : List (List ℕ)) (e : split line_feed text ≡ part ∷ next ∷ parts) where
  by_first : (l : First) → first_line text ≡ l → Cut text l
      → (text ≡ line (split tab part) ++ after_line text) × (split line_feed (after_line text) ≡ next ∷ parts)
  by_first unended q h = let alone = line_unended text q in clash (cc)
  by_first (first fs rest) q (f, gs, some, is, after) =
      let (part', at, fields) = line_parts text fs rest q in
      let same : part' ≡ part = cc in
      let others : split line_feed rest ≡ next ∷ parts = cc in
      (rw (after, ← same, fields) is, rw after others)

  pub line_before : text ≡ line (split tab part) ++ after_line text
  line_before = (by_first (first_line text) refl (cut_of text)).0

  pub parts_after : split line_feed (after_line text) ≡ next ∷ parts
  parts_after = (by_first (first_line text) refl (cut_of text)).1
