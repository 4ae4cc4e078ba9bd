-- The first field of a text, and what the readers of one field answer.
use Rattle.std.specs.Prelude.{Result, Ok, Err, ℕ, ◌+◌, ◌-◌, ◌*◌, ◌^◌, ◌≤◌, ◌≡◌, Bool, true, false, cond, not, ◌&&◌, List, [], ◌∷◌, ◌++◌, length, drop, eqb, ltb}
use Rattle.std.specs.Prelude as rust
use Rattle.std.proofs.Math.Option.{Option, none, some}
use Rattle.text.specs.declared.read.Field.{Field}
use Rattle.text.specs.declared.read.Malformed.{Malformed}
use Rattle.text.specs.declared.read.Number.{Number}
use Rattle.runs.specs.Every.{every}
use Rattle.text.specs.Text.{tab, line_feed, on_first, is_digit, value_after, number_of}
use Rattle.text.specs.LineEnds.{Reaches}
pub use Rattle.text.specs.LineEnds.{NONE}

-- ---- the first field of a text

-- its bytes, whether a tab ended it (else a line feed did), and what follows; or the text has neither
pub data Cut : Type 0 where
  endless : Cut
  cut : List ℕ → Bool → List ℕ → Cut

abbrev pub cut_after : ℕ → Cut → Cut
cut_after b endless = endless
cut_after b (cut x more rest) = cut (b ∷ x) more rest

unfoldable pub field_of : List ℕ → Cut
field_of [] = endless
field_of (b ∷ bs) = cond (eqb b tab) (cut [] true bs) (cond (eqb b line_feed) (cut [] false bs) (cut_after b (field_of bs)))

-- what its bytes say is nothing, or there is no field
abbrev pub Unsaid : {B : Type 0} → (List ℕ → Option B) → Cut → Type 0
Unsaid says endless = Unit {0}
Unsaid says (cut x more rest) = says x ≡ none

-- the answers for a field that says this, and for one that is not of its form, where the line goes on or has ended
abbrev pub as_field : {A : Type 0} → A → Bool → Result (Field A) Malformed
as_field v more = Ok (record { value = v; more = more })

abbrev pub malformed : {A : Type 0} → Bool → Result (Field A) Malformed
malformed more = Err (record { goes_on = more })

-- the answer for a field that says this, at the byte that may end it
abbrev pub ended : {A : Type 0} → A → rust.Option ℕ → Result (Field A) Malformed
ended v rust.None = malformed true
ended v (rust.Some b) = cond (eqb b tab) (as_field v true) (cond (eqb b line_feed) (as_field v false) (malformed true))

-- the answer r of a reader for the field at a place, each byte of it looked at once, n bytes of the text so far: what its bytes say, as
-- `value` gives it, and whether a tab ended it; or it says nothing, and is left at a byte that shows it, where the line goes on or has ended
pub data Answers {A B : Type 0} (value : B → A) (says : List ℕ → Option B) (text : List ℕ) (at : ℕ) (r : Result (Field A) Malformed)
    (n : ℕ) : Type 0 where
  said : (x : List ℕ) (b : B) (more : Bool) (rest : List ℕ) → field_of (drop at text) ≡ cut x more rest → says x ≡ some b
      → n ≡ at + (length x + 1) → r ≡ as_field (value b) more → Answers value says text at r n
  unsaid : (more : Bool) → Unsaid says (field_of (drop at text)) → Reaches text at more n → r ≡ malformed more
      → Answers value says text at r n

-- ---- the fields of a text's first line

-- its fields, and what follows it; or the text has no line feed
pub data First : Type 0 where
  unended : First
  first : List (List ℕ) → List ℕ → First

-- fields before those of a line
abbrev pub behind : List (List ℕ) → First → First
behind fs unended = unended
behind fs (first gs rest) = first (fs ++ gs) rest

-- a byte before those of a line
abbrev pub begun : ℕ → First → First
begun b unended = unended
begun b (first fs rest) = first (on_first b fs) rest

unfoldable pub first_line : List ℕ → First
first_line [] = unended
first_line (b ∷ bs) =
    cond (eqb b tab) (behind ([] ∷ []) (first_line bs)) (cond (eqb b line_feed) (first ([] ∷ []) bs) (begun b (first_line bs)))

-- the line whose first fields are these: it goes on, or else it has ended before the rest of the text
abbrev pub goes_on : List (List ℕ) → Bool → List ℕ → First
goes_on fs true rest = behind fs (first_line rest)
goes_on fs false rest = first fs rest

-- fields that stand in a line from a place on, up to `next`: a tab ended the last, so that more follow, or a line feed
pub record Fields (text : List ℕ) (at : ℕ) (fs : List (List ℕ)) (next : ℕ) (more : Bool) : Type 0 where
  pub on : at + length fs ≤ next
  pub within : next ≤ length text
  pub line : first_line (drop at text) ≡ goes_on fs more (drop next text)

-- ---- a number

-- a number as 64 bits hold it
abbrev pub clipped : ℕ → ℕ
clipped v = cond (ltb v (2 ^ 64)) v 18446744073709551615

abbrev pub fits_in : ℕ → Bool
fits_in v = ltb v (2 ^ 64)

-- a number, and one that does not fit
abbrev pub held : ℕ → Number
held v = record { value = clipped v; fits = fits_in v }

abbrev pub ReadNumber : List ℕ → ℕ → Result (Field Number) Malformed → ℕ → Type 0
ReadNumber = Answers held number_of

-- ---- parts of its reader

-- the digit that is seen
abbrev pub digit_seen : rust.Option ℕ → rust.Option ℕ
digit_seen rust.None = rust.None
digit_seen (rust.Some b) = cond (is_digit b) (rust.Some (b - 48)) rust.None

-- a number that does not fit has the largest value
abbrev pub Clipped : Number → Type 0
Clipped number = number.fits ≡ false → number.value ≡ 18446744073709551615

-- one digit more
abbrev pub digit_after : Number → ℕ → Number
digit_after number d =
    cond (number.fits && ltb (number.value * 10 + d) (2 ^ 64)) (record { value = number.value * 10 + d; fits = true })
    (record { value = 18446744073709551615; fits = false })

-- the number that x says after digits that say n, none after a leading zero
abbrev pub more_of : ℕ → List ℕ → Option ℕ
more_of n [] = some n
more_of n (b ∷ x) = cond (every is_digit (b ∷ x) && not (eqb n 0)) (some (value_after n (b ∷ x))) none

-- the same of the field at a place
abbrev pub MoreDigits : ℕ → List ℕ → ℕ → Result (Field Number) Malformed → ℕ → Type 0
MoreDigits v = Answers held (more_of v)
