-- Texts as lists of bytes: their parts between separators, decimal numbers, fields and lines.
use Rattle.std.specs.Prelude.{ℕ, zero, suc, ◌+◌, ◌*◌, ◌-◌, ◌/◌, ◌%◌, Bool, true, false, cond, not, ◌&&◌, List, [], ◌∷◌, ◌++◌, eqb, leb, ltb}
use Prim.Native.String as Str
use Prim.Native.Char.{code}
use Rattle.std.proofs.Math.Option.{Option, none, some}
use Rattle.runs.specs.Every.{every}

-- the bytes of an ASCII text
unfoldable pub bytes : Str.String → List ℕ
bytes Str.[] = []
bytes (Str.◌∷◌ c s) = code c ∷ bytes s

abbrev pub tab : ℕ
tab = 9

abbrev pub line_feed : ℕ
line_feed = 10

abbrev pub hyphen : ℕ
hyphen = 45

abbrev pub within : ℕ → ℕ → ℕ → Bool
within low high n = leb low n && leb n high

-- all the values, if there are all
unfoldable pub all_of : {A : Type 0} → List (Option A) → Option (List A)
all_of [] = some []
all_of (none ∷ xs) = none
all_of (some x ∷ xs) = elim (all_of xs) [ none ↦ none | some ys ↦ some (x ∷ ys) ]

-- ---- parts

abbrev pub on_first : ℕ → List (List ℕ) → List (List ℕ)
on_first b [] = (b ∷ []) ∷ []
on_first b (part ∷ parts) = (b ∷ part) ∷ parts

-- the parts of a text between separators: one more than there are separators
unfoldable pub split : ℕ → List ℕ → List (List ℕ)
split separator [] = [] ∷ []
split separator (b ∷ bs) = cond (eqb b separator) ([] ∷ split separator bs) (on_first b (split separator bs))

-- ---- decimal numbers

abbrev pub is_digit : ℕ → Bool
is_digit b = within 48 57 b

-- the number that digits say after those that say n
unfoldable pub value_after : ℕ → List ℕ → ℕ
value_after n [] = n
value_after n (b ∷ bs) = value_after (n * 10 + (b - 48)) bs

-- digits, no leading zero except 0 itself; of any length
unfoldable pub number_of : List ℕ → Option ℕ
number_of [] = none
number_of (b ∷ []) = cond (is_digit b) (some (b - 48)) none
number_of (b ∷ c ∷ bs) = cond (every is_digit (b ∷ c ∷ bs) && not (eqb b 48)) (some (value_after 0 (b ∷ c ∷ bs))) none

-- the digits of n before those that are there; n has no more than k digits
unfoldable pub digits_before : ℕ → ℕ → List ℕ → List ℕ
digits_before zero n ds = ds
digits_before (suc k) n ds = elim (ltb n 10) [ true ↦ (48 + n) ∷ ds | false ↦ digits_before k (n / 10) ((48 + n % 10) ∷ ds) ]

-- a number's digits
unfoldable pub decimal : ℕ → List ℕ
decimal n = digits_before (suc n) n []

-- ---- fields of a line that is written

-- a field that is not known
abbrev pub unknown : List ℕ
unknown = bytes "-"

-- a number that may not be known
abbrev pub number_if : Bool → ℕ → List ℕ
number_if known n = cond known (decimal n) unknown

abbrev pub number_or_none : Option ℕ → List ℕ
number_or_none none = unknown
number_or_none (some n) = decimal n

-- ---- lines

-- fields parted by tabs, and a line feed
unfoldable pub line : List (List ℕ) → List ℕ
line [] = line_feed ∷ []
line (f ∷ []) = f ++ line_feed ∷ []
line (f ∷ g ∷ gs) = f ++ tab ∷ line (g ∷ gs)
