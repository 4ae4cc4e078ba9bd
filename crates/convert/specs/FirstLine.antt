-- The first line of a text: the fields that it is written from are those that it is read as, and the rest follows it.
use Rattle.std.specs.Prelude.{ℕ, ◌≡◌, Bool, true, not, ◌||◌, List, [], ◌∷◌, eqb}
use Rattle.runs.specs.Every.{every}
use Rattle.text.specs.Text.{tab, line_feed}

-- a byte that ends no field
abbrev pub is_field_byte : ℕ → Bool
is_field_byte b = not (eqb b tab || eqb b line_feed)

-- fields without tab and line feed
abbrev pub Whole : List (List ℕ) → Type 0
Whole [] = Unit {0}
Whole (f ∷ fs) = (every is_field_byte f ≡ true) × Whole fs
