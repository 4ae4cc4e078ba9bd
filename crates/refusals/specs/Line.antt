-- The line of a refusal: `X`, its number, the plan's line.
use Rattle.std.specs.Prelude.{ℕ, List, [], ◌∷◌}
use Rattle.text.specs.Text.{bytes, decimal}

abbrev pub refusal_fields : ℕ → ℕ → List (List ℕ)
refusal_fields number n = bytes "X" ∷ decimal number ∷ decimal n ∷ []
