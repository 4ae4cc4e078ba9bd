-- What is printed for a text that is checked: `A` and the number of looks, or the line of the refusal.
use Rattle.std.specs.Prelude.{ℕ, List, [], ◌∷◌}
use Rattle.text.specs.Text.{bytes, decimal, line}
use Rattle.plan.specs.Reading.{reading}
use Rattle.reader.specs.Verdict.{verdict}
use Rattle.tools.specs.Result.{Result, result, of_plan}

abbrev pub accepted_fields : ℕ → List (List ℕ)
accepted_fields looks = bytes "A" ∷ decimal looks ∷ []

-- a tool of its own kind: its result is the line of an accepted plan
abbrev pub checking : List ℕ → Result
checking text = of_plan (λ p. result (line (accepted_fields (verdict text).looks))) (reading text)
