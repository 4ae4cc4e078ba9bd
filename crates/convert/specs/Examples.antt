-- Texts moved, computed.
use Rattle.std.specs.Prelude.{ℕ, ◌≡◌, refl, List, [], ◌∷◌, replicate}
use Prim.Native.String.{String}
use Rattle.refusals.specs.declared.Refusal.{Refusal}
use Rattle.refusals.specs.declared.Refusal.TheVariants.{Malformed, Misplaced, TextTooLong, TooFewSlots, OtherSizes, EmptyMask}
use Rattle.runs.specs.Every.{every}
use Rattle.text.specs.Text.{bytes, all_of, split, value_after, number_of, digits_before, decimal, line}
use Rattle.plan.specs.Line.{repeats, ends_unmasked, line_by, line_of_fields}
use Rattle.plan.specs.Reading.{first_refusal, read_lines, reading}
use Rattle.tools.specs.Result.{Result, result, refusal, plan_text}
use Rattle.convert.specs.Convert.{after_line, to_second, to_first}

-- a text, and what is made of it
pub record Example : Type 0 where
  pub text : String
  pub makes : Result

abbrev pub moved : String → String → Example
moved text other = record { text = text; makes = result (bytes other) }

abbrev pub stays : String → Example
stays text = moved text text

abbrev pub refuses : String → Refusal → ℕ → Example
refuses text why n = record { text = text; makes = refusal why n }

abbrev pub AllMake : (List ℕ → Result) → List Example → Type 0
AllMake make [] = Unit {0}
AllMake make (x ∷ xs) = (make (bytes x.text) ≡ x.makes) × AllMake make xs

abbrev pub in_second_form : List Example
in_second_form =
    moved "W\t2\nR\t4\n" "W\t2\t64\t8\nR\t4\n"
    ∷ stays "W\t2\t64\t8\n"
    -- an M line stays as it is
    ∷ moved "W\t2\nT\ta\t0\nM\t2\n" "W\t2\t64\t8\nT\ta\t0\nM\t2\n"
    -- the reader's refusals
    ∷ refuses "W\t2\t1\t1\n" TooFewSlots 1
    ∷ refuses "" Misplaced 1
    ∷ []

abbrev pub in_first_form : List Example
in_first_form =
    moved "W\t2\t64\t8\nR\t4\n" "W\t2\nR\t4\n"
    ∷ stays "W\t2\n"
    ∷ moved "W\t2\t64\t8\nT\ta\t0\nM\t2\n" "W\t2\nT\ta\t0\nM\t2\n"
    -- one of the two sizes is another
    ∷ refuses "W\t2\t64\t9\n" OtherSizes 1
    ∷ refuses "W\t2\t63\t8\n" OtherSizes 1
    -- the reader's refusals come before 10
    ∷ refuses "W\t2\t2\t1\nT\n" Malformed 2
    ∷ refuses "W\t2\t2\t1\nT\ta\t0\nM\t0\n" EmptyMask 3
    ∷ refuses "W\t2\t1\t1\n" TooFewSlots 1
    ∷ refuses "" Misplaced 1
    ∷ []

-- by computation
pub to_second_lem : AllMake to_second in_second_form
unfolding bytes every all_of split value_after number_of digits_before decimal line
    repeats ends_unmasked line_by line_of_fields first_refusal read_lines reading after_line to_second
to_second_lem = (refl, (refl, (refl, (refl, (refl, tt)))))

pub to_first_lem : AllMake to_first in_first_form
unfolding bytes every all_of split value_after number_of digits_before decimal line
    repeats ends_unmasked line_by line_of_fields first_refusal read_lines reading after_line to_first
to_first_lem = (refl, (refl, (refl, (refl, (refl, (refl, (refl, (refl, (refl, tt)))))))))

-- the longest text, and one byte more
pub at_the_limit : (plan_text (replicate 65536 0) ≡ result (replicate 65536 0)) × (plan_text (replicate 65537 0) ≡ refusal TextTooLong 0)
at_the_limit = (refl, refl)
