-- The two forms of a plan, read: at the ends of their ranges, and one past them.
use Rattle.std.specs.Prelude.{◌≡◌, ℕ, List, [], ◌∷◌, refl}
use Prim.Native.String.{String}
use Rattle.refusals.specs.declared.Refusal.TheVariants.{OutOfRange, TooFewSlots}
use Rattle.runs.specs.Every.{every}
use Rattle.text.specs.Text.{bytes, split, value_after, number_of}
use Rattle.plan.specs.declared.form.Form.{Form}
use Rattle.plan.specs.declared.form.Form.TheVariants.{First, Second}
use Rattle.plan.specs.Plan.{rounds, slots_of, capacity_of, Plan, empty_plan, with_workers, with_order}
use Rattle.plan.specs.Line.{line_by, line_of_fields}
use Rattle.plan.specs.Reading.{accepted, first_refusal, read_lines, reading}
use Rattle.plan.specs.TwoFaults.{Faulty, faulty, AllRefused}

-- what the first form means
pub first_form : (slots_of First ≡ 64) × (capacity_of First ≡ 8)
first_form = (refl, refl)

pub record Meaning : Type 0 where
  pub text : String
  pub plan : Plan

abbrev pub meaning : String → Plan → Meaning
meaning text plan = record { text = text; plan = plan }

abbrev pub AllAccepted : List Meaning → Type 0
AllAccepted [] = Unit {0}
AllAccepted (m ∷ ms) = (reading (bytes m.text) ≡ accepted m.plan) × AllAccepted ms

-- a plan that is a W line alone
abbrev alone : ℕ → Form → Plan
alone = with_workers empty_plan

abbrev pub forms : List Meaning
forms =
    meaning "W\t2\n" (alone 2 First)
    ∷ meaning "W\t1\t1\t1\n" (alone 1 (Second 1 1))
    -- as many slots as workers
    ∷ meaning "W\t2\t2\t1\n" (alone 2 (Second 2 1))
    ∷ meaning "W\t32\t32\t16\n" (alone 32 (Second 32 16))
    -- what the first form means is still the second form where it is spelled out, and the form stays with the plan
    ∷ meaning "W\t32\t64\t8\n" (alone 32 (Second 64 8))
    ∷ meaning "W\t2\t3\t1\nR\t4\n" (with_order (alone 2 (Second 3 1)) (rounds 4))
    ∷ []

abbrev pub outside : List Faulty
outside =
    faulty "W\t0\t1\t1\n" OutOfRange 1
    ∷ faulty "W\t33\t64\t8\n" OutOfRange 1
    ∷ faulty "W\t1\t0\t1\n" OutOfRange 1
    ∷ faulty "W\t1\t65\t8\n" OutOfRange 1
    ∷ faulty "W\t1\t1\t0\n" OutOfRange 1
    ∷ faulty "W\t1\t1\t17\n" OutOfRange 1
    -- one slot too few
    ∷ faulty "W\t2\t1\t1\n" TooFewSlots 1
    ∷ faulty "W\t32\t31\t16\n" TooFewSlots 1
    ∷ []

-- by computation
pub forms_read : AllAccepted forms × AllRefused outside
unfolding bytes every split value_after number_of line_by line_of_fields first_refusal read_lines reading
forms_read = (
  (refl, (refl, (refl, (refl, (refl, (refl, tt)))))),
  (refl, (refl, (refl, (refl, (refl, (refl, (refl, (refl, tt)))))))),
)
