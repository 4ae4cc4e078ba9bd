-- A plan's text in the other form: the old text with another W line.
use Rattle.std.specs.Prelude.{ℕ, Bool, cond, ◌&&◌, List, [], ◌∷◌, ◌++◌, eqb}
use Rattle.refusals.specs.declared.Refusal.TheVariants.{OtherSizes}
use Rattle.text.specs.Text.{line_feed, bytes, decimal, line}
use Rattle.plan.specs.declared.form.Form.{Form}
use Rattle.plan.specs.declared.form.Form.TheVariants.{First, Second}
use Rattle.plan.specs.Plan.{slots_of, capacity_of, Plan}
use Rattle.plan.specs.Reading.{reading}
use Rattle.tools.specs.Result.{Result, refusal, of_plan, plan_text}

-- what follows the first line of a text
unfoldable pub after_line : List ℕ → List ℕ
after_line [] = []
after_line (b ∷ bs) = cond (eqb b line_feed) bs (after_line bs)

-- the fields of a W line
abbrev pub workers_fields : ℕ → Form → List (List ℕ)
workers_fields n First = bytes "W" ∷ decimal n ∷ []
workers_fields n (Second slots capacity) = bytes "W" ∷ decimal n ∷ decimal slots ∷ decimal capacity ∷ []

-- a plan's text with the W line of a form
abbrev pub rewritten : Form → Plan → List ℕ → List ℕ
rewritten form p text = line (workers_fields p.workers form) ++ after_line text

-- the second form, with what the first one means spelled out
abbrev pub spelled_out : Form → Form
spelled_out First = Second (slots_of First) (capacity_of First)
spelled_out (Second slots capacity) = Second slots capacity

-- the sizes are those that the first form means
abbrev pub has_first_sizes : Form → Bool
has_first_sizes form = eqb (slots_of form) (slots_of First) && eqb (capacity_of form) (capacity_of First)

-- what each way makes of the plan that a text means
abbrev pub in_second : List ℕ → Plan → Result
in_second text p = plan_text (rewritten (spelled_out p.form) p text)

abbrev pub in_first : List ℕ → Plan → Result
in_first text p = cond (has_first_sizes p.form) (plan_text (rewritten First p text)) (refusal OtherSizes 1)

-- and of any text
unfoldable pub to_second : List ℕ → Result
to_second text = of_plan (in_second text) (reading text)

unfoldable pub to_first : List ℕ → Result
to_first text = of_plan (in_first text) (reading text)
