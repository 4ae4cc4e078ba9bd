-- What the public functions answer, by what a text comes to.
use Rattle.std.specs.Prelude.{Result, Ok, Err, ℕ, ◌≡◌, refl, true, false, List, [], ◌∷◌, length}
use Rattle.std.proofs.lemmas.List.Edits.{sets}
use Rattle.refusals.specs.declared.Refusal.{Refusal}
use Rattle.refusals.specs.declared.Refused.{Refused}
use Rattle.refusals.specs.declared.Refusal.TheVariants.{Misplaced}
use Rattle.refusals.specs.Number.{number}
use Rattle.text.specs.LineEnds.{lines_size}
use Rattle.plan.specs.Plan.{Plan}
use Rattle.plan.specs.Line.{at_start}
use Rattle.plan.specs.Reading.{Reading, accepted, refused, reading}
use Rattle.plan.specs.declared.order.Order.{Order}
use Rattle.kept.specs.declared.tasks.Row.{Row}
use Rattle.kept.specs.Tasks.{KeepsTasks}
use Rattle.kept.specs.Orders.{KeepsOrders}
use Rattle.reader.specs.declared.CheckedText.{CheckedText}
use Rattle.reader.specs.declared.Fault.{Fault}
use Rattle.reader.specs.declared.ReadPlan.{ReadPlan}
use Rattle.reader.specs.declared.ReadText.{ReadText}

-- how many bytes of a text are looked at, each once: all of them, or those of the lines up to the refused one (none with line 0, which
-- has a refusal that is not the plan's)
abbrev pub looked : List ℕ → Reading → ℕ
looked text (accepted p) = length text
looked text (refused r line) = lines_size line text

abbrev pub refused_at : {A : Type 0} → Refusal → ℕ → Result A Refused
refused_at r line = Err (record { refusal = r; line = line })

abbrev pub checked_as : Reading → Result (Unit {0}) Refused
checked_as (accepted p) = Ok tt
checked_as (refused r line) = refused_at r line

abbrev pub checked_text : Result (Unit {0}) Refused → ℕ → CheckedText
checked_text checked looks = record { checked = checked; looks = looks }

-- the answer of the checking function
abbrev pub verdict : List ℕ → CheckedText
verdict text = checked_text (checked_as (reading text)) (looked text (reading text))

-- an answer by the paper's number, 0 where nothing is refused, and the values that go with it
pub record Told : Type 0 where
  pub number : ℕ
  pub values : List ℕ

-- a refusal's only value is its line
abbrev pub told_refusal : Refusal → ℕ → Told
told_refusal r line = record { number = number r; values = line ∷ [] }

-- that of a check, with the looks as its last value
abbrev pub told_looks : Result (Unit {0}) Refused → ℕ → Told
told_looks (Ok x) n = record { number = 0; values = n ∷ [] }
told_looks (Err f) n = record { number = number f.refusal; values = f.line ∷ n ∷ [] }

abbrev pub told : CheckedText → Told
told r = told_looks r.checked r.looks

-- what is to be told of a text
abbrev pub told_reading : List ℕ → Reading → Told
told_reading text (accepted p) = record { number = 0; values = looked text (accepted p) ∷ [] }
told_reading text (refused r line) = record { number = number r; values = line ∷ looked text (refused r line) ∷ [] }

abbrev pub told_of : List ℕ → Told
told_of text = told_reading text (reading text)

pub told_verdict : (text : List ℕ) → told (verdict text) ≡ told_of text
told_verdict text = by (reading text)
  where
    by : (x : Reading) → told_looks (checked_as x) (looked text x) ≡ told_reading text x
    by (accepted p) = refl
    by (refused r line) = refl

abbrev pub no_plan : Refusal → ℕ → ℕ → ReadText
no_plan refusal line looks = record { plan = refused_at refusal line; looks = looks }

-- of an accepted text
abbrev pub plan_of : Plan → ReadPlan
plan_of p = record { workers = p.workers; form = p.form; tasks = length p.tasks; orders = length p.orders }

-- what the lines of a whole text come to
abbrev pub AtEnd : Plan → Result ReadPlan Fault → Type 0
AtEnd p (Ok plan) = (at_start p ≡ false) × (plan ≡ plan_of p)
AtEnd p (Err f) = (at_start p ≡ true) × (f ≡ record { refusal = Misplaced; goes_on = false })

-- what is answered of a text where nothing of its tasks and order lines is kept
abbrev pub outlined : List ℕ → Reading → ReadText
outlined text (accepted p) = record { plan = Ok (plan_of p); looks = looked text (accepted p) }
outlined text (refused r line) = no_plan r line (looked text (refused r line))

-- its verdict
abbrev pub checked_plan : Result ReadPlan Refused → Result (Unit {0}) Refused
checked_plan (Ok p) = Ok tt
checked_plan (Err f) = Err f

pub outlined_verdict : (text : List ℕ) (x : Reading)
    → checked_text (checked_plan (outlined text x).plan) (outlined text x).looks ≡ checked_text (checked_as x) (looked text x)
outlined_verdict text (accepted p) = refl
outlined_verdict text (refused r line) = refl

-- what is lent for the rows of tasks and of order lines, before and after
pub record Lent : Type 0 where
  pub rows : List Row
  pub lines : List Order

abbrev pub lent : List Row → List Order → Lent
lent rows lines = record { rows = rows; lines = lines }

-- a plan as it was read from a text, and what is kept of it
pub record Says (text : List ℕ) (before after : Lent) (r : ReadText) (p : Plan) : Type 0 where
  pub accepts : r.plan ≡ Ok (plan_of p)
  pub looks : r.looks ≡ looked text (accepted p)
  pub rows : KeepsTasks text before.rows p.tasks after.rows
  pub lines : KeepsOrders before.lines p.orders after.lines

-- something was stored at the front; what is left to the program
abbrev pub Front : {A : Type 0} → List A → List A → Type 0
Front {A} before after = (xs : List A) × (after ≡ sets before 0 xs)

-- the answer of the reading function, and what it leaves in the rows
abbrev pub Gives : List ℕ → Lent → Lent → ReadText → Reading → Type 0
Gives text before after r (accepted p) = Says text before after r p
Gives text before after r (refused f line) =
    (r ≡ no_plan f line (looked text (refused f line))) × Front before.rows after.rows × Front before.lines after.lines
