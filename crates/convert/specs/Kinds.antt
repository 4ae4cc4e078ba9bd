-- A line's kind and what it says, which its fields decide, whatever has been read before it.
use Rattle.std.specs.Prelude.{ℕ, ◌≡◌, List}
use Rattle.std.proofs.Math.Option.{Option, none, some}
use Rattle.plan.specs.declared.form.Form.{Form}
use Rattle.plan.specs.Plan.{Task, Plan}
use Rattle.plan.specs.declared.order.Order.{Order}
use Rattle.plan.specs.declared.order.Order.TheVariants.{Picks as picks, Rounds as rounds, Seeded as seeded}
use Rattle.plan.specs.Line.{Line}
use Rattle.plan.specs.Line.{workers_line, task_line, mask_line, picks_line, rounds_line, seeded_line}
use Rattle.convert.specs.Convert.{workers_fields}

pub data Kind : Type 0 where
  malformed : Kind
  workers : ℕ → Form → Kind
  task : Task → Kind
  mask : ℕ → Kind
  order : Order → Kind

abbrev pub order_of : Plan → Order → Line
order_of p (picks worker n) = picks_line p worker n
order_of p (rounds n) = rounds_line p n
order_of p (seeded n seed) = seeded_line p seed n

-- the line of a kind, where p has been read before
abbrev pub line_of_kind : Plan → Kind → Option Line
line_of_kind p malformed = none
line_of_kind p (workers n form) = some (workers_line p n form)
line_of_kind p (task t) = some (task_line p t)
line_of_kind p (mask m) = some (mask_line p m)
line_of_kind p (order o) = some (order_of p o)

-- a W line has one writing
abbrev pub Spelled : List (List ℕ) → Kind → Type 0
Spelled fields malformed = Unit {0}
Spelled fields (workers n form) = fields ≡ workers_fields n form
Spelled fields (task t) = Unit {0}
Spelled fields (mask m) = Unit {0}
Spelled fields (order o) = Unit {0}

-- what is read of fields is of one kind
pub record Kinded (fields : List (List ℕ)) (of : Plan → Option Line) : Type 0 where
  pub kind : Kind
  pub spelled : Spelled fields kind
  pub is : (p : Plan) → of p ≡ line_of_kind p kind
