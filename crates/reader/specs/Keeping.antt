-- The code's view of a line without fault: what is kept of it.
use Rattle.std.specs.Prelude.{ℕ, ◌+◌, ◌-◌, ◌≡◌, Bool, true, false, List, set}
use Rattle.plan.specs.declared.form.Form.{Form}
use Rattle.plan.specs.declared.order.Order.{Order}
use Rattle.kept.specs.declared.tasks.Row.{Row}
use Rattle.kept.specs.Tasks.{with_mask}
use Rattle.lines.specs.declared.line.Kind.{Kind}
use Rattle.lines.specs.declared.line.Kind.TheVariants as kinds
use Rattle.lines.specs.declared.line.Sofar.{Sofar}
use Rattle.reader.specs.Verdict.{Lent}

abbrev pub IsMask : Kind → Type 0
IsMask (kinds.Workers workers form) = ⊥
IsMask kinds.Task = ⊥
IsMask (kinds.Mask m) = Unit {0}
IsMask (kinds.Order o) = ⊥

abbrev sofar : ℕ → Form → ℕ → ℕ → Bool → Sofar
sofar workers form tasks orders after =
    record { workers = workers; form = form; tasks = tasks; orders = orders; after_task = after }

-- the counts with one line more
abbrev pub counting : Kind → Sofar → Sofar
counting (kinds.Workers workers form) s = sofar workers form s.tasks s.orders s.after_task
counting kinds.Task s = sofar s.workers s.form (s.tasks + 1) s.orders true
counting (kinds.Mask m) s = sofar s.workers s.form s.tasks s.orders false
counting (kinds.Order o) s = sofar s.workers s.form s.tasks (s.orders + 1) false

-- the rows, after i tasks: with the row of the next one, or with the mask of the last
abbrev pub rows_with : Kind → ℕ → Row → List Row → List Row
rows_with (kinds.Workers workers form) i row rows = rows
rows_with kinds.Task i row rows = set rows i row
rows_with (kinds.Mask m) i row rows = with_mask rows (i - 1) m
rows_with (kinds.Order o) i row rows = rows

-- and the order lines, after i of them
abbrev pub orders_with : Kind → ℕ → List Order → List Order
orders_with (kinds.Workers workers form) i orders = orders
orders_with kinds.Task i orders = orders
orders_with (kinds.Mask m) i orders = orders
orders_with (kinds.Order o) i orders = set orders i o

-- what a line without fault says is kept and counted
pub record Keeps (s : Sofar) (kind : Kind) (row : Row) (before after : Lent) (r : Sofar) : Type 0 where
  pub counts : r ≡ counting kind s
  pub rows : after.rows ≡ rows_with kind s.tasks row before.rows
  pub lines : after.lines ≡ orders_with kind s.orders before.lines
