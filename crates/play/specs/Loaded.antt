-- An accepted plan as the reader has kept it.
use Rattle.std.specs.Prelude.{ℕ, ◌≡◌, List, length}
use Rattle.plan.specs.Plan.{Plan}
use Rattle.plan.specs.declared.order.Order.{Order}
use Rattle.kept.specs.Layout as layout
use Rattle.kept.specs.declared.tasks.Row.{Row}
use Rattle.kept.specs.Tasks.{HasTasks}
use Rattle.kept.specs.Orders.{HasOrders}
use Rattle.reader.specs.declared.ReadPlan.{ReadPlan}
use Rattle.reader.specs.Verdict.{plan_of}

-- its workers, its form and its tasks
pub record LoadedTasks (text : List ℕ) (plan : List Row) (r : ReadPlan) (p : Plan) : Type 0 where
  pub size : length plan ≡ layout.most_tasks
  pub read : r ≡ plan_of p
  pub tasks : HasTasks text plan p.tasks

-- and its order lines
pub record Loaded (text : List ℕ) (plan : List Row) (lines : List Order) (r : ReadPlan) (p : Plan) : Type 0 where
  pub tasks : LoadedTasks text plan r p
  pub orders : HasOrders lines p.orders
