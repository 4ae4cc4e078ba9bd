-- What a plan says.
use Rattle.std.specs.Prelude.{ℕ, List, [], ◌∷◌, ◌++◌}
use Rattle.std.proofs.Math.Option.{Option, some}
pub use Rattle.plan.specs.declared.access.Access.{Access}
pub use Rattle.plan.specs.declared.order.Order.{Order}
pub use Rattle.plan.specs.declared.order.Order.TheVariants.{Picks as picks, Rounds as rounds, Seeded as seeded}
use Rattle.plan.specs.declared.form.Form.{Form}
use Rattle.plan.specs.declared.form.Form.TheVariants.{First, Second}

pub record Task : Type 0 where
  pub label : List ℕ
  pub cost : ℕ
  pub accesses : List Access
  -- the number of its M line, if it has one: bit i for worker i
  pub mask : Option ℕ

-- the slots of the ring and the capacity of each queue: the first form means 64 and 8, the second has both
abbrev pub slots_of : Form → ℕ
slots_of First = 64
slots_of (Second slots capacity) = slots

abbrev pub capacity_of : Form → ℕ
capacity_of First = 8
capacity_of (Second slots capacity) = capacity

pub record Plan : Type 0 where
  pub workers : ℕ
  -- of its W line
  pub form : Form
  pub tasks : List Task
  pub orders : List Order

-- nothing is read
abbrev pub empty_plan : Plan
empty_plan = record { workers = 0; form = First; tasks = []; orders = [] }

-- the plan with one line more
abbrev pub with_workers : Plan → ℕ → Form → Plan
with_workers p n form = record { workers = n; form = form; tasks = p.tasks; orders = p.orders }

abbrev pub with_task : Plan → Task → Plan
with_task p t = record { workers = p.workers; form = p.form; tasks = p.tasks ++ t ∷ []; orders = p.orders }

-- the last task with the mask of an M line
unfoldable pub mask_last : ℕ → List Task → List Task
mask_last m [] = []
mask_last m (t ∷ []) = record { label = t.label; cost = t.cost; accesses = t.accesses; mask = some m } ∷ []
mask_last m (t ∷ u ∷ ts) = t ∷ mask_last m (u ∷ ts)

abbrev pub with_mask : Plan → ℕ → Plan
with_mask p m = record { workers = p.workers; form = p.form; tasks = mask_last m p.tasks; orders = p.orders }

abbrev pub with_order : Plan → Order → Plan
with_order p o = record { workers = p.workers; form = p.form; tasks = p.tasks; orders = p.orders ++ o ∷ [] }
