-- What is lent to play order lines, before and after.
use Rattle.std.specs.Prelude.{ℕ, ◌≤◌, ◌≡◌, List, length}
use Rattle.plan.specs.Plan.{Plan}
use Rattle.plan.specs.Reading.{reading, accepted}
use Rattle.plan.specs.declared.order.Order.{Order}
use Rattle.picks.specs.declared.Source.{Source}
use Rattle.machine.specs.State.{Setup, State, start}
use Rattle.steps.specs.Layout.{shares_size}
use Rattle.steps.specs.Memory.{Memory, Holds, share}
use Rattle.orders.specs.Reached.{setup_of, reached}
use Rattle.orders.specs.Limited.{drawn_to, Under}

-- ---- one order line

-- a state from which its picks can be taken
pub record LineAble (end : ℕ) (source : Source) (m : Memory) (store : List ℕ) : Type 0 where
  pub room : shares_size ≤ length store
  pub c : Setup
  pub s : State
  pub under : Under c s end source
  pub holds : Holds c m (share store) s

-- whatever state was held, the one that its picks lead to is held
abbrev pub LinePlayed : ℕ → Source → Memory → List ℕ → Memory → List ℕ → Type 0
LinePlayed end source m store n then =
    (c : Setup) (s : State) → Under c s end source → Holds c m (share store) s → Holds c n (share then) (drawn_to c end s source)

-- ---- the order lines of a plan

-- the start of the run of an accepted plan, which has these order lines
pub record OrdersAble (lines : List Order) (m : Memory) (store : List ℕ) : Type 0 where
  pub room : shares_size ≤ length store
  pub text : List ℕ
  pub p : Plan
  pub accepts : reading text ≡ accepted p
  pub orders : lines ≡ p.orders
  pub holds : Holds (setup_of p) m (share store) (start (setup_of p))

-- where the start was held, the state that the run reaches is held
abbrev pub OrdersPlayed : List Order → ℕ → Memory → List ℕ → Memory → List ℕ → Type 0
OrdersPlayed lines limit m store n then =
    (text : List ℕ) (p : Plan) → reading text ≡ accepted p → lines ≡ p.orders
    → Holds (setup_of p) m (share store) (start (setup_of p)) → Holds (setup_of p) n (share then) (reached p limit)
