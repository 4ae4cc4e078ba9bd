-- The order lines of a plan as they are kept, one behind the other.
use Rattle.std.specs.Prelude.{ℕ, ◌≤◌, ◌<◌, ◌≡◌, List, length, get_or}
use Rattle.std.proofs.lemmas.List.Edits.{sets}
use Rattle.plan.specs.declared.order.Order.{Order}

-- order lines are kept, as far as there is room; what follows is left
pub record KeepsOrders (lines : List Order) (os : List Order) (after : List Order) : Type 0 where
  pub stores : after ≡ sets lines 0 os

-- these order lines are kept
pub record HasOrders (lines : List Order) (os : List Order) : Type 0 where
  pub room : length os ≤ length lines
  pub each : (i : ℕ) → i < length os → (d : Order) → get_or lines i d ≡ get_or os i d
