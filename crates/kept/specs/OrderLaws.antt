-- Laws of order lines that are kept. Assumes nothing.
use Rattle.std.specs.Prelude.{◌≤◌, ◌≡◌, refl, List, [], ◌∷◌, ◌++◌, length, get_or, set}
use Rattle.std.proofs.Common.{sym, ap, ◌∙◌, arith, zero-add}
use Rattle.std.proofs.Math.Seq.{length-sets}
use Rattle.runs.specs.Stores.{sets_append, sets_at}
use Rattle.plan.specs.declared.order.Order.{Order}
use Rattle.kept.specs.Orders.{KeepsOrders, HasOrders}

-- ---- keeping one after the other

pub no_orders_lem : (lines : List Order) → KeepsOrders lines [] lines
no_orders_lem lines = record { stores = refl }

pub order_kept : {lines mid after : List Order} {os : List Order} → KeepsOrders lines os mid → (o : Order)
    → after ≡ set mid (length os) o → KeepsOrders lines (os ++ o ∷ []) after
order_kept {lines} {os = os} k o e =
    record {
      stores =
          e ∙ ap (λ (l : List Order). set l (length os) o) k.stores
          ∙ sym (rw (zero-add (length os)) at (sets_append os (o ∷ []) lines 0));
    }

pub orders_length : {lines after : List Order} {os : List Order} → KeepsOrders lines os after → length after ≡ length lines
orders_length {lines} {os = os} k = ap length k.stores ∙ length-sets lines 0 os

-- ---- what was kept is there, where there is room

pub has_orders_lem : {lines after : List Order} {os : List Order} → KeepsOrders lines os after → length os ≤ length lines
    → HasOrders after os
has_orders_lem {lines} {after} {os} k room =
    record {
      room = omega (arith, orders_length k);
      each = λ i l d. ap (λ (xs : List Order). get_or xs i d) k.stores ∙ rw (zero-add i) at (sets_at os lines 0 i d l (omega arith));
    }
