-- The order lines that are kept, and no others, are those of the plan.
use Rattle.std.specs.Prelude.{suc, ◌≡◌, refl, List, [], ◌∷◌, length, take}
use Rattle.std.proofs.Common.{ap, ◌∙◌, arith}
use Rattle.plan.specs.declared.order.Order.{Order}
use Rattle.kept.specs.Orders.{HasOrders}

pub kept_orders : (lines os : List Order) → HasOrders lines os → take (length os) lines ≡ os
kept_orders lines [] h = refl
kept_orders [] (o ∷ os) h = absurd (omega (arith, h.room))
kept_orders (x ∷ xs) (o ∷ os) h =
    let first : x ≡ o = h.each 0 (omega arith) o in
    let more : HasOrders xs os = record { room = omega (arith, h.room); each = λ i l d. h.each (suc i) (omega arith) d } in
    ap (λ (r : List Order). x ∷ r) (kept_orders xs os more) ∙ ap (λ (y : Order). y ∷ os) first
