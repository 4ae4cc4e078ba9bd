-- How long a run of an accepted plan can be: so far below 2^64 that no number of it wraps.
use Rattle.std.specs.Prelude.{ℕ, suc, ◌*◌, ◌^◌, ◌≤◌, ◌<◌, ◌≡◌, List, [], ◌∷◌, length}
use Rattle.std.proofs.Common.{arith, suc-mul, mul-le-mul, mul-le-mul_right, length-append, length-take}
use Rattle.plan.specs.Plan.{Plan}
use Rattle.plan.specs.declared.order.Order.{Order}
use Rattle.plan.specs.declared.order.Order.TheVariants.{Picks as picks, Rounds as rounds, Seeded as seeded}
use Rattle.plan.specs.Reading.{accepted, reading}
use Rattle.plan.specs.Orders.{picks_of, picks_of_all, picks_up_to}
use Rattle.plan.specs.Accepted.{Each, OrderFormed}
use Rattle.plan.proofs.Accepted.{accepted_well_formed, accepted_orders, accepted_length}
use Rattle.picks.specs.LineLaws.{count_picks}
use Rattle.orders.specs.Sizes.{most_picks}

order_length : (W : ℕ) (o : Order) → 0 < W → W ≤ 32 → OrderFormed W o → length (picks_of W o) ≤ most_picks
order_length W (picks worker n) s h f = omega (arith, count_picks W (picks worker n) s)
order_length W (rounds n) s h f = omega (arith, count_picks W (rounds n) s, mul-le-mul f.1 h)
order_length W (seeded n seed) s h f = omega (arith, count_picks W (seeded n seed) s)

orders_length : (W : ℕ) (os : List Order) → 0 < W → W ≤ 32 → Each (OrderFormed W) os → length (picks_of_all W os) ≤ length os * most_picks
unfolding picks_of_all
orders_length W [] s h f = omega arith
orders_length W (o ∷ os) s h f =
    omega (
      arith,
      length-append (picks_of W o) (picks_of_all W os),
      order_length W o s h (f 0 (omega arith) o),
      orders_length W os s h (λ i l. f (suc i) (omega arith)),
      suc-mul (length os) most_picks,
    )

-- an accepted text is short, so that it has few order lines: their picks, whatever the limit, are fewer than 2^42
pub picks_few : (text : List ℕ) (p : Plan) → reading text ≡ accepted p → (limit : ℕ) → length (picks_up_to limit p) < 2 ^ 42
picks_few text p e limit =
    let f = accepted_well_formed text p e in
    let few : length p.orders ≤ 16384 = omega (arith, accepted_orders text p e, accepted_length text p e) in
    omega (
      arith,
      length-take limit (picks_of_all p.workers p.orders),
      orders_length p.workers p.orders f.workers_some f.workers_few f.orders,
      mul-le-mul_right most_picks few,
    )
