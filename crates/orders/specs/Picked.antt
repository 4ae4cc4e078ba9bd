-- Each pick of a well-formed plan is one of its workers.
use Rattle.std.specs.Prelude.{ℕ, zero, suc, ◌+◌, ◌/◌, ◌^◌, ◌≤◌, ◌<◌, List, [], ◌∷◌, ◌++◌, replicate}
use Rattle.std.proofs.Common.{mod-lt, arith}
use Rattle.runs.specs.Picks.{Picks, picks_take}
use Rattle.plan.specs.Plan.{Plan}
use Rattle.plan.specs.declared.order.Order.{Order}
use Rattle.plan.specs.declared.order.Order.TheVariants.{Picks as picks, Rounds as rounds, Seeded as seeded}
use Rattle.plan.specs.Orders.{numbers_from, times, next_state, seeded_picks, picks_of, picks_of_all, picks_up_to}
use Rattle.plan.specs.Accepted.{Each, OrderFormed, WellFormed}

picks_nil : (W : ℕ) → Picks W []
picks_nil W i l = absurd (omega arith)

picks_cons : (W x : ℕ) (xs : List ℕ) → x < W → Picks W xs → Picks W (x ∷ xs)
picks_cons W x xs h p zero l = h
picks_cons W x xs h p (suc i) l = p i (omega arith)

picks_append : (W : ℕ) (xs ys : List ℕ) → Picks W xs → Picks W ys → Picks W (xs ++ ys)
picks_append W [] ys p q = q
picks_append W (x ∷ xs) ys p q = picks_cons W x (xs ++ ys) (p 0 (omega arith)) (picks_append W xs ys (λ i l. p (suc i) (omega arith)) q)

picks_replicate : (W n x : ℕ) → x < W → Picks W (replicate n x)
picks_replicate W zero x h = picks_nil W
picks_replicate W (suc n) x h = picks_cons W x (replicate n x) h (picks_replicate W n x h)

picks_times : (W n : ℕ) (xs : List ℕ) → Picks W xs → Picks W (times n xs)
unfolding times
picks_times W zero xs p = picks_nil W
picks_times W (suc n) xs p = picks_append W xs (times n xs) p (picks_times W n xs p)

picks_from_lem : (W k n : ℕ) → k + n ≤ W → Picks W (numbers_from k n)
unfolding numbers_from
picks_from_lem W k zero h = picks_nil W
picks_from_lem W k (suc n) h = picks_cons W k (numbers_from (suc k) n) (omega arith) (picks_from_lem W (suc k) n (omega arith))

picks_seeded : (W x n : ℕ) → 0 < W → Picks W (seeded_picks W x n)
unfolding seeded_picks
picks_seeded W x zero h = picks_nil W
picks_seeded W x (suc n) h =
    picks_cons W _ (seeded_picks W (next_state x) n) (mod-lt (next_state x / 2 ^ 32) h) (picks_seeded W (next_state x) n h)

pub picks_order : (W : ℕ) (o : Order) → 0 < W → OrderFormed W o → Picks W (picks_of W o)
picks_order W (picks worker n) h f = picks_replicate W n worker f.0
picks_order W (rounds n) h f = picks_times W n (numbers_from 0 W) (picks_from_lem W 0 W (omega arith))
picks_order W (seeded n seed) h f = picks_seeded W seed n h

picks_orders : (W : ℕ) (os : List Order) → 0 < W → Each (OrderFormed W) os → Picks W (picks_of_all W os)
unfolding picks_of_all
picks_orders W [] h f = picks_nil W
picks_orders W (o ∷ os) h f =
    picks_append W (picks_of W o) (picks_of_all W os) (picks_order W o h (f 0 (omega arith) o))
    (picks_orders W os h (λ i l. f (suc i) (omega arith)))

pub picks_below : (limit : ℕ) (p : Plan) → WellFormed p → Picks p.workers (picks_up_to limit p)
picks_below limit p f =
    picks_take p.workers limit (picks_of_all p.workers p.orders)
    (picks_orders p.workers p.orders f.workers_some f.orders)
