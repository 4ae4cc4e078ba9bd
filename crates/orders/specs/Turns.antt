-- Under R lines alone the workers are picked in turn.
use Rattle.std.specs.Prelude.{ℕ, zero, suc, ◌+◌, ◌<◌, ◌≡◌, List, [], ◌∷◌}
use Rattle.std.proofs.Common.{mod-eq_of_lt, arith}
use Rattle.runs.specs.Picks.{pick}
use Rattle.runs.specs.Apart.{InTurn, in_turn_take, in_turn_append}
use Rattle.plan.specs.Plan.{Plan}
use Rattle.plan.specs.declared.order.Order.{Order}
use Rattle.plan.specs.declared.order.Order.TheVariants.{Picks as picks, Rounds as rounds, Seeded as seeded}
use Rattle.plan.specs.Orders.{numbers_from, times, picks_of_all, OnlyRounds, picks_up_to}
use Rattle.picks.specs.LineLaws.{count_picks}
use Rattle.tasks.proofs.Promise.{numbers_length}

numbers_at : (k n i : ℕ) → i < n → pick (numbers_from k n) i ≡ k + i
unfolding numbers_from
numbers_at k zero i l = absurd (omega arith)
numbers_at k (suc n) zero l = omega arith
numbers_at k (suc n) (suc i) l = omega (arith, numbers_at (suc k) n i (omega arith))

-- one round, the rounds of a line, and the lines
round : (W : ℕ) → InTurn W (numbers_from 0 W)
round W i l = let b : i < W = omega (arith, numbers_length 0 W) in omega (arith, numbers_at 0 W i b, mod-eq_of_lt b)

line : (W n : ℕ) → InTurn W (times n (numbers_from 0 W))
unfolding times
line W zero i l = absurd (omega arith)
line W (suc n) i l =
    in_turn_append W 1 (numbers_from 0 W) (times n (numbers_from 0 W)) (omega (arith, numbers_length 0 W)) (round W) (line W n) i l

lines : (W : ℕ) (os : List Order) → 0 < W → OnlyRounds os → InTurn W (picks_of_all W os)
unfolding picks_of_all
lines W [] s only i l = absurd (omega arith)
lines W (picks worker n ∷ os) s only i l = absurd only
lines W (rounds n ∷ os) s only i l =
    in_turn_append W n (times n (numbers_from 0 W)) (picks_of_all W os) (count_picks W (rounds n) s) (line W n) (lines W os s only) i l
lines W (seeded n seed ∷ os) s only i l = absurd only

pub picked_in_turn : (limit : ℕ) (p : Plan) → 0 < p.workers → OnlyRounds p.orders → InTurn p.workers (picks_up_to limit p)
picked_in_turn limit p s only =
    in_turn_take p.workers limit (picks_of_all p.workers p.orders) (lines p.workers p.orders s only)
