-- The picks that order lines give, as a list of worker numbers.
use Rattle.std.specs.Prelude.{ℕ, zero, suc, ◌+◌, ◌*◌, ◌/◌, ◌%◌, ◌^◌, List, [], ◌∷◌, ◌++◌, take, replicate}
use Rattle.plan.specs.Plan.{Order, picks, rounds, seeded, Plan}

-- k, k + 1, .. : n numbers
unfoldable pub numbers_from : ℕ → ℕ → List ℕ
numbers_from k zero = []
numbers_from k (suc n) = k ∷ numbers_from (suc k) n

-- n times the same list
unfoldable pub times : ℕ → List ℕ → List ℕ
times zero xs = []
times (suc n) xs = xs ++ times n xs

-- the state that follows a state of the generator
abbrev pub next_state : ℕ → ℕ
next_state x = (x * 6364136223846793005 + 1442695040888963407) % 2 ^ 64

-- n seeded picks among W workers, after the state x
unfoldable pub seeded_picks : ℕ → ℕ → ℕ → List ℕ
seeded_picks W x zero = []
seeded_picks W x (suc n) = (next_state x / 2 ^ 32 % W) ∷ seeded_picks W (next_state x) n

-- an order line: that worker n times; workers 0 to W - 1 once each in turn, n rounds; n seeded picks, after the seed
abbrev pub picks_of : ℕ → Order → List ℕ
picks_of W (picks worker n) = replicate n worker
picks_of W (rounds n) = times n (numbers_from 0 W)
picks_of W (seeded n seed) = seeded_picks W seed n

unfoldable pub picks_of_all : ℕ → List Order → List ℕ
picks_of_all W [] = []
picks_of_all W (o ∷ os) = picks_of W o ++ picks_of_all W os

-- an order of R lines alone
abbrev pub OnlyRounds : List Order → Type 0
OnlyRounds [] = Unit {0}
OnlyRounds (picks worker n ∷ os) = ⊥
OnlyRounds (rounds n ∷ os) = OnlyRounds os
OnlyRounds (seeded n seed ∷ os) = ⊥

-- the picks of a plan, cut at a limit
abbrev pub picks_up_to : ℕ → Plan → List ℕ
picks_up_to limit p = take limit (picks_of_all p.workers p.orders)
