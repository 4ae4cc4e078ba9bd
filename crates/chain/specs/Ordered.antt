-- The longest chain that is found among all chains is the longest: it is a chain, no chain costs more, and no chain of the same cost comes
-- before it. There is only one such.
use Prim.Native.Nat.{ℕ}
use mathlib.Core.List.{List, [], ◌∷◌, Memᴰ}
use Rattle.plan.specs.Plan.{Task}
use Rattle.chain.specs.Longest.{Before}

-- ---- the order of lists is one

module _ (ts : List Task) where
  -- ---- in which order

  -- each before all that follow it
  abbrev pub Sorted : List (List ℕ) → Type 0
  Sorted [] = Unit {0}
  Sorted (xs ∷ xss) = ((ys : List ℕ) → Memᴰ ys xss → Before xs ys) × Sorted xss
