-- The longest chain of a plan: of all its chains the one that costs most, and of several such the first. The field calls it the critical
-- path. And the line that is written of it.
use Rattle.std.specs.Prelude.{ℕ, zero, suc, ◌≤◌, ◌<◌, ◌≡◌, ◌⊎◌, cond, List, [], ◌∷◌, ◌++◌, map, length, get_or, ltb}
use Rattle.text.specs.Text.{decimal, line}
use Rattle.plan.specs.Plan.{Task}
use Rattle.plan.specs.Chains.{task_at, conflict, Chain, chain_cost}
use Rattle.plan.specs.Reading.{reading}
use Rattle.tools.specs.Result.{Result, result, of_plan}

-- the order of lists of numbers, compared left to right; a list comes before its own extensions (the lexicographic order)
abbrev pub Before : List ℕ → List ℕ → Type 0
Before xs [] = ⊥
Before [] (y ∷ ys) = Unit {0}
Before (x ∷ xs) (y ∷ ys) = (x < y) ⊎ ((x ≡ y) × Before xs ys)

module _ (ts : List Task) where
  -- xs is of a kind, none of that kind costs more, and none of the same cost comes before it
  pub record Dearest (Kind : List ℕ → Type 0) (xs : List ℕ) : Type 0 where
    pub one : Kind xs
    pub most : (ys : List ℕ) → Kind ys → chain_cost ts ys ≤ chain_cost ts xs
    pub first : (ys : List ℕ) → Kind ys → chain_cost ts ys ≡ chain_cost ts xs → ¬ Before ys xs

  abbrev pub Longest : List ℕ → Type 0
  Longest = Dearest (Chain ts)

  -- ---- found among all chains

  -- of some chains those with whose first task task i conflicts
  unfoldable pub following : ℕ → List (List ℕ) → List (List ℕ)
  following i [] = []
  following i (xs ∷ xss) = cond (conflict (task_at ts i) (task_at ts (get_or xs 0 0))) (xs ∷ following i xss) (following i xss)

  -- all chains among n tasks from task i on, in their order: task i alone, task i before a later chain, and the later chains themselves
  unfoldable pub chains_from : ℕ → ℕ → List (List ℕ)
  chains_from i zero = []
  chains_from i (suc n) = let later = chains_from (suc i) n in (i ∷ []) ∷ map (λ xs. i ∷ xs) (following i later) ++ later

  -- the first of those that cost most
  unfoldable pub dearest : List (List ℕ) → List ℕ
  dearest [] = []
  dearest (xs ∷ xss) = cond (ltb (chain_cost ts xs) (chain_cost ts (dearest xss))) (dearest xss) xs

  -- none of a plan without tasks
  unfoldable pub longest : List ℕ
  longest = dearest (chains_from 0 (length ts))

  -- ---- what is written: its cost and its numbers

  unfoldable pub chain_line : List ℕ
  chain_line = line (decimal (chain_cost ts longest) ∷ map decimal longest)

unfoldable pub chain_of : List ℕ → Result
chain_of text = of_plan (λ p. result (chain_line p.tasks)) (reading text)
