-- Which workers may run a task.
use Rattle.std.specs.Prelude.{ℕ, ◌/◌, ◌%◌, ◌^◌, Bool, true, false, ◌||◌, List, [], ◌∷◌, ◌==◌}
use Rattle.std.proofs.Math.Option.{none, some}
use Rattle.runs.specs.Counts.{one}
use Rattle.runs.specs.Sums.{sum}
use Rattle.plan.specs.Plan.{Task}

-- bit k of a number
unfoldable pub is_set : ℕ → ℕ → Bool
is_set n k = n / 2 ^ k % 2 == 1

-- bit w of its mask is for worker w; without an M line every worker may
unfoldable pub permits : Task → ℕ → Bool
permits t w = elim t.mask [ none ↦ true | some m ↦ is_set m w ]

-- how many of W workers may run a task
abbrev pub permitted : ℕ → Task → ℕ
permitted W t = sum W (λ w. one (permits t w))

-- a task has an M line
abbrev pub is_masked : Task → Bool
is_masked t = elim t.mask [ none ↦ false | some m ↦ true ]

unfoldable pub any_masked : List Task → Bool
any_masked [] = false
any_masked (t ∷ ts) = is_masked t || any_masked ts
