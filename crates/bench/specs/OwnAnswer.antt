-- What the run of an accepted text itself answers: its report, and `finished` where the finishing figure applies.
use Rattle.std.specs.Prelude.{ℕ, ◌≡◌, List, ◌++◌}

-- the bytes begin with those
abbrev pub Begins : List ℕ → List ℕ → Type 0
Begins bs xs = (rest : List ℕ) × (xs ≡ bs ++ rest)
