-- The ready list, by its two operations: tasks arrive, and the first that a worker may run is chosen. What is said of them here is all that
-- anybody uses of the order in the list.
use Rattle.std.specs.Prelude.{ℕ, ◌≡◌, Bool, true, false, List, [], ◌∷◌, ◌++◌}
use Rattle.runs.specs.Counts.{is}

-- tasks arrive, the oldest first: in order of arrival, at the end of the list
unfoldable pub arrive : List ℕ → List ℕ → List ℕ
arrive ready tasks = ready ++ tasks

pub data Choice : Type 0 where
  nothing : Choice
  -- a task, and the others
  chosen : ℕ → List ℕ → Choice

-- with a task in front that is passed over
abbrev pub past : ℕ → Choice → Choice
past i nothing = nothing
past i (chosen j js) = chosen j (i ∷ js)

-- the first task that passes a test; the others keep their order
unfoldable pub choose : (ℕ → Bool) → List ℕ → Choice
choose may [] = nothing
choose may (i ∷ is) = elim (may i) [ true ↦ chosen i is | false ↦ past i (choose may is) ]

-- the choice falls on i and leaves these; a type of its own, so that test and list are found where it is used
pub record Chosen (may : ℕ → Bool) (ready : List ℕ) (i : ℕ) (others : List ℕ) : Type 0 where
  pub found : choose may ready ≡ chosen i others
