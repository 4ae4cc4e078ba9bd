-- The ring: a ticket's turn has come exactly when it is below the tail.
use Rattle.std.specs.Prelude.{ℕ, ◌%◌, ◌≤◌, ◌<◌}

-- the wait slots: none has reached the tail, and each ticket below the tail has been let in
pub record Slots (N tail : ℕ) (wait : ℕ → ℕ) : Type 0 where
  pub below : (j : ℕ) → wait j < tail
  pub come : (t : ℕ) → N ≤ t → t < tail → t ≤ wait (t % N)
