-- Numbers that are near have different remainders, and a number in a row of a table names its row and its column.
use Rattle.std.specs.Prelude.{◌≡◌, ◌⊎◌, ℕ, ◌+◌, ◌*◌, ◌/◌, ◌%◌, ◌≤◌, ◌<◌}
use Rattle.std.proofs.Common.{ap, inl, inr, ⊎_elim, div-add-mod', mul-le-mul_left, mul-le-mul_right, arith}
use Rattle.runs.specs.Update.{order}

-- two numbers of one remainder in different laps are a lap or more apart
lap : (N a b : ℕ) → a % N ≡ b % N → a / N < b / N → a + N ≤ b
lap N a b e h = omega (arith, div-add-mod' a N, div-add-mod' b N, mul-le-mul_right N h)

pub near_mod : (N a b : ℕ) → a % N ≡ b % N → a < b + N → b < a + N → a ≡ b
near_mod N a b e p q = go (order (a / N) (b / N)) (order (b / N) (a / N))
  where
    go : (a / N < b / N) ⊎ (b / N ≤ a / N) → (b / N < a / N) ⊎ (a / N ≤ b / N) → a ≡ b
    go (inl h) k = absurd (omega (arith, lap N a b e h))
    go (inr h) (inl k) = absurd (omega (arith, lap N b a (omega arith) k))
    go (inr h) (inr k) = omega (arith, div-add-mod' a N, div-add-mod' b N, ap (λ (x : ℕ). x * N) (same_lap h k))
      where
        same_lap : b / N ≤ a / N → a / N ≤ b / N → a / N ≡ b / N
        same_lap h k = omega arith

-- rows of `size` numbers: a later row begins where the earlier ends, or behind
pub row_after : (size i j : ℕ) → i < j → size * i + size ≤ size * j
row_after size i j l = omega (arith, mul-le-mul_left size l)

-- a number lies in one row and in one column
pub same_cell : (size i j k m : ℕ) → k < size → m < size → size * i + k ≡ size * j + m → (i ≡ j) × (k ≡ m)
same_cell size i j k m a b e =
    ⊎_elim (λ l. absurd (omega (arith, row_after size i j l))) (λ l. ⊎_elim (λ r. absurd (omega (arith, row_after size j i r)))
    (λ r. at_row (both l r)) (order j i)) (order i j)
  where
    both : j ≤ i → i ≤ j → i ≡ j
    both l r = omega arith

    at_row : i ≡ j → (i ≡ j) × (k ≡ m)
    at_row z = (z, omega (arith, ap (λ (x : ℕ). size * x) z))
