-- A product by halves in a base P, modulo P * P. Assumes nothing.
use Rattle.std.proofs.Common.{◌≡◌, ℕ, ◌+◌, ◌*◌, ◌/◌, ◌%◌, ◌^◌, ◌<◌, sym, refl, ap, ◌∙◌, ap₂, lt_of_le_of_lt, le_of_lt, add_assoc, mul_assoc, mul_comm, add-mul, add_comm, mul-le-mul_left, mul-lt-mul_of_pos_right, div-add-mod', mul-add, mul_left_comm, arith}
use native.Mathlib.Nat.{add-mul-mod_self_right}

-- the product of two halves of 32 bits fits 64
pub halves_fit : (a b : ℕ) → a < 4294967296 → b < 4294967296 → a * b < 2 ^ 64
halves_fit a b ha hb = lt_of_le_of_lt (mul-le-mul_left a (le_of_lt hb)) (mul-lt-mul_of_pos_right ha (omega arith))

module _ (P : ℕ) where
  shift : (u n : ℕ) → (u + n % P * P) + n / P * (P * P) ≡ u + (n / P * P + n % P) * P
  shift u n = simp (add-mul, mul_assoc, add_assoc, add_comm) refl

  -- what a number of P's has above P counts for nothing
  carry : (u n : ℕ) → (u + n % P * P) % (P * P) ≡ (u + n * P) % (P * P)
  carry u n =
      sym (add-mul-mod_self_right (u + n % P * P) (n / P) (P * P))
      ∙ ap (λ (x : ℕ). x % (P * P)) (shift u n ∙ ap (λ (x : ℕ). u + x * P) (div-add-mod' n P))

  apart : (u m n : ℕ) → u + (m + n) * P ≡ (u + m * P) + n * P
  apart u m n = simp (add-mul, add_assoc) refl

  swapped : (u m n : ℕ) → (u + m * P) + n * P ≡ (u + n * P) + m * P
  swapped u m n = simp (add_assoc, add_comm) refl

  -- the sum of two rests
  cross : (u x y : ℕ) → (u + (x % P + y % P) % P * P) % (P * P) ≡ ((u + x * P) + y * P) % (P * P)
  cross u x y =
      carry u (x % P + y % P)
      ∙ ap (λ (n : ℕ). n % (P * P)) (apart u (x % P) (y % P))
      ∙ carry (u + x % P * P) y
      ∙ ap (λ (n : ℕ). n % (P * P)) (swapped u (x % P) y)
      ∙ carry (u + y * P) x
      ∙ ap (λ (n : ℕ). n % (P * P)) (swapped u y x)

  product : (a₁ a₀ b₁ b₀ : ℕ) → ((a₀ * b₀ + a₁ * b₀ * P) + a₀ * b₁ * P) + a₁ * b₁ * (P * P) ≡ (a₁ * P + a₀) * (b₁ * P + b₀)
  product a₁ a₀ b₁ b₀ = simp (mul-add, add-mul, mul_assoc, mul_comm, mul_left_comm, add_assoc, add_comm) refl

  pub by_halves : (a b : ℕ) → (a % P * (b % P) + (a / P * (b % P) % P + a % P * (b / P) % P) % P * P) % (P * P) ≡ a * b % (P * P)
  by_halves a b =
      cross (a % P * (b % P)) (a / P * (b % P)) (a % P * (b / P))
      ∙ sym (add-mul-mod_self_right ((a % P * (b % P) + a / P * (b % P) * P) + a % P * (b / P) * P) (a / P * (b / P)) (P * P))
      ∙ ap (λ (n : ℕ). n % (P * P)) (product (a / P) (a % P) (b / P) (b % P) ∙ ap₂ (λ (x y : ℕ). x * y) (div-add-mod' a P) (div-add-mod' b P))
