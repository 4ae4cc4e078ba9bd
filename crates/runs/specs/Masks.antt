-- The remainder by a power of two is a mask.
use Rattle.std.specs.Prelude.{◌≡◌, ◌⊎◌, ℕ, suc, ◌-◌, ◌/◌, ◌%◌, ◌^◌, ◌≤◌, ◌<◌}
use Rattle.std.proofs.Common.{inl, inr, arith, pow-suc}
use Rattle.std.proofs.Math.Arith.{bin_ind}
use Rattle.std.specs.Int.Bits.{bit_and, and_step, and_self}
use Rattle.std.proofs.lemmas.Nat.{and_mask}
use Rattle.runs.specs.Update.{order}

-- a number that has no digit 1 where the number before it has one is a power of two
abbrev Power : ℕ → Type 0
Power n = 0 < n → bit_and n (n - 1) ≡ 0 → (k : ℕ) × (n ≡ 2 ^ k)

pub power : (n : ℕ) → Power n
power = bin_ind Power (λ some apart. absurd (omega arith)) (λ n half some apart. digit n half some apart (order (n % 2) 1))
  where
    digit : (n : ℕ) → Power (n / 2) → 0 < n → bit_and n (n - 1) ≡ 0 → (n % 2 < 1) ⊎ (1 ≤ n % 2) → (k : ℕ) × (n ≡ 2 ^ k)
    digit n half some apart (inl even) =
        let back : (n - 1) / 2 ≡ n / 2 - 1 = omega arith in
        let (k, e) = half (omega arith) (omega (arith, rw back at (and_step n (n - 1)))) in
        (suc k, omega (arith, pow-suc 2 k))
    digit n half some apart (inr odd) =
        let back : (n - 1) / 2 ≡ n / 2 = omega arith in
        (0, omega (arith, and_self (n / 2), rw back at (and_step n (n - 1))))

pub mask_remainder : (n t : ℕ) → 0 < n → bit_and n (n - 1) ≡ 0 → bit_and t (n - 1) ≡ t % n
mask_remainder n t some apart = let (k, e) = power n some apart in rw e (and_mask t k)
