-- A test that every number below a bound passes.
use Rattle.std.specs.Prelude.{ℕ, zero, suc, ◌<◌, ◌≡◌, refl, ◌≢◌, Bool, true, false, ◌&&◌}
use Rattle.std.proofs.Common.{arith, ap, ◌∙◌, ⊎_elim}
use Rattle.runs.specs.Update.{same, clash}

unfoldable pub every_below : ℕ → (ℕ → Bool) → Bool
every_below zero test = true
every_below (suc n) test = test n && every_below n test

-- each of them passes
pub every_at : (n : ℕ) (test : ℕ → Bool) → every_below n test ≡ true → (k : ℕ) → k < n → test k ≡ true
unfolding every_below
every_at zero test e k l = absurd (omega arith)
every_at (suc n) test e k l = go (test n) refl (every_below n test) refl e (every_at n test)
  where
    go : (a : Bool) → test n ≡ a → (b : Bool) → every_below n test ≡ b → a && b ≡ true
        → (every_below n test ≡ true → (k : ℕ) → k < n → test k ≡ true) → test k ≡ true
    go true p true q z h = ⊎_elim (λ (d : k ≡ n). ap test d ∙ p) (λ (d : k ≢ n). h q k (omega arith)) (same k n)
    go true p false q z h = clash (cc)
    go false p b q z h = clash (cc)

pub every_below_lem : (n : ℕ) (test : ℕ → Bool) → ((k : ℕ) → k < n → test k ≡ true) → every_below n test ≡ true
unfolding every_below
every_below_lem zero test h = refl
every_below_lem (suc n) test h = rw (h n (omega arith)) (every_below_lem n test (λ k l. h k (omega arith)))

-- or one of them fails
pub some_below : (n : ℕ) (test : ℕ → Bool) → every_below n test ≡ false → (k : ℕ) × (k < n) × (test k ≡ false)
unfolding every_below
some_below zero test e = clash (cc)
some_below (suc n) test e = go (test n) refl e (some_below n test)
  where
    go : (b : Bool) → test n ≡ b → b && every_below n test ≡ false → (every_below n test ≡ false → (k : ℕ) × (k < n) × (test k ≡ false))
        → (k : ℕ) × (k < suc n) × (test k ≡ false)
    go true z f ih = let (k, l, y) = ih f in (k, omega arith, y)
    go false z f ih = (n, omega arith, z)
