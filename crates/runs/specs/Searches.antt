-- Searches: the last number below a bound that passes a test, and the first from a number on.
use Prim.Native.Nat.{ℕ, zero, suc, ◌<◌}
use native.Mathlib.Omega.{arith}
use Rattle.std.specs.Prelude.{◌≡◌, ◌↔◌, Bool}
use Rattle.std.proofs.Math.Path.{refl, ap}
use Rattle.std.proofs.Common.{⊎_elim}
use Rattle.std.proofs.Math.Bool.{true, false}
use Rattle.std.proofs.Math.Option.{Option, none, some}
use Rattle.runs.specs.Update.{same, clash}

-- the last of the numbers below n that passes a test
unfoldable pub last_below : (ℕ → Bool) → ℕ → Option ℕ
last_below test zero = none
last_below test (suc n) = elim (test n) [ true ↦ some n | false ↦ last_below test n ]

-- the first of the n numbers from a on that passes a test, or else the number after them
unfoldable pub first_from : (ℕ → Bool) → ℕ → ℕ → ℕ
first_from test a zero = a
first_from test a (suc n) = elim (test a) [ true ↦ a | false ↦ first_from test (suc a) n ]

module _ (test : ℕ → Bool) where
  pub last_zero : last_below test 0 ≡ none
  unfolding last_below
  last_zero = refl

  pub last_found : (n : ℕ) → test n ≡ true → last_below test (suc n) ≡ some n
  unfolding last_below
  last_found n e = rw (e, last_below)

  pub last_passed : (n : ℕ) → test n ≡ false → last_below test (suc n) ≡ last_below test n
  unfolding last_below
  last_passed n e = rw (e, last_below)

  pub last_below_lem : (n w : ℕ) → last_below test n ≡ some w → w < n
  unfolding last_below
  last_below_lem zero w e = clash (cc)
  last_below_lem (suc n) w e = go (test n) (last_below_lem n w) e
    where
      go : (b : Bool) → (last_below test n ≡ some w → w < n) → elim b [ true ↦ some n | false ↦ last_below test n ] ≡ some w → w < suc n
      go true f q = let z : n ≡ w = cc in omega arith
      go false f q = omega (arith, f q)

  -- what is found passes the test
  pub last_passes : (n w : ℕ) → last_below test n ≡ some w → test w ≡ true
  unfolding last_below
  last_passes zero w e = clash (cc)
  last_passes (suc n) w e = go (test n) refl (last_passes n w) e
    where
      go : (b : Bool) → test n ≡ b → (last_below test n ≡ some w → test w ≡ true)
          → elim b [ true ↦ some n | false ↦ last_below test n ] ≡ some w → test w ≡ true
      go true p f q = let z : n ≡ w = cc in rw z at p
      go false p f q = f q

  -- the only one that passes is found
  pub last_only : (n w : ℕ) → w < n → test w ≡ true → ((v : ℕ) → test v ≡ true → v ≡ w) → last_below test n ≡ some w
  unfolding last_below
  last_only zero w l e only = absurd (omega arith)
  last_only (suc n) w l e only = go (test n) refl (λ k. last_only n w k e only)
    where
      go : (b : Bool) → test n ≡ b → (w < n → last_below test n ≡ some w) → elim b [ true ↦ some n | false ↦ last_below test n ] ≡ some w
      go true p f = ap some (only n p)
      go false p f = f (⊎_elim (λ (q : w ≡ n). clash (cc)) (λ q. omega arith) (same w n))

-- where a test says P, and P holds of one number at the most, that one is found exactly
pub last_exactly : (test : ℕ → Bool) (P : ℕ → Type 0) → ((w : ℕ) → (test w ≡ true) ↔ P w) → ((v w : ℕ) → P v → P w → v ≡ w) → (n w : ℕ)
    → (last_below test n ≡ some w) ↔ ((w < n) × P w)
last_exactly test P says one n w = (
  λ e. (last_below_lem test n w e, (says w).0 (last_passes test n w e)),
  λ (l, p). last_only test n w l ((says w).1 p) (λ v e. one v w ((says v).0 e) p),
)

-- only the numbers below count
pub last_same : (f g : ℕ → Bool) (n : ℕ) → ((b : ℕ) → b < n → f b ≡ g b) → last_below f n ≡ last_below g n
unfolding last_below
last_same f g zero h = refl
last_same f g (suc n) h = go (f n) (g n) (h n (omega arith)) (last_same f g n (λ b l. h b (omega arith)))
  where
    go : (b c : Bool) → b ≡ c → {o p : Option ℕ} → o ≡ p
        → ◌≡◌ {A = Option ℕ} (elim b [ true ↦ some n | false ↦ o ]) (elim c [ true ↦ some n | false ↦ p ])
    go true true e q = refl
    go true false e q = clash (cc)
    go false true e q = clash (cc)
    go false false e q = q
