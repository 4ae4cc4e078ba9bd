-- A search for the last number below another that passes a test: its answer is that number and 1 more, or 0.
use Prim.Native.Nat.{ℕ, zero, suc, ◌-◌, ◌≤◌, ◌<◌}
use Rattle.std.specs.Prelude.{◌≡◌, Bool}
use Rattle.std.proofs.Common.{sym, ap, ◌∙◌}
use Rattle.std.proofs.Math.Bool.{true, false}
use Rattle.std.proofs.Math.Option.{Option, some}
use native.Mathlib.Omega.{arith}
use Rattle.runs.specs.Searches.{last_below, last_zero, last_found, last_passed}
use Rattle.memory.specs.Codes.{option_code}

module _ (test : ℕ → Bool) where
  pub last_low : (n : ℕ) → option_code (last_below test n) ≤ n
  unfolding last_below
  last_low zero = omega arith
  last_low (suc n) = go (test n) (last_below test n) (last_low n)
    where
      go : (b : Bool) (o : Option ℕ) → option_code o ≤ n → option_code (elim b [ true ↦ some n | false ↦ o ]) ≤ suc n
      go true o h = omega arith
      go false o h = omega arith

-- ---- a search that goes down from n and has come to i

module _ (test : ℕ → Bool) (n : ℕ) where
  pub search_found : (i : ℕ) → 0 < i → test (i - 1) ≡ true → last_below test i ≡ last_below test n → i ≡ option_code (last_below test n)
  search_found zero l e h = absurd (omega arith)
  search_found (suc i) l e h =
      let down : suc i - 1 ≡ i = omega arith in
      ap option_code (sym (last_found test i (rw down at e)) ∙ h)

  pub search_on : (i : ℕ) → 0 < i → test (i - 1) ≡ false → last_below test i ≡ last_below test n → last_below test (i - 1) ≡ last_below test n
  search_on zero l e h = absurd (omega arith)
  search_on (suc i) l e h =
      let down : suc i - 1 ≡ i = omega arith in
      rw down (sym (last_passed test i (rw down at e)) ∙ h)

  pub search_none : (i : ℕ) → i ≤ 0 → last_below test i ≡ last_below test n → 0 ≡ option_code (last_below test n)
  search_none zero l h = ap option_code (sym (last_zero test) ∙ h)
  search_none (suc i) l h = absurd (omega arith)
