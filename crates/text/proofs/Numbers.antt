-- A number that may not be known, when it is and when not. Assumes nothing.
use Prim.Native.Nat.{ℕ}
use mathlib.Core.Path.{◌≡◌}
use mathlib.Core.Bool.{Bool, true, false}
use mathlib.Core.List.{[], ◌∷◌}
use Rattle.text.specs.Text.{bytes, decimal, number_if}

pub number_known : (known : Bool) (n : ℕ) → known ≡ true → number_if known n ≡ decimal n
number_known known n e = rw e

pub number_unknown : (known : Bool) (n : ℕ) → known ≡ false → number_if known n ≡ 45 ∷ []
unfolding bytes
number_unknown known n e = rw e
