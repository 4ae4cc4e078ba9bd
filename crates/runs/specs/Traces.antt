-- What happens in a list of picks: the events of the picks that are taken, in their order; none is taken once the state is finished.
-- Proofs along such a list.
use Prim.Native.Nat.{ℕ, ◌+◌}
use Rattle.std.proofs.Math.Bool.{Bool, true, false}
use mathlib.Core.List.{List, [], ◌∷◌, map}

-- a worker's event
pub record Happening (E : Type 0) : Type 0 where
  pub by : ℕ
  pub what : E

module _ {E : Type 0} where
  -- by whom, in the same order
  abbrev pub workers_of : List (Happening E) → List ℕ
  workers_of = map (λ h. h.by)

  -- how often something happens: the sum of what each event counts for
  unfoldable pub tally : (E → ℕ) → List (Happening E) → ℕ
  tally f [] = 0
  tally f (h ∷ hs) = f h.what + tally f hs

module _ {S : Type 0} (finished : S → Bool) (step : S → ℕ → S) where
  unfoldable pub pick : S → ℕ → S
  pick s w = elim (finished s) [ true ↦ s | false ↦ step s w ]

  module _ {E : Type 0} (event : S → ℕ → E) where
    unfoldable pub trace : S → List ℕ → List (Happening E)
    trace s [] = []
    trace s (w ∷ ws) = elim (finished s) [ true ↦ [] | false ↦ record { by = w; what = event s w } ∷ trace (step s w) ws ]
