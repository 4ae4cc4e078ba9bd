-- Elements that are laid one behind the other. Assumes nothing.
use Prim.Native.Nat.{ℕ, suc, ◌+◌, ◌<◌}
use mathlib.Core.Path.{◌≡◌, refl, sym, ap, ◌∙◌}
use mathlib.Core.Logic.{⊎_elim, ◌≢◌}
use mathlib.Core.List.{List}
use native.Mathlib.Omega.{arith}
use lib.ListN.{length, set, drop}
use lib.Seq.{get_or-set_same, get_or-set_other, drop-set-lt, drop-drop}
use Rattle.runs.specs.Update.{same}
use Rattle.tables.specs.Tables.{LaidRows}

module _ {A : Type 0} where
  -- what is behind n is also behind one more, and a store to element n changes none of it
  pub rest_more : (n : ℕ) (before rows : List A) (x : A) → drop n rows ≡ drop n before → drop (suc n) (set rows n x) ≡ drop (suc n) before
  rest_more n before rows x rest =
      let next : n + 1 ≡ suc n = omega arith in
      drop-set-lt (suc n) rows n x (omega arith) ∙ rw next at (sym (drop-drop 1 n rows) ∙ ap (drop 1) rest ∙ drop-drop 1 n before)

  pub rows_none : (blank : A) (row : ℕ → A) (rows : List A) → LaidRows blank 0 row rows rows
  rows_none blank row rows = record { rows = λ i l. absurd (omega arith); rest = refl }

  pub rows_more : (blank : A) (n : ℕ) (row : ℕ → A) (before rows : List A) → n < length rows → LaidRows blank n row before rows
      → LaidRows blank (suc n) row before (set rows n (row n))
  rows_more blank n row before rows fits h =
      record {
        rows = λ i l.
            ⊎_elim
            (λ (e : i ≡ n). rw e (get_or-set_same rows n (row n) blank fits))
            (λ (d : i ≢ n). get_or-set_other rows n i (row n) blank d ∙ h.rows i (omega arith))
            (same i n);
        rest = rest_more n before rows (row n) h.rest;
      }
