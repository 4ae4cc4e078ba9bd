-- A part of a text, and a list that is stored number by number. Assumes nothing.
use mathlib.Core.Path.{◌≡◌, sym, ◌∙◌}
use Prim.Native.Nat.{ℕ, ◌+◌, ◌-◌, ◌≤◌, ◌<◌}
use native.Mathlib.Omega.{arith}
use native.Mathlib.Numerals.{add-one}
use mathlib.Core.List.{List, [], ◌∷◌}
use lib.ListN.{length, take, drop, get_or, set, length-drop, drop_of_length-le}
use lib.Seq.{sets, length-take-le, take-suc, take_all, take-nil}
use Rattle.runs.specs.Stores.{sets_append}

-- ---- a part of a text, as far as it lies in the text

module _ (s : List ℕ) (start len : ℕ) where
  pub part_none : length s ≤ start → take (length s - length s) (drop (length s) s) ≡ take len (drop start s)
  part_none h =
      let z : length s - length s ≡ 0 = omega arith in
      rw (z, drop_of_length-le s h, take-nil len)

  pub part_rest : length s - start ≤ len → take (length s - start) (drop start s) ≡ take len (drop start s)
  part_rest h =
      let short : length (drop start s) ≤ len = rw (length-drop start s) h in
      take_all (length s - start) (drop start s) (rw (length-drop start s) (omega arith)) ∙ sym (take_all len (drop start s) short)

  pub part_whole : (end : ℕ) → end - start ≡ len → take (end - start) (drop start s) ≡ take len (drop start s)
  part_whole end e = rw e

-- ---- one number more is stored

pub stored_more : (rows row mid : List ℕ) (at k place : ℕ) → k < length row → place ≡ at + k → mid ≡ sets rows at (take k row)
    → set mid place (get_or row k 0) ≡ sets rows at (take (k + 1) row)
stored_more rows row mid at k place l e stored =
    rw (e, stored, add-one, take-suc row k 0 l, sets_append (take k row) (get_or row k 0 ∷ []) rows at, length-take-le k row (omega arith))
