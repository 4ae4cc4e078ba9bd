-- Members of lists that are joined.
use Rattle.std.specs.Prelude.{◌⊎◌}
use Rattle.std.proofs.Common.{inl, inr, ⊎_elim}
use mathlib.Core.List.{List, [], ◌∷◌, ◌++◌, Memᴰ}

module _ {A : Type 0} {x : A} where
  pub mem_left : (xs ys : List A) → Memᴰ x xs → Memᴰ x (xs ++ ys)
  mem_left [] ys x'' = elim x'' [ ]
  mem_left (y ∷ xs) ys (Memᴰ.head e) = Memᴰ.head e
  mem_left (y ∷ xs) ys (Memᴰ.tail k) = Memᴰ.tail (mem_left xs ys k)

  pub mem_right : (xs ys : List A) → Memᴰ x ys → Memᴰ x (xs ++ ys)
  mem_right [] ys k = k
  mem_right (y ∷ xs) ys k = Memᴰ.tail (mem_right xs ys k)

  pub mem_either : (xs ys : List A) → Memᴰ x (xs ++ ys) → Memᴰ x xs ⊎ Memᴰ x ys
  mem_either [] ys k = inr k
  mem_either (y ∷ xs) ys (Memᴰ.head e) = inl (Memᴰ.head e)
  mem_either (y ∷ xs) ys (Memᴰ.tail k) = ⊎_elim (λ m. inl (Memᴰ.tail m)) inr (mem_either xs ys k)
