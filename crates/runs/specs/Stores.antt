-- Lists taken apart by their length, and runs of stores into a list.
use Rattle.std.specs.Prelude.{ℕ, zero, suc, ◌+◌, ◌≤◌, ◌<◌, ◌≡◌, refl, ◌⊎◌, List, [], ◌∷◌, ◌++◌, length, drop, get_or, set, replicate}
use Rattle.std.proofs.Common.{sym, ap, ◌∙◌, inl, inr, ⊎_elim, add-zero, arith, add-one, length-set, drop-cons, get_or-set_same, get_or-set_other, set-set}
use Rattle.std.proofs.lemmas.List.Edits.{sets}
use Rattle.std.proofs.lemmas.List.{set_comm}

module _ {A : Type 0} where
  pub none_of : (l : List A) → length l ≡ 0 → l ≡ []
  none_of [] z = refl
  none_of (x ∷ l) z = absurd (omega arith)

  pub first_of : (l : List A) → 0 < length l → (x : A) × (xs : List A) × (l ≡ x ∷ xs)
  first_of [] l = absurd (omega arith)
  first_of (x ∷ xs) l = (x, xs, refl)

  -- the element at a place, and those after it
  pub drop_from : (l : List A) (i : ℕ) (d : A) → i < length l → drop i l ≡ get_or l i d ∷ drop (i + 1) l
  drop_from l i d h = rw (add-one, drop-cons l i d)

  -- in a list it does not matter what stands for what is past its end
  pub get_d_any : (l : List A) (i : ℕ) (d e : A) → i < length l → get_or l i d ≡ get_or l i e
  get_d_any [] i d e h = absurd (omega arith)
  get_d_any (x ∷ l) zero d e h = refl
  get_d_any (x ∷ l) (suc i) d e h = get_d_any l i d e (omega arith)

  -- a run of stores, and one that goes on where it ended
  pub sets_append : (xs ys l : List A) (i : ℕ) → sets l i (xs ++ ys) ≡ sets (sets l i xs) (i + length xs) ys
  sets_append [] ys l i = ap (λ (k : ℕ). sets l k ys) (sym (add-zero i))
  sets_append (x ∷ xs) ys l i =
      let e : suc i + length xs ≡ i + suc (length xs) = omega arith in
      sets_append xs ys (set l i x) (suc i) ∙ ap (λ (k : ℕ). sets (sets (set l i x) (suc i) xs) k ys) e

  -- a run of stores changes nothing before it and nothing behind it
  pub sets_other : (vs l : List A) (at j : ℕ) (d : A) → (j < at) ⊎ (at + length vs ≤ j) → get_or (sets l at vs) j d ≡ get_or l j d
  sets_other [] l at j d h = refl
  sets_other (v ∷ vs) l at j d h =
      sets_other vs (set l at v) (suc at) j d (⊎_elim (λ (o : j < at). inl (omega arith))
      (λ (o : at + suc (length vs) ≤ j). inr (omega arith)) h)
      ∙ get_or-set_other l at j v d (λ e. ⊎_elim (λ (o : j < at). omega arith) (λ (o : at + suc (length vs) ≤ j). omega arith) h)

  pub sets_at : (vs l : List A) (at k : ℕ) (d : A) → k < length vs → at + length vs ≤ length l
      → get_or (sets l at vs) (at + k) d ≡ get_or vs k d
  sets_at [] l at k d h f = absurd (omega arith)
  sets_at (v ∷ vs) l at zero d h f =
      ap (λ j. get_or (sets (set l at v) (suc at) vs) j d) (let e : at + 0 ≡ at = omega arith in e)
      ∙ sets_other vs (set l at v) (suc at) at d (inl (omega arith))
      ∙ get_or-set_same l at v d (omega arith)
  sets_at (v ∷ vs) l at (suc k) d h f =
      ap (λ j. get_or (sets (set l at v) (suc at) vs) j d) (let e : at + suc k ≡ suc at + k = omega arith in e)
      ∙ sets_at vs (set l at v) (suc at) k d (omega arith) (omega (arith, length-set l at v))

  -- a store before the run may be made after it
  pub sets_before : (vs l : List A) (at j : ℕ) (a : A) → j < at → sets (set l j a) at vs ≡ set (sets l at vs) j a
  sets_before [] l at j a h = refl
  sets_before (v ∷ vs) l at j a h = ap (λ (m : List A). sets m (suc at) vs) (set_comm l j at a v (λ e. omega arith))
      ∙ sets_before vs (set l at v) (suc at) j a (omega arith)

  -- a store into what the run has stored is a store into the run
  pub set_sets : (vs l : List A) (at k : ℕ) (a : A) → k < length vs → set (sets l at vs) (at + k) a ≡ sets l at (set vs k a)
  set_sets [] l at k a h = absurd (omega arith)
  set_sets (v ∷ vs) l at zero a h =
      let e : at + 0 ≡ at = omega arith in
      rw (e, ← sets_before vs (set l at v) (suc at) at a (omega arith), set-set l at v a)
  set_sets (v ∷ vs) l at (suc k) a h =
      let e : at + suc k ≡ suc at + k = omega arith in
      rw e (set_sets vs (set l at v) (suc at) k a (omega arith))

  -- one more of the same
  pub sets_replicate : (n : ℕ) (l : List A) (at : ℕ) (a : A) → set (sets l at (replicate n a)) (at + n) a ≡ sets l at (replicate (suc n) a)
  sets_replicate zero l at a = let e : at + 0 ≡ at = omega arith in rw e
  sets_replicate (suc n) l at a = let e : at + suc n ≡ suc at + n = omega arith in rw e (sets_replicate n (set l at a) (suc at) a)
