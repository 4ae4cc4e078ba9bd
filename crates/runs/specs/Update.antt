-- A function on numbers with one value replaced: how a state that is a row of values changes at one place.
use Rattle.std.specs.Prelude.{◌≡◌, ◌⊎◌, ◌≢◌, Bool, true, false, List, ℕ, ◌≤◌, ◌<◌, eqb, ltb, length, get_or, set}
use Rattle.std.proofs.Math.Path.{refl, fun_ext}
use Rattle.std.proofs.Common.{sym, ap, ◌∙◌, inl, inr, ⊎_elim, arith, get_or-set_same, get_or-set_other, eq-eqb, ne_eqb, eqb-true, ltb-true, ltb-false}
use Rattle.std.proofs.lemmas.Bool.{eqb-false}

-- 0 is not 1: closes a clash of constructors, as `clash (cc)`
pub clash : {A : Type 0} → ◌≡◌ {A = ℕ} 0 1 → A
clash e = absurd (omega arith)

-- equal or not, as a sum that a proof takes apart
pub same : (a b : ℕ) → (a ≡ b) ⊎ (a ≢ b)
same a b = go (eqb a b) refl
  where
    go : (t : Bool) → eqb a b ≡ t → (a ≡ b) ⊎ (a ≢ b)
    go true e = inl (eqb-true a b e)
    go false e = inr (eqb-false a b e)

-- likewise for the order
pub order : (a b : ℕ) → (a < b) ⊎ (b ≤ a)
order a b = go (ltb a b) refl
  where
    go : (t : Bool) → ltb a b ≡ t → (a < b) ⊎ (b ≤ a)
    go true e = inl (ltb-true a b e)
    go false e = inr (ltb-false a b e)

-- less, equal or more
pub by_order : {C : Type 0} (a b : ℕ) → (a < b → C) → (a ≡ b → C) → (b < a → C) → C
by_order a b less equal more = ⊎_elim less (λ (k : b ≤ a). ⊎_elim more (λ (l : a ≤ b). equal (omega arith)) (order b a)) (order a b)

module _ {A : Type 0} where
  -- `f`, but `a` at `i`
  unfoldable pub upd : (ℕ → A) → ℕ → A → ℕ → A
  upd f i a j = elim (eqb j i) [ true ↦ a | false ↦ f j ]

  pub upd_same : (f : ℕ → A) (i : ℕ) (a : A) → upd f i a i ≡ a
  unfolding upd
  upd_same f i a = rw (eq-eqb i i refl, upd)

  pub upd_other : (f : ℕ → A) (i : ℕ) (a : A) (j : ℕ) → j ≢ i → upd f i a j ≡ f j
  unfolding upd
  upd_other f i a j h = rw (ne_eqb j i h, upd)

  -- what holds of the new value, and elsewhere of the old ones, holds everywhere
  pub upd_all : (P : ℕ → A → Type 0) (f : ℕ → A) (w : ℕ) (a : A) → P w a → ((v : ℕ) → v ≢ w → P v (f v)) → (v : ℕ) → P v (upd f w a v)
  upd_all P f w a new old v = ⊎_elim (λ (e : v ≡ w). rw (e, upd_same) new) (λ (n : v ≢ w). rw upd_other (old v n)) (same v w)

  -- no other function is `a` at `w` and `f` elsewhere
  pub upd_only : (f : ℕ → A) (w : ℕ) (a : A) (g : ℕ → A) → g w ≡ a → ((v : ℕ) → v ≢ w → g v ≡ f v) → g ≡ upd f w a
  upd_only f w a g new old = fun_ext (upd_all (λ v x. g v ≡ x) f w a new old)

  pub upd_id : (f : ℕ → A) (w : ℕ) → upd f w (f w) ≡ f
  upd_id f w = sym (upd_only f w (f w) f refl (λ v n. refl))

  -- of two updates at one place the later one stands
  pub upd_upd : (f : ℕ → A) (w : ℕ) (a b : A) → upd (upd f w a) w b ≡ upd f w b
  upd_upd f w a b =
      upd_only f w b (upd (upd f w a) w b) (upd_same (upd f w a) w b) (λ v n. upd_other (upd f w a) w b v n ∙ upd_other f w a v n)

  -- a store into an array
  pub array_upd : (l : List A) (i : ℕ) (a d : A) → i < length l → ◌≡◌ {A = ℕ → A} (λ k. get_or (set l i a) k d) (upd (λ k. get_or l k d) i a)
  array_upd l i a d h =
      upd_only (λ k. get_or l k d) i a (λ k. get_or (set l i a) k d) (get_or-set_same l i a d h) (λ k n. get_or-set_other l i k a d n)

module _ {A B : Type 0} where
  -- two functions that change at one place
  pub upd_both : (P : ℕ → A → B → Type 0) (f : ℕ → A) (g : ℕ → B) (w : ℕ) (a : A) (b : B) → P w a b → ((v : ℕ) → v ≢ w → P v (f v) (g v))
      → (v : ℕ) → P v (upd f w a v) (upd g w b v)
  upd_both P f g w a b new old = upd_all (λ v x. P v x (upd g w b v)) f w a (rw upd_same new) (λ v n. rw upd_other (old v n))

  pub map_upd : (g : A → B) (f : ℕ → A) (w : ℕ) (a : A) → ◌≡◌ {A = ℕ → B} (λ v. g (upd f w a v)) (upd (λ v. g (f v)) w (g a))
  map_upd g f w a = upd_only (λ v. g (f v)) w (g a) (λ v. g (upd f w a v)) (ap g (upd_same f w a)) (λ v n. ap g (upd_other f w a v n))

-- updates at two places may be made in either order
pub upd_comm : {A : Type 0} (f : ℕ → A) (v w : ℕ) (a b : A) → v ≢ w → upd (upd f v a) w b ≡ upd (upd f w b) v a
upd_comm f v w a b h =
    upd_only (upd f w b) v a (upd (upd f v a) w b) (upd_other (upd f v a) w b v h ∙ upd_same f v a)
    (upd_both (λ u x y. u ≢ v → x ≡ y) (upd f v a) f w b b (λ n. refl) (λ u k n. upd_other f v a u n))
