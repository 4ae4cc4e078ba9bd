-- Sums over the numbers below n, and the pigeonhole principle.
use Rattle.std.specs.Prelude.{◌≡◌, refl, ◌⊎◌, ◌≢◌, ℕ, zero, suc, ◌+◌, ◌*◌, ◌≤◌, ◌<◌}
use Rattle.std.proofs.Common.{sym, ap, ◌∙◌, inl, inr, ⊎_elim, arith}
use Rattle.runs.specs.Update.{same, order, upd, upd_same, upd_other, upd_all}

-- f 0 + .. + f (n - 1)
unfoldable pub sum : ℕ → (ℕ → ℕ) → ℕ
sum zero f = 0
sum (suc n) f = sum n f + f n

pub sum_same : (n : ℕ) (f g : ℕ → ℕ) → ((k : ℕ) → k < n → f k ≡ g k) → sum n f ≡ sum n g
unfolding sum
sum_same zero f g h = refl
sum_same (suc n) f g h = omega (arith, sum_same n f g (λ k l. h k (omega arith)), h n (omega arith))

pub sum_le : (n : ℕ) (f g : ℕ → ℕ) → ((k : ℕ) → k < n → f k ≤ g k) → sum n f ≤ sum n g
unfolding sum
sum_le zero f g h = omega arith
sum_le (suc n) f g h = omega (arith, sum_le n f g (λ k l. h k (omega arith)), h n (omega arith))

pub sum_add : (n : ℕ) (f g : ℕ → ℕ) → sum n (λ k. f k + g k) ≡ sum n f + sum n g
unfolding sum
sum_add zero f g = refl
sum_add (suc n) f g = omega (arith, sum_add n f g)

pub sum_const : (n c : ℕ) → sum n (λ k. c) ≡ n * c
unfolding sum
sum_const zero c = omega arith
sum_const (suc n) c = omega (arith, sum_const n c)

pub sum_zeros : (n : ℕ) (f : ℕ → ℕ) → ((k : ℕ) → k < n → f k ≡ 0) → sum n f ≡ 0
sum_zeros n f h = omega (arith, sum_same n f (λ k. 0) h, sum_const n 0)

pub sum_ones : (n : ℕ) (f : ℕ → ℕ) → ((k : ℕ) → k < n → f k ≡ 1) → sum n f ≡ n
sum_ones n f h = omega (arith, sum_same n f (λ k. 1) h, sum_const n 1)

-- two functions that differ at w alone
pub sum_at : (n : ℕ) (f g : ℕ → ℕ) (w : ℕ) → w < n → ((k : ℕ) → k < n → k ≢ w → g k ≡ f k) → sum n g + f w ≡ sum n f + g w
unfolding sum
sum_at zero f g w l h = absurd (omega arith)
sum_at (suc n) f g w l h =
    ⊎_elim
    (λ (e : w ≡ n). rw e (omega (arith, sum_same n g f (λ k a. h k (omega arith) (omega arith)))))
    (λ (e : w ≢ n). omega (arith, sum_at n f g w (omega arith) (λ k a. h k (omega arith)), h n (omega arith) (omega arith)))
    (same w n)

-- a measure m of the values of a function that is updated
pub sum_upd : {A : Type 0} (n : ℕ) (m : A → ℕ) (f : ℕ → A) (w : ℕ) (a : A) → w < n
    → sum n (λ k. m (upd f w a k)) + m (f w) ≡ sum n (λ k. m (f k)) + m a
sum_upd n m f w a l =
    sum_at n (λ k. m (f k)) (λ k. m (upd f w a k)) w l (λ k b e. ap m (upd_other f w a k e))
    ∙ ap (λ x. sum n (λ k. m (f k)) + m x) (upd_same f w a)

-- two functions that differ at v and w alone
pub sum_two : (n : ℕ) (f g : ℕ → ℕ) (v w : ℕ) → v < n → w < n → v ≢ w → ((k : ℕ) → k < n → k ≢ v → k ≢ w → g k ≡ f k)
    → sum n g + (f v + f w) ≡ sum n f + (g v + g w)
sum_two n f g v w a b e h = omega (arith, sum_upd n (λ x. x) f w (g w) b, sum_at n (upd f w (g w)) g v a rest, upd_other f w (g w) v e)
  where
    rest : (k : ℕ) → k < n → k ≢ v → g k ≡ upd f w (g w) k
    rest = upd_all (λ k x. k < n → k ≢ v → g k ≡ x) f w (g w) (λ l i. refl) (λ k i l j. h k l j i)

-- a term is at most the sum, and so are two terms together
pub le_sum : (n : ℕ) (f : ℕ → ℕ) (w : ℕ) → w < n → f w ≤ sum n f
le_sum n f w l = omega (arith, sum_upd n (λ x. x) f w 0 l)

pub two_sum : (n : ℕ) (f : ℕ → ℕ) (v w : ℕ) → v < n → w < n → v ≢ w → f v + f w ≤ sum n f
two_sum n f v w a b e = omega (arith, sum_upd n (λ x. x) f w 0 b, le_sum n (upd f w 0) v a, upd_other f w 0 v e)

pub zero_sum : (n : ℕ) (f : ℕ → ℕ) → sum n f ≡ 0 → (w : ℕ) → w < n → f w ≡ 0
zero_sum n f z w l = omega (arith, le_sum n f w l)

pub pos_sum : (n : ℕ) (f : ℕ → ℕ) → 0 < sum n f → (w : ℕ) × (w < n) × (0 < f w)
unfolding sum
pos_sum zero f h = absurd (omega arith)
pos_sum (suc n) f h =
    ⊎_elim
    (λ (p : 0 < f n). (n, omega arith, p))
    (λ (z : f n ≤ 0). let (w, l, p) = pos_sum n f (omega arith) in (w, omega arith, p))
    (order 0 (f n))

-- n different numbers below W: n is at most W. Where W is suc m, the last of them takes the place of the one that is m
pub fits : (n W : ℕ) (g : ℕ → ℕ) → ((i : ℕ) → i < n → g i < W) → ((i j : ℕ) → i < n → j < n → g i ≡ g j → i ≡ j) → n ≤ W
fits zero W g b d = omega arith
fits (suc n) zero g b d = absurd (omega (arith, b n (omega arith)))
fits (suc n) (suc m) g b d =
    omega (arith, fits n m (λ i. move (g i)) (λ i l. below i l (same (g i) m)) (λ i j l k. apart i j l k (same (g i) m) (same (g j) m)))
  where
    move : ℕ → ℕ
    move = upd (λ y. y) m (g n)

    moved : (i : ℕ) → g i ≡ m → move (g i) ≡ g n
    moved i e = ap move e ∙ upd_same (λ y. y) m (g n)

    stays : (i : ℕ) → g i ≢ m → move (g i) ≡ g i
    stays i = upd_other (λ y. y) m (g n) (g i)

    new : (i : ℕ) → i < n → g i ≢ g n
    new i l e = omega (arith, d i n (omega arith) (omega arith) e)

    below : (i : ℕ) → i < n → (g i ≡ m) ⊎ (g i ≢ m) → move (g i) < m
    below i l (inl e) = omega (arith, moved i e, new i l, b n (omega arith))
    below i l (inr e) = omega (arith, stays i e, b i (omega arith))

    apart : (i j : ℕ) → i < n → j < n → (g i ≡ m) ⊎ (g i ≢ m) → (g j ≡ m) ⊎ (g j ≢ m) → move (g i) ≡ move (g j) → i ≡ j
    apart i j l k (inl p) (inl q) e = d i j (omega arith) (omega arith) (p ∙ sym q)
    apart i j l k (inl p) (inr q) e = absurd (omega (arith, moved i p, stays j q, new j k))
    apart i j l k (inr p) (inl q) e = absurd (omega (arith, stays i p, moved j q, new i l))
    apart i j l k (inr p) (inr q) e = d i j (omega arith) (omega arith) (omega (arith, stays i p, stays j q))

-- W numbers among which is each one below n: n is at most W
pub cover : (W n : ℕ) (g : ℕ → ℕ) → ((t : ℕ) → t < n → (w : ℕ) × (w < W) × (g w ≡ t)) → n ≤ W
cover W n g c = fits n W (λ t. (at t).0) (λ t l. ((at t).1 l).0) (λ t u l k e. sym ((at t).1 l).1 ∙ ap g e ∙ ((at u).1 k).1)
  where
    at : (t : ℕ) → (w : ℕ) × (t < n → (w < W) × (g w ≡ t))
    at t = ⊎_elim (λ (l : t < n). let (w, a, e) = c t l in (w, λ k. (a, e))) (λ (l : n ≤ t). (0, λ k. absurd (omega arith))) (order t n)
