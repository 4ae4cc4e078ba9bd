-- Lists of picks, each of which names the worker that takes a step, and runs over them.
use Rattle.std.specs.Prelude.{◌≡◌, refl, ◌⊎◌, List, [], ◌∷◌, ◌++◌, ℕ, ◌+◌, ◌≤◌, ◌<◌, length, take, drop, get_or}
use Rattle.std.proofs.Common.{sym, ap, ◌∙◌, inl, inr, arith, length-take, length-drop, take-append-drop, get_or-take, get_or-drop, take-add}
use Rattle.runs.specs.Update.{order}

abbrev pub pick : List ℕ → ℕ → ℕ
pick xs i = get_or xs i 0

-- every pick is a worker below W
abbrev pub Picks : ℕ → List ℕ → Type 0
Picks W xs = (i : ℕ) → i < length xs → pick xs i < W

-- every B picks in a row that the list has include each worker below W
abbrev pub Regular : ℕ → ℕ → List ℕ → Type 0
Regular W B xs = (i w : ℕ) → i + B ≤ length xs → w < W → (j : ℕ) × (j < B) × (pick xs (i + j) ≡ w)

pub picks_take : (W n : ℕ) (xs : List ℕ) → Picks W xs → Picks W (take n xs)
picks_take W n xs p i l = rw (get_or-take n xs i 0 (omega (arith, length-take n xs))) (p i (omega (arith, length-take n xs)))

pub picks_drop : (W n : ℕ) (xs : List ℕ) → Picks W xs → Picks W (drop n xs)
picks_drop W n xs p i l = rw get_or-drop (p (n + i) (omega (arith, length-drop n xs)))

pub regular_take : (W B n : ℕ) (xs : List ℕ) → Regular W B xs → Regular W B (take n xs)
regular_take W B n xs r i w l b =
    let (j, k, e) = r i w (omega (arith, length-take n xs)) b in
    (j, k, get_or-take n xs (i + j) 0 (omega (arith, length-take n xs)) ∙ e)

pub regular_drop : (W B n : ℕ) (xs : List ℕ) → Regular W B xs → Regular W B (drop n xs)
regular_drop W B n xs r i w l b = go (order (length xs) n)
  where
    go : (length xs < n) ⊎ (n ≤ length xs) → (j : ℕ) × (j < B) × (pick (drop n xs) (i + j) ≡ w)
    -- nothing is left, so B would be 0, and with a worker no list is regular then
    go (inl o) = absurd (omega (arith, length-drop n xs, (r 0 w (omega (arith, length-drop n xs)) b).1))
    go (inr o) =
        let (j, k, e) = r (n + i) w (omega (arith, length-drop n xs)) b in (j, k, get_or-drop n xs (i + j) 0 ∙ ap (pick xs) (omega arith) ∙ e)

-- each worker is among the first B picks
pub regular_first : (W B : ℕ) (xs : List ℕ) → Regular W B xs → B ≤ length xs → (w : ℕ) → w < W → (j : ℕ) × (j < B) × (pick xs j ≡ w)
regular_first W B xs r l w b = let (j, k, e) = r 0 w (omega arith) b in (j, k, ap (pick xs) (omega arith) ∙ e)

module _ {S : Type 0} (step : S → ℕ → S) where
  abbrev pub run : S → List ℕ → S
  run s [] = s
  run s (x ∷ xs) = run (step s x) xs

  pub run_append : (s : S) (xs ys : List ℕ) → run s (xs ++ ys) ≡ run (run s xs) ys
  run_append s [] ys = refl
  run_append s (x ∷ xs) ys = run_append (step s x) xs ys

  pub run_take : (s : S) (n k : ℕ) (xs : List ℕ) → run s (take (n + k) xs) ≡ run (run s (take n xs)) (take k (drop n xs))
  run_take s n k xs = ap (run s) (take-add n k xs) ∙ run_append s (take n xs) (take k (drop n xs))

  pub run_drop : (s : S) (n : ℕ) (xs : List ℕ) → run s xs ≡ run (run s (take n xs)) (drop n xs)
  run_drop s n xs = sym (ap (run s) (take-append-drop n xs)) ∙ run_append s (take n xs) (drop n xs)

  -- what every step keeps, every run keeps
  pub run_keeps : (W : ℕ) (Inv : S → Type 0) → ((s : S) (x : ℕ) → x < W → Inv s → Inv (step s x)) → (xs : List ℕ) → Picks W xs → (s : S)
      → Inv s → Inv (run s xs)
  run_keeps W Inv keeps [] p s v = v
  run_keeps W Inv keeps (x ∷ xs) p s v = run_keeps W Inv keeps xs (picks_drop W 1 (x ∷ xs) p) (step s x) (keeps s x (p 0 (omega arith)) v)

  -- the goal comes within m picks of the list
  abbrev pub Within : (S → Type 0) → ℕ → List ℕ → S → Type 0
  Within Goal m xs s = (n : ℕ) × (n ≤ m) × (n ≤ length xs) × Goal (run s (take n xs))

  -- n picks made, and m more are enough
  pub within_later : (Goal : S → Type 0) (n m k : ℕ) (xs : List ℕ) (s : S) → n ≤ length xs → n + m ≤ k
      → Within Goal m (drop n xs) (run s (take n xs)) → Within Goal k xs s
  within_later Goal n m k xs s l h (i, a, b, g) = (n + i, omega arith, omega (arith, length-drop n xs), rw run_take g)
