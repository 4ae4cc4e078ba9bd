-- A measure that falls in every round of K picks.
use Rattle.std.specs.Prelude.{◌≡◌, ◌⊎◌, List, ℕ, zero, suc, ◌*◌, ◌≤◌, ◌<◌, length, take, drop}
use Rattle.std.proofs.Common.{inl, inr, arith, length-drop}
use Rattle.runs.specs.Picks.{Picks, Regular, picks_take, picks_drop, regular_drop, run, run_keeps, Within, within_later}

module _ {S : Type 0} (step : S → ℕ → S) (Inv Goal : S → Type 0) (measure : S → ℕ) (W B K : ℕ)
    (keeps : (s : S) (x : ℕ) → x < W → Inv s → Inv (step s x))
    (done : (s : S) → Inv s → measure s ≡ 0 → Goal s)
    (round : (xs : List ℕ) → Picks W xs → Regular W B xs → (s : S) → Inv s → K ≤ length xs → Within step
    (λ t. Goal t ⊎ (measure t < measure s)) K xs s)
  where
    -- by recursion on a bound m of the measure
    upto : (m : ℕ) (xs : List ℕ) → Picks W xs → Regular W B xs → (s : S) → Inv s → measure s ≤ m → m * K ≤ length xs
        → Within step Goal (m * K) xs s
    upto zero xs p q s v h l = (0, omega arith, omega arith, done s v (omega arith))
    upto (suc m) xs p q s v h l =
        go (round xs p q s v (omega arith))
        (λ n.
        upto m (drop n xs) (picks_drop W n xs p) (regular_drop W B n xs q) (run step s (take n xs))
        (run_keeps step W Inv keeps (take n xs) (picks_take W n xs p) s v))
      where
        go : Within step (λ t. Goal t ⊎ (measure t < measure s)) K xs s
            → ((n : ℕ) → measure (run step s (take n xs)) ≤ m → m * K ≤ length (drop n xs)
            → Within step Goal (m * K) (drop n xs) (run step s (take n xs)))
            → Within step Goal (suc m * K) xs s
        go (n, a, b, inl g) k = (n, omega arith, b, g)
        go (n, a, b, inr d) k =
            within_later step Goal n (m * K) (suc m * K) xs s b (omega arith) (k n (omega arith) (omega (arith, length-drop n xs)))

    -- a regular list that is long enough reaches the goal within measure * K picks
    pub rounds : (xs : List ℕ) → Picks W xs → Regular W B xs → (s : S) → Inv s → measure s * K ≤ length xs
        → Within step Goal (measure s * K) xs s
    rounds xs p q s v l = upto (measure s) xs p q s v (omega arith) l
