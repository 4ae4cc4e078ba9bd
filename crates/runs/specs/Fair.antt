-- Bounded waiting from a witness: a worker of which it is known how many picks of its own are missing.
use Rattle.std.specs.Prelude.{◌≡◌, ◌⊎◌, ◌≢◌, List, [], ◌∷◌, ℕ, zero, suc, ◌+◌, ◌*◌, ◌≤◌, ◌<◌, length}
use Rattle.std.proofs.Common.{inl, inr, ⊎_elim, arith, mul-le-mul_right}
use Rattle.runs.specs.Update.{order}
use Rattle.runs.specs.Picks.{pick, Picks, Regular, picks_drop, regular_drop, regular_first, Within, within_later}

-- `At r w s`: in s worker w has at most r + 1 picks of its own to go. What a pick of x may do then, t being the state after it:
-- it reaches the goal; or some worker has fewer to go; or it was not w's pick and w has as many to go as before
pub data Turn {S : Type 0} (Goal : S → Type 0) (At : ℕ → ℕ → S → Type 0) (W r w x : ℕ) (t : S) : Type 0 where
  reaches : Goal t → Turn Goal At W r w x t
  nearer : (q v : ℕ) → q < r → v < W → At q v t → Turn Goal At W r w x t
  waits : x ≢ w → At r w t → Turn Goal At W r w x t

module _ {S : Type 0} (step : S → ℕ → S) (Inv Goal : S → Type 0) (At : ℕ → ℕ → S → Type 0) (W B : ℕ)
    (keeps : (s : S) (x : ℕ) → x < W → Inv s → Inv (step s x))
    (turn : (s : S) (r w x : ℕ) → w < W → x < W → Inv s → At r w s → Turn Goal At W r w x (step s x))
  where
    -- the goal comes in time if w's next pick is at place j
    abbrev Soon : List ℕ → S → Type 0
    Soon xs s = (r w j : ℕ) → w < W → At r w s → pick xs j ≡ w → suc j + r * B ≤ length xs → Within step Goal (suc j + r * B) xs s

    soon : (xs : List ℕ) → Picks W xs → Regular W B xs → (s : S) → Inv s → Soon xs s
    soon [] p q s v r w j b h e l = absurd (omega arith)
    soon (x ∷ xs) p q s v r w j b h e l =
        go j e l (turn s r w x b (p 0 (omega arith)) v h)
        (soon xs (picks_drop W 1 (x ∷ xs) p) (regular_drop W B 1 (x ∷ xs) q) (step s x) (keeps s x (p 0 (omega arith)) v))
      where
        go : (j : ℕ) → pick (x ∷ xs) j ≡ w → suc j + r * B ≤ length (x ∷ xs) → Turn Goal At W r w x (step s x) → Soon xs (step s x)
            → Within step Goal (suc j + r * B) (x ∷ xs) s
        go j e l (reaches g) k = (1, omega arith, omega arith, g)
        go j e l (nearer u y a c f) k =
            let (i, d, o) = regular_first W B xs (regular_drop W B 1 (x ∷ xs) q) (omega (arith, mul-le-mul_right B a)) y c in
            within_later step Goal 1 (suc i + u * B) (suc j + r * B) (x ∷ xs) s (omega arith) (omega (arith, mul-le-mul_right B a))
            (k u y i c f o (omega (arith, mul-le-mul_right B a)))
        go zero e l (waits n f) k = absurd (n e)
        go (suc j) e l (waits n f) k =
            within_later step Goal 1 (suc j + r * B) (suc (suc j) + r * B) (x ∷ xs) s (omega arith) (omega arith)
            (k r w j b f e (omega arith))

    -- a regular list that is long enough reaches the goal within (r + 1) * B picks
    pub fair : (xs : List ℕ) → Picks W xs → Regular W B xs → (s : S) → Inv s → (r w : ℕ) → w < W → At r w s → suc r * B ≤ length xs
        → Within step Goal (suc r * B) xs s
    fair xs p q s v r w b h l =
        let (j, c, e) = regular_first W B xs q (omega arith) w b in
        within_later step Goal 0 (suc j + r * B) (suc r * B) xs s (omega arith) (omega arith)
        (soon xs p q s v r w j b h e (omega arith))

    -- a regular list of any length reaches it so, or is too short
    pub fair_to : (xs : List ℕ) → Picks W xs → Regular W B xs → (s : S) → Inv s → (r w : ℕ) → w < W → At r w s
        → Within step Goal (suc r * B) xs s ⊎ (length xs < suc r * B)
    fair_to xs p q s v r w b h = ⊎_elim inr (λ l. inl (fair xs p q s v r w b h l)) (order (length xs) (suc r * B))
