-- The two ways in which a task's count falls, and what stays.
use Rattle.std.specs.Prelude.{ℕ, ◌-◌, ◌<◌, ◌≡◌, refl, ◌⊎◌, ◌≢◌, Bool, true, false, ◌&&◌, [], ◌∷◌, ◌++◌, eqb, ltb}
use Rattle.std.proofs.Common.{arith, ap, inl, inr, eqb-true, ltb-true, ltb-false}
use Rattle.std.proofs.lemmas.Bool.{eqb-false}
use Rattle.runs.specs.Update.{same, upd, upd_same, upd_other}
use Rattle.tasks.specs.Tasks.{ready, Tasks, with_adds, with_count, with_status}
use Rattle.tasks.specs.History.{lowered}

-- it falls to 0, or it was 0 or stays above
pub lowered_cases : (P : Tasks → Type 0) (t : Tasks) (w i x : ℕ)
    → (0 < t.count i → t.count i - x ≡ 0 → P (with_adds (with_status (with_count t i 0) i ready) w (t.adds w ++ i ∷ [])))
    → ((t.count i ≡ 0) ⊎ (x < t.count i) → P (with_count t i (t.count i - x))) → P (lowered t w i x)
unfolding lowered
lowered_cases P t w i x f g = go (ltb 0 (t.count i)) refl (eqb (t.count i - x) 0) refl
  where
    go : (a : Bool) → ltb 0 (t.count i) ≡ a → (b : Bool) → eqb (t.count i - x) 0 ≡ b
        → P (elim (a && b) [
          | true ↦ with_adds (with_status (with_count t i 0) i ready) w (t.adds w ++ i ∷ [])
          | false ↦ with_count t i (t.count i - x)
        ])
    go true p true q = f (ltb-true _ _ p) (eqb-true (t.count i - x) 0 q)
    go true p false q = g (inr (omega (arith, eqb-false (t.count i - x) 0 q)))
    go false p true q = g (inl (omega (arith, ltb-false 0 (t.count i) p)))
    go false p false q = g (inl (omega (arith, ltb-false 0 (t.count i) p)))

-- a count that comes to 0 is that of task j, and worker w has it to add
pub lowered_to_add : (t : Tasks) (w j x i : ℕ) → 0 < t.count i → (lowered t w j x).count i ≡ 0
    → (lowered t w j x).adds ≡ upd t.adds w (t.adds w ++ i ∷ [])
lowered_to_add t w j x i l =
    lowered_cases (λ r. r.count i ≡ 0 → r.adds ≡ upd t.adds w (t.adds w ++ i ∷ [])) t w j x
    (λ _ _. to_0 (same i j)) (λ d z. absurd (above d (same i j) z))
  where
    to_0 : (i ≡ j) ⊎ (i ≢ j) → upd t.count j 0 i ≡ 0
        → upd t.adds w (t.adds w ++ j ∷ []) ≡ upd t.adds w (t.adds w ++ i ∷ [])
    to_0 (inl e) z = rw e refl
    to_0 (inr n) z = absurd (omega (arith, upd_other t.count j 0 i n))

    above : (t.count j ≡ 0) ⊎ (x < t.count j) → (i ≡ j) ⊎ (i ≢ j) → upd t.count j (t.count j - x) i ≢ 0
    above (inl d) (inl e) z = omega (arith, ap t.count e)
    above (inr d) (inl e) z = omega (arith, ap (upd t.count j (t.count j - x)) e, upd_same t.count j (t.count j - x))
    above d (inr n) z = omega (arith, upd_other t.count j (t.count j - x) i n)

-- what stays
pub lowered_runner : (t : Tasks) (w i x : ℕ) → (lowered t w i x).runner ≡ t.runner
lowered_runner t w i x = lowered_cases (λ r. r.runner ≡ t.runner) t w i x (λ l e. refl) (λ d. refl)

pub lowered_mail : (t : Tasks) (w i x : ℕ) → (lowered t w i x).mail ≡ t.mail
lowered_mail t w i x = lowered_cases (λ r. r.mail ≡ t.mail) t w i x (λ l e. refl) (λ d. refl)

pub lowered_flags : (t : Tasks) (w i x : ℕ) → (lowered t w i x).flags ≡ t.flags
lowered_flags t w i x = lowered_cases (λ r. r.flags ≡ t.flags) t w i x (λ l e. refl) (λ d. refl)

pub lowered_creation : (t : Tasks) (w i x : ℕ) → (lowered t w i x).creation ≡ t.creation
lowered_creation t w i x = lowered_cases (λ r. r.creation ≡ t.creation) t w i x (λ l e. refl) (λ d. refl)
