-- What follows from the stage of a status.
use Rattle.std.specs.Prelude.{ℕ, zero, suc, ◌+◌, ◌≤◌, ◌<◌, ◌≡◌, refl, ◌⊎◌, ◌≢◌, Bool, true, false, eqb, leb}
use Rattle.std.proofs.Common.{arith, sym, ap, ◌∙◌, inl, inr, ⊎_elim, eqb-true, leb-true, leb-false, eq-eqb, le-leb}
use Rattle.runs.specs.Update.{same}
use Rattle.runs.specs.Counts.{one, one_true}
use Rattle.tasks.specs.Tasks.{Status, new, waiting, ready, held, running, over, stage, is_ready, is_held, is_running}
use Rattle.tasks.specs.Tasks.{past_waiting, is_received}

-- the status at a stage
at_stage : ℕ → Status
at_stage zero = new
at_stage (suc zero) = waiting
at_stage (suc (suc zero)) = ready
at_stage (suc (suc (suc zero))) = held
at_stage (suc (suc (suc (suc zero)))) = running
at_stage (suc (suc (suc (suc (suc n))))) = over

at_its_stage : (x : Status) → at_stage (stage x) ≡ x
unfolding at_stage
at_its_stage new = refl
at_its_stage waiting = refl
at_its_stage ready = refl
at_its_stage held = refl
at_its_stage running = refl
at_its_stage over = refl

-- no two statuses are at one stage, and there are six
pub stage_same : (x y : Status) → stage x ≡ stage y → x ≡ y
stage_same x y e = sym (at_its_stage x) ∙ ap at_stage e ∙ at_its_stage y

pub stage_le : (x : Status) → stage x ≤ 5
stage_le new = omega arith
stage_le waiting = omega arith
stage_le ready = omega arith
stage_le held = omega arith
stage_le running = omega arith
stage_le over = omega arith

-- the test for a stage
pub at_stage_lem : (x y : Status) → 0 < one (eqb (stage x) (stage y)) → x ≡ y
at_stage_lem x y l = stage_same x y (eqb-true _ _ (one_true _ l))

off_stage : (x y : Status) → one (eqb (stage x) (stage y)) ≡ 0 → stage x ≢ stage y
off_stage x y z e = omega (arith, ap one (eq-eqb _ _ e))

-- who is at a stage has passed those before
pub passed_by : (n a b : ℕ) → a ≤ b → one (eqb n b) ≤ one (leb a n)
passed_by n a b l = go (eqb n b) refl (leb a n) refl
  where
    go : (p : Bool) → eqb n b ≡ p → (q : Bool) → leb a n ≡ q → one p ≤ one q
    go true e true d = omega arith
    go true e false d = absurd (omega (arith, eqb-true n b e, leb-false a n d))
    go false e q d = omega arith

pub received_past : (x : Status) → 0 < is_received x → past_waiting x ≡ 1
received_past x l = ap one (le-leb 2 (stage x) (omega (arith, leb-true 4 (stage x) (one_true _ l))))

pub waiting_or_not : (x : Status) → (x ≡ waiting) ⊎ (x ≢ waiting)
waiting_or_not x = ⊎_elim (λ e. inl (stage_same x waiting e)) (λ n. inr (λ e. n (ap stage e))) (same (stage x) 1)

-- what remains
pub only_over : (x : Status) → x ≢ new → x ≢ waiting → is_ready x + is_held x + is_running x ≡ 0 → x ≡ over
only_over x a b z =
    let not_new : stage x ≢ 0 = λ e. a (stage_same x new e) in
    let not_waiting : stage x ≢ 1 = λ e. b (stage_same x waiting e) in
    let not_ready = off_stage x ready (omega arith) in
    let not_held = off_stage x held (omega arith) in
    let not_running = off_stage x running (omega arith) in
    stage_same x over (omega (arith, stage_le x))
