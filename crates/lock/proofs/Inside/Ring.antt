-- The ring: a ticket's turn has come exactly when it is below the tail.
use Rattle.std.specs.Prelude.{◌≡◌, ◌⊎◌, ◌↔◌, ◌≢◌, ℕ, suc, ◌%◌, ◌≤◌, ◌<◌}
use Rattle.std.proofs.Common.{ap, inl, inr, arith}
use Rattle.runs.specs.Update.{same, upd, upd_same, upd_other, upd_all}
use Rattle.lock.specs.Inside.Ring.{Slots}

pub slots_start : (N : ℕ) → Slots N (suc N) (λ _. N)
slots_start N = record { below = λ j. omega arith; come = λ t a b. omega arith }

pub slots_handed : (N tail : ℕ) (wait : ℕ → ℕ) → Slots N tail wait → Slots N (suc tail) (upd wait (tail % N) tail)
slots_handed N tail wait s =
    record {
      below = upd_all (λ j x. x < suc tail) wait (tail % N) tail (omega arith) (λ j n. omega (arith, s.below j));
      come = λ t a b. go t a b (same (t % N) (tail % N));
    }
  where
    go : (t : ℕ) → N ≤ t → t < suc tail → (t % N ≡ tail % N) ⊎ (t % N ≢ tail % N) → t ≤ upd wait (tail % N) tail (t % N)
    go t a b (inl e) = rw (e, upd_same) (omega arith)
    go t a b (inr e) = rw upd_other (s.come t a (below_tail (same t tail)))
      where
        below_tail : (t ≡ tail) ⊎ (t ≢ tail) → t < tail
        below_tail (inl q) = absurd (e (ap (λ (x : ℕ). x % N) q))
        below_tail (inr q) = omega arith

pub turn_iff : (N tail : ℕ) (wait : ℕ → ℕ) → Slots N tail wait → (t : ℕ) → N ≤ t → (t ≤ wait (t % N)) ↔ (t < tail)
turn_iff N tail wait s t h = (λ a. omega (arith, s.below (t % N)), λ a. s.come t h a)
