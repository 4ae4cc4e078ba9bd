-- The total of permitted workers as the ones of masks.
use Rattle.std.specs.Prelude.{ℕ, ◌^◌, ◌≤◌, ◌<◌, ◌≡◌, List, length, get_or}
use Rattle.std.proofs.Common.{arith, sym, ap, ◌∙◌}
use Rattle.std.proofs.Math.Nat.{pow-le-pow_right}
use Rattle.std.specs.Int.Count.{ones}
use Rattle.runs.specs.Sums.{sum, sum_same}
use Rattle.plan.specs.Permits.{permitted}
use Rattle.plan.specs.PermitLaws.{mask_of, mask_low, permitted_ones}
use Rattle.plan.specs.Accepted.{MaskFormed}
use Rattle.tasks.specs.Accesses.{task_at}
use Rattle.machine.specs.State.{Setup}
use Rattle.report.specs.Report.{total_permitted}

-- the ones of the first n masks
abbrev pub ones_of : List ℕ → ℕ → ℕ
ones_of masks n = sum n (λ i. ones (get_or masks i 0))

-- by task, its mask: for at most 32 workers, and with none but their bits
pub record Masks (c : Setup) (masks : List ℕ) : Type 0 where
  pub few : c.workers ≤ 32
  pub formed : (i : ℕ) → i < length c.tasks → MaskFormed c.workers (task_at c.tasks i).mask
  pub are : (i : ℕ) → i < length c.tasks → get_or masks i 0 ≡ mask_of c.workers (task_at c.tasks i).mask

module _ (c : Setup) (masks : List ℕ) (h : Masks c masks) where
  -- a mask has 32 bits
  pub masks_fit : (i : ℕ) → i < length c.tasks → get_or masks i 0 < 2 ^ 32
  masks_fit i l =
      let t = task_at c.tasks i in
      omega (arith, h.are i l, mask_low c.workers t.mask (h.formed i l), pow-le-pow_right {n = 2} (omega arith) h.few)

  pub total_ones : ones_of masks (length c.tasks) ≡ total_permitted c
  total_ones =
      sum_same (length c.tasks) (λ i. ones (get_or masks i 0)) (λ i. permitted c.workers (task_at c.tasks i))
      (λ i l. ap ones (h.are i l) ∙ sym (permitted_ones c.workers (task_at c.tasks i) (h.formed i l)))
