-- `lock_c::salfunye_lock_hand_over` meets its contract where it hands over.
use mathlib.Core.Path.{refl, ap, ◌∙◌}
use mathlib.Core.List.{[]}
use native.Mathlib.Omega.{arith}
use Rattle.lock.specs.Lock.{Told}
use Rattle.lock.proofs.Promise.{told_by}
use Rattle.lock_c.specs.Answered.{accepted}
use Rattle.lock_c.proofs.salfunye_lock_hand_over.Goals as goal

pub returns : goal.returns
returns c =
    let ends = c.ends_at.ensures in
    let handed = c.hand_over-handed.ensures in
    let told = handed.tells in
    accepted (omega (arith, c.ranges.tail)) (
      refl,
      handed.ends.0 ∙ ends.0,
      rw ends.1 at handed.ends.1,
      λ tickets tasks.
          rw (ap (λ (x : Told). x.let_in) (rw (ends.0, ends.1) at (told tickets tasks))) at c.from-let_in.ensures,
      ap (λ (x : Told). x.by) (told [] []) ∙ told_by _ _ _,
      rw ends.1 at handed.waits,
    )
