-- `tables::mask::lay_masks` meets its contract: the masks before i are laid. Assumes nothing.
use mathlib.Core.Path.{◌≡◌}
use Rattle.tables.specs.Tables.{OfPlan, task_mask, LaidRows}
use Rattle.tables.proofs.mask.lay_masks.Given as goal

abbrev pub invariant-loop-i : goal.invariant-loop-i
invariant-loop-i l =
    OfPlan l.plan l.count (λ text p. l.workers ≡ p.workers → LaidRows 0 l.i (task_mask p.workers p.tasks) l.initial.masks l.masks)
