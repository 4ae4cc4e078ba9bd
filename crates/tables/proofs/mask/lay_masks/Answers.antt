use native.Mathlib.Omega.{arith}
use mathlib.Core.Path.{◌≡◌, refl}
use Rattle.tables.specs.Tables.{task_mask}
use Rattle.tables.proofs.Masks.{mask_laid}
use Rattle.kept.specs.Tasks.{row_at}
use Rattle.tables.proofs.Plans.{task_low}
use Rattle.tables.proofs.Rows.{rows_none}
use Rattle.tables.proofs.mask.lay_masks.Goals as goal

pub loop-i-init : goal.loop-i-init
loop-i-init c text p e size has same =
    rows_none 0 (task_mask p.workers p.tasks) c.args.masks.now

pub bounds-plan-i : goal.bounds-plan-i
bounds-plan-i c =
    omega (arith, task_low c.args.plan.now c.args.count c.requires.readable c.loop-i.i c.loop-i-test.true, c.requires.lengths)

pub offset_bounds-plan-i : goal.offset_bounds-plan-i
offset_bounds-plan-i c =
    omega (arith, task_low c.args.plan.now c.args.count c.requires.readable c.loop-i.i c.loop-i-test.true, c.requires.lengths)

pub mask_of-requires : goal.mask_of-requires
mask_of-requires c =
    c.requires.lengths.2

pub offset_bounds-masks-i : goal.offset_bounds-masks-i
offset_bounds-masks-i c =
    omega (arith, task_low c.args.plan.now c.args.count c.requires.readable c.loop-i.i c.loop-i-test.true)

pub bounds-masks-i : goal.bounds-masks-i
bounds-masks-i c =
    let low = task_low c.args.plan.now c.args.count c.requires.readable c.loop-i.i c.loop-i-test.true in
    omega (arith, low, c.requires.lengths.1, c.loop-i.auto.masks)

pub loop-i-preserved : goal.loop-i-preserved
loop-i-preserved c text p e size has same =
    let x = c.loop-i in
    let taken = c.loop-i-test.true in
    let low = task_low c.args.plan.now c.args.count c.requires.readable x.i taken in
    mask_laid text p e c.args.count size c.args.plan.now has c.args.masks.now x.masks x.i c.args.workers c.mask_of.result (row_at c.args.plan.now x.i)
    taken (omega (arith, low, c.requires.lengths.1, x.auto.masks)) refl same c.mask_of.ensures (x.invariant text p e size has same)

pub returns : goal.returns
returns c text p e size has same =
    let x = c.loop-i in
    let all : x.i ≡ c.args.count = omega arith in
    rw all at (x.invariant text p e size has same)
