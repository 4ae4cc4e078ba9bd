use native.Mathlib.Omega.{arith}
use mathlib.Core.Path.{refl}
use Rattle.kept.specs.Tasks.{row_at}
use Rattle.tables.proofs.Plans.{task_low, row_few}
use Rattle.tables.proofs.Accesses.{accesses_begin, accesses_laid, accesses_end}
use Rattle.tables.proofs.access.lay_plan_accesses.Goals as goal

pub loop-i-init : goal.loop-i-init
loop-i-init c =
    (omega arith, λ text p e size has q. accesses_begin p c.args.accesses.now)

pub bounds-plan-i : goal.bounds-plan-i
bounds-plan-i c =
    omega (arith, task_low c.args.plan.now c.args.count c.requires.readable c.loop-i.i c.loop-i-test.true, c.requires.lengths)

pub offset_bounds-plan-i : goal.offset_bounds-plan-i
offset_bounds-plan-i c =
    omega (arith, task_low c.args.plan.now c.args.count c.requires.readable c.loop-i.i c.loop-i-test.true, c.requires.lengths)

pub lay_accesses-requires : goal.lay_accesses-requires
lay_accesses-requires c =
    let x = c.loop-i in
    let row = row_at c.args.plan.now x.i in
    let low = task_low c.args.plan.now c.args.count c.requires.readable x.i c.loop-i-test.true in
    let few = row_few c.args.plan.now c.args.count c.requires.readable x.i c.loop-i-test.true row refl in
    (omega (arith, x.auto.accesses, c.requires.lengths.1), few, low, omega (arith, low, few, x.invariant.0))

pub overflow_add-at : goal.overflow_add-at
overflow_add-at c =
    let x = c.loop-i in
    let row = row_at c.args.plan.now x.i in
    let low = task_low c.args.plan.now c.args.count c.requires.readable x.i c.loop-i-test.true in
    let few = row_few c.args.plan.now c.args.count c.requires.readable x.i c.loop-i-test.true row refl in
    omega (arith, low, few, x.invariant.0)

pub loop-i-preserved : goal.loop-i-preserved
loop-i-preserved c =
    let x = c.loop-i in
    let row = row_at c.args.plan.now x.i in
    let laid = c.lay_accesses in
    let few = row_few c.args.plan.now c.args.count c.requires.readable x.i c.loop-i-test.true row refl in (
      omega (arith, x.invariant.0, few),
      λ text p e size has q.
          accesses_laid text p e c.args.count size c.args.plan.now has c.args.accesses.now x.i x.at c.args.total
          row x.accesses laid.new.accesses c.loop-i-test.true refl q laid.ensures
          (x.invariant.1 text p e size has q),
    )

pub returns : goal.returns
returns c text p e size has q =
    let x = c.loop-i in
    let a = c.args in
    accesses_end text p e a.count size a.plan.now has a.accesses.now x.i x.at a.total x.accesses (omega arith) q
    (x.invariant.1 text p e size has q)
