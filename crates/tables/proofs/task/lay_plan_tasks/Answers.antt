use native.Mathlib.Omega.{arith}
use mathlib.Core.Path.{refl}
use Rattle.kept.specs.Tasks.{row_at}
use Rattle.tables.proofs.Plans.{task_low, row_few}
use Rattle.tables.proofs.Tasks.{tasks_begin, task_laid, tasks_end}
use Rattle.tables.proofs.task.lay_plan_tasks.Goals as goal

pub loop-i-init : goal.loop-i-init
loop-i-init c =
    (omega arith, λ text p e size has. tasks_begin p c.args.plan.now c.args.tasks.now c.args.labels.now)

pub bounds-plan-i : goal.bounds-plan-i
bounds-plan-i c =
    omega (arith, task_low c.args.plan.now c.args.count c.requires.readable c.loop-i.i c.loop-i-test.true, c.requires.lengths)

pub offset_bounds-plan-i : goal.offset_bounds-plan-i
offset_bounds-plan-i c =
    omega (arith, task_low c.args.plan.now c.args.count c.requires.readable c.loop-i.i c.loop-i-test.true, c.requires.lengths)

pub offset_bounds-tasks-i : goal.offset_bounds-tasks-i
offset_bounds-tasks-i c =
    omega (arith, task_low c.args.plan.now c.args.count c.requires.readable c.loop-i.i c.loop-i-test.true)

pub bounds-tasks-i : goal.bounds-tasks-i
bounds-tasks-i c =
    let x = c.loop-i in
    omega (arith, x.auto.tasks, c.requires.lengths, task_low c.args.plan.now c.args.count c.requires.readable x.i c.loop-i-test.true)

pub offset_bounds-labels-i : goal.offset_bounds-labels-i
offset_bounds-labels-i c =
    omega (arith, task_low c.args.plan.now c.args.count c.requires.readable c.loop-i.i c.loop-i-test.true)

pub bounds-labels-i : goal.bounds-labels-i
bounds-labels-i c =
    let x = c.loop-i in
    omega (arith, x.auto.labels, c.requires.lengths, task_low c.args.plan.now c.args.count c.requires.readable x.i c.loop-i-test.true)

pub overflow_add-total : goal.overflow_add-total
overflow_add-total c =
    let x = c.loop-i in
    let row = row_at c.args.plan.now x.i in
    let low = task_low c.args.plan.now c.args.count c.requires.readable x.i c.loop-i-test.true in
    let few = row_few c.args.plan.now c.args.count c.requires.readable x.i c.loop-i-test.true row refl in
    omega (arith, low, few, x.invariant.0)

pub loop-i-preserved : goal.loop-i-preserved
loop-i-preserved c =
    let x = c.loop-i in
    let row = row_at c.args.plan.now x.i in
    let taken = c.loop-i-test.true in
    let low = task_low c.args.plan.now c.args.count c.requires.readable x.i taken in
    let few = row_few c.args.plan.now c.args.count c.requires.readable x.i taken row refl in (
      omega (arith, x.invariant.0, few),
      λ text p e size has.
          rw c.new_task.ensures
          (task_laid text p e c.args.count size c.args.plan.now has c.args.tasks.now c.args.labels.now x.i x.total row x.tasks x.labels
          taken refl (omega (arith, x.auto.tasks, c.requires.lengths, low)) (omega (arith, x.auto.labels, c.requires.lengths, low))
          (x.invariant.1 text p e size has)),
    )

pub returns : goal.returns
returns c text p e size has =
    let x = c.loop-i in
    let a = c.args in
    tasks_end text p e a.count size a.plan.now has a.tasks.now a.labels.now x.i x.total x.tasks x.labels (omega arith)
    (x.invariant.1 text p e size has)
