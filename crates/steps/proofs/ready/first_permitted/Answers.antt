use Prim.Native.Nat.{ℕ, ◌<◌}
use native.Mathlib.Omega.{arith}
use mathlib.Core.Path.{◌≡◌, sym, ap, ◌∙◌}
use mathlib.Core.Bool.{Bool}
use lib.ListN.{get_or}
use borrow.Author.Count.{below_more}
use borrow.Author.Rules.{rules}
use Rattle.plan.specs.Permits.{is_set}
use Rattle.memory.specs.Layout.{most_tasks}
use Rattle.steps.specs.declared.Counts.{Counts}
use Rattle.steps.specs.declared.device.Device.{Device}
use Rattle.steps.specs.Ready.{mask_at, First, Below, ready_in, listed}
use Rattle.steps.proofs.Choosing.{listed_below, falls}
use Rattle.steps.proofs.ready.first_permitted.Goals as goal

-- the task at the place that is looked at
task_below : (n : Counts) (device : Device) → Below most_tasks (ready_in n device.ready) → {k i : ℕ} → k < n.ready → i ≡ listed n device.ready k → i < most_tasks
task_below n device below {k = k} l e = rw e (listed_below n device.ready most_tasks below k l)

-- whether its mask has the worker's bit
set_is : (n : Counts) (device : Device) (w k : ℕ) {i : ℕ} {set : Bool} → i ≡ listed n device.ready k → set ≡ is_set (get_or device.masks i 0) w
    → set ≡ is_set (mask_at n device k) w
set_is n device w k e is = is ∙ ap (λ (i : ℕ). is_set (get_or device.masks i 0) w) e

pub loop-k-init : goal.loop-k-init
loop-k-init c =
    (search rules, λ j b. absurd (omega arith))

pub offset_bounds-device-task : goal.offset_bounds-device-task
offset_bounds-device-task c =
    omega (arith, task_below c.args.n c.args.device.now c.requires.5 c.loop-k-test.true c.task_at-task.ensures.numbers)

pub bounds-device-task : goal.bounds-device-task
bounds-device-task c =
    omega (arith, task_below c.args.n c.args.device.now c.requires.5 c.loop-k-test.true c.task_at-task.ensures.numbers)

pub returns-then-is_set : goal.returns-then-is_set
returns-then-is_set c =
    let l = c.loop-k in
    let x = c.args in
    let first : First (λ j. is_set (mask_at x.n x.device.now j) x.w) x.n.ready l.k =
    record { within = l.invariant.0; before = l.invariant.1; found = λ h. sym (set_is c.args.n c.args.device.now c.args.w c.loop-k.k c.task_at-task.ensures.numbers c.is_set.ensures) ∙ c.if-is_set.true } in
    record {
      inside = c.loop-k-test.true;
      numbers = first;
      meaning = falls x.n x.device.now x.w l.k first;
    }

pub loop-k-preserved : goal.loop-k-preserved
loop-k-preserved c =
    let l = c.loop-k in
    (search rules, below_more _ _ l.invariant.1 (sym (set_is c.args.n c.args.device.now c.args.w c.loop-k.k c.task_at-task.ensures.numbers c.is_set.ensures) ∙ c.if-is_set.false))

pub returns : goal.returns
returns c =
    let l = c.loop-k in
    let x = c.args in
    let all : l.k ≡ x.n.ready = omega (arith, l.invariant.0, c.loop-k-test.false) in
    let first : First (λ j. is_set (mask_at x.n x.device.now j) x.w) x.n.ready x.n.ready =
    record { within = omega arith; before = rw all at l.invariant.1; found = λ h. absurd (omega arith) } in
    record {
      inside = tt;
      numbers = first;
      meaning = falls x.n x.device.now x.w x.n.ready first;
    }
