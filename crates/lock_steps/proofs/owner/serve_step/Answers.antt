-- `owner::serve_step` meets its contract. The places on the way back: `start` is the beginning, `served` the search for a task that the
-- waiter may run, and `own` the search for one that the owner may run.
use Prim.Native.Nat.{ℕ, ◌<◌}
use native.Mathlib.Omega.{arith}
use mathlib.Core.Path.{◌≡◌, refl, ◌∙◌}
use Rattle.std.specs.Prelude as rust
use Rattle.steps.specs.declared.Counts.{Counts}
use Rattle.steps.specs.declared.device.Device.{Device}
use Rattle.steps.specs.Ready.{FallsFor}
use Rattle.steps.proofs.Acting.{own_long}
use Rattle.steps.proofs.Choosing.{ready_few, ready_tasks, task_known}
use Rattle.lock_steps.proofs.FromLock.{fronts}
use Rattle.lock_steps.proofs.Stepping.{acting, workers_few, tasks_few}
use Rattle.lock_steps.proofs.Owning.{waiter_few, Takes, takes_alone, takes_served, takes_stopped, empty_acts, none_acts}
use Rattle.lock_steps.proofs.Owning.{fill_acts, take_acts}
use Rattle.lock_steps.proofs.owner.serve_step.Goals as goal
use Rattle.lock_steps.proofs.owner.serve_step.Goals.{then-served-n+in-Some+in_default-first_permitted, then-served-n+in_default, else-served-n}

-- the place of the task that is found, and none past the last
module _ {r : rust.Option ℕ} where
  inside : {k n : ℕ} → r ≡ rust.Some k → rust.IfSome r (λ j. j < n) → k < n
  inside is h = rw is at h

  module _ (n : Counts) (device : Device) (w : ℕ) (falls : FallsFor n device w (rust.unwrap_or r n.ready)) where
    falls_at : {k : ℕ} → r ≡ rust.Some k → FallsFor n device w k
    falls_at is = rw is at falls

    falls_past : r ≡ rust.None → FallsFor n device w n.ready
    falls_past is = rw is at falls

pub go_to-requires : goal.go_to-requires
go_to-requires c =
    own_long c.requires.0.1

pub returns-then-n-eq0-clause-acts : goal.returns-then-n-eq0-clause-acts
returns-then-n-eq0-clause-acts c m =
    let gone = c.go_to in
    acting gone.new.own (λ a. empty_acts a c.requires.1 c.if-n-eq0.true gone.new.own gone.ensures)

pub returns-then-n-eq0-clause-long : goal.returns-then-n-eq0-clause-long
returns-then-n-eq0-clause-long c = c.requires.0.1.long.device

pub first_permitted-requires : goal.first_permitted-requires
first_permitted-requires c =
    let ((m, a), place) = c.requires in
    let few = waiter_few a place c.in-Some.waiter.0 (fronts a c.front_waiter.ensures c.in-Some.is) in
    (a.long.device.ready, a.long.device.masks, a.holds.device.ready_at_lem, ready_few a, few, ready_tasks a)

pub task_at-task-requires : goal.task_at-task-requires
task_at-task-requires c =
    let (m, a) = c.requires.0 in
    (omega (arith, a.long.device.ready), a.holds.device.ready_at_lem, ready_few a, (inside c.in-Some-first_permitted.is c.first_permitted.ensures.inside))

pub take_out-left-requires : goal.take_out-left-requires
take_out-left-requires c =
    let (m, a) = c.requires.0 in
    (omega (arith, a.long.device.ready), a.holds.device.ready_at_lem, ready_few a, (inside c.in-Some-first_permitted.is c.first_permitted.ensures.inside))

pub fill-requires : goal.fill-requires
fill-requires c =
    let ((m, a), place) = c.requires in
    let few = waiter_few a place c.in-Some.waiter.0 (fronts a c.front_waiter.ensures c.in-Some.is) in
    (omega (arith, few, a.long.tickets), omega (arith, few, a.long.cells))

pub hold-requires : goal.hold-requires
hold-requires c =
    let (m, a) = c.requires.0 in
    let known = task_known a c.in-Some-first_permitted.k c.task_at-task.result (inside c.in-Some-first_permitted.is c.first_permitted.ensures.inside)
    c.task_at-task.ensures.meaning in
    omega (arith, tasks_few a.fit c.task_at-task.result known, a.long.tasks.rows)

pub go_to-requires-in-Some-first_permitted : goal.go_to-requires-in-Some-first_permitted
go_to-requires-in-Some-first_permitted c =
    own_long c.requires.0.1

pub returns-in-Some-first_permitted-clause-acts : goal.returns-in-Some-first_permitted-clause-acts
returns-in-Some-first_permitted-clause-acts c m =
    let found = c.first_permitted in
    let task = c.task_at-task in
    let fill = c.fill in
    let hold = c.hold in
    let gone = c.go_to-in-Some-first_permitted in
    let out = c.take_out-left in
    acting gone.new.own (λ a.
    fill_acts a c.requires.1 c.in-Some-first_permitted.k task.result (inside c.in-Some-first_permitted.is c.first_permitted.ensures.inside) task.ensures.meaning out.result out.new.ready
    (out.ensures.numbers.0, out.ensures.meaning.0) c.in-Some.waiter.0 (fronts a c.front_waiter.ensures c.in-Some.is)
    (falls_at c.args.n c.args.device.now c.in-Some.waiter.0 found.ensures.meaning c.in-Some-first_permitted.is) c.if-served-n.true
    fill.new.cell_tickets fill.new.cell_tasks hold.new.rows gone.new.own (fill.ensures.tickets, (fill.ensures.tasks, fill.ensures.lock)) hold.ensures.meaning gone.ensures)

-- the list that is left is as long as the list was
pub returns-in-Some-first_permitted-clause-long : goal.returns-in-Some-first_permitted-clause-long
returns-in-Some-first_permitted-clause-long c =
    let long = c.requires.0.1.long.device in
    record { ready = c.take_out-left.auto.ready ∙ long.ready; givers = long.givers; masks = long.masks }

pub first_permitted-requires-2 : goal.first_permitted-requires-2
first_permitted-requires-2 c =
    let (m, a) = c.requires.0 in
    (a.long.device.ready, a.long.device.masks, a.holds.device.ready_at_lem, ready_few a, workers_few a.fit c.args.w a.fit.worker, ready_tasks a)

pub go_to-requires-in_default-first_permitted-2 : goal.go_to-requires-in_default-first_permitted-2
go_to-requires-in_default-first_permitted-2 c =
    own_long c.requires.0.1

pub returns-in_default-first_permitted-2-clause-acts : goal.returns-in_default-first_permitted-2-clause-acts
returns-in_default-first_permitted-2-clause-acts c m =
    let found = c.first_permitted-2 in
    let gone = c.go_to-in_default-first_permitted-2 in
    acting gone.new.own (λ a.
    let takes : Takes a c.requires.1 =
    elim c.if-served-n.branch [
      | then-served-n+in-Some+in_default-first_permitted x ↦
          takes_stopped a c.requires.1 x.in-Some.waiter.0 c.args.n.ready (fronts a x.front_waiter.ensures x.in-Some.is)
          (falls_past c.args.n c.args.device.now x.in-Some.waiter.0 x.first_permitted.ensures.meaning x.in_default-first_permitted.is) (omega arith)
      | then-served-n+in_default x ↦ takes_alone a c.requires.1 (fronts a x.front_waiter.ensures x.in_default.is)
      | else-served-n x ↦ takes_served a c.requires.1 x.if-served-n.false
    ]
    in
    none_acts a c.requires.1 c.args.n.ready takes (falls_past c.args.n c.args.device.now c.args.w found.ensures.meaning c.in_default-first_permitted-2.is) refl gone.new.own
    gone.ensures)

pub returns-in_default-first_permitted-2-clause-long : goal.returns-in_default-first_permitted-2-clause-long
returns-in_default-first_permitted-2-clause-long c = c.requires.0.1.long.device

pub task_at-task-requires-2 : goal.task_at-task-requires-2
task_at-task-requires-2 c =
    let (m, a) = c.requires.0 in
    (omega (arith, a.long.device.ready), a.holds.device.ready_at_lem, ready_few a, inside c.in-Some-first_permitted-2.is c.first_permitted-2.ensures.inside)

pub take_out-left-requires-2 : goal.take_out-left-requires-2
take_out-left-requires-2 c =
    let (m, a) = c.requires.0 in
    (omega (arith, a.long.device.ready), a.holds.device.ready_at_lem, ready_few a, inside c.in-Some-first_permitted-2.is c.first_permitted-2.ensures.inside)

pub receive_to-requires : goal.receive_to-requires
receive_to-requires c =
    let (m, a) = c.requires.0 in
    let known = task_known a c.in-Some-first_permitted-2.k c.task_at-task-2.result (inside c.in-Some-first_permitted-2.is c.first_permitted-2.ensures.inside) c.task_at-task-2.ensures.meaning in
    (omega (arith, tasks_few a.fit c.task_at-task-2.result known, a.long.tasks.rows), own_long a)

pub note_giver-requires : goal.note_giver-requires
note_giver-requires c =
    let (m, a) = c.requires.0 in
    let known = task_known a c.in-Some-first_permitted-2.k c.task_at-task-2.result (inside c.in-Some-first_permitted-2.is c.first_permitted-2.ensures.inside) c.task_at-task-2.ensures.meaning in
    (a.long.device.givers, tasks_few a.fit c.task_at-task-2.result known)

pub returns-clause-long : goal.returns-clause-long
returns-clause-long c =
    let long = c.requires.0.1.long.device in
    record { ready = c.take_out-left-2.auto.ready ∙ long.ready; givers = c.note_giver.auto.givers ∙ long.givers; masks = long.masks }

pub returns-clause-acts : goal.returns-clause-acts
returns-clause-acts c m =
    let found = c.first_permitted-2 in
    let task = c.task_at-task-2 in
    let out = c.take_out-left-2 in
    let receive = c.receive_to in
    acting receive.new.own (λ a.
    let takes : Takes a c.requires.1 =
    elim c.if-served-n.branch [
      | then-served-n+in-Some+in_default-first_permitted x ↦
          takes_stopped a c.requires.1 x.in-Some.waiter.0 c.args.n.ready (fronts a x.front_waiter.ensures x.in-Some.is)
          (falls_past c.args.n c.args.device.now x.in-Some.waiter.0 x.first_permitted.ensures.meaning x.in_default-first_permitted.is) (omega arith)
      | then-served-n+in_default x ↦ takes_alone a c.requires.1 (fronts a x.front_waiter.ensures x.in_default.is)
      | else-served-n x ↦ takes_served a c.requires.1 x.if-served-n.false
    ]
    in
    rw c.note_giver.ensures
    (take_acts a c.requires.1 c.in-Some-first_permitted-2.k task.result (inside c.in-Some-first_permitted-2.is c.first_permitted-2.ensures.inside) task.ensures.meaning out.result out.new.ready
    (out.ensures.numbers.0, out.ensures.meaning.0) takes (falls_at c.args.n c.args.device.now c.args.w found.ensures.meaning c.in-Some-first_permitted-2.is) receive.new.rows receive.new.own receive.ensures))
