-- `lock::front_waiter` meets its contract.
use mathlib.Core.Path.{ap, ◌∙◌}
use mathlib.Core.Option.{some}
use Rattle.lock.proofs.Reading.{front_none, front_some}
use Rattle.lock.proofs.front_waiter.Goals as goal

pub returns-then-registration-tail : goal.returns-then-registration-tail
returns-then-registration-tail c wait tickets tasks =
    let args = c.args in
    front_none args.slots args.ends.head.0 args.ends.tail.0 wait args.registrations.now tickets tasks _
    c.slot-at.ensures.0
    c.if-registration-tail.true

pub returns-else-registration-tail : goal.returns-else-registration-tail
returns-else-registration-tail c wait tickets tasks =
    let args = c.args in
    ap some c.worker_in.ensures
    ∙ front_some args.slots args.ends.head.0 args.ends.tail.0 wait args.registrations.now tickets tasks _
    c.slot-at.ensures.0
    c.if-registration-tail.false
