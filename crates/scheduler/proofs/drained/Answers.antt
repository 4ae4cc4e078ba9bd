-- `drained` meets its contract.
use native.Mathlib.Omega.{arith}
use Rattle.machine.specs.State.{draining}
use Rattle.machine.specs.Step.{next_drain}
use Rattle.scheduler.proofs.Draining.{coded_more, coded_serving, coded_leaving}
use Rattle.scheduler.proofs.drained.Goals as goal

pub returns-then-k-workers : goal.returns-then-k-workers
returns-then-k-workers c setup p queue few h =
    let k = c.args.k in
    c.go.ensures.meaning (draining p k) (next_drain setup p k) queue h
    (coded_more setup p k _ _ h.place (omega (arith, few, c.if-k-workers.true)))

pub returns-then-place-eq-DRAINING_TO_SERVE : goal.returns-then-place-eq-DRAINING_TO_SERVE
returns-then-place-eq-DRAINING_TO_SERVE c setup p queue few h =
    let k = c.args.k in
    c.go-then-place-eq-DRAINING_TO_SERVE.ensures.meaning (draining p k) (next_drain setup p k) queue h
    (coded_serving setup p k _ _ h.place (omega (arith, few, c.if-k-workers.false)) c.if-place-eq-DRAINING_TO_SERVE.true)

pub returns-else-place-eq-DRAINING_TO_SERVE : goal.returns-else-place-eq-DRAINING_TO_SERVE
returns-else-place-eq-DRAINING_TO_SERVE c setup p queue few h =
    let k = c.args.k in
    c.go-else-place-eq-DRAINING_TO_SERVE.ensures.meaning (draining p k) (next_drain setup p k) queue h
    (coded_leaving setup p k _ _ h.place (omega (arith, few, c.if-k-workers.false)) c.if-place-eq-DRAINING_TO_SERVE.false)
