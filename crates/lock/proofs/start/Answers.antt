-- `lock::start` meets its contract. The ends are computed, so that of a wrong number the refusal says which it is.
use mathlib.Core.Path.{refl}
use Rattle.lock.proofs.Arrays.{start_lock}
use Rattle.lock.proofs.start.Goals as goal

pub returns-clause-ends : goal.returns-clause-ends
returns-clause-ends c =
    (refl, refl)

pub returns-clause-lock : goal.returns-clause-lock
returns-clause-lock c =
    let args = c.args in
    rw (
      c.fill.ensures.after (λ y e. e),
      c.fill-2.ensures.after (λ y e. e),
      c.fill-3.ensures.after (λ y e. e),
      c.fill-4.ensures.after (λ y e. e),
    )
    (start_lock args.slots args.wait.now args.registrations.now args.cell_tickets.now args.cell_tasks.now)
