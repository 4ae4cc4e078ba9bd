-- `wait::try_step` meets its contract.
use Rattle.steps.proofs.Acting.{own_long}
use Rattle.lock_steps.proofs.FromLock.{frees}
use Rattle.lock_steps.proofs.Stepping.{acting}
use Rattle.lock_steps.proofs.Waiting.{win_acts, fail_acts}
use Rattle.lock_steps.proofs.wait.try_step.Goals as goal

pub go_to-requires : goal.go_to-requires
go_to-requires c =
    own_long c.requires.0.1

pub returns-then-is_free : goal.returns-then-is_free
returns-then-is_free c m =
    let taken = c.take_ticket-taken in
    let gone = c.go_to in
    acting gone.new.own (λ a.
    let free = frees a c.is_free.ensures c.if-is_free.true in
    rw c.with_ends.ensures (win_acts a c.requires.1 free taken.result (taken.ensures.ends, taken.ensures.lock) gone.new.own gone.ensures))

pub go_to-requires-2 : goal.go_to-requires-2
go_to-requires-2 c =
    own_long c.requires.0.1

pub returns : goal.returns
returns c m =
    let gone = c.go_to-2 in
    acting gone.new.own (λ a.
    fail_acts a c.requires.1 (frees a c.is_free.ensures c.if-is_free.false) gone.new.own gone.ensures)
