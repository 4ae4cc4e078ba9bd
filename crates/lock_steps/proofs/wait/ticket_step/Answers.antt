-- `wait::ticket_step` meets its contract.
use Rattle.steps.proofs.Acting.{own_long}
use Rattle.lock_steps.proofs.Stepping.{acting}
use Rattle.lock_steps.proofs.Waiting.{ticket_acts}
use Rattle.lock_steps.proofs.wait.ticket_step.Goals as goal

pub go_to-requires : goal.go_to-requires
go_to-requires c =
    own_long c.requires.place.0.1

pub returns : goal.returns
returns c m =
    let (stand, mails, adds, last) = c.requires.nothing_due in
    let taken = c.take_ticket-taken in
    let gone = c.go_to in
    acting gone.new.own (λ a.
    rw c.with_ends.ensures
    (ticket_acts a c.requires.place.1 stand mails adds last taken.result (taken.ensures.ends, taken.ensures.lock) gone.new.own gone.ensures))
