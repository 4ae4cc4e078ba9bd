-- `owner::leave_step` meets its contract.
use Rattle.steps.proofs.Acting.{own_long}
use Rattle.lock_steps.proofs.Stepping.{acting}
use Rattle.lock_steps.proofs.Owning.{leave_acts}
use Rattle.lock_steps.proofs.owner.leave_step.Goals as goal

pub go_to-requires : goal.go_to-requires
go_to-requires c =
    own_long c.requires.0.1

pub returns : goal.returns
returns c m =
    let hand = c.hand_on in
    let gone = c.go_to in
    acting gone.new.own (λ a.
    leave_acts a hand.result hand.new.wait hand.new.givers
    hand.ensures.numbers hand.ensures.lock hand.ensures.giver c.requires.1 gone.new.own gone.ensures)
