-- `receive_to` meets its contract.
use Rattle.lock_steps.proofs.Places.{received}
use Rattle.lock_steps.proofs.receive_to.Goals as goal

pub returns : goal.returns
returns c =
    let x = c.args in
    let receive = c.receive in
    let gone = c.go_to in
    received x.own.now receive.new.own c.requires.1 x.rows.now receive.new.rows gone.new.own
    x.task x.w x.time x.place receive.ensures.meaning gone.ensures
