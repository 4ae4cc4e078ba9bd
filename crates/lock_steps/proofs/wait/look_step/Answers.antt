-- `wait::look_step` meets its contract.
use native.Mathlib.Omega.{arith}
use Rattle.steps.proofs.Acting.{own_long}
use Rattle.lock_steps.proofs.Stepping.{acting}
use Rattle.lock_steps.proofs.Waiting.{sees_there, received_few, wait_acts, own_acts, receive_acts}
use Rattle.lock_steps.proofs.wait.look_step.Goals as goal

pub receive_to-requires : goal.receive_to-requires
receive_to-requires c =
    let ((m, a), place) = c.requires in
    let told = sees_there a place c.look_at.ensures c.in-Receives.is in
    (omega (arith, received_few a place _ told, a.long.tasks.rows), own_long a)

pub go_to-requires : goal.go_to-requires
go_to-requires c =
    own_long c.requires.0.1

pub returns-in-NotYet : goal.returns-in-NotYet
returns-in-NotYet c m =
    let own = c.args.own.now in
    acting own (λ a. wait_acts a c.requires.1 (sees_there a c.requires.1 c.look_at.ensures c.in-NotYet.is))

pub returns-in-Receives : goal.returns-in-Receives
returns-in-Receives c m =
    let receive = c.receive_to in
    acting receive.new.own (λ a.
    let told = sees_there a c.requires.1 c.look_at.ensures c.in-Receives.is in
    receive_acts a c.requires.1 _ told receive.new.rows receive.new.own receive.ensures)

pub returns-in-Owns : goal.returns-in-Owns
returns-in-Owns c m =
    let gone = c.go_to in
    acting gone.new.own (λ a.
    let told = sees_there a c.requires.1 c.look_at.ensures c.in-Owns.is in
    own_acts a c.requires.1 told gone.new.own gone.ensures)
