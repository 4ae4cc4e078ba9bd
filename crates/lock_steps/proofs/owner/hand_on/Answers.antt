-- `owner::hand_on` meets its contract. The places on the way back: `told` is the call of the lock's hand_over, `start` the beginning.
use native.Mathlib.Omega.{arith}
use mathlib.Core.Path.{ap, ◌∙◌}
use Rattle.lock.specs.Answers.{seen}
use Rattle.machine.specs.Event.{found}
use Rattle.steps.proofs.Acting.{slots_some, slots_few}
use Rattle.lock_steps.proofs.FromLock.{HandsOver, told_front, told_by, hands_nobody, hands_found, finds_none}
use Rattle.lock_steps.proofs.Owning.{let_in_few, handed_few}
use Rattle.lock_steps.proofs.owner.hand_on.Goals as goal
use Rattle.lock_steps.proofs.owner.hand_on.Goals.{in-Some+in-Receives, in-Some+in_default-looked, in_default}

pub look-looked-requires : goal.look-looked-requires
look-looked-requires c =
    let x = c.args in
    let told = c.hand_over-told in
    let hands : HandsOver x.n.slots x.n.ends x.wait.now told.new.wait x.registrations.now x.w told.result =
    record { raised = told.ensures.ends; waits = told.ensures.waits; locks = told.ensures.lock; tells = told.ensures.tells } in
    let (m, own, a) = c.requires in
    let few = let_in_few a c.in-Some.taker.0 (told_front hands x.tickets.now x.cells.now c.in-Some.is) in (
      slots_some a,
      omega (arith, slots_few a, a.long.wait, told.auto.wait),
      omega (arith, few, a.long.tickets),
      omega (arith, few, a.long.cells),
    )

pub note_giver-requires : goal.note_giver-requires
note_giver-requires c =
    let x = c.args in
    let told = c.hand_over-told in
    let hands : HandsOver x.n.slots x.n.ends x.wait.now told.new.wait x.registrations.now x.w told.result =
    record { raised = told.ensures.ends; waits = told.ensures.waits; locks = told.ensures.lock; tells = told.ensures.tells } in
    let finds = hands_found hands x.tickets.now x.cells.now c.in-Some.taker c.in-Some.is _ c.look-looked.ensures in
    let (m, own, a) = c.requires in (
      a.long.device.givers,
      handed_few a _ (finds ∙ ap (λ y. found x.w c.in-Some.taker.0 (seen y)) c.in-Receives.is),
    )

pub returns-clause-giver : goal.returns-clause-giver
returns-clause-giver c =
    let x = c.args in
    let told = c.hand_over-told in
    let hands : HandsOver x.n.slots x.n.ends x.wait.now told.new.wait x.registrations.now x.w told.result =
    record { raised = told.ensures.ends; waits = told.ensures.waits; locks = told.ensures.lock; tells = told.ensures.tells } in
    elim c.match-told.branch [
      | in-Some+in-Receives y ↦
          let finds = hands_found hands x.tickets.now x.cells.now y.in-Some.taker y.in-Some.is _ y.look-looked.ensures in
          y.givers-is ∙ rw (finds, y.in-Receives.is, ← told_by hands x.tickets.now x.cells.now) y.note_giver.ensures
      | in-Some+in_default-looked y ↦
          let finds = hands_found hands x.tickets.now x.cells.now y.in-Some.taker y.in-Some.is _ y.look-looked.ensures in
          rw (finds, finds_none x.w y.in-Some.taker.0 y.look-looked.result y.in_default-looked.not-Receives) y.givers-is
      | in_default y ↦ rw (hands_nobody hands x.tickets.now x.cells.now y.in_default.is) y.givers-is
    ]
