-- `find_leader` meets its contract.
use mathlib.Core.Path.{refl}
use Rattle.leader.proofs.Leading.{told}
use Rattle.leader.proofs.find_leader.Goals as goal

pub returns-in-Some-clause-meaning : goal.returns-in-Some-clause-meaning
returns-in-Some-clause-meaning c =
    let x = c.args in
    told x.n x.store.now x.wait.now x.tickets.now x.cells.now _
    (λ head tail registrations. rw (← c.in-Some.ensures) refl)

pub returns-in-Some-find_due-clause-meaning : goal.returns-in-Some-find_due-clause-meaning
returns-in-Some-find_due-clause-meaning c =
    let x = c.args in
    told x.n x.store.now x.wait.now x.tickets.now x.cells.now _
    (λ head tail registrations.
    rw (← c.in_default.ensures, ← c.in-Some-find_due.ensures head tail registrations) refl)

pub returns-in-None-clause-meaning : goal.returns-in-None-clause-meaning
returns-in-None-clause-meaning c =
    let x = c.args in
    told x.n x.store.now x.wait.now x.tickets.now x.cells.now _
    (λ head tail registrations.
    rw (← c.in_default.ensures, ← c.in-None.ensures head tail registrations) refl)
