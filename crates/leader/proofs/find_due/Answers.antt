-- `find_due` meets its contract.
use mathlib.Core.Path.{ap}
use borrow.Author.Rules.{rules}
use borrow.Author.Tests.{tests}
use Rattle.lock.specs.Arrays.{lock_of}
use Rattle.leader.specs.Numbers.{due_in}
use Rattle.leader.proofs.Down.{last_from_find}
use Rattle.leader.proofs.find_due.Goals as goal

pub returns : goal.returns
returns c head tail registrations =
    let x = c.args in
    let lock = lock_of x.slots head tail x.wait.now registrations x.tickets.now x.cells.now in
    let source = c.rev.ensures.source in
    last_from_find _ (due_in x.slots lock x.store.now) x.workers (λ w b q l k. search (rules, tests))
    c.rev.result c.find.new.self c.find.result (ap (λ s. s.start) source) (ap (λ s. s.end) source) c.find.ensures.ran
