-- `find_owner` meets its contract.
use mathlib.Core.Path.{ap}
use borrow.Author.Rules.{rules}
use borrow.Author.Tests.{tests}
use Rattle.leader.specs.Numbers.{owns_in}
use Rattle.leader.proofs.Down.{last_from_find}
use Rattle.leader.proofs.find_owner.Goals as goal

pub returns : goal.returns
returns c =
    let source = c.rev.ensures.source in
    last_from_find _ (owns_in c.args.store.now) c.args.workers (λ w b q l k. search (rules, tests))
    c.rev.result c.find.new.self c.find.result (ap (λ s. s.start) source) (ap (λ s. s.end) source) c.find.ensures.ran
