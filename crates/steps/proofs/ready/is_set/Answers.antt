-- `ready::is_set` meets its contract.
use borrow.Author.Rules.{rules}
use Rattle.plan.specs.Permits.{is_set}
use Rattle.steps.proofs.ready.is_set.Goals as goal

pub returns : goal.returns
unfolding is_set
returns c =
    search rules
