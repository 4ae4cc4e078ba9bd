-- `reader::no_lines` meets its contract: without a task no M line may follow. Assumes nothing.
use borrow.Author.Rules.{rules}
use Rattle.plan.specs.Line.{ends_unmasked}
use Rattle.reader.proofs.no_lines.Goals as goal

pub returns : goal.returns
unfolding ends_unmasked
returns c =
    search rules
