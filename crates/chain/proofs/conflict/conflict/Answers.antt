-- `conflict` meets its contract: one access meets one of the other task's. Assumes nothing.
use Rattle.std.proofs.Common.{◌∙◌}
use Rattle.chain.proofs.Conflicts.{conflict_any}
use Rattle.chain.proofs.conflict.conflict.Goals as goal

pub returns : goal.returns
returns c t u row other =
    rw (c.accesses_of.ensures t row, c.accesses_of-2.ensures u other) at c.any_meets.ensures ∙ conflict_any t u
