-- `accesses_of` meets its contract: its accesses are the first of the row. Assumes nothing.
use Rattle.chain.proofs.Conflicts.{front_same}
use Rattle.chain.proofs.conflict.accesses_of.Goals as goal

pub returns : goal.returns
returns c t is =
    rw is.count (front_same _ t.accesses is.accesses)
