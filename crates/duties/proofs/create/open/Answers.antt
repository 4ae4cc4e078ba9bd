-- `create::open` meets its contract.
use native.Mathlib.Omega.{arith}
use Rattle.duties.proofs.Creating.{to_open, opens_holds}
use Rattle.duties.proofs.create.open.Goals as goal

pub returns : goal.returns
returns c m own k w a op is =
    let n = c.args.n in
    opens_holds a n.task (omega (arith, a.holds.tasks, c.requires.2)) (to_open a c.requires.1) k op is
