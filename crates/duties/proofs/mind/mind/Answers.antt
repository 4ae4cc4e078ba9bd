-- `mind::mind` meets its contract.
use native.Mathlib.Omega.{arith}
use Rattle.memory.specs.Memory.{memory}
use Rattle.duties.proofs.Held.{own_stored}
use Rattle.duties.proofs.Given.{stand_few}
use Rattle.duties.proofs.mind.mind.Goals as goal

pub tell-requires : goal.tell-requires
tell-requires c =
    let (w, a) = c.requires.0 in
    ((memory c.args.n c.args.rows.now c.args.accesses.now, w, a), c.in-1.is)

pub returns-in-1 : goal.returns-in-1
returns-in-1 c w =
    c.tell.ensures (memory c.args.n c.args.rows.now c.args.accesses.now) c.args.time w

pub work-requires : goal.work-requires
work-requires c =
    let (w, a) = c.requires.0 in
    ((memory c.args.n c.args.rows.now c.args.accesses.now, w, a), omega (arith, stand_few _ _ _ (a.st w) (own_stored a).stand))

pub returns-in_default : goal.returns-in_default
returns-in_default c w =
    c.work.ensures (memory c.args.n c.args.rows.now c.args.accesses.now) w
