-- `work::work` meets its contract.
use Prim.Native.Nat.{suc, ◌-◌}
use native.Mathlib.Omega.{arith}
use mathlib.Core.Path.{◌≡◌, ap, ◌∙◌}
use lib.ListN.{get_or}
use Rattle.tasks.specs.Tasks.{working}
use Rattle.memory.specs.Layout as layout
use Rattle.memory.specs.StoringLaws.{stored_worked}
use Rattle.duties.proofs.Held.{own_stored}
use Rattle.duties.proofs.Working.{at_work, works_holds}
use Rattle.duties.proofs.work.work.Goals as goal

pub bounds-own-2 : goal.bounds-own-2
bounds-own-2 c = let ((m, w, a), at) = c.requires in
    omega (arith, (own_stored a).long)

pub bounds-own-2-2 : goal.bounds-own-2-2
bounds-own-2-2 c = let ((m, w, a), at) = c.requires in
    omega (arith, (own_stored a).long)

pub returns : goal.returns
returns c m w a op is =
    let x = c.args in
    let i = get_or x.own.now layout.about 0 in
    let steps = get_or x.own.now layout.left 0 in
    let works = at_work a c.requires.1 in
    let some : steps ≡ suc (steps - 1) = omega (arith, c.if-steps-eq0) in
    let fewer = stored_worked (rw works at (own_stored a)) (steps - 1) in
    works_holds a i (steps - 1) (works ∙ ap (working i) some) _ fewer x.time op is
