-- `work::end` meets its contract.
use native.Mathlib.Omega.{arith}
use mathlib.Core.Path.{refl}
use lib.ListN.{get_or}
use Rattle.tasks.specs.Tasks.{free}
use Rattle.memory.specs.Layout as layout
use Rattle.duties.proofs.Held.{own_stored}
use Rattle.duties.proofs.Working.{at_work, ended_first, ended_count, ends_holds, ending}
use Rattle.duties.proofs.work.end.Goals as goal

pub bounds-own-1 : goal.bounds-own-1
bounds-own-1 c = let ((m, w, a), at, none) = c.requires in
    omega (arith, ending a at)

pub offset_bounds-rows-own : goal.offset_bounds-rows-own
offset_bounds-rows-own c = let ((m, w, a), at, none) = c.requires in
    omega (arith, ending a at)

pub bounds-rows-own : goal.bounds-rows-own
bounds-rows-own c = let ((m, w, a), at, none) = c.requires in
    (ending a at).task

pub post_done-requires : goal.post_done-requires
post_done-requires c = let ((m, w, a), at, none) = c.requires in
    let f = ending a at in record { stored = f.stored; has_room = (f.room, f.within) }

pub stand-requires : goal.stand-requires
stand-requires c = let ((m, w, a), at, none) = c.requires in
    omega (arith, ending a at, c.post_done.auto.own)

pub overflow_sub-result : goal.overflow_sub-result
overflow_sub-result c = let ((m, w, a), at, none) = c.requires in
    (ending a at).left

pub overflow_add-result : goal.overflow_add-result
overflow_add-result c = let ((m, w, a), at, none) = c.requires in
    omega (arith, ending a at)

pub returns : goal.returns
returns c m w a op is =
    let x = c.args in
    let i = get_or x.own.now layout.about 0 in
    let p = rw c.requires.2 at (at_work a c.requires.1) in
    let posted = c.post_done.ensures a.ts i (a.st w) (a.t.mail w) (a.t.adds w) (own_stored a) (ended_first a i 0 p) (ended_count a i 0 p) in
    let stood = c.stand.ensures.meaning (a.st w) free _ (a.t.adds w) posted refl in
    ends_holds a x.time i p _ stood op is
