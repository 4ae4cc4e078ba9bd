-- `create::create` meets its contract.
use native.Mathlib.Omega.{arith}
use Rattle.memory.specs.Memory.{memory}
use Rattle.duties.proofs.Creating.{to_create_lem, task_few, task_fits, end_few}
use Rattle.duties.proofs.create.create.Goals as goal

pub open-requires : goal.open-requires
open-requires c =
    let ((w, a), adds, mail, more) = c.requires in
    let x = c.args in
    ((memory x.n x.rows.now x.accesses.now, x.own.now, w, a), c.in-None.is, to_create_lem x.n more c.in-None.is)

pub returns-in-None : goal.returns-in-None
returns-in-None c k w =
    c.«open».ensures (memory c.args.n c.args.rows.now c.args.accesses.now) c.args.own.now k w

pub offset_bounds-rows-n : goal.offset_bounds-rows-n
offset_bounds-rows-n c =
    let ((w, a), adds, mail, more) = c.requires in
    omega (arith, task_few a _ c.in-Some.is)

pub bounds-rows-n : goal.bounds-rows-n
bounds-rows-n c =
    let ((w, a), adds, mail, more) = c.requires in
    task_fits a _ c.in-Some.is

pub overflow_add-row : goal.overflow_add-row
overflow_add-row c =
    let ((w, a), adds, mail, more) = c.requires in
    omega (arith, end_few a _ c.in-Some.is)

pub link-requires : goal.link-requires
link-requires c =
    let ((w, a), adds, mail, more) = c.requires in
    ((memory c.args.n c.args.rows.now c.args.accesses.now, w, a, c.if-access-row.true), mail, c.in-Some.is)

pub returns-then-access-row : goal.returns-then-access-row
returns-then-access-row c k w =
    c.link.ensures (memory c.args.n c.args.rows.now c.args.accesses.now) k w c.if-access-row.true

pub close-requires : goal.close-requires
close-requires c =
    let ((w, a), adds, mail, more) = c.requires in
    ((memory c.args.n c.args.rows.now c.args.accesses.now, w, a), adds, c.in-Some.is, c.if-access-row.false)

pub returns-else-access-row : goal.returns-else-access-row
returns-else-access-row c k w =
    c.close.ensures (memory c.args.n c.args.rows.now c.args.accesses.now) k w
