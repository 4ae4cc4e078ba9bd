-- `create::close` meets its contract.
use Prim.Native.Nat.{suc}
use native.Mathlib.Omega.{arith}
use Rattle.tasks.specs.Tasks.{opening, with_creation}
use Rattle.duties.proofs.Held.{own_stored}
use Rattle.duties.proofs.Creating.{to_link, row_end, task_below, task_few, task_fits, closes_holds}
use Rattle.duties.proofs.create.close.Goals as goal

pub lower-requires-clause-lengths : goal.lower-requires-clause-lengths
lower-requires-clause-lengths c =
    let ((m, w, a), none, one, last) = c.requires in
    (task_fits a c.args.access one, (own_stored a).long, (own_stored a).adds_at_lem)

pub overflow_add-result : goal.overflow_add-result
overflow_add-result c =
    let ((m, w, a), none, one, last) = c.requires in
    omega (arith, task_few a c.args.access one)

pub returns : goal.returns
returns c m k w a op is =
    let (_, none, one, last) = c.requires in
    let n = c.args.n in
    let x = c.args.access in
    let below = task_below a x one in
    let ends = row_end a n.task below in
    let closed = with_creation a.t (opening (suc n.task)) in
    let lowers = c.lower.ensures a.ts closed w (a.st w) (a.t.mail w) in
    let (kept, new) = lowers below a.holds.task_rows_lem (own_stored a) in
    closes_holds a n.task x (to_link a x one) (omega (arith, last, ends)) _ _ kept new k op is
