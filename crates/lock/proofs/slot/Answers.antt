-- `lock::slot` meets its contract: a ring whose size is a power of two.
use Prim.Native.Nat.{◌<◌}
use native.Mathlib.Nat.{mod-lt}
use Rattle.runs.specs.Masks.{mask_remainder}
use borrow.Author.Rules.{rules}
use Rattle.lock.proofs.slot.Goals as goal

pub returns-then-slots-mask-eq0 : goal.returns-then-slots-mask-eq0
returns-then-slots-mask-eq0 c =
    let some : 0 < c.args.slots = search rules in
    let e = mask_remainder _ c.args.ticket.0 some c.if-slots-mask-eq0.true in
    (e, rw e (mod-lt _ some))
