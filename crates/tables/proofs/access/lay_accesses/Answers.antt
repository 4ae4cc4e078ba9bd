use native.Mathlib.Omega.{arith}
use Prim.Native.Nat.{suc, ◌+◌}
use mathlib.Core.Path.{◌≡◌, refl}
use Rattle.tables.proofs.Plans.{one_access}
use Rattle.tables.proofs.access.lay_accesses.Goals as goal

pub loop-k-init : goal.loop-k-init
loop-k-init c ts start e h l =
    let z : c.args.at + 0 ≡ c.args.at = omega arith in rw z l

pub loop-k-preserved : goal.loop-k-preserved
loop-k-preserved c ts start e h l =
    let a = c.args in
    let x = c.loop-k in
    let more : a.at + (x.k + 1) ≡ suc (a.at + x.k) = omega arith in
    let access = one_access ts a.task a.at x.k a.row.now _ refl h c.loop-k-test.true in
    rw more (c.chain_access.ensures ts start e access (x.invariant ts start e h l))

pub returns : goal.returns
returns c ts start e h l =
    let x = c.loop-k in
    let all : x.k ≡ c.args.row.now.count = omega arith in
    rw all at (x.invariant ts start e h l)
