use Prim.Native.Nat.{◌+◌, ◌-◌}
use mathlib.Core.Path.{◌≡◌, refl}
use mathlib.Core.List.{◌++◌, append-nil}
use native.Mathlib.Omega.{arith}
use lib.ListN.{length, length-append}
use Rattle.tasks.specs.Accesses.{task_at}
use Rattle.tasks.specs.History.{plain, done_messages}
use Rattle.tasks.specs.Flags.{DONE}
use Rattle.memory.specs.ShareLaws.{mail_count_lem}
use Rattle.duties.proofs.Working.{dones_from, numbers_none, dones_length, dones_more}
use Rattle.duties.proofs.work.post_done.Goals as goal

pub loop-access-init : goal.loop-access-init
loop-access-init c p mail adds h =
    let none : c.args.first - c.args.first ≡ 0 = omega arith in
    rw (none, numbers_none, append-nil) h

pub post-requires : goal.post-requires
post-requires c =
    let l = c.loop-access in
    let first = c.args.first in
    let (p, mail, adds, h) = c.requires.stored in
    let now = l.invariant p mail adds h in
    let more = length-append mail (dones_from first (l.access - first)) in (
      now.long,
      now.mail_at_lem,
      omega (arith, c.requires.has_room, mail_count_lem now, mail_count_lem h, more, dones_length first (l.access - first)),
      omega arith,
    )

pub loop-access-preserved : goal.loop-access-preserved
loop-access-preserved c p mail adds h =
    let l = c.loop-access in
    let first = c.args.first in
    let n = l.access - first in
    let more : l.access + 1 - first ≡ n + 1 = omega arith in
    let this : first + n ≡ l.access = omega arith in
    rw (more, dones_more mail first n, this)
    (c.post.ensures.meaning p (mail ++ dones_from first n) adds (plain l.access DONE) (l.invariant p mail adds h) refl)

pub returns : goal.returns
unfolding done_messages
returns c ts i p mail adds h e f =
    let l = c.loop-access in
    let all : l.access - c.args.first ≡ length (task_at ts i).accesses = omega (arith, f) in
    rw (all, e) at (l.invariant p mail adds h)
