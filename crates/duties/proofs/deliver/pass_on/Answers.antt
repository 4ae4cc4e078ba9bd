-- `deliver::pass_on` meets its contract: one message, where READ or WRITE passes on.
use mathlib.Core.Path.{refl}
use mathlib.Core.List.{append-nil}
use Rattle.duties.proofs.Delivering.{passed_none, passed_one}
use Rattle.duties.proofs.deliver.pass_on.Goals as goal

pub returns-then-passes-eq0 : goal.returns-then-passes-eq0
returns-then-passes-eq0 c ts e f reader p mail adds h to is_reader is =
    let none = passed_none ts c.args.sender e f reader _ is_reader is c.if-passes-eq0.true in
    rw (none, append-nil) (h, refl)

pub returns : goal.returns
returns c ts e f reader p mail adds h to is_reader is =
    let (m, one, told) = passed_one ts c.args.sender e f reader _ is_reader is c.if-passes-eq0.false in
    rw one (c.post.ensures.meaning p mail adds m h (rw (← to) at told), refl)
