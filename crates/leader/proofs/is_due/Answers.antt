-- `is_due` meets its contract. Of a wrong place or look the refusal says which it is.
use Rattle.leader.proofs.Leading.{due_nowhere, due_owns}
use Rattle.leader.proofs.is_due.Goals as goal

pub returns-then-place-lt-REGISTERING : goal.returns-then-place-lt-REGISTERING
returns-then-place-lt-REGISTERING c head tail registrations =
    due_nowhere _ _ c.args.place c.args.ticket c.args.w c.then-place-lt-REGISTERING.either

pub returns-in-Owns : goal.returns-in-Owns
returns-in-Owns c head tail registrations =
    due_owns _ _ _ _ _ c.if-place-lt-REGISTERING.false c.if-place-gt-LOOKING.false
    c.look.result (c.look.ensures head tail registrations) c.in-Owns.is
