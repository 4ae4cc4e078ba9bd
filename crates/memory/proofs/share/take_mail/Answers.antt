-- `share::take_mail` meets its contract.
use mathlib.Core.Path.{refl}
use Rattle.memory.specs.Layout as layout
use Rattle.memory.specs.StoringLaws.{still, stored_take_mail}
use Rattle.memory.proofs.share.take_mail.Goals as goal

pub overflow_sub-own : goal.overflow_sub-own
overflow_sub-own c =
    rw (still c.args.own.now layout.mail_at _ layout.mail_count refl) c.requires.2

pub returns : goal.returns
returns c =
    rw (c.coded_by.ensures, still c.args.own.now layout.mail_at _ layout.mail_count refl) record { numbers = (refl, refl); meaning = λ p m mail adds h. stored_take_mail h }
