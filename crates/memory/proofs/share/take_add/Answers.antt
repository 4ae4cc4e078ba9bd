-- `share::take_add` meets its contract.
use mathlib.Core.Path.{refl}
use Rattle.memory.specs.Layout as layout
use Rattle.memory.specs.StoringLaws.{still, stored_take_add}
use Rattle.memory.proofs.share.take_add.Goals as goal

pub overflow_sub-own : goal.overflow_sub-own
overflow_sub-own c =
    rw (still c.args.own.now layout.adds_at _ layout.adds_count refl) c.requires.2

pub returns : goal.returns
returns c =
    rw (still c.args.own.now layout.adds_at _ layout.adds_count refl) record { numbers = (refl, refl); meaning = λ p mail i adds h. stored_take_add h }
