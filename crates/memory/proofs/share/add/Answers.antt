-- `share::add` meets its contract.
use mathlib.Core.Path.{refl}
use Rattle.memory.specs.StoringLaws.{stored_add}
use Rattle.memory.proofs.share.add.Goals as goal

pub returns : goal.returns
returns c =
    record { numbers = refl; meaning = λ p mail adds h. stored_add h c.args.task c.requires.2 }
