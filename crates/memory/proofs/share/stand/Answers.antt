-- `share::stand` meets its contract.
use mathlib.Core.Path.{refl}
use Rattle.memory.specs.StoringLaws.{stored_stand}
use Rattle.memory.proofs.share.stand.Goals as goal

pub returns : goal.returns
returns c =
    record { numbers = refl; meaning = λ p to mail adds h coded. stored_stand h c.args.code c.args.about c.args.left to coded }
