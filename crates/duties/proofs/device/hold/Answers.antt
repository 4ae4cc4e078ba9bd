-- `device::hold` meets its contract.
use mathlib.Core.Path.{refl}
use Rattle.duties.proofs.Dealing.{held_out}
use Rattle.duties.proofs.device.hold.Goals as goal

pub returns : goal.returns
returns c =
    record { numbers = refl; meaning = λ m own k w a can. held_out a c.args.task k can }
