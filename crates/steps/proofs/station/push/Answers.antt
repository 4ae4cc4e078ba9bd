-- `station/push` meets its contract.
use mathlib.Core.Path.{refl}
use Rattle.steps.proofs.Stations.{stationed_push}
use Rattle.steps.proofs.station.push.Goals as goal

pub returns : goal.returns
returns c =
    record { numbers = refl; meaning = λ p queue h. stationed_push h c.args.task c.requires.1 }
