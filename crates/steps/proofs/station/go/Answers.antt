-- `station/go` meets its contract.
use mathlib.Core.Path.{refl}
use Rattle.steps.proofs.Stations.{stationed_go}
use Rattle.steps.proofs.station.go.Goals as goal

pub returns : goal.returns
returns c =
    record { numbers = refl; meaning = λ p to queue h coded. stationed_go h c.args.place c.args.number to coded }
