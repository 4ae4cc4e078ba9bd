-- `station/wait_with` meets its contract.
use mathlib.Core.Path.{ap}
use native.Mathlib.Omega.{arith}
use mathlib.Core.List.{List}
use Prim.Native.Nat.{ℕ}
use lib.ListN.{set}
use Rattle.steps.specs.Layout.{slot_at}
use Rattle.steps.proofs.Stations.{stationed_wait}
use Rattle.steps.proofs.station.wait_with.Goals as goal

pub bounds-own-3 : goal.bounds-own-3
bounds-own-3 c =
    omega (arith, c.go.auto.own, c.requires)

pub returns : goal.returns
returns c =
    let went = c.go.ensures.numbers in
    record {
      numbers = ap (λ (own : List ℕ). set own slot_at c.args.slot) went;
      meaning = λ p to queue h coded. rw went (stationed_wait h c.args.ticket c.args.slot to coded);
    }
