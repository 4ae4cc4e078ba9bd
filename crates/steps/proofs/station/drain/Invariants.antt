-- `station/drain` meets its contract.
use Prim.Native.Nat.{◌+◌, ◌-◌, ◌≤◌}
use mathlib.Core.Path.{◌≡◌}
use mathlib.Core.List.{◌++◌}
use lib.ListN.{length, get_or}
use Rattle.runs.specs.Circular.{entries}
use Rattle.steps.specs.Layout.{queued_at, queue_slots, READY}
use Rattle.steps.specs.Memory.{drained}
use Rattle.steps.proofs.Stations.{queue_slot}
use Rattle.steps.proofs.station.drain.Given as goal

abbrev pub invariant-loop-i : goal.invariant-loop-i
invariant-loop-i l =
    (l.i ≤ l.count)
    × (l.count ≡ get_or l.own queued_at 0)
    × (length l.ready ≡ length l.initial.ready)
    × (l.ready ≡ drained l.own l.initial.ready l.at l.n l.i)
    × (entries (λ k. get_or l.ready k 0) READY l.at (l.n + l.i) ≡ entries (λ k. get_or l.initial.ready k 0) READY l.at l.n ++ entries (queue_slot l.own) queue_slots 0 l.i)

abbrev pub decreases-loop-i : goal.decreases-loop-i
decreases-loop-i l = l.count - l.i
