-- What a summary says by the numbers and the arrays of a run, and by the store.
use Rattle.std.specs.Prelude.{◌≡◌, List, ℕ}
use Rattle.machine.specs.State.{Setup, State}
use Rattle.machine.specs.Step.{finished}
use Rattle.machine.specs.Whereabouts.{leader}
use Rattle.steps.specs.Memory.{share, Holds}
use Rattle.steps.specs.declared.Counts.{Counts}
use Rattle.scheduler.specs.declared.arrays.Arrays.{Arrays}
use Rattle.scheduler.specs.Lent.{memory_of}
use Rattle.report.specs.declared.Summary.{Summary}
use Rattle.report.specs.Totals.{ones_of}

pub record Summed (n : Counts) (a : Arrays) (store : List ℕ) (r : Summary) : Type 0 where
  pub picks : r.picks ≡ n.picks
  pub head : r.head ≡ n.ends.head.0
  pub tail : r.tail ≡ n.ends.tail.0
  pub tasks : r.tasks ≡ n.tally.tasks
  pub permitted : r.permitted ≡ ones_of a.device.masks n.tally.tasks
  pub found : (c : Setup) (s : State) → Holds c (memory_of n a) (share store) s
      → (r.finished ≡ finished c s) × (r.leader ≡ leader c s)
