-- Picks up to a limit, and picks of a source until so many are taken in all.
use Rattle.std.specs.Prelude.{ℕ, ◌-◌, ◌^◌, ◌<◌, List, take}
use Rattle.runs.specs.Picks.{run}
use Rattle.picks.specs.declared.Source.{Source}
use Rattle.picks.specs.Sources.{picks_from, Formed}
use Rattle.machine.specs.State.{Setup, State}
use Rattle.machine.specs.Step.{pick}
use Rattle.machine.specs.Ranges.{Sized, Going}
use Rattle.machine.specs.Safety.Invariant.{Playable}

-- the state after those of the picks that the limit leaves
abbrev pub limited : Setup → ℕ → State → List ℕ → State
limited c limit s ws = run (pick c) s (take (limit - s.picks) ws)

-- the state after the picks of a source, where `end` is how many there are in all
abbrev pub drawn_to : Setup → ℕ → State → Source → State
drawn_to c end s source = run (pick c) s (picks_from c.workers source (end - s.picks))

-- a state in which the picks of a source can be taken
pub record Under (c : Setup) (s : State) (end : ℕ) (source : Source) : Type 0 where
  pub playable : Playable c
  pub sized : Sized c
  pub going : Going c s
  pub few : end < 2 ^ 42
  pub formed : Formed c.workers source
