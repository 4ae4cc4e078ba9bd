-- Runs with masks, computed pick by pick: whom an owner serves with what, what it takes itself, and what stays in the ready list.
use Rattle.std.specs.Prelude.{ℕ, refl, List, [], ◌∷◌, ◌++◌, replicate}
use Rattle.std.proofs.Math.Option.{some}
use Rattle.plan.specs.Plan.{Task}
use Rattle.tasks.specs.Tasks.{ready, held, running}
use Rattle.machine.specs.State.{idle, looking, handing, leaving}
use Rattle.machine.specs.Whereabouts.{owner}
use Rattle.machine.specs.Played.{with, Moment, statuses_of, flags_of, Matches, until_filled, Standing, Stands}
use Rattle.machine.specs.Computing.{computing}

-- a task of no cost for the workers of a mask
abbrev pub only : ℕ → Task
only mask = record { label = []; cost = 0; accesses = []; mask = some mask }

-- at the pick that serves: worker 0 owns, worker 1 waits
abbrev pub moments : List Moment
moments =
    -- task 0 is for worker 0 alone, task 1 for worker 1: the waiter gets what it may run, and not the first, which the owner may run
    record { setup = with 2 (only 1 ∷ only 2 ∷ []); picks = until_filled; statuses = ready ∷ held ∷ []; flags = [] }
    -- both are for worker 0: it stops serving, and takes the first itself at that same pick
    ∷ record { setup = with 2 (only 1 ∷ only 1 ∷ []); picks = until_filled; statuses = running ∷ ready ∷ []; flags = [] }
    -- both are for worker 2, who does not wait: neither is served or taken
    ∷ record { setup = with 3 (only 4 ∷ only 4 ∷ []); picks = until_filled ++ 0 ∷ []; statuses = ready ∷ ready ∷ []; flags = [] }
    -- both may run both: as without masks
    ∷ record { setup = with 2 (only 3 ∷ only 3 ∷ []); picks = until_filled; statuses = held ∷ ready ∷ []; flags = [] }
    ∷ []

pub masks_played : Matches moments
unfolding computing statuses_of flags_of
masks_played = (refl, refl, (refl, refl, (refl, refl, (refl, refl, tt))))

-- worker 0 takes the third of four tasks; the others stay in their order
abbrev pub standings : List Standing
standings =
    record {
      setup = with 2 (only 2 ∷ only 2 ∷ only 1 ∷ only 2 ∷ []);
      picks = replicate 18 0;
      places = leaving ∷ idle ∷ [];
      queues = [] ∷ [] ∷ [];
      ready_list = 0 ∷ 1 ∷ 3 ∷ [];
      owner = some 0;
    }
    -- worker 1 is served from behind two tasks
    ∷ record {
      setup = with 2 (only 1 ∷ only 1 ∷ only 2 ∷ only 1 ∷ []);
      picks = replicate 15 0 ++ 1 ∷ 1 ∷ 0 ∷ 0 ∷ 0 ∷ [];
      places = handing 0 ∷ looking 65 ∷ [];
      queues = [] ∷ [] ∷ [];
      ready_list = 0 ∷ 1 ∷ 3 ∷ [];
      owner = some 0;
    }
    ∷ []

pub masks_stood : Stands standings
unfolding computing owner
masks_stood = (refl, refl, refl, refl, (refl, refl, refl, refl, tt))
