-- The run of an accepted plan: what it is played with, and the state that it reaches.
use Rattle.std.specs.Prelude.{ℕ}
use Rattle.plan.specs.Plan.{slots_of, capacity_of, Plan}
use Rattle.plan.specs.Orders.{picks_up_to}
use Rattle.machine.specs.State.{Setup, State}
use Rattle.machine.specs.Step.{after}

-- the ring and the queues are those of its form
abbrev pub setup_of : Plan → Setup
setup_of p = record { workers = p.workers; slots = slots_of p.form; capacity = capacity_of p.form; tasks = p.tasks }

-- the state after the picks of its order lines, as many as the limit allows
abbrev pub reached : Plan → ℕ → State
reached p limit = after (setup_of p) (picks_up_to limit p)
