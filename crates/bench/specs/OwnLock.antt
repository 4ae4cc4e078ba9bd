-- What the last line of a run's own report says of the lock: its last field, byte for byte, is one of three, each exactly in its case.
use Rattle.std.specs.Prelude.{ℕ, List}
use Rattle.plan.specs.Plan.{Plan}
use Rattle.machine.specs.Whereabouts.{leader}
use Rattle.report.specs.Report.{leader_field}
use Rattle.orders.specs.Reached.{setup_of, reached}

-- the last field of the report's last line, for the state that the plan's own picks reach
abbrev pub last_field : Plan → ℕ → List ℕ
last_field p limit = leader_field (leader (setup_of p) (reached p limit))
