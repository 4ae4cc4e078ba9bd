-- A run of an accepted text that takes no pick reports the start: a plan without order lines, or a limit of 0.
use Rattle.std.specs.Prelude.{ℕ, List, ◌++◌, length, drop}
use Rattle.plan.specs.Plan.{Plan}
use Rattle.machine.specs.State.{start}
use Rattle.report.specs.Report.{report}
use Rattle.orders.specs.Reached.{setup_of}
use Rattle.play.specs.Outcome.{Outcome, reports}
use Rattle.bench.specs.Answer.{cleared}

-- the report of a plan of which no pick has been taken
abbrev pub start_report : Plan → List ℕ
start_report p = report (setup_of p) (start (setup_of p))

-- no pick is told; the output begins with that report, and behind it keeps its content
abbrev pub reports_start : ℕ → List ℕ → List ℕ → Plan → Outcome
reports_start limit store output p =
    record {
      answer = reports 0 (length (start_report p));
      store = cleared store;
      output = start_report p ++ drop (length (start_report p)) output;
    }
