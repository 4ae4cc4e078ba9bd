-- `report::put_report` meets its contract: the lines of the tasks passed are written after the first line.
-- Assumes nothing.
use Prim.Native.Nat.{◌+◌, ◌*◌, ◌≤◌}
use lib.ListN.{take}
use Rattle.text.specs.Writing.{plain}
use Rattle.text.specs.Writers.{Writes}
use Rattle.machine.specs.State.{Setup, State}
use Rattle.report.specs.Report.{task_lines}
use Rattle.report.specs.Shown.{Shown}
use Rattle.report.specs.Sizes.{outcome_line_size, task_line_size}
use Rattle.report.proofs.put_report.Given as goal

abbrev pub invariant-loop-i : goal.invariant-loop-i
invariant-loop-i l =
    (l.to.at ≤ outcome_line_size + task_line_size * l.i)
    × ((c : Setup) (s : State) → Shown c s l.summary l.tasks l.labels l.givers l.text
    → Writes l.initial.to (plain (task_lines c s 0 (take l.i c.tasks))) l.to)
