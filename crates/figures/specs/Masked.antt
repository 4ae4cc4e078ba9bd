-- A run with a mask up to its finishing figure. With the factor 4W + 8 of plans without M lines it would still be open there.
use Rattle.std.specs.Prelude.{◌≡◌, refl, true, [], ◌∷◌, take}
use Rattle.runs.specs.Sums.{sum}
use Rattle.plan.specs.Orders.{numbers_from, times}
use Rattle.machine.specs.State.{Setup}
use Rattle.machine.specs.Step.{finished, after}
use Rattle.machine.specs.Figures.{finishing_figure}
use Rattle.machine.specs.Played.{with}
use Rattle.machine.specs.PlayedMasks.{only}
use Rattle.machine.specs.Computing.{computing}

-- one task, for the first of 29 workers alone
abbrev pub for_one : Setup
for_one = with 29 (only 1 ∷ [])

-- in rounds the lock goes round the 28 others, each of which drains 29 queues and finds nothing that it may run
pub in_time : finished for_one (after for_one (take (finishing_figure for_one 29) (times 880 (numbers_from 0 29)))) ≡ true
unfolding computing sum
in_time = refl
