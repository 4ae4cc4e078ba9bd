-- `report::total_permitted` meets its contract: the ones of the masks so far. Assumes nothing.
use Rattle.std.specs.Prelude.{◌≡◌}
use Rattle.report.specs.Totals.{ones_of}
use Rattle.report.proofs.total_permitted.Given as goal

abbrev pub invariant-loop-mask : goal.invariant-loop-mask
invariant-loop-mask l = l.total ≡ ones_of l.masks l.mask-index
