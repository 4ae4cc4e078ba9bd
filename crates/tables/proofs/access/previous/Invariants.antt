-- `tables::access::previous` meets its contract: the last access to the address below b is the last below a.
-- Assumes nothing.
use mathlib.Core.Path.{◌≡◌}
use Rattle.runs.specs.Searches.{last_below}
use Rattle.tables.specs.Laid.{at_address}
use Rattle.tables.proofs.access.previous.Given as goal

abbrev pub invariant-loop-b : goal.invariant-loop-b
invariant-loop-b l = last_below (at_address l.accesses l.address) l.b ≡ last_below (at_address l.accesses l.address) l.a
