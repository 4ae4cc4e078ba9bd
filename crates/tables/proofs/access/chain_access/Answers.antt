-- `tables::access::chain_access` meets its contract.
-- Assumes nothing.
use native.Mathlib.Omega.{arith}
use lib.ListN.{length, length-set}
use Rattle.tables.specs.Laid.{at_address}
use Rattle.tables.proofs.Chains.{found_below, laid_access}
use Rattle.tables.proofs.access.chain_access.Goals as goal

pub follow-requires : goal.follow-requires
follow-requires c =
    let a = c.args in
    rw (length-set, c.previous-prev.ensures)
    (found_below (at_address a.accesses.now a.address) a.a (length a.accesses.now) (omega (arith, c.requires)))

pub returns : goal.returns
returns c =
    let a = c.args in
    laid_access a.accesses.now c.follow.new.accesses a.a a.task a.reader a.address a.total c.previous-prev.result
    c.requires.0 c.requires.1 c.previous-prev.ensures c.follow.ensures
