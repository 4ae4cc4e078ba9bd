use mathlib.Core.Path.{sym}
use borrow.Author.Tests.{eq-eqb, ne_eqb}
use Rattle.memory.specs.SearchLaws.{search_on}
use Rattle.tables.specs.Laid.{at_address}
use Rattle.tables.proofs.Chains.{found_last, found_none}
use Rattle.tables.proofs.access.previous.Goals as goal

pub returns-then-accesses-b : goal.returns-then-accesses-b
returns-then-accesses-b c =
    let s = c.args in
    found_last (at_address s.accesses.now s.address) s.a c.loop-b.b c.loop-b-test.true (eq-eqb _ _ (sym c.if-accesses-b.true))
    c.loop-b.invariant

pub loop-b-preserved : goal.loop-b-preserved
loop-b-preserved c =
    let s = c.args in
    search_on (at_address s.accesses.now s.address) s.a c.loop-b.b c.loop-b-test.true
    (ne_eqb _ _ (λ e. c.if-accesses-b.false (sym e))) c.loop-b.invariant

pub returns : goal.returns
returns c =
    let s = c.args in
    found_none (at_address s.accesses.now s.address) s.a c.loop-b.b c.loop-b-test.false c.loop-b.invariant
