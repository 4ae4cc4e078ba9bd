use native.Mathlib.Omega.{arith}
use Prim.Native.Nat.{◌+◌, ◌-◌}
use mathlib.Core.Path.{◌≡◌, refl, sym, ap, ◌∙◌}
use lib.ListN.{drop, length-set}
use borrow.Author.Rules.{rules}
use Rattle.runs.specs.Circular.{shifted, shifted_none, shifted_turn, shifted_behind}
use Rattle.steps.specs.Layout.{READY}
use Rattle.steps.proofs.Choosing.{taken_out}
use Rattle.steps.proofs.ready.take_out.Goals as goal

pub loop-i-init : goal.loop-i-init
loop-i-init c =
    (search rules, refl, refl)

pub loop-i-preserved : goal.loop-i-preserved
loop-i-preserved c =
    let l = c.loop-i in
    let x = c.args in
    let turn = shifted_turn READY x.n.ready_at l.ready l.i (search rules) in
    let next : l.i - 1 + 1 ≡ l.i = omega arith in
    (omega (arith, l.invariant), simp length-set l.invariant.1, rw next (turn ∙ l.invariant.2))

pub returns : goal.returns
returns c =
    let l = c.loop-i in
    let x = c.args in
    let at = x.n.ready_at in
    let none : l.i ≡ 0 = omega (arith, c.loop-i-test.false) in
    let moved : l.ready ≡ shifted READY at x.ready.now x.k =
    sym (shifted_none READY at l.ready) ∙ rw none at l.invariant.2 in record {
      numbers = (c.one_taken.ensures, moved);
      meaning = (
        rw (c.one_taken.ensures, moved) (taken_out x.n x.ready.now x.k c.requires.0 c.requires.2 c.requires.3),
        ap (drop READY) moved ∙ shifted_behind READY at x.k x.ready.now (omega arith),
      );
    }
