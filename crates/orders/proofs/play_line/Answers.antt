use mathlib.Core.Path.{sym, ◌∙◌}
use native.Mathlib.Omega.{arith}
use Rattle.steps.specs.Memory.{share}
use Rattle.scheduler.specs.Lent.{memory_of}
use Rattle.orders.proofs.Playing.{goes_start, able_formed, able_fits, able_counts, still_able}
use Rattle.orders.proofs.Playing.{comes_full, comes_finished, goes_pick}
use Rattle.orders.proofs.play_line.Goals as goal

pub loop-n-init : goal.loop-n-init
loop-n-init c = goes_start

pub returns-else-not-is_finished : goal.returns-else-not-is_finished
returns-else-not-is_finished c =
    let x = c.loop-n in
    let m = memory_of x.n x.arrays in
    let comes = comes_finished x.invariant (λ k s h. sym c.if-not-is_finished.false ∙ c.is_finished.ensures.meaning m k s (share x.store) h) in
    record { held = comes.0; later = comes.1 }

pub draw-drawn-requires : goal.draw-drawn-requires
draw-drawn-requires c = able_formed (still_able c.loop-n.invariant c.requires)

pub pick-n-requires : goal.pick-n-requires
pick-n-requires c =
    let a = still_able c.loop-n.invariant c.requires in
    record {
      room = a.room;
      held = (a.c, a.s, a.holds, able_fits a c.loop-n-test.true c.draw-drawn.result c.draw-drawn.ensures);
    }

pub loop-n-smaller : goal.loop-n-smaller
loop-n-smaller c =
    let a = still_able c.loop-n.invariant c.requires in
    let below = c.loop-n-test.true in
    let d = c.draw-drawn in
    let fit = able_fits a below d.result d.ensures in
    omega (arith, able_counts a below d.result d.ensures (c.pick-n.ensures.held a.c a.s a.holds fit))

pub loop-n-preserved : goal.loop-n-preserved
loop-n-preserved c =
    let x = c.loop-n in
    let m = memory_of x.n x.arrays in
    let k = c.pick-n.auto in
    goes_pick x.invariant c.loop-n-test.true
    (λ k s h. sym c.if-not-is_finished.true ∙ c.is_finished.ensures.meaning m k s (share x.store) h)
    c.draw-drawn.result c.draw-drawn.ensures
    (record { size = k.store; later = c.pick-n.ensures.later })
    c.pick-n.ensures.held

pub returns-after-loop-n : goal.returns-after-loop-n
returns-after-loop-n c =
    let comes = comes_full c.loop-n.invariant c.loop-n-test.false in
    record { held = comes.0; later = comes.1 }
