-- `pick` meets its contract.
use native.Mathlib.Omega.{arith}
use Prim.Native.Nat.{ℕ}
use mathlib.Core.Path.{◌≡◌, refl, sym}
use mathlib.Core.List.{List}
use Rattle.machine.specs.State.{Setup, State, picked}
use Rattle.machine.specs.Ranges.{Fit}
use Rattle.steps.specs.Layout.{place_at}
use Rattle.steps.specs.Memory.{share, Holds, Able}
use Rattle.steps.specs.declared.Counts.{Counts}
use Rattle.scheduler.specs.declared.arrays.Arrays.{Arrays}
use Rattle.scheduler.specs.Lent.{memory_of, long_arrays}
use Rattle.steps.proofs.Parts.{share_at}
use Rattle.scheduler.proofs.Lending.{share_lent, returned_shares, returned_later}
use Rattle.scheduler.proofs.Picking.{workers_few, own_place, drains_there, drains_not}
use Rattle.scheduler.proofs.Picking.{counted, counted_holds, acted_holds}
use Rattle.scheduler.proofs.pick.Goals as goal

-- with the pick counted, its worker can act
counted_able : (n : Counts) (a : Arrays) (store : List ℕ) {w : ℕ} {c : Setup} {s : State} → Holds c (memory_of n a) (share store) s
    → Fit c (picked s) w → {own : List ℕ} → share store w ≡ own → Able (memory_of (counted n) a) own w
counted_able n a store {c = setup} {s = state} holds fit lent =
    record {
      c = setup;
      s = picked state;
      shares = share store;
      lent = lent;
      long = long_arrays (counted n) a;
      holds = counted_holds holds;
      fit = fit;
    }

pub step_own-requires : goal.step_own-requires
step_own-requires c =
    let (setup, state, holds, fit) = c.requires.held in
    let store = c.args.store.now in
    let w = c.args.w in
    let lent = share_lent store w (workers_few fit) c.requires.room in
    record {
      able = counted_able c.args.n c.args.arrays.now store holds fit (sym lent);
      not_draining = rw (lent, share_at store w place_at (omega arith)) (drains_not _ c.if-place-lt-DRAINING_TO_SERVE.true);
    }

pub returns-then-place-lt-DRAINING_TO_SERVE : goal.returns-then-place-lt-DRAINING_TO_SERVE
returns-then-place-lt-DRAINING_TO_SERVE c =
    let d = c.step_own in
    let (setup, state, holds, fit) = c.requires.held in
    let store = c.args.store.now in
    let w = c.args.w in
    let few = workers_few fit in
    let lent = share_lent store w few c.requires.room in
    let back = d.auto.own in
    let own = d.new.own in record {
      held = λ k u h f.
          rw (returned_shares store w few c.requires.room own back)
          (acted_holds k u w (d.ensures k (picked u) (share store) (sym lent) (long_arrays (counted c.args.n) c.args.arrays.now) (counted_holds h) f));
      later = returned_later store w few c.requires.room own back;
    }

pub drain_step-requires : goal.drain_step-requires
drain_step-requires c =
    let (setup, state, holds, fit) = c.requires.held in
    let place = share_at c.args.store.now c.args.w place_at (omega arith) in
    let few = rw place at (own_place (counted_able c.args.n c.args.arrays.now c.args.store.now holds fit refl)) in
    record {
      room = (c.requires.room, workers_few fit, rw place (drains_there _ c.if-place-lt-DRAINING_TO_SERVE.false few));
      held = (setup, picked state, counted_holds holds, fit);
    }

pub returns : goal.returns
returns c =
    record {
      held = λ k u h f. acted_holds k u c.args.w (c.drain_step.ensures.held k (picked u) (counted_holds h) f);
      later = c.drain_step.ensures.later;
    }
