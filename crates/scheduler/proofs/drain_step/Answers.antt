-- `drain_step` meets its contract.
use Prim.Native.Nat.{ℕ, ◌+◌, ◌*◌, ◌<◌}
use native.Mathlib.Omega.{arith}
use mathlib.Core.Path.{◌≡◌, ap, ◌∙◌}
use mathlib.Core.Logic.{◌⊎◌}
use mathlib.Core.List.{List}
use lib.ListN.{length, get_or}
use lib.Seq.{get_or-set_other}
use Rattle.machine.specs.State.{Setup, State}
use Rattle.machine.specs.Ranges.{Fit}
use Rattle.steps.specs.Layout.{share_size, place_at, number_at, queued_at, slot_at, most_workers, DRAINING_TO_SERVE, DRAINING_TO_ADD}
use Rattle.steps.specs.Memory.{share, station, Memory, Holds}
use Rattle.steps.proofs.Parts.{share_at, station_long}
use Rattle.scheduler.proofs.Lending.{share_length, station_lent, second_lent, both_shares, both_later}
use Rattle.scheduler.proofs.Draining.{drained_below, drained_known, drained_few, drained_room}
use Rattle.scheduler.proofs.Draining.{emptied_stations, emptied_long, drain_acts}
use Rattle.scheduler.proofs.drain_step.Goals as goal

-- the worker whose queue is drained
abbrev drains : List ℕ → ℕ → ℕ
drains store w = get_or store (w * share_size + number_at) 0

drains_is : (store : List ℕ) (w : ℕ) → get_or (share store w) number_at 0 ≡ drains store w
drains_is store w = share_at store w number_at (omega arith)

-- it is a worker
drains_low : {m : Memory} (store : List ℕ) (w : ℕ) → (c : Setup) × (s : State) × Holds c m (share store) s × Fit c s w
    → (get_or (share store w) place_at 0 ≡ DRAINING_TO_SERVE) ⊎ (get_or (share store w) place_at 0 ≡ DRAINING_TO_ADD)
    → drains store w < most_workers
drains_low store w (c, s, holds, fit) at = drained_below holds fit at (drains_is store w)

pub slice_bounds-drain-end : goal.slice_bounds-drain-end
slice_bounds-drain-end c = omega (arith, drains_low c.args.store.now c.args.w c.requires.held c.requires.room.2, c.requires.room)

pub overflow_mul-from : goal.overflow_mul-from
overflow_mul-from c = omega (arith, drains_low c.args.store.now c.args.w c.requires.held c.requires.room.2, c.requires.room)

pub overflow_add-to : goal.overflow_add-to
overflow_add-to c = omega (arith, drains_low c.args.store.now c.args.w c.requires.held c.requires.room.2, c.requires.room)

pub offset_bounds-store-from : goal.offset_bounds-store-from
offset_bounds-store-from c = omega (arith, drains_low c.args.store.now c.args.w c.requires.held c.requires.room.2, c.requires.room)

pub drain-ready-requires : goal.drain-ready-requires
drain-ready-requires c =
    let below = drains_low c.args.store.now c.args.w c.requires.held c.requires.room.2 in
    let (setup, state, holds, fit) = c.requires.held in
    let store = c.args.store.now in
    let k = drains c.args.store.now c.args.w in
    let lent = station_lent store k below c.requires.room.0 in (
      ap length lent ∙ station_long (share store k) (share_length store k below c.requires.room.0),
      omega arith,
      holds.device.ready_at_lem,
      rw lent (drained_room holds fit c.requires.room.2 (drains_is c.args.store.now c.args.w)),
      rw lent (drained_few holds fit c.requires.room.2 (drains_is c.args.store.now c.args.w)),
    )

pub drained-requires : goal.drained-requires
drained-requires c =
    let below = drains_low c.args.store.now c.args.w c.requires.held c.requires.room.2 in
    let (setup, state, holds, fit) = c.requires.held in
    let store = c.args.store.now in
    let w = c.args.w in
    let k = drains c.args.store.now c.args.w in
    let one = c.drain-ready.new.own in
    let emptied = rw (station_lent store k below c.requires.room.0) at c.drain-ready.ensures.station in
    let stations = emptied_stations holds fit c.requires.room.2 (drains_is c.args.store.now c.args.w) emptied in
    let lent =
    second_lent store k w below c.requires.room.1 c.requires.room.0 one c.drain-ready.auto.own ∙ ap (λ (f : ℕ → List ℕ). f w) stations in
    (rw lent (emptied_long holds fit c.requires.room.2 (drains_is c.args.store.now c.args.w) emptied), drained_known holds fit c.requires.room.2 (drains_is c.args.store.now c.args.w))

pub returns : goal.returns
returns c =
    let below = drains_low c.args.store.now c.args.w c.requires.held c.requires.room.2 in
    let store = c.args.store.now in
    let w = c.args.w in
    let k = drains c.args.store.now c.args.w in
    let one = c.drain-ready.new.own in
    let two = c.drained.new.own in
    let long = c.requires.room.0 in
    let few = c.requires.room.1 in
    let lent = station_lent store k below long in
    let emptied = rw lent at c.drain-ready.ensures.station in
    let slot =
    ap (λ (own : List ℕ). get_or own slot_at 0) (rw lent at c.drain-ready.ensures.numbers.1)
    ∙ get_or-set_other (station (share store k)) queued_at slot_at 0 0 (λ e. omega arith) in record {
      held = λ setup state holds fit.
          let stations = emptied_stations holds fit c.requires.room.2 (drains_is c.args.store.now c.args.w) emptied in
          let lent2 = second_lent store k w below few long one c.drain-ready.auto.own ∙ ap (λ (f : ℕ → List ℕ). f w) stations in
          rw (both_shares store k w below few long one c.drain-ready.auto.own two c.drained.auto.own)
          (drain_acts holds fit c.requires.room.2 (drains_is c.args.store.now c.args.w) emptied two c.drain-ready.new.ready c.drain-ready.result
          (rw lent at c.drain-ready.ensures.ready)
          slot
          (λ x q. rw lent2 at (c.drained.ensures setup x q holds.device.workers)));
      later = both_later store k w below few long one c.drain-ready.auto.own two c.drained.auto.own;
    }
