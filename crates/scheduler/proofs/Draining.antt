-- Worker w drains the queue of worker k, which may be itself: the device's part of k changes, then that of w.
use Prim.Native.Nat.{ℕ, suc, ◌+◌, ◌≤◌, ◌<◌}
use native.Mathlib.Omega.{arith}
use native.Mathlib.Numerals.{add-one}
use mathlib.Core.Path.{◌≡◌, refl, sym, ap, ◌∙◌}
use mathlib.Core.Logic.{◌⊎◌, inl, inr, ◌≢◌}
use mathlib.Core.Bool.{Bool, true, false}
use mathlib.Core.List.{List, [], ◌++◌}
use lib.ListN.{length, get_or}
use lib.Dec.{ltb}
use borrow.Author.Tests.{lt-ltb, le-ltb}
use Rattle.runs.specs.Update.{upd, upd_id, upd_all, upd_both, map_upd}
use Rattle.runs.specs.Circular.{entries}
use Rattle.machine.specs.State.{Setup, State, Purpose, for_serving, for_adding}
use Rattle.machine.specs.State.{Place, idle, trying, registering, looking, draining, serving, handing, leaving}
use Rattle.machine.specs.Ready.{arrive}
use Rattle.machine.proofs.Ready.{arrive_length}
use Rattle.machine.specs.Step.{after_draining, next_drain}
use Rattle.machine.specs.Events.{event_drain}
use Rattle.machine.specs.Ranges.{Fit, acted}
use Rattle.steps.specs.Layout.{station_size, place_at, number_at, queued_at, slot_at, most_workers, queue_slots, READY}
use Rattle.steps.specs.Layout.{DRAINING_TO_SERVE, DRAINING_TO_ADD, SERVING, LEAVING}
use Rattle.steps.specs.Codes.{Coded}
use Rattle.steps.specs.Memory.{part, station, Stationed, Slotted, Memory, Holds}
use Rattle.steps.specs.declared.Counts.{Counts}
use Rattle.steps.proofs.Parts.{station_at, part_of, station_of}
use Rattle.steps.proofs.Stations.{queue_count}
use Rattle.steps.proofs.Choosing.{ready_length}
use Rattle.scheduler.specs.Lent.{memory}
use Rattle.scheduler.proofs.Lending.{with_station}

-- ---- the places

drains_within : (k : ℕ) → (k ≡ DRAINING_TO_SERVE) ⊎ (k ≡ DRAINING_TO_ADD) → (DRAINING_TO_SERVE ≤ k) × (k ≤ DRAINING_TO_ADD)
drains_within k (inl e) = (omega arith, omega arith)
drains_within k (inr e) = (omega arith, omega arith)

drains_at : (k a : ℕ) (p : Place) → Coded k a p → DRAINING_TO_SERVE ≤ k → k ≤ DRAINING_TO_ADD → (x : Purpose) × (p ≡ draining x a)
drains_at k a idle h l m = absurd (omega arith)
drains_at k a trying h l m = absurd (omega arith)
drains_at k a (registering t) h l m = absurd (omega (arith, h.0))
drains_at k a (looking t) h l m = absurd (omega (arith, h.0))
drains_at k a (draining for_serving x) h l m = (for_serving, ap (draining for_serving) (sym h.1))
drains_at k a (draining for_adding x) h l m = (for_adding, ap (draining for_adding) (sym h.1))
drains_at k a (serving n) h l m = absurd (omega (arith, h.0))
drains_at k a (handing n) h l m = absurd (omega (arith, h.0))
drains_at k a leaving h l m = absurd (omega arith)

-- a place that doesn't wait needs no slot, and a slot stays where the numbers beside it change
slotted_next : (c : Setup) (p : Purpose) (k slots : ℕ) (own : List ℕ) → Slotted slots own (next_drain c p k)
unfolding next_drain
slotted_next c p k slots own = go p (ltb (suc k) c.workers)
  where
    go : (x : Purpose) (b : Bool) → Slotted slots own (elim b [ true ↦ draining x (suc k) | false ↦ after_draining c x ])
    go for_serving true = tt
    go for_serving false = tt
    go for_adding true = tt
    go for_adding false = tt

slotted_still : (slots : ℕ) (own next : List ℕ) (p : Place) → get_or next slot_at 0 ≡ get_or own slot_at 0 → Slotted slots own p
    → Slotted slots next p
slotted_still slots own next idle e h = tt
slotted_still slots own next trying e h = tt
slotted_still slots own next (registering t) e h = tt
slotted_still slots own next (looking t) e h = e ∙ h
slotted_still slots own next (draining p k) e h = tt
slotted_still slots own next (serving n) e h = tt
slotted_still slots own next (handing n) e h = tt
slotted_still slots own next leaving e h = tt

-- the place after queue k, from the numbers of the place before
module _ (c : Setup) (p : Purpose) (k n a : ℕ) (h : Coded n a (draining p k)) where
  pub coded_more : k + 1 < c.workers → Coded n (k + 1) (next_drain c p k)
  unfolding next_drain
  coded_more l = rw (next_drain, lt-ltb (suc k) c.workers (omega arith)) (go p h)
    where
      go : (x : Purpose) → Coded n a (draining x k) → Coded n (k + 1) (draining x (suc k))
      go for_serving e = (e.0, add-one k)
      go for_adding e = (e.0, add-one k)

  last : c.workers ≤ k + 1 → next_drain c p k ≡ after_draining c p
  unfolding next_drain
  last l = rw (next_drain, le-ltb (suc k) c.workers (omega arith))

  pub coded_serving : c.workers ≤ k + 1 → n ≡ DRAINING_TO_SERVE → Coded SERVING 0 (next_drain c p k)
  coded_serving l serves = rw (last l) (go p h)
    where
      go : (x : Purpose) → Coded n a (draining x k) → Coded SERVING 0 (after_draining c x)
      go for_serving e = (refl, refl)
      go for_adding e = absurd (omega (arith, e.0))

  pub coded_leaving : c.workers ≤ k + 1 → n ≢ DRAINING_TO_SERVE → Coded LEAVING 0 (next_drain c p k)
  coded_leaving l other = rw (last l) (go p h)
    where
      go : (x : Purpose) → Coded n a (draining x k) → Coded LEAVING 0 (after_draining c x)
      go for_serving e = absurd (other e.0)
      go for_adding e = refl

-- ---- the shares with another part of the device

module _ (shares : ℕ → List ℕ) (k : ℕ) (z : List ℕ) (long : length z ≡ station_size) where
  parts_with : ◌≡◌ {A = ℕ → List ℕ} (λ v. part (with_station shares k z v)) (λ v. part (shares v))
  parts_with =
      let same_part : upd (λ v. part (shares v)) k (part (z ++ part (shares k))) ≡ upd (λ v. part (shares v)) k (part (shares k)) =
      ap (upd (λ v. part (shares v)) k) (part_of z (part (shares k)) long) in
      map_upd part shares k (z ++ part (shares k)) ∙ same_part ∙ upd_id (λ v. part (shares v)) k

  stations_with : ◌≡◌ {A = ℕ → List ℕ} (λ v. station (with_station shares k z v)) (upd (λ v. station (shares v)) k z)
  stations_with =
      map_upd station shares k (z ++ part (shares k)) ∙ ap (upd (λ v. station (shares v)) k) (station_of z (part (shares k)) long)

-- ---- the step

-- the numbers with r ready tasks
abbrev pub readied : Counts → ℕ → Counts
readied n r =
    record {
      ends = n.ends;
      workers = n.workers;
      slots = n.slots;
      capacity = n.capacity;
      ready_at = n.ready_at;
      ready = r;
      picks = n.picks;
      tally = n.tally;
    }

-- with another content of the ready list too
abbrev pub with_ready : Memory → Counts → List ℕ → Memory
with_ready m n ready =
    memory n m.wait m.registrations m.tickets m.cells
    (record { ready = ready; givers = m.device.givers; masks = m.device.masks }) m.rows m.accesses

module _ {c : Setup} {m : Memory} {shares : ℕ → List ℕ} {s : State} {w : ℕ} (h : Holds c m shares s) (fit : Fit c s w)
    (at : (get_or (shares w) place_at 0 ≡ DRAINING_TO_SERVE) ⊎ (get_or (shares w) place_at 0 ≡ DRAINING_TO_ADD)) where
  abbrev stations : ℕ → List ℕ
  stations v = station (shares v)

  stands : (x : Purpose) × (s.place w ≡ draining x (get_or (stations w) number_at 0))
  stands =
      let (from, to) = drains_within (get_or (stations w) place_at 0) (rw (station_at (shares w) place_at (omega arith)) at) in
      drains_at (get_or (stations w) place_at 0) (get_or (stations w) number_at 0) (s.place w) (h.device.stationed w fit.worker).place
      from to

  module _ {k : ℕ} (is : get_or (shares w) number_at 0 ≡ k) where
    stands_at : s.place w ≡ draining stands.0 k
    stands_at = stands.1 ∙ ap (draining stands.0) (station_at (shares w) number_at (omega arith) ∙ is)

    drained_worker : k < c.workers
    drained_worker = rw stands_at at fit.place

    pub drained_below : k < most_workers
    drained_below = omega (arith, drained_worker, fit.sized.workers)

    pub drained_known : k < m.counts.workers
    drained_known = omega (arith, drained_worker, h.device.workers)

    pub drained_few : get_or (stations k) queued_at 0 ≤ queue_slots
    drained_few = omega (arith, queue_count (h.device.stationed k drained_worker), fit.queues k, fit.sized.capacity)

    pub drained_room : m.counts.ready + get_or (stations k) queued_at 0 ≤ READY
    drained_room =
        let after : length (arrive s.ready_list (s.queue k)) ≤ READY = rw (event_drain c s w stands_at) at fit.room_ready in
        let counted = ready_length m.counts m.device.ready in
        let queued = queue_count (h.device.stationed k drained_worker) in
        omega (arith, arrive_length s.ready_list (s.queue k), counted, ap length h.device.ready, queued)

    module _ {one : List ℕ} (emptied : (p : Place) (q : List ℕ) → Stationed (stations k) p q → Stationed one p []) where
      emptied_all : (v : ℕ) → v < c.workers → Stationed (upd stations k one v) (s.place v) (upd s.queue k [] v)
      emptied_all v l =
          upd_both (λ v y q. v < c.workers → Stationed y (s.place v) q) stations s.queue k one []
          (λ l. emptied (s.place k) (s.queue k) (h.device.stationed k l)) (λ v d l. h.device.stationed v l) v l

      emptied_own : Stationed (upd stations k one w) (draining stands.0 k) (upd s.queue k [] w)
      emptied_own = rw stands_at at (emptied_all w fit.worker)

      pub emptied_long : length (upd stations k one w) ≡ station_size
      emptied_long = emptied_own.long

      one_long : length one ≡ station_size
      one_long = (emptied (s.place k) (s.queue k) (h.device.stationed k drained_worker)).long

      pub emptied_stations : ◌≡◌ {A = ℕ → List ℕ} (λ v. station (with_station shares k one v)) (upd stations k one)
      emptied_stations = stations_with shares k one one_long

      pub drain_acts : (two more : List ℕ) (r : ℕ)
          → ((p : Place) (q is : List ℕ) → Stationed (stations k) p q
          → entries (λ i. get_or m.device.ready i 0) READY m.counts.ready_at m.counts.ready ≡ is
          → entries (λ i. get_or more i 0) READY m.counts.ready_at r ≡ arrive is q)
          → get_or one slot_at 0 ≡ get_or (stations k) slot_at 0
          → ((x : Purpose) (q : List ℕ) → Stationed (upd stations k one w) (draining x k) q → Stationed two (next_drain c x k) q)
          → Holds c (with_ready m (readied m.counts r) more) (with_station (with_station shares k one) w two) (acted c s w)
      drain_acts two more r moved slot next =
          let to = next_drain c stands.0 k in
          let first = with_station shares k one in
          let own = next stands.0 (upd s.queue k [] w) emptied_own in
          let slots : (v : ℕ) → v < c.workers → Slotted c.slots (upd stations k one v) (s.place v) =
          upd_all (λ v y. v < c.workers → Slotted c.slots y (s.place v)) stations k one
          (λ l. slotted_still c.slots (stations k) one (s.place k) slot (h.device.slotted k l)) (λ v d l. h.device.slotted v l) in
          let devices = stations_with first w two own.long ∙ ap (λ (f : ℕ → List ℕ). upd f w two) emptied_stations in
          rw (event_drain c s w stands_at)
          (record {
            lock = h.lock;
            tasks = rw (parts_with first w two own.long, parts_with shares k one one_long) h.tasks;
            device = rw devices
                (record {
                  workers = h.device.workers;
                  slots = h.device.slots;
                  capacity = h.device.capacity;
                  stationed = λ v l.
                      upd_both (λ v y p. v < c.workers → Stationed y p (upd s.queue k [] v)) (upd stations k one) s.place w two to
                      (λ l. own) (λ v d l. emptied_all v l) v l;
                  slotted = λ v l.
                      upd_both (λ v y p. v < c.workers → Slotted c.slots y p) (upd stations k one) s.place w two to
                      (λ l. slotted_next c stands.0 k c.slots two) (λ v d l. slots v l) v l;
                  ready_at_lem = h.device.ready_at_lem;
                  givers = h.device.givers;
                  masks = h.device.masks;
                  ready = moved (s.place k) (s.queue k) s.ready_list (h.device.stationed k drained_worker) h.device.ready;
                });
            picks = h.picks;
          })
