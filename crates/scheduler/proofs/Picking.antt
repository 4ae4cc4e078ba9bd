-- The pick that is counted, and the places at which a worker's own share is all that a step lends.
use Prim.Native.Nat.{ℕ, ◌+◌, ◌≤◌, ◌<◌}
use native.Mathlib.Omega.{arith}
use mathlib.Core.Path.{◌≡◌, subst}
use mathlib.Core.Logic.{◌⊎◌, inl, inr, ⊎_elim, ◌≢◌}
use mathlib.Core.List.{List}
use lib.ListN.{get_or}
use Rattle.runs.specs.Update.{same}
use Rattle.machine.specs.State.{Setup, State, picked}
use Rattle.machine.specs.Step.{step}
use Rattle.machine.specs.Ranges.{Fit, acted}
use Rattle.machine.proofs.Ranges.{acted_step}
use Rattle.steps.specs.Layout.{place_at, number_at, most_workers, IDLE, TRYING, REGISTERING, LOOKING}
use Rattle.steps.specs.Layout.{SERVING, HANDING, LEAVING, DRAINING_TO_SERVE, DRAINING_TO_ADD}
use Rattle.steps.specs.Memory.{station, Memory, with_counts, Holds, Able}
use Rattle.steps.proofs.Parts.{station_at}
use Rattle.steps.proofs.Acting.{own_stationed}
use Rattle.steps.proofs.Stations.{place_few}
use Rattle.steps.specs.declared.Counts.{Counts}

-- ---- to act after the pick is counted is to take a step

module _ (c : Setup) (s : State) (w : ℕ) where
  pub acted_holds : {m : Memory} {shares : ℕ → List ℕ} → Holds c m shares (acted c (picked s) w) → Holds c m shares (step c s w)
  acted_holds {m} {shares} h = subst (λ (x : State). Holds c m shares x) (acted_step c s w) h

pub workers_few : {c : Setup} {s : State} {w : ℕ} → Fit c s w → w < most_workers
workers_few fit = omega (arith, fit.worker, fit.sized.workers)

-- the numbers with one more pick
abbrev pub counted : Counts → Counts
counted n =
    record {
      ends = n.ends;
      workers = n.workers;
      slots = n.slots;
      capacity = n.capacity;
      ready_at = n.ready_at;
      ready = n.ready;
      picks = n.picks + 1;
      tally = n.tally;
    }

module _ {m : Memory} where
  pub counted_holds : {c : Setup} {shares : ℕ → List ℕ} {s : State}
      → Holds c m shares s → Holds c (with_counts m (counted m.counts)) shares (picked s)
  counted_holds h =
      record {
        lock = h.lock;
        tasks = h.tasks;
        device = record {
          workers = h.device.workers;
          slots = h.device.slots;
          capacity = h.device.capacity;
          stationed = h.device.stationed;
          slotted = h.device.slotted;
          ready_at_lem = h.device.ready_at_lem;
          ready = h.device.ready;
          givers = h.device.givers;
          masks = h.device.masks;
        };
        picks = omega (arith, h.picks);
      }

-- ---- the number of a place

pub drains_there : (k : ℕ) → DRAINING_TO_SERVE ≤ k → k ≤ DRAINING_TO_ADD → (k ≡ DRAINING_TO_SERVE) ⊎ (k ≡ DRAINING_TO_ADD)
drains_there k from to =
    ⊎_elim (λ (e : k ≡ DRAINING_TO_SERVE). inl e) (λ (d : k ≢ DRAINING_TO_SERVE). inr (omega arith)) (same k DRAINING_TO_SERVE)

pub drains_not : (k : ℕ) → k < DRAINING_TO_SERVE → (k ≢ DRAINING_TO_SERVE) × (k ≢ DRAINING_TO_ADD)
drains_not k l = (λ e. omega arith, λ e. omega arith)

pub own_place : {m : Memory} {own : List ℕ} {w : ℕ} → Able m own w → get_or own place_at 0 ≤ DRAINING_TO_ADD
own_place {own = own} {w = w} a =
    let few = place_few (get_or (station own) place_at 0) (get_or (station own) number_at 0) (a.s.place w) (own_stationed a).place in
    omega (arith, few, station_at own place_at (omega arith))

past : (k m : ℕ) → m ≤ k → k ≢ m → m + 1 ≤ k
past k m l d = omega arith

before : (k m : ℕ) → k ≤ m + 1 → k ≢ m + 1 → k ≤ m
before k m l d = omega arith

-- a place that is none of the others is that of a worker that leaves
pub leaves_at : (k : ℕ) → k ≤ DRAINING_TO_ADD → k ≢ IDLE → k ≢ TRYING → k ≢ REGISTERING → k ≢ LOOKING
    → k ≢ DRAINING_TO_SERVE → k ≢ DRAINING_TO_ADD → k ≢ SERVING → k ≢ HANDING → k ≡ LEAVING
leaves_at k small n0 n1 n2 n3 n4 n5 n6 n7 =
    let owner : SERVING ≤ k = past k LOOKING (past k REGISTERING (past k TRYING (past k IDLE (omega arith) n0) n1) n2) n3 in
    let after : LEAVING ≤ k = past k HANDING (past k SERVING owner n6) n7 in
    meet k after (before k LEAVING (before k DRAINING_TO_SERVE small n5) n4)
  where
    meet : (k : ℕ) → LEAVING ≤ k → k ≤ LEAVING → k ≡ LEAVING
    meet k a b = omega arith
