-- A step in memory, by the components of the event: what the lock, the tasks and the device become.
use Prim.Native.Nat.{ℕ, ◌≤◌, ◌<◌}
use native.Mathlib.Omega.{arith}
use mathlib.Core.Path.{◌≡◌, sym, ap, ◌∙◌}
use mathlib.Core.Logic.{⊎_elim, ◌≢◌}
use mathlib.Core.List.{List}
use mathlib.Core.Option.{none}
use lib.ListN.{length, get_or, length-take, length-drop}
use Rattle.runs.specs.Update.{same, upd, upd_same, upd_other, upd_id}
use Rattle.lock.specs.Arrays.{lock_of}
use Rattle.runs.specs.Circular.{entries}
use Rattle.memory.specs.Memory as T
use Rattle.tasks.specs.Playing as P
use Rattle.memory.specs.Shares.{Stored}
use Rattle.machine.specs.State.{Setup, State}
use Rattle.machine.specs.Event.{Event, event}
use Rattle.machine.specs.Step.{lock_op, task_op, effect, lock_after}
use Rattle.machine.specs.Ranges.{Fit, acted}
use Rattle.steps.specs.Layout.{share_size, station_size, queue_slots, most_slots, READY}
use Rattle.steps.specs.declared.Counts.{Counts}
use Rattle.steps.specs.Memory.{part, station, Stationed, Slotted, Memory, Given, Masked, Holds, Able}
use Rattle.steps.proofs.Parts.{parts_upd}

-- the numbers of the plan stay
abbrev pub SamePlan : Counts → Counts → Type 0
SamePlan n m = (n.workers ≡ m.workers) × (n.slots ≡ m.slots) × (n.capacity ≡ m.capacity)

module _ {c : Setup} {m : Memory} {shares : ℕ → List ℕ} {s : State} {w : ℕ}
    (h : Holds c m shares s) (e : Event) (is : event c s w ≡ e) where
  pub acts_hold : (n : Memory) (next : List ℕ)
      → lock_of c.slots n.counts.ends.head.0 n.counts.ends.tail.0 n.wait n.registrations n.tickets n.cells
      ≡ lock_after c s.lock w (lock_op e)
      → T.HoldsTasks c.workers c.tasks
      (T.memory n.counts.tally n.rows n.accesses) (upd (λ v. part (shares v)) w (part next))
      (P.tasks_after c.tasks s.picks s.tasks w (task_op e)) (P.stands_after c.tasks s.stand w (task_op e))
      → SamePlan n.counts m.counts
      → Stationed (station next) (effect c s w e).place ((effect c s w e).queue w)
      → Slotted c.slots (station next) (effect c s w e).place
      → ((v : ℕ) → v ≢ w → (effect c s w e).queue v ≡ s.queue v)
      → n.counts.ready_at < READY
      → entries (λ k. get_or n.device.ready k 0) READY n.counts.ready_at n.counts.ready ≡ (effect c s w e).ready_list
      → Given (length c.tasks) n.device.givers (effect c s w e).giver
      → Masked c.workers c.tasks n.device.masks
      → n.counts.picks ≡ m.counts.picks
      → Holds c n (upd shares w next) (acted c s w)
  acts_hold n next lock tasks (workers, slots, capacity) own slot others ready_at ready givers masks picks =
      rw is
      (record {
        lock = lock;
        tasks = rw (parts_upd shares w next) tasks;
        device =
            record {
              workers = workers ∙ h.device.workers;
              slots = slots ∙ h.device.slots;
              capacity = capacity ∙ h.device.capacity;
              stationed = each;
              slotted = each_slot;
              ready_at_lem = ready_at;
              ready = ready;
              givers = givers;
              masks = masks;
            };
        picks = picks ∙ h.picks;
      })
    where
      each : (v : ℕ) → v < c.workers
          → Stationed (station (upd shares w next v)) (upd s.place w (effect c s w e).place v) ((effect c s w e).queue v)
      each v l =
          ⊎_elim
          (λ (z : v ≡ w). rw (z, upd_same shares w next, upd_same s.place w (effect c s w e).place) own)
          (λ (d : v ≢ w).
          rw (upd_other shares w next v d, upd_other s.place w (effect c s w e).place v d, others v d) (h.device.stationed v l))
          (same v w)

      each_slot : (v : ℕ) → v < c.workers → Slotted c.slots (station (upd shares w next v)) (upd s.place w (effect c s w e).place v)
      each_slot v l =
          ⊎_elim
          (λ (z : v ≡ w). rw (z, upd_same shares w next, upd_same s.place w (effect c s w e).place) slot)
          (λ (d : v ≢ w). rw (upd_other shares w next v d, upd_other s.place w (effect c s w e).place v d) (h.device.slotted v l))
          (same v w)

  -- the tasks stay as they are
  pub tasks_still : (own next : List ℕ) → shares w ≡ own → part next ≡ part own → task_op e ≡ none
      → T.HoldsTasks c.workers c.tasks
      (T.memory m.counts.tally m.rows m.accesses) (upd (λ v. part (shares v)) w (part next))
      (P.tasks_after c.tasks s.picks s.tasks w (task_op e)) (P.stands_after c.tasks s.stand w (task_op e))
  tasks_still own next lent stays nothing =
      let same_part : part next ≡ part (shares w) = stays ∙ sym (ap part lent) in
      rw (nothing, same_part, upd_id (λ v. part (shares v)) w) h.tasks

-- ---- a worker that can take a step

-- what the tasks ask
pub tasks_fit : {c : Setup} {s : State} {w : ℕ} → Fit c s w → T.Fit c.workers c.tasks s.tasks s.stand w
tasks_fit fit =
    record {
      sized = record { workers = fit.sized.workers; tasks = fit.sized.tasks; each = fit.sized.accesses };
      worker = fit.worker;
      kept = fit.kept;
      mails = fit.mails;
    }

module _ {m : Memory} {own : List ℕ} {w : ℕ} (a : Able m own w) where
  -- for the tasks, their part of the share being lent
  abbrev pub tasks_able : {lent : List ℕ} → part own ≡ lent → T.Able (T.memory m.counts.tally m.rows m.accesses) lent w
  tasks_able is =
      record {
        W = a.c.workers;
        ts = a.c.tasks;
        t = a.s.tasks;
        st = a.s.stand;
        parts = λ v. part (a.shares v);
        lent = ap part a.lent ∙ is;
        long = a.long.tasks;
        holds = a.holds.tasks;
        fit = tasks_fit a.fit;
      }

  pub own_stored : Stored (part own) (a.s.stand w) (a.s.tasks.mail w) (a.s.tasks.adds w)
  own_stored = rw a.lent at (a.holds.tasks.stored w a.fit.worker)

  pub own_stationed : Stationed (station own) (a.s.place w) (a.s.queue w)
  own_stationed = rw a.lent at (a.holds.device.stationed w a.fit.worker)

  pub own_slotted : Slotted a.c.slots (station own) (a.s.place w)
  own_slotted = rw a.lent at (a.holds.device.slotted w a.fit.worker)

  pub own_long : length own ≡ share_size
  own_long = omega (arith, own_stored.long, own_stationed.long, length-take station_size own, length-drop station_size own)

  -- the sizes of the ring and of a queue
  pub slots_some : 0 < m.counts.slots
  slots_some = omega (arith, a.holds.device.slots, a.fit.sized.ring)

  pub slots_few : m.counts.slots ≤ most_slots
  slots_few = omega (arith, a.holds.device.slots, a.fit.sized.slots)

  pub capacity_few : m.counts.capacity ≤ queue_slots
  capacity_few = omega (arith, a.holds.device.capacity, a.fit.sized.capacity)
