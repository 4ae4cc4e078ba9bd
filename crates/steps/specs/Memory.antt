-- A state of the machine in memory, by its three parts: the lock, the tasks, and where the device keeps what it was given.
use Rattle.std.specs.Prelude.{ℕ, zero, suc, ◌+◌, ◌*◌, ◌-◌, ◌%◌, ◌<◌, ◌≡◌, List, length, get_or, set, take, drop}
use Rattle.std.specs.Prelude as rust
use Rattle.std.proofs.Math.Option.{Option}
use Rattle.runs.specs.Update.{upd}
use Rattle.lock.specs.Arrays.{lock_of}
use Rattle.lock.specs.declared.Ends.{Ends}
use Rattle.runs.specs.Circular.{entries}
use Rattle.plan.specs.Plan.{Task}
use Rattle.plan.specs.PermitLaws.{mask_of}
use Rattle.tasks.specs.Accesses.{task_at}
use Rattle.memory.specs.Layout as layout
use Rattle.memory.specs.Codes.{option_of}
use Rattle.memory.specs.Memory as T
use Rattle.memory.specs.declared.rows.TaskRow.{TaskRow}
use Rattle.memory.specs.declared.rows.AccessRow.{AccessRow}
use Rattle.memory.specs.declared.tally.Tally.{Tally}
use Rattle.machine.specs.State.{Setup, Place, idle, trying, registering, looking, draining, serving, handing, leaving, State}
use Rattle.machine.specs.Ranges.{Fit, acted}
use Rattle.steps.specs.Layout.{share_size, station_size, place_at, number_at, queued_at, slot_at, queue_from, queue_slots, most_workers, most_slots, READY}
use Rattle.steps.specs.Codes.{Coded}
use Rattle.steps.specs.declared.Counts.{Counts}
use Rattle.steps.specs.declared.device.Device.{Device}

-- each share starts where the one before ended
unfoldable pub share : List ℕ → ℕ → List ℕ
share store w = take share_size (drop (w * share_size) store)

-- the device's part of a share, and the tasks'
abbrev pub station : List ℕ → List ℕ
station own = take station_size own

abbrev pub part : List ℕ → List ℕ
part own = drop station_size own

pub record Stationed (own : List ℕ) (p : Place) (q : List ℕ) : Type 0 where
  pub long : length own ≡ station_size
  pub place : Coded (get_or own place_at 0) (get_or own number_at 0) p
  pub queue : entries (λ k. get_or own (queue_from + k) 0) queue_slots 0 (get_or own queued_at 0) ≡ q

-- who waits with a ticket that is registered has its slot beside it
abbrev pub Slotted : ℕ → List ℕ → Place → Type 0
Slotted slots own idle = Unit {0}
Slotted slots own trying = Unit {0}
Slotted slots own (registering t) = Unit {0}
Slotted slots own (looking t) = get_or own slot_at 0 ≡ t % slots
Slotted slots own (draining p k) = Unit {0}
Slotted slots own (serving n) = Unit {0}
Slotted slots own (handing n) = Unit {0}
Slotted slots own leaving = Unit {0}

-- the device's part with another place, with one more task in its queue, and with none
abbrev pub moved : List ℕ → ℕ → ℕ → List ℕ
moved own place number = set (set own place_at place) number_at number

abbrev pub pushed : List ℕ → ℕ → List ℕ
pushed own task = set (set own (queue_from + get_or own queued_at 0) task) queued_at (get_or own queued_at 0 + 1)

abbrev pub emptied : List ℕ → List ℕ
emptied own = set own queued_at 0

-- the ready list, its oldest task in slot `at`, with the first k tasks of a queue behind its n tasks
unfoldable pub drained : List ℕ → List ℕ → ℕ → ℕ → ℕ → List ℕ
drained own ready at n zero = ready
drained own ready at n (suc k) = set (drained own ready at n k) ((at + n + k) % READY) (get_or own (queue_from + k) 0)

-- what the workers share; each worker lies in its share of the store
pub record Memory : Type 0 where
  pub counts : Counts
  pub wait : List ℕ
  pub registrations : List ℕ
  pub tickets : List ℕ
  pub cells : List ℕ
  pub device : Device
  pub rows : List TaskRow
  pub accesses : List AccessRow

-- what the device keeps has its lengths
pub record LongDevice (device : Device) : Type 0 where
  pub ready : length device.ready ≡ READY
  pub givers : length device.givers ≡ layout.most_tasks
  pub masks : length device.masks ≡ layout.most_tasks

pub record Long (m : Memory) : Type 0 where
  pub wait : length m.wait ≡ most_slots
  pub registrations : length m.registrations ≡ most_slots
  pub tickets : length m.tickets ≡ most_workers
  pub cells : length m.cells ≡ most_workers
  pub device : LongDevice m.device
  pub tasks : T.Long (T.memory m.counts.tally m.rows m.accesses)

-- the memory with other numbers and another content of what is named
abbrev pub with_tasks : Memory → Counts → List TaskRow → List AccessRow → Memory
with_tasks m n rows accesses =
    record {
      counts = n;
      wait = m.wait;
      registrations = m.registrations;
      tickets = m.tickets;
      cells = m.cells;
      device = m.device;
      rows = rows;
      accesses = accesses;
    }

abbrev pub with_counts : Memory → Counts → Memory
with_counts m n = with_tasks m n m.rows m.accesses

abbrev pub with_tally : Counts → Tally → Counts
with_tally n tally =
    record {
      ends = n.ends;
      workers = n.workers;
      slots = n.slots;
      capacity = n.capacity;
      ready_at = n.ready_at;
      ready = n.ready;
      picks = n.picks;
      tally = tally;
    }

abbrev pub with_ends : Counts → Ends → Counts
with_ends n ends =
    record {
      ends = ends;
      workers = n.workers;
      slots = n.slots;
      capacity = n.capacity;
      ready_at = n.ready_at;
      ready = n.ready;
      picks = n.picks;
      tally = n.tally;
    }

-- the numbers with one ready task less: the oldest is one slot further
abbrev pub one_taken : Counts → Counts
one_taken n =
    record {
      ends = n.ends;
      workers = n.workers;
      slots = n.slots;
      capacity = n.capacity;
      ready_at = (n.ready_at + 1) % READY;
      ready = n.ready - 1;
      picks = n.picks;
      tally = n.tally;
    }

-- by task, its giver, if it has one
abbrev pub Given : ℕ → List (rust.Option ℕ) → (ℕ → Option ℕ) → Type 0
Given tasks givers giver = (i : ℕ) → i < tasks → get_or givers i rust.None ≡ option_of (giver i)

-- by task, its mask
abbrev pub Masked : ℕ → List Task → List ℕ → Type 0
Masked W tasks masks = (i : ℕ) → i < length tasks → get_or masks i 0 ≡ mask_of W (task_at tasks i).mask

-- the device's part
pub record HoldsDevice (c : Setup) (n : Counts) (device : Device) (stations : ℕ → List ℕ) (place : ℕ → Place) (queue : ℕ → List ℕ)
    (ready_list : List ℕ) (giver : ℕ → Option ℕ) : Type 0 where
  pub workers : n.workers ≡ c.workers
  pub slots : n.slots ≡ c.slots
  pub capacity : n.capacity ≡ c.capacity
  pub stationed : (v : ℕ) → v < c.workers → Stationed (stations v) (place v) (queue v)
  pub slotted : (v : ℕ) → v < c.workers → Slotted c.slots (stations v) (place v)
  pub ready_at_lem : n.ready_at < READY
  pub ready : entries (λ k. get_or device.ready k 0) READY n.ready_at n.ready ≡ ready_list
  pub givers : Given (length c.tasks) device.givers giver
  pub masks : Masked c.workers c.tasks device.masks

-- A state lies in this memory and these shares. What neither this nor `HoldsTasks` speaks of is left to the program: in the device's part
-- the numbers without a name, the slots behind the queue, the number of a place that speaks of none, and the noted slot where it doesn't
-- look; the slots of the ready list without a task; the givers and the masks past the last task; the shares past the last worker's. They
-- may be any numbers, before and after: what is held after a step does not depend on them.
pub record Holds (c : Setup) (m : Memory) (shares : ℕ → List ℕ) (s : State) : Type 0 where
  pub lock :
      lock_of c.slots m.counts.ends.head.0 m.counts.ends.tail.0 m.wait m.registrations m.tickets m.cells ≡ s.lock
  pub tasks : T.HoldsTasks c.workers c.tasks (T.memory m.counts.tally m.rows m.accesses) (λ v. part (shares v)) s.tasks
      s.stand
  pub device : HoldsDevice c m.counts m.device (λ v. station (shares v)) s.place s.queue s.ready_list s.giver
  pub picks : m.counts.picks ≡ s.picks

-- a step of worker w, its share being `own`, can be taken
pub record Able (m : Memory) (own : List ℕ) (w : ℕ) : Type 0 where
  pub c : Setup
  pub s : State
  pub shares : ℕ → List ℕ
  pub lent : shares w ≡ own
  pub long : Long m
  pub holds : Holds c m shares s
  pub fit : Fit c s w

-- the step of worker w leads from one memory and share to another
abbrev pub Acts : Memory → List ℕ → Memory → List ℕ → ℕ → Type 0
Acts m own n next w =
    (c : Setup) (s : State) (shares : ℕ → List ℕ) → shares w ≡ own → Long m → Holds c m shares s → Fit c s w
    → Holds c n (upd shares w next) (acted c s w)
