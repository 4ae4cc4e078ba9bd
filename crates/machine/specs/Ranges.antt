-- Which numbers a pick meets in the state, and what room it needs: all that a layout in arrays of 64-bit numbers rests on.
use Rattle.std.specs.Prelude.{ℕ, ◌^◌, ◌≤◌, ◌<◌, length}
use Rattle.std.proofs.Math.Path.{◌≡◌}
use Rattle.std.proofs.Math.Option.{some}
use Rattle.runs.specs.Counts.{count}
use Rattle.lock.specs.Lock as L
use Rattle.plan.specs.Accepted.{MaskFormed}
use Rattle.tasks.specs.Accesses.{task_at}
use Rattle.tasks.specs.Playing as P
use Rattle.machine.specs.State.{Setup, Place, idle, trying, registering, looking, draining, serving, handing, leaving, State}
use Rattle.machine.specs.Event.{Handed, handed_by, event}
use Rattle.machine.specs.Step.{task_op, apply}
use Rattle.machine.specs.Safety.Device.{Tasked}
use Rattle.machine.specs.Safety.Bounds.{Roomy}
use Rattle.machine.specs.Safety.Invariant.{Inv}
pub use Rattle.machine.specs.Safety.Bounds.{Small}

-- the sizes that the layout has room for
pub record Sized (c : Setup) : Type 0 where
  pub workers : c.workers ≤ 32
  pub ring : 0 < c.slots
  pub slots : c.slots ≤ 64
  pub capacity : c.capacity ≤ 16
  pub tasks : length c.tasks ≤ 128
  pub accesses : (i : ℕ) → length (task_at c.tasks i).accesses ≤ 4
  pub masks : (i : ℕ) → i < length c.tasks → MaskFormed c.workers (task_at c.tasks i).mask

-- the numbers of a place
abbrev pub Within : Setup → Place → Type 0
Within c idle = Unit {0}
Within c trying = Unit {0}
Within c (registering t) = t < 2 ^ 43
Within c (looking t) = t < 2 ^ 43
Within c (draining p k) = k < c.workers
Within c (serving n) = n < c.workers
Within c (handing n) = n < c.workers
Within c leaving = Unit {0}

-- worker w does what it does where it stands
abbrev pub acted : Setup → State → ℕ → State
acted c s w = apply c s w (event c s w)

-- what a step of worker w meets, in a state in which its pick is counted
pub record Fit (c : Setup) (s : State) (w : ℕ) : Type 0 where
  pub sized : Sized c
  pub worker : w < c.workers
  -- the tasks' promise holds, and the operation that the event is may be done
  pub kept : Tasked c s.tasks s.stand
  pub may : P.May c.workers c.tasks s.tasks (s.stand w) w (task_op (event c s w))
  pub mails : (v : ℕ) → length (s.tasks.mail v) ≤ 4
  -- numbers
  pub picks : s.picks < 2 ^ 43
  pub head : s.lock.head < 2 ^ 43
  pub tail : s.lock.tail ≤ 2 ^ 43
  pub place : Within c (s.place w)
  -- the ready tasks, the front waiter, and the task that it finds in its cell when it is let in
  pub ready : (i : ℕ) → 0 < count i s.ready_list → i < length c.tasks
  pub ready_few : length s.ready_list ≤ 128
  pub front : (v : ℕ) → L.front c.slots s.lock ≡ some v → v < c.workers
  pub handed : (h : Handed) → handed_by c s w ≡ some h → h.task < length c.tasks
  -- queues within their capacity, and room for what the step adds to the ready list
  pub queues : (v : ℕ) → length (s.queue v) ≤ c.capacity
  pub room_ready : length (acted c s w).ready_list ≤ 128

-- ---- every state that picks lead to fits

-- what every pick keeps, and all that `Fit` asks of a state but the number of picks
pub record Going (c : Setup) (s : State) : Type 0 where
  pub inv : Inv c s
  pub bounds : Roomy c s
  pub mails : (u : ℕ) → length (s.tasks.mail u) ≤ 4
  pub small : Small c s
