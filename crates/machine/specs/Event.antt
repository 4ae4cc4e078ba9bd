-- What the picked worker does: it depends on where it stands.
use Rattle.std.specs.Prelude.{ℕ, ◌-◌, Bool, true, false, List, [], ◌∷◌, length, eqb, ltb}
use Rattle.std.proofs.Math.Option.{Option, none, some}
use Rattle.lock.specs.Lock as L
use Rattle.plan.specs.Permits.{permits}
use Rattle.tasks.specs.Accesses.{task_at}
use Rattle.tasks.specs.History.{Duty}
use Rattle.tasks.specs.Duties.{duty, creating}
use Rattle.machine.specs.State.{Setup, Purpose, Place, idle, trying, registering, looking, draining, serving, handing, leaving, State}
use Rattle.machine.specs.Ready.{Choice, nothing, chosen, choose}

-- a task that a hand-over gives to its taker: by whom and to whom
pub record Handed : Type 0 where
  pub by : ℕ
  pub to : ℕ
  pub task : ℕ

pub data Event : Type 0 where
  -- it does what it has to do with the tasks, whatever the device: it creates, delivers, gives a notice, works or ends
  minds : Duty → Event
  -- it pushes its oldest task to add; those left
  pushes : (task : ℕ) → List ℕ → Event
  finds_full : Event
  -- it tries the lock and owns it, or it is not free
  tries_and_owns : Event
  tries_in_vain : Event
  takes_ticket : Event
  registers : (ticket : ℕ) → Event
  -- it looks: not its turn yet, a task in its cell, or the lock is its own
  waits : Event
  receives : (ticket task : ℕ) → Event
  owns : (ticket : ℕ) → Event
  drains : Purpose → (queue : ℕ) → Event
  -- with so many served it fills the cell of a worker with the first ready task that this one may run; the others
  fills : (served worker task : ℕ) → List ℕ → Event
  -- it takes the first ready task that it may run for itself, or none; the others
  takes : (task : ℕ) → List ℕ → Event
  takes_none : Event
  -- it hands over, and stays or leaves; the task that this gives to its taker, if any
  hands_over : (served : ℕ) → Option Handed → Event
  leaves : Option Handed → Event

-- how many an owner serves in one session at the most
abbrev pub most_served : Setup → ℕ
most_served c = c.workers - 1

-- worker w may run task i
abbrev pub may : Setup → ℕ → ℕ → Bool
may c w i = permits (task_at c.tasks i) w

-- what there is to create comes before a ticket
abbrev pub creating_first : Option Duty → Event
creating_first none = takes_ticket
creating_first (some d) = minds d

-- what a session gives to the worker that it lets in, by what this worker sees when it looks
abbrev pub found : ℕ → ℕ → L.Look → Option Handed
found by to L.not_yet = none
found by to (L.receives i) = some (record { by = by; to = to; task = i })
found by to L.owns = none

-- by the lock's answer to a hand-over: the task that the worker let in finds in its cell, if any
unfoldable pub handed : ℕ → L.Lock → L.Told → Option Handed
handed N l told = elim told.let_in [ none ↦ none | some v ↦ found told.by v (L.look N (L.hand_over N l) l.tail v) ]

module _ (c : Setup) (s : State) where
  -- what worker w's hand-over gives
  abbrev pub handed_by : ℕ → Option Handed
  handed_by w = handed c.slots s.lock (L.tells c.slots s.lock w)

  -- notice, work and mailbox before adding, adding before creating or taking a ticket; worker 0 creates the tasks
  unfoldable pub idling : ℕ → Option Duty → List ℕ → Event
  idling w (some d) is = minds d
  idling w none (i ∷ is) = elim (ltb (length (s.queue w)) c.capacity) [ true ↦ pushes i is | false ↦ finds_full ]
  idling w none [] = elim (eqb w 0) [ true ↦ creating_first (creating c.tasks s.tasks.creation) | false ↦ takes_ticket ]

  -- the first ready task that worker w may run
  abbrev pub choice : ℕ → Choice
  choice w = choose (may c w) s.ready_list

  -- an owner takes it for itself
  abbrev pub taking : Choice → Event
  taking nothing = takes_none
  taking (chosen i is) = takes i is

  -- worker w serves waiter v with what v may run; where there is nothing, it stops serving
  abbrev pub serving_with : ℕ → ℕ → ℕ → Choice → Event
  serving_with w n v nothing = taking (choice w)
  serving_with w n v (chosen i is) = fills n v i is

  -- a registered front waiter exists, fewer than W - 1 were served, and a task is ready that it may run: serve, else take
  unfoldable pub serving_or_taking : ℕ → ℕ → Option ℕ → Event
  serving_or_taking w n none = taking (choice w)
  serving_or_taking w n (some v) = elim (ltb n (most_served c)) [ true ↦ serving_with w n v (choice v) | false ↦ taking (choice w) ]

  abbrev pub seeing : ℕ → L.Look → Event
  seeing t L.not_yet = waits
  seeing t (L.receives i) = receives t i
  seeing t L.owns = owns t

  unfoldable pub standing_at : ℕ → Place → Event
  standing_at w idle = idling w (duty (s.stand w) (s.tasks.mail w)) (s.tasks.adds w)
  standing_at w trying = elim (L.is_free s.lock) [ true ↦ tries_and_owns | false ↦ tries_in_vain ]
  standing_at w (registering t) = registers t
  standing_at w (looking t) = seeing t (L.look c.slots s.lock t w)
  standing_at w (draining p k) = drains p k
  standing_at w (serving n) = serving_or_taking w n (L.front c.slots s.lock)
  standing_at w (handing n) = hands_over n (handed_by w)
  standing_at w leaving = leaves (handed_by w)

  abbrev pub event : ℕ → Event
  event w = standing_at w (s.place w)
