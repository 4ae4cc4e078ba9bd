-- Where a worker stands with the lock, by its place; who leads it; and where the tasks stand that are ready, held or run.
use Rattle.std.specs.Prelude.{ℕ, ◌+◌, Bool, true, false, eqb}
use Rattle.std.proofs.Math.Option.{Option, none, some}
use Rattle.runs.specs.Sums.{sum}
use Rattle.runs.specs.Counts.{is, count}
use Rattle.lock.specs.Lock as L
use Rattle.lock.specs.History as LH
use Rattle.runs.specs.Searches.{last_below}
use Rattle.tasks.specs.Tasks.{in_hand, left_in_hand, to_add}
use Rattle.machine.specs.declared.Leader.{Leader}
use Rattle.machine.specs.declared.Leader.TheVariants.{Nobody, Owner, Due}
use Rattle.machine.specs.State.{Setup, Place, idle, trying, registering, looking, draining, serving, handing, leaving, State}

abbrev pub lock_stand : Place → LH.Stand
lock_stand idle = LH.out
lock_stand trying = LH.out
lock_stand (registering t) = LH.taken t
lock_stand (looking t) = LH.waiting t
lock_stand (draining p k) = LH.owning
lock_stand (serving n) = LH.owning
lock_stand (handing n) = LH.serving
lock_stand leaving = LH.owning

-- an owner: from the look or try that wins until it hands over and leaves
abbrev pub is_owner : LH.Stand → Bool
is_owner LH.out = false
is_owner (LH.taken t) = false
is_owner (LH.waiting t) = false
is_owner LH.owning = true
is_owner LH.serving = true

-- the owner of the lock; at most one worker is
unfoldable pub owner : Setup → State → Option ℕ
owner c s = last_below (λ w. is_owner (lock_stand (s.place w))) c.workers

-- a look that wins the lock: the ticket's turn has come, and the worker's cell doesn't hold it
abbrev pub wins : L.Look → Bool
wins L.not_yet = false
wins (L.receives i) = false
wins L.owns = true

-- worker w's turn has come and it hasn't looked, registered or not: a look with its ticket wins the lock. A worker whose cell holds its
-- ticket is served, and not due
abbrev pub is_due : ℕ → L.Lock → ℕ → LH.Stand → Bool
is_due N l w LH.out = false
is_due N l w (LH.taken t) = wins (L.look N l t w)
is_due N l w (LH.waiting t) = wins (L.look N l t w)
is_due N l w LH.owning = false
is_due N l w LH.serving = false

-- the worker that is due; at most one is
unfoldable pub due : Setup → State → Option ℕ
due c s = last_below (λ w. is_due c.slots s.lock w (lock_stand (s.place w))) c.workers

-- its owner; where nobody owns, the worker that is due; else nobody
abbrev pub leads : Option ℕ → Option ℕ → Leader
leads (some w) due = Owner w
leads none (some w) = Due w
leads none none = Nobody

abbrev pub leader : Setup → State → Leader
leader c s = leads (owner c s) (due c s)

-- 1 where a cell with this ticket and task holds task i with the ticket t
unfoldable pub boxed : ℕ → ℕ → ℕ → ℕ → ℕ
boxed i t ticket task = elim (eqb ticket t) [ true ↦ is task i | false ↦ 0 ]

-- 1 where task i is in the cell of a worker, with the ticket with which the worker now waits
abbrev pub in_cell : ℕ → LH.Stand → ℕ → ℕ → ℕ
in_cell i LH.out ticket task = 0
in_cell i (LH.taken t) ticket task = 0
in_cell i (LH.waiting t) ticket task = boxed i t ticket task
in_cell i LH.owning ticket task = 0
in_cell i LH.serving ticket task = 0

module _ (c : Setup) (s : State) (i : ℕ) where
  -- in the queues and the ready list, in the cells, in the workers' hands
  abbrev pub stored : ℕ
  stored = sum c.workers (λ w. count i (s.queue w)) + count i s.ready_list

  abbrev pub boxes : ℕ
  boxes = sum c.workers (λ w. in_cell i (lock_stand (s.place w)) (s.lock.cell_ticket w) (s.lock.cell_task w))

  abbrev pub hands : ℕ
  hands = sum c.workers (λ w. in_hand i (s.stand w))

  -- the steps of work that are left of it there
  abbrev pub left_in_hands : ℕ
  left_in_hands = sum c.workers (λ w. left_in_hand i (s.stand w))

  -- in how many places task i stands
  abbrev pub places : ℕ
  places = to_add c.workers s.tasks.adds i + stored + boxes + hands
