-- The lock's promise, for every ring size N from the number W of workers on. A client cites these sentences, and opens nothing.
use Rattle.std.specs.Prelude.{◌≡◌, ◌⊎◌, ◌≢◌, ◌↔◌, true, false, ℕ, suc, ◌+◌, ◌-◌, ◌%◌, ◌≤◌, ◌<◌, length}
use Rattle.std.proofs.Math.Path.{refl}
use Rattle.std.proofs.Math.Option.{none, some}
use mathlib.Core.List.{List, [], ◌∷◌, ◌++◌, Memᴰ}
use Rattle.std.proofs.Common.{arith}
use Rattle.runs.specs.Update.{upd}
use Rattle.lock.specs.Lock as lock
use Rattle.lock.specs.Lock.{Lock, EMPTY, start, turn, join, worker_in, distance, front, tells, is_free, not_yet, receives, owns, look}
use Rattle.lock.specs.History.{Stand, out, taken, waiting, owning, serving, Op, take, register, own, receive, fill, pass, leave, try}
use Rattle.lock.specs.History.{Can, after, stand_after, hands_over, takes, registers, fills, Move, hand_overs, Run, History}
use Rattle.lock.specs.History.{Holds, Owner, Served, Due, Called, InCell}
use Rattle.lock.proofs.Inside.Looks as Looks
use Rattle.lock.specs.Inside.Invariant.{Inv}
use Rattle.lock.proofs.Inside.Facts as Facts
use Rattle.lock.proofs.Inside.Keeps as Keeps
use Rattle.lock.proofs.Inside.Laws as Laws
use Rattle.lock.proofs.Inside.Changes as Changes
use Rattle.lock.proofs.Inside.Histories as Histories

-- what every history of the operations keeps, of the lock and of where the workers stand; nobody else can open it or make one
pub record Kept (W N : ℕ) (l : Lock) (st : ℕ → Stand) : Type 0 where
  inv : Inv W N l st

-- who leads the lock
pub data Leader (W : ℕ) (l : Lock) (st : ℕ → Stand) : Type 0 where
  nobody : is_free l ≡ true → Leader W l st
  called : (w : ℕ) → w < W → Called l st w → Leader W l st
  owner : (w : ℕ) → w < W → Owner (st w) → Leader W l st

-- ---- the start

-- the lock is kept as soon as the ring has a slot for each worker
pub kept_start : (W N : ℕ) → 0 < W → W ≤ N → Kept W N (start N) (λ _. out)
kept_start W N any fits = record { inv = Keeps.starts W N any fits }

-- the first ticket is N, and it is let in already
pub start_ends : (N : ℕ) → ((start N).head ≡ N) × ((start N).tail ≡ suc N)
unfolding start
start_ends N = (refl, refl)

-- every wait slot holds N, and no slot a registration
pub start_slots : (N k : ℕ) → ((start N).wait k ≡ N) × ((start N).registration k ≡ EMPTY)
unfolding start
start_slots N k = (refl, refl)

-- the cells are empty
pub start_cells : (N v : ℕ) → ((start N).cell_ticket v ≡ EMPTY) × ((start N).cell_task v ≡ EMPTY)
unfolding start
start_cells N v = (refl, refl)

-- the lock is free
pub start_free : (N : ℕ) → is_free (start N) ≡ true
start_free N = Laws.free_at_start N

-- ---- every operation keeps it

pub kept_after : {W N : ℕ} {l : Lock} {st : ℕ → Stand} → Kept W N l st → (w : ℕ) → w < W → (op : Op) → Can N l (st w) w op
    → Kept W N (after N l w op) (upd st w (stand_after l op))
kept_after k w h op can = record { inv = Keeps.keeps k.inv w h can }

module _ {W N : ℕ} {l : Lock} {st : ℕ → Stand} (k : Kept W N l st) where
  pub kept_sizes : (0 < W) × (W ≤ N)
  kept_sizes = k.inv.sizes

  -- ---- tickets

  -- a ticket that is held was given
  pub ticket_given : (w t : ℕ) → Holds (st w) t → (N ≤ t) × (t < l.head)
  ticket_given = Laws.ticket_given k.inv

  -- no two workers hold one ticket
  pub ticket_one : (v w t : ℕ) → Holds (st v) t → Holds (st w) t → v ≡ w
  ticket_one = Laws.ticket_one k.inv

  -- each ticket from the tail on that was given is held by a worker
  pub ticket_each : (t : ℕ) → l.tail ≤ t → t < l.head → (w : ℕ) × (w < W) × Holds (st w) t
  ticket_each = Laws.ticket_each k.inv

  -- a ticket that isn't registered is newer than what the worker's cell holds
  pub ticket_new : (w t : ℕ) → st w ≡ taken t → l.cell_ticket w < t
  ticket_new = Laws.ticket_new k.inv

  -- only workers below W have to do with the lock
  pub worker_below : (w : ℕ) → st w ≢ out → w < W
  worker_below = Laws.worker_below k.inv

  pub holder_below : (w t : ℕ) → Holds (st w) t → w < W
  holder_below = Laws.holder_below k.inv

  -- ---- head and tail

  -- the tail is past the first ticket, and past the head by at most one
  pub ends : (N < l.tail) × (l.tail ≤ suc l.head)
  ends = Laws.ends k.inv

  -- at most W tickets from the newest below the tail on
  pub ends_near : suc l.head ≤ l.tail + W
  ends_near = Laws.ends_near k.inv

  -- the lock is free exactly when the tail is one past the head
  pub free_iff : (is_free l ≡ true) ↔ (l.tail ≡ suc l.head)
  free_iff = Laws.free_iff k.inv

  pub busy_iff : (is_free l ≡ false) ↔ (l.tail ≤ l.head)
  busy_iff = Laws.busy_iff k.inv

  -- ---- turns

  -- a ticket's turn has come exactly when it is below the tail
  pub turn_below : (t : ℕ) → N ≤ t → (turn N l t ≡ true) ↔ (t < l.tail)
  turn_below = Laws.turn_below k.inv

  -- the tail was `from` and `hands` hand-overs have come since: it has come exactly when these are at least the ticket's distance then
  pub turn_hands : (t from hands : ℕ) → N ≤ t → l.tail ≡ from + hands → (turn N l t ≡ true) ↔ (suc t - from ≤ hands)
  turn_hands = Laws.turn_hands k.inv

  -- the distance of a ticket that its worker is about to register loses nothing by the subtraction, and is below W
  pub distance_whole : (w t : ℕ) → st w ≡ taken t → (distance l t + l.tail ≡ suc t) × (distance l t < W)
  distance_whole = Laws.distance_whole k.inv

  -- ---- looks

  -- a waiting worker is told to wait on exactly when its ticket is not below the tail
  pub look_early : (w t : ℕ) → st w ≡ waiting t → (look N l t w ≡ not_yet) ↔ (l.tail ≤ t)
  look_early = Laws.look_early k.inv

  -- it receives exactly when its turn has come and its cell holds its ticket
  pub look_served : (w t : ℕ) → st w ≡ waiting t → (j : ℕ)
      → (look N l t w ≡ receives j) ↔ ((t < l.tail) × (l.cell_ticket w ≡ t) × (l.cell_task w ≡ j))
  look_served = Laws.look_served k.inv

  -- it owns exactly when its turn has come and its cell doesn't hold its ticket
  pub look_called : (w t : ℕ) → st w ≡ waiting t → (look N l t w ≡ owns) ↔ ((t < l.tail) × (l.cell_ticket w ≢ t))
  look_called = Laws.look_called k.inv

  -- ---- who leads

  -- nobody, and the lock is free; or a worker is called to own it; or a worker owns it
  pub leader : Leader W l st
  leader = Laws.leader k.inv nobody called owner

  -- while the lock is free nobody owns it, and who has a ticket waits with it, its turn has come and it is served
  pub free_lock : is_free l ≡ true
      → ((v : ℕ) → Owner (st v) → ⊥) × ((v t : ℕ) → Holds (st v) t → (st v ≡ waiting t) × (t < l.tail) × (l.cell_ticket v ≡ t))
  free_lock = Laws.free_lock k.inv

  -- while nobody owns and a worker is called, the lock isn't free, and whose turn has come is served, but for that worker
  pub called_lock : (w : ℕ) → Called l st w
      → (l.tail ≤ l.head) × ((v : ℕ) → Owner (st v) → ⊥) × ((v : ℕ) → v ≢ w → Served l st v)
  called_lock = Laws.called_lock k.inv

  -- while a worker owns, whose turn has come is served
  pub owned_lock : (w : ℕ) → Owner (st w) → (l.tail ≤ l.head) × ((v : ℕ) → Served l st v)
  owned_lock = Laws.owned_lock k.inv

  -- at most one worker owns
  pub one_owner : (v w : ℕ) → Owner (st v) → Owner (st w) → v ≡ w
  one_owner = Laws.one_owner k.inv

  -- while nobody owns and the lock isn't free, exactly one worker's turn has come that is not served, and it is called
  pub one_due : is_free l ≡ false → ((v : ℕ) → Owner (st v) → ⊥)
      → (w : ℕ) × (w < W) × Called l st w × ((v : ℕ) → Due l st v → v ≡ w)
  one_due = Laws.one_due k.inv

  -- who waits: its turn has not come, or it is served, or it is called
  pub waits : (w t : ℕ) → st w ≡ waiting t
      → (l.tail ≤ t) ⊎ ((t < l.tail) × InCell l st w t (l.cell_task w)) ⊎ ((suc t ≡ l.tail) × (l.cell_ticket w ≢ t))
  waits = Laws.waits k.inv

  -- ---- slots and laps

  -- the given tickets from the newest below the tail on have each a slot of its own
  pub slot_one : (s t : ℕ) → l.tail ≤ suc s → s < l.head → l.tail ≤ suc t → t < l.head → s % N ≡ t % N → s ≡ t
  slot_one = Laws.slot_one k.inv

  -- the slot of a ticket that was not let in has the registration of a worker with it exactly while that worker waits with it
  pub registered_iff : (t : ℕ) → l.tail ≤ t → (v : ℕ) → (l.registration (t % N) ≡ join t v) ↔ ((v < W) × (st v ≡ waiting t))
  registered_iff = Laws.registered_iff k.inv

  -- and while nobody does, what stands there is below the ticket: a registration of an earlier lap, or none
  pub unregistered_iff : (t : ℕ) → l.tail ≤ t → (l.registration (t % N) < t) ↔ ((v : ℕ) → st v ≢ waiting t)
  unregistered_iff = Laws.unregistered_iff k.inv

  -- ---- the front waiter

  -- it is exactly the worker that waits with the tail: no registration of an earlier lap is taken for a waiter
  pub front_iff : (v : ℕ) → (front N l ≡ some v) ↔ ((v < W) × (st v ≡ waiting l.tail))
  front_iff = Laws.front_iff k.inv

  pub front_none_iff : (front N l ≡ none) ↔ ((v : ℕ) → st v ≢ waiting l.tail)
  front_none_iff = Laws.front_none_iff k.inv

  -- it can do nothing of its own
  pub front_still : (v : ℕ) → front N l ≡ some v → (op : Op) → Can N l (st v) v op → ⊥
  front_still = Changes.front_still k.inv

  -- ---- what a hand-over tells

  -- it lets in exactly the worker that waits with the tail, and nobody exactly when none is registered with it
  pub told_iff : (w v : ℕ) → ((tells N l w).let_in ≡ some v) ↔ ((v < W) × (st v ≡ waiting l.tail))
  unfolding tells
  told_iff w = front_iff

  pub told_nobody_iff : (w : ℕ) → ((tells N l w).let_in ≡ none) ↔ ((v : ℕ) → st v ≢ waiting l.tail)
  unfolding tells
  told_nobody_iff w = front_none_iff

  -- whom it lets in is who waits with a ticket whose turn comes by it: it had not come before, and has come after
  pub told_turn : (w : ℕ) (op : Op) → hands_over op ≡ 1 → (v : ℕ)
      → ((tells N l w).let_in ≡ some v)
      ↔ ((v < W) × (t : ℕ) × (st v ≡ waiting t) × (turn N l t ≡ false) × (turn N (after N l w op) t ≡ true))
  unfolding tells
  told_turn = Changes.front_turn k.inv

  -- the session is that of the owner, and there is no other owner
  pub told_owner : (w : ℕ) (op : Op) → Can N l (st w) w op → hands_over op ≡ 1
      → Owner (st w) × ((v : ℕ) → Owner (st v) → v ≡ (tells N l w).by)
  unfolding tells
  told_owner w op can one = let owner = (Changes.hands_stand can one).0 in (owner, λ v o. one_owner v w o owner)

  -- ---- cells

  -- what lies in the cell of a waiting worker is received as soon as its turn has come, and not before
  pub cell_look : (v t j : ℕ) → InCell l st v t j → (t < l.tail → look N l t v ≡ receives j) × (l.tail ≤ t → look N l t v ≡ not_yet)
  cell_look = Laws.cell_look k.inv

  -- no other cell holds its ticket
  pub cell_one : (u v t j : ℕ) → InCell l st v t j → l.cell_ticket u ≡ t → u ≡ v
  cell_one = Laws.cell_one k.inv

  -- an owner that serves has filled the cell of the front waiter
  pub serving_cell : (w : ℕ) → st w ≡ serving → (v : ℕ) × (v < W) × InCell l st v l.tail (l.cell_task v)
  serving_cell = Laws.serving_cell k.inv

  -- before that no cell holds the tail
  pub owning_cells : (w : ℕ) → st w ≡ owning → (v : ℕ) → l.cell_ticket v < l.tail
  owning_cells = Laws.owning_cells k.inv

  -- a cell that holds a ticket whose turn has not come was filled by an owner that has not handed over yet
  pub cell_early : (v : ℕ) → l.tail ≤ l.cell_ticket v → (w : ℕ) × (w < W) × (st w ≡ serving)
  cell_early = Laws.cell_early k.inv

  -- a task that is put into the front waiter's cell lies there under its ticket
  pub cell_filled : (w v j : ℕ) → st w ≡ owning → front N l ≡ some v → InCell (after N l w (fill v j)) (upd st w serving) v l.tail j
  cell_filled = Changes.cell_filled k.inv

  -- what lies in a waiting worker's cell stays there until that worker receives it
  pub cell_stays : (w v t j : ℕ) → InCell l st v t j → (op : Op) → Can N l (st w) w op
      → ((w ≡ v) × (op ≡ receive t j)) ⊎ InCell (after N l w op) (upd st w (stand_after l op)) v t j
  cell_stays w v t j inside op can = Changes.cell_stays k.inv w v t j inside can

  -- ---- what each operation changes: turns and the front waiter

  -- turns come by hand-overs alone
  pub turn_after : (w : ℕ) (op : Op) (t : ℕ) → N ≤ t → (turn N (after N l w op) t ≡ true) ↔ (t < l.tail + hands_over op)
  turn_after = Changes.turn_after k.inv

  -- the front waiter stays that until a hand-over
  pub front_stays : (w : ℕ) → w < W → (op : Op) → Can N l (st w) w op → hands_over op ≡ 0
      → (v : ℕ) → front N l ≡ some v → front N (after N l w op) ≡ some v
  front_stays w h op can = Changes.front_stays k.inv w h can

  -- without a hand-over nobody becomes it but who registers with the tail
  pub front_comes : (w : ℕ) → w < W → (op : Op) → Can N l (st w) w op → hands_over op ≡ 0
      → (v : ℕ) → front N (after N l w op) ≡ some v → (front N l ≡ some v) ⊎ ((v ≡ w) × (op ≡ register l.tail))
  front_comes w h op can = Changes.front_comes k.inv w h can

  -- and that worker does
  pub front_registered : (w : ℕ) → w < W → st w ≡ taken l.tail → front N (after N l w (register l.tail)) ≡ some w
  front_registered = Changes.front_registered k.inv

  -- after a hand-over it is who waits with the next ticket
  pub front_handed : (w : ℕ) → w < W → (op : Op) → Can N l (st w) w op → hands_over op ≡ 1
      → (v : ℕ) → (front N (after N l w op) ≡ some v) ↔ ((v < W) × (st v ≡ waiting (suc l.tail)))
  front_handed w h op can = Changes.front_handed k.inv w h can

-- ---- of every lock, kept or not

-- who holds a ticket holds one, and an owner holds none
pub holds_one : {x : Stand} {s t : ℕ} → Holds x s → Holds x t → s ≡ t
holds_one = Laws.holds_one

pub owner_none : {x : Stand} {t : ℕ} → Owner x → Holds x t → ⊥
owner_none = Facts.no_ticket

-- a registration is a sum, and the worker comes out of it again
pub joined : (t w : ℕ) → join t w ≡ t + w
unfolding join
joined t w = refl

pub worker_joined : (t w : ℕ) → worker_in (join t w) t ≡ w
unfolding join worker_in
worker_joined t w = omega arith

-- whom a hand-over lets in is the front waiter, and it was the session of the worker that handed over
pub told_front : (N : ℕ) (l : Lock) (w : ℕ) → (tells N l w).let_in ≡ front N l
unfolding tells
told_front N l w = refl

pub told_by : (N : ℕ) (l : Lock) (w : ℕ) → (tells N l w).by ≡ w
unfolding tells
told_by N l w = refl

-- no registration of an earlier lap is told, in a ring that has a slot for each worker
pub told_lap : (W N : ℕ) → W ≤ N → (l : Lock) (w t v : ℕ) → t < l.tail → t % N ≡ l.tail % N → v < W
    → l.registration (l.tail % N) ≡ join t v → (tells N l w).let_in ≡ none
unfolding tells
told_lap W N fits l w t v old slot below e = Looks.front_lap N l t v old slot (omega arith) e

-- who receives has a cell with its ticket, and who owns has none
pub look_received : (N : ℕ) (l : Lock) (t w j : ℕ) → look N l t w ≡ receives j → (l.cell_ticket w ≡ t) × (l.cell_task w ≡ j)
look_received = Laws.look_received

pub look_owned : (N : ℕ) (l : Lock) (t w : ℕ) → look N l t w ≡ owns → l.cell_ticket w ≢ t
look_owned = Laws.look_owned

-- a look wins the lock exactly when the ticket's turn has come and the worker's cell doesn't hold it; the worker need not be registered
pub look_wins : (N : ℕ) (l : Lock) (t w : ℕ) → (look N l t w ≡ owns) ↔ ((turn N l t ≡ true) × (l.cell_ticket w ≢ t))
look_wins = Laws.look_wins

module _ (N : ℕ) (l : Lock) (w : ℕ) where
  -- ---- what each operation is to the lock

  pub after_take : after N l w take ≡ lock.take_ticket l
  unfolding after
  after_take = refl

  pub after_register : (t : ℕ) → after N l w (register t) ≡ lock.register N l t w
  unfolding after
  after_register t = refl

  pub after_own : (t : ℕ) → after N l w (own t) ≡ l
  unfolding after
  after_own t = refl

  pub after_receive : (t j : ℕ) → after N l w (receive t j) ≡ l
  unfolding after
  after_receive t j = refl

  pub after_fill : (v j : ℕ) → after N l w (fill v j) ≡ lock.fill l v j
  unfolding after
  after_fill v j = refl

  pub after_pass : after N l w pass ≡ lock.hand_over N l
  unfolding after
  after_pass = refl

  pub after_leave : after N l w leave ≡ lock.hand_over N l
  unfolding after
  after_leave = refl

  pub after_try : after N l w try ≡ lock.take_ticket l
  unfolding after
  after_try = refl

  -- ---- what each operation changes: head, tail and cells

  -- the head is raised by those that take a ticket, and by nothing else
  pub head_after : (op : Op) → (after N l w op).head ≡ l.head + takes op
  head_after op = (Changes.ends_after N l w op).0

  -- the tail is raised by hand-overs alone
  pub tail_after : (op : Op) → (after N l w op).tail ≡ l.tail + hands_over op
  tail_after op = (Changes.ends_after N l w op).1

  -- so an ownership that is won, by a look or by a try, does not raise it
  pub tail_owned : (t : ℕ) → ((after N l w (own t)).tail ≡ l.tail) × ((after N l w try).tail ≡ l.tail)
  tail_owned t = (omega (arith, tail_after (own t)), omega (arith, tail_after try))

  -- a task goes into a cell with the tail as its ticket
  pub fill_after : (v j : ℕ)
      → ((after N l w (fill v j)).cell_ticket ≡ upd l.cell_ticket v l.tail)
      × ((after N l w (fill v j)).cell_task ≡ upd l.cell_task v j)
  fill_after = Changes.fill_after N l w

  -- all others leave the cells as they are
  pub cells_after : (op : Op) → fills op ≡ 0
      → ((after N l w op).cell_ticket ≡ l.cell_ticket) × ((after N l w op).cell_task ≡ l.cell_task)
  cells_after = Changes.cells_after N l w

  -- one cell: it is filled, or stays as it is
  pub cell_after : (op : Op) (v : ℕ)
      → ((j : ℕ) × (op ≡ fill v j)) ⊎ (((after N l w op).cell_ticket v ≡ l.cell_ticket v) × ((after N l w op).cell_task v ≡ l.cell_task v))
  cell_after = Changes.cell_after N l w

  -- what neither hands over nor registers leaves the front waiter
  pub front_after : (op : Op) → hands_over op ≡ 0 → registers op ≡ 0 → front N (after N l w op) ≡ front N l
  front_after = Changes.front_kept N l w

-- an operation takes a ticket or hands over, once, or neither
pub at_most_one : (op : Op) → takes op + hands_over op ≤ 1
at_most_one = Changes.at_most_one

-- ---- histories

pub hand_overs_none : hand_overs [] ≡ 0
hand_overs_none = Histories.hand_overs_none

pub hand_overs_more : (m : Move) (ms : List Move) → hand_overs (m ∷ ms) ≡ hands_over m.op + hand_overs ms
hand_overs_more = Histories.hand_overs_more

pub hand_overs_append : (xs ys : List Move) → hand_overs (xs ++ ys) ≡ hand_overs xs + hand_overs ys
hand_overs_append = Histories.hand_overs_append

module _ {W N : ℕ} {l : Lock} {st : ℕ → Stand} where
  -- a run with an operation before it
  pub run_first : (w : ℕ) → w < W → (op : Op) → Can N l (st w) w op → {ms : List Move} {now : Lock} {at : ℕ → Stand}
      → Run W N (after N l w op) (upd st w (stand_after l op)) ms now at → Run W N l st (ms ++ record { by = w; op = op } ∷ []) now at
  run_first = Histories.run_first

  module _ {ms : List Move} {now : Lock} {at : ℕ → Stand} (run : Run W N l st ms now at) where
    pub run_tail : now.tail ≡ l.tail + hand_overs ms
    run_tail = Histories.run_tail run

    pub run_head : now.head ≤ l.head + length ms
    run_head = Histories.run_head run

  pub run_keeps : Kept W N l st → {ms : List Move} {now : Lock} {at : ℕ → Stand} → Run W N l st ms now at → Kept W N now at
  run_keeps k run = record { inv = Histories.run_keeps k.inv run }

  -- who waits with a ticket: after any further moves its turn has come exactly when these have handed over as often as its distance says
  pub turn_exactly : Kept W N l st → (w t : ℕ) → st w ≡ waiting t → {ms : List Move} {now : Lock} {at : ℕ → Stand} → Run W N l st ms now at
      → (turn N now t ≡ true) ↔ (distance l t ≤ hand_overs ms)
  turn_exactly k = Histories.turn_exactly k.inv

  -- a task that lies in a waiting worker's cell lies there still, or that worker has received it
  pub cell_reaches : Kept W N l st → (v t j : ℕ) → InCell l st v t j → {ms : List Move} {now : Lock} {at : ℕ → Stand}
      → Run W N l st ms now at
      → Memᴰ (record { by = v; op = receive t j }) ms ⊎ InCell now at v t j
  cell_reaches k = Histories.cell_reaches k.inv

module _ {W N : ℕ} (any : 0 < W) (fits : W ≤ N) {ms : List Move} {l : Lock} {st : ℕ → Stand} (history : History W N ms l st) where
  -- every history keeps the promise
  pub always : Kept W N l st
  always = record { inv = Histories.always any fits history }

  -- head, tail and registrations stay below what the ring's size, the number of moves and the number of workers come to
  pub no_wrap : (l.head ≤ N + length ms) × (l.tail ≤ suc (N + length ms)) × ((w t : ℕ) → Holds (st w) t → join t w < N + length ms + W)
  no_wrap = Histories.no_wrap any fits history
