-- The delegation ticket lock over a ring of N slots: what it holds and what each operation makes of it.
use Rattle.std.specs.Prelude.{ℕ, suc, ◌+◌, ◌-◌, ◌%◌, Bool, true, false, eqb, leb}
use Rattle.std.proofs.Math.Option.{Option, none, some}
use Rattle.runs.specs.Update.{upd}

pub record Lock : Type 0 where
  -- the ticket that is taken next
  pub head : ℕ
  -- the ticket that the next hand-over lets in
  pub tail : ℕ
  -- wait slots and registrations, by slot
  pub wait : ℕ → ℕ
  pub registration : ℕ → ℕ
  -- the result cell of each worker: a ticket and a task
  pub cell_ticket : ℕ → ℕ
  pub cell_task : ℕ → ℕ

-- what a registration or a cell holds before it is written: tickets are above it
abbrev pub EMPTY : ℕ
EMPTY = 0

-- the start values
unfoldable pub start : ℕ → Lock
start N =
    record {
      head = N;
      tail = suc N;
      wait = λ _. N;
      registration = λ _. EMPTY;
      cell_ticket = λ _. EMPTY;
      cell_task = λ _. EMPTY;
    }

-- taking a ticket gives the head and raises it by one
unfoldable pub take_ticket : Lock → Lock
take_ticket l =
    record {
      head = suc l.head;
      tail = l.tail;
      wait = l.wait;
      registration = l.registration;
      cell_ticket = l.cell_ticket;
      cell_task = l.cell_task;
    }

-- a registration: a ticket and a worker number, added here and nowhere else; and the worker out of it again
unfoldable pub join : ℕ → ℕ → ℕ
join ticket worker = ticket + worker

unfoldable pub worker_in : ℕ → ℕ → ℕ
worker_in registration ticket = registration - ticket

-- registering writes the registration at the ticket's slot
unfoldable pub register : ℕ → Lock → ℕ → ℕ → Lock
register N l ticket worker =
    record {
      head = l.head;
      tail = l.tail;
      wait = l.wait;
      registration = upd l.registration (ticket % N) (join ticket worker);
      cell_ticket = l.cell_ticket;
      cell_task = l.cell_task;
    }

-- it is a ticket's turn when its wait slot is at least the ticket
unfoldable pub turn : ℕ → Lock → ℕ → Bool
turn N l ticket = leb ticket (l.wait (ticket % N))

-- a hand-over: the tail goes into its wait slot and is raised
unfoldable pub hand_over : ℕ → Lock → Lock
hand_over N l =
    record {
      head = l.head;
      tail = suc l.tail;
      wait = upd l.wait (l.tail % N) l.tail;
      registration = l.registration;
      cell_ticket = l.cell_ticket;
      cell_task = l.cell_task;
    }

-- the registered front waiter: the worker that is registered with the tail, where the tail's slot holds a registration of at least the tail
unfoldable pub front : ℕ → Lock → Option ℕ
front N l =
    elim (leb l.tail (l.registration (l.tail % N))) [
      | true ↦ some (worker_in (l.registration (l.tail % N)) l.tail)
      | false ↦ none
    ]

-- what a hand-over tells: whom it lets in, nobody where that ticket isn't registered, and whose session did it
pub record Told : Type 0 where
  pub let_in : Option ℕ
  pub by : ℕ

unfoldable pub tells : ℕ → Lock → ℕ → Told
tells N l owner = record { let_in = front N l; by = owner }

-- the lock is free when the tail is one past the head
unfoldable pub is_free : Lock → Bool
is_free l = eqb l.tail (suc l.head)

-- a task, with the tail as its ticket, goes into a worker's cell
unfoldable pub fill : Lock → ℕ → ℕ → Lock
fill l worker task =
    record {
      head = l.head;
      tail = l.tail;
      wait = l.wait;
      registration = l.registration;
      cell_ticket = upd l.cell_ticket worker l.tail;
      cell_task = upd l.cell_task worker task;
    }

-- what a registered worker sees when it looks
pub data Look : Type 0 where
  not_yet : Look
  receives : ℕ → Look
  owns : Look

unfoldable pub look : ℕ → Lock → ℕ → ℕ → Look
look N l ticket worker =
    elim (turn N l ticket) [
      | true ↦ elim (eqb (l.cell_ticket worker) ticket) [ true ↦ receives (l.cell_task worker) | false ↦ owns ]
      | false ↦ not_yet
    ]

-- ticket distance, taken just after registering: ticket - tail + 1
abbrev pub distance : Lock → ℕ → ℕ
distance l ticket = suc ticket - l.tail
