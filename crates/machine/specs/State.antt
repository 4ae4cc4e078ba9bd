-- The state of a run: the lock, the tasks, where each worker stands with either, and where the device keeps the tasks that it was given.
-- The device is what hands the ready tasks to the workers: here the lock, with queues, ready list and cells.
use Rattle.std.specs.Prelude.{ℕ, suc, List, []}
use Rattle.std.proofs.Math.Option.{Option, none}
use Rattle.lock.specs.Lock as L
use Rattle.plan.specs.Plan.{Task}
use Rattle.tasks.specs.Tasks as T

-- what a run is played with
pub record Setup : Type 0 where
  pub workers : ℕ
  -- of the ring
  pub slots : ℕ
  -- of each queue
  pub capacity : ℕ
  pub tasks : List Task

-- why a worker drains the queues: to serve and take a task, or to make room in its own
pub data Purpose : Type 0 where
  for_serving : Purpose
  for_adding : Purpose

-- where a worker is on its way through the lock
pub data Place : Type 0 where
  -- it has no ticket, and does what it has to do with the tasks
  idle : Place
  -- its queue was full: it tries the lock
  trying : Place
  -- with a ticket that is not registered, and with one that is
  registering : ℕ → Place
  looking : ℕ → Place
  -- owner: the queue that it drains next
  draining : Purpose → ℕ → Place
  -- owner: it serves or takes a task; so many are served
  serving : ℕ → Place
  -- owner: it has filled a cell and hands over; so many were served before
  handing : ℕ → Place
  -- owner: it hands over and leaves, with the task that it took or none
  leaving : Place

pub record State : Type 0 where
  pub lock : L.Lock
  pub tasks : T.Tasks
  -- by worker: what it has in hand, where it is with the lock, and its add queue, the oldest first
  pub stand : ℕ → T.Stand
  pub place : ℕ → Place
  pub queue : ℕ → List ℕ
  pub ready_list : List ℕ
  -- by task: who gave it to its taker, the owner whose hand-over let the taker in, or the taker itself
  pub giver : ℕ → Option ℕ
  -- picks taken
  pub picks : ℕ

-- where no pick has been taken
unfoldable pub start : Setup → State
start c =
    record {
      lock = L.start c.slots;
      tasks = T.start;
      stand = λ _. T.free;
      place = λ _. idle;
      queue = λ _. [];
      ready_list = [];
      giver = λ _. none;
      picks = 0;
    }

abbrev pub picked : State → State
picked s =
    record {
      lock = s.lock;
      tasks = s.tasks;
      stand = s.stand;
      place = s.place;
      queue = s.queue;
      ready_list = s.ready_list;
      giver = s.giver;
      picks = suc s.picks;
    }
