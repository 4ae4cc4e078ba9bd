-- Runs computed pick by pick, each stopped where a plausible wrong rule would show.
use Rattle.std.specs.Prelude.{ℕ, ◌≡◌, refl, true, false, List, [], ◌∷◌, ◌++◌, map, length, replicate, eqb}
use Rattle.std.proofs.Math.Option.{Option, none, some}
use Rattle.runs.specs.Sums.{sum}
use Rattle.runs.specs.Counts.{is}
use Rattle.runs.specs.Traces as Traces
use Rattle.plan.specs.Plan.{Task}
use Rattle.plan.specs.declared.access.Access.{Access}
use Rattle.plan.specs.Orders.{numbers_from}
use Rattle.tasks.specs.Accesses.{accesses}
use Rattle.tasks.specs.Flags.{flag_number}
use Rattle.tasks.specs.Tasks.{Status, waiting, ready, held, running, over}
use Rattle.machine.specs.State.{Setup, for_serving, Place, idle, trying, looking, draining, handing, State, start}
use Rattle.machine.specs.Event.{Event}
use Rattle.machine.specs.Step.{after}
use Rattle.machine.specs.Trace.{Happening, trace, is_receipt, is_ending, is_hand_over}
use Rattle.machine.specs.Whereabouts.{owner, boxed, boxes}
use Rattle.machine.specs.Computing.{computing}

-- a task of no cost
abbrev pub free : List Access → Task
free xs = record { label = []; cost = 0; accesses = xs; mask = none }

abbrev pub reads : ℕ → Access
reads address = record { writes = false; address = address }

abbrev pub writes : ℕ → Access
writes address = record { writes = true; address = address }

abbrev pub with : ℕ → List Task → Setup
with workers tasks = record { workers = workers; slots = 64; capacity = 8; tasks = tasks }

-- a moment of a run: what is played, the picks up to it, and what the tasks and accesses are then
pub record Moment : Type 0 where
  pub setup : Setup
  pub picks : List ℕ
  pub statuses : List Status
  pub flags : List ℕ

module _ (c : Setup) (s : State) where
  unfoldable pub statuses_of : List Status
  statuses_of = map s.tasks.status (numbers_from 0 (length c.tasks))

  unfoldable pub flags_of : List ℕ
  flags_of = map (λ a. flag_number (s.tasks.flags a)) (numbers_from 0 (length (accesses c.tasks)))

abbrev pub Matches : List Moment → Type 0
Matches [] = Unit {0}
Matches (m ∷ ms) =
    (statuses_of m.setup (after m.setup m.picks) ≡ m.statuses)
    × (flags_of m.setup (after m.setup m.picks) ≡ m.flags)
    × Matches ms

-- worker 0 owns, worker 1 waits, and the first ready task is put into its cell
abbrev pub until_filled : List ℕ
until_filled = replicate 9 0 ++ 1 ∷ 1 ∷ 0 ∷ 0 ∷ 0 ∷ []

abbrev pub two : Setup
two = with 2 (free [] ∷ free [] ∷ [])

abbrev pub moments : List Moment
moments =
    -- a reader runs, and a later writer waits: READ has come to it, WRITE has not
    record {
      setup = with 2 (free (reads 5 ∷ []) ∷ free (writes 5 ∷ []) ∷ []);
      picks = replicate 17 0;
      statuses = running ∷ waiting ∷ [];
      flags = 27 ∷ 1 ∷ [];
    }
    -- both are over: each flag has come once
    ∷ record {
      setup = with 2 (free (reads 5 ∷ []) ∷ free (writes 5 ∷ []) ∷ []);
      picks = replicate 60 0;
      statuses = over ∷ over ∷ [];
      flags = 63 ∷ 7 ∷ [];
    }
    -- a writer runs, and nothing has come to a later reader
    ∷ record {
      setup = with 2 (free (writes 5 ∷ []) ∷ free (reads 5 ∷ []) ∷ []);
      picks = replicate 15 0;
      statuses = running ∷ waiting ∷ [];
      flags = 11 ∷ 0 ∷ [];
    }
    -- a look between the filling of the cell and the hand-over changes nothing, and one after it receives the task
    ∷ record { setup = two; picks = until_filled ++ 1 ∷ []; statuses = held ∷ ready ∷ []; flags = [] }
    ∷ record { setup = two; picks = until_filled ++ 1 ∷ 0 ∷ 1 ∷ []; statuses = running ∷ ready ∷ []; flags = [] }
    -- worker 1 has a ticket and is not registered: it is not served, and the owner takes the first task itself
    ∷ record { setup = two; picks = replicate 9 0 ++ 1 ∷ 0 ∷ 0 ∷ 0 ∷ 0 ∷ []; statuses = running ∷ ready ∷ []; flags = [] }
    -- of two workers one is served in a session: the waiter is back, and the owner takes the next task itself
    ∷ record { setup = two; picks = until_filled ++ 0 ∷ 1 ∷ 1 ∷ 1 ∷ 1 ∷ 0 ∷ []; statuses = over ∷ running ∷ []; flags = [] }
    -- mailbox comes before adding: the second reader's message is delivered while the first reader is to be added
    ∷ record {
      setup = with 1 (free (writes 5 ∷ writes 6 ∷ []) ∷ free (reads 5 ∷ []) ∷ free (reads 6 ∷ []) ∷ []);
      picks = replicate 27 0;
      statuses = over ∷ ready ∷ ready ∷ [];
      flags = 63 ∷ 15 ∷ 3 ∷ 3 ∷ [];
    }
    ∷ []

pub played : Matches moments
unfolding computing statuses_of flags_of
played = (refl, refl, (refl, refl, (refl, refl, (refl, refl, (refl, refl, (refl, refl, (refl, refl, (refl, refl, tt))))))))

-- ---- where workers and tasks are

-- what is played, the picks up to it, and then the workers' places, their queues, the ready list, and who owns the lock
pub record Standing : Type 0 where
  pub setup : Setup
  pub picks : List ℕ
  pub places : List Place
  pub queues : List (List ℕ)
  pub ready_list : List ℕ
  pub owner : Option ℕ

abbrev pub Stands : List Standing → Type 0
Stands [] = Unit {0}
Stands (m ∷ ms) =
    (map (after m.setup m.picks).place (numbers_from 0 m.setup.workers) ≡ m.places)
    × (map (after m.setup m.picks).queue (numbers_from 0 m.setup.workers) ≡ m.queues)
    × ((after m.setup m.picks).ready_list ≡ m.ready_list)
    × (owner m.setup (after m.setup m.picks) ≡ m.owner)
    × Stands ms

abbrev pub three : Setup
three = with 2 (free [] ∷ free [] ∷ free [] ∷ [])

-- queues of one task
abbrev pub narrow : Setup
narrow = record { workers = 2; slots = 64; capacity = 1; tasks = free [] ∷ free [] ∷ [] }

abbrev pub standings : List Standing
standings =
    -- the oldest task first: in the queue
    record {
      setup = two;
      picks = replicate 6 0;
      places = idle ∷ idle ∷ [];
      queues = (0 ∷ 1 ∷ []) ∷ [] ∷ [];
      ready_list = [];
      owner = none;
    }
    -- drained into the end of the ready list, one whole queue a step
    ∷ record {
      setup = three;
      picks = replicate 6 0 ++ replicate 8 1 ++ replicate 3 0 ++ replicate 4 1;
      places = idle ∷ draining for_serving 1 ∷ [];
      queues = [] ∷ [] ∷ [];
      ready_list = 1 ∷ 2 ∷ [];
      owner = some 1;
    }
    -- a full queue: the second task isn't pushed, and the next step tries the lock
    ∷ record {
      setup = narrow;
      picks = replicate 6 0;
      places = trying ∷ idle ∷ [];
      queues = (0 ∷ []) ∷ [] ∷ [];
      ready_list = [];
      owner = none;
    }
    -- the lock isn't free: it takes no ticket, and pushes again
    ∷ record {
      setup = narrow;
      picks = replicate 3 1 ++ replicate 7 0;
      places = idle ∷ draining for_serving 0 ∷ [];
      queues = (0 ∷ []) ∷ [] ∷ [];
      ready_list = [];
      owner = some 1;
    }
    -- a worker whose turn it isn't waits on; the owner that serves it is owner until it leaves
    ∷ record {
      setup = two;
      picks = until_filled ++ 1 ∷ [];
      places = handing 0 ∷ looking 65 ∷ [];
      queues = [] ∷ [] ∷ [];
      ready_list = 1 ∷ [];
      owner = some 0;
    }
    ∷ []

pub stood : Stands standings
unfolding computing owner
stood = (refl, refl, refl, refl, (refl, refl, refl, refl, (refl, refl, refl, refl, (refl, refl, refl, refl, (refl, refl, refl, refl, tt)))))

-- how often each of the two tasks is in a cell: task 0 when it is held, and no more when it was received and the worker waits again
pub in_cells : (map (boxes two (after two until_filled)) (numbers_from 0 2) ≡ 1 ∷ 0 ∷ [])
    × (map (boxes two (after two (until_filled ++ 0 ∷ 1 ∷ 1 ∷ 1 ∷ 1 ∷ []))) (numbers_from 0 2) ≡ 0 ∷ 0 ∷ [])
unfolding computing sum boxed is
in_cells = (refl, refl)

-- ---- who does what

-- the workers by whom something happens, in the order in which it does
unfoldable pub doers : (Event → ℕ) → List Happening → List ℕ
doers f [] = []
doers f (h ∷ hs) = elim (eqb (f h.what) 0) [ true ↦ doers f hs | false ↦ h.by ∷ doers f hs ]

abbrev pub whole : List Happening
whole = trace two (start two) (until_filled ++ 0 ∷ 1 ∷ 1 ∷ replicate 4 0)

-- worker 0 puts task 0 into the cell of worker 1 and takes task 1 itself: each task has its receipt and its ending by one worker, and both
-- hand-overs are by the owner, the one with which it stays and the one with which it leaves
pub done_by : (doers (is_receipt 0) whole ≡ 1 ∷ []) × (doers (is_ending 0) whole ≡ 1 ∷ []) × (doers (is_receipt 1) whole ≡ 0 ∷ [])
    × (doers (is_ending 1) whole ≡ 0 ∷ []) × (doers is_hand_over whole ≡ 0 ∷ 0 ∷ [])
unfolding computing Traces.trace doers is
done_by = (refl, refl, refl, refl, refl)

-- ---- who gave each task

abbrev pub givers_after : Setup → List ℕ → List (Option ℕ)
givers_after c ws = map (after c ws).giver (numbers_from 0 (length c.tasks))

-- worker 0 gives task 0: nobody does while it is in the cell, nor the ready task 1; from the hand-over on it does, before the look and
-- after the receipt. It takes task 1, which has it as its giver from that step on
pub given : (givers_after two until_filled ≡ none ∷ none ∷ [])
    × (givers_after two (until_filled ++ 0 ∷ []) ≡ some 0 ∷ none ∷ [])
    × (givers_after two (until_filled ++ 0 ∷ 1 ∷ []) ≡ some 0 ∷ none ∷ [])
    × (givers_after two (until_filled ++ 0 ∷ 0 ∷ []) ≡ some 0 ∷ some 0 ∷ [])
unfolding computing
given = (refl, refl, refl, refl)

-- worker 1 owns, finds no task and lets worker 2 in; the task that worker 2 then takes is not from worker 1, and before it is taken it
-- has no giver
abbrev pub until_ready : List ℕ
until_ready = 1 ∷ 1 ∷ 2 ∷ 2 ∷ [] ++ replicate 6 1 ++ replicate 3 0 ++ replicate 4 2

pub given_to_itself : (givers_after (with 3 (free [] ∷ [])) until_ready ≡ none ∷ [])
    × (givers_after (with 3 (free [] ∷ [])) (until_ready ++ 2 ∷ []) ≡ some 2 ∷ [])
unfolding computing
given_to_itself = (refl, refl)

-- ---- other rings and queues

abbrev pub sized : (slots capacity : ℕ) → List Task → Setup
sized slots capacity tasks = record { workers = 2; slots = slots; capacity = capacity; tasks = tasks }

-- as many slots as workers
abbrev pub tight : Setup
tight = sized 2 8 (free [] ∷ free [] ∷ [])

-- worker 1 goes through the lock four times, over both slots twice, and finds no task
abbrev pub two_laps : List ℕ
two_laps = replicate 28 1

abbrev pub laps : List Moment
laps =
    -- from the start, and on the third lap: worker 1 is served, looks in vain before the hand-over and receives the task after it
    record { setup = tight; picks = until_filled ++ 1 ∷ []; statuses = held ∷ ready ∷ []; flags = [] }
    ∷ record { setup = tight; picks = two_laps ++ until_filled ++ 1 ∷ []; statuses = held ∷ ready ∷ []; flags = [] }
    ∷ record { setup = tight; picks = two_laps ++ until_filled ++ 1 ∷ 0 ∷ 1 ∷ []; statuses = running ∷ ready ∷ []; flags = [] }
    -- it has a ticket and isn't registered: what it left in that slot on the lap before makes it no waiter, and the owner takes the task
    ∷ record {
      setup = tight;
      picks = two_laps ++ replicate 9 0 ++ 1 ∷ 0 ∷ 0 ∷ 0 ∷ 0 ∷ [];
      statuses = running ∷ ready ∷ [];
      flags = [];
    }
    ∷ []

pub lapped : Matches laps
unfolding computing statuses_of flags_of
lapped = (refl, refl, (refl, refl, (refl, refl, (refl, refl, tt))))

-- the head, the tail and both wait slots, before the first pick and after two laps
pub ring_of_two :
    ((start tight).lock.head ∷ (start tight).lock.tail ∷ map (start tight).lock.wait (0 ∷ 1 ∷ []) ≡ 2 ∷ 3 ∷ 2 ∷ 2 ∷ [])
    × ((after tight two_laps).lock.head ∷ (after tight two_laps).lock.tail ∷ map (after tight two_laps).lock.wait (0 ∷ 1 ∷ [])
    ≡ 6 ∷ 7 ∷ 6 ∷ 5 ∷ [])
unfolding computing
ring_of_two = (refl, refl)

-- ten tasks in a queue of sixteen; in one of nine the tenth finds it full
abbrev pub deep : List Standing
deep =
    record {
      setup = sized 2 16 (replicate 10 (free []));
      picks = replicate 30 0;
      places = idle ∷ idle ∷ [];
      queues = numbers_from 0 10 ∷ [] ∷ [];
      ready_list = [];
      owner = none;
    }
    ∷ record {
      setup = sized 2 9 (replicate 10 (free []));
      picks = replicate 30 0;
      places = trying ∷ idle ∷ [];
      queues = numbers_from 0 9 ∷ [] ∷ [];
      ready_list = [];
      owner = none;
    }
    ∷ []

pub deep_stood : Stands deep
unfolding computing owner
deep_stood = (refl, refl, refl, refl, (refl, refl, refl, refl, tt))
