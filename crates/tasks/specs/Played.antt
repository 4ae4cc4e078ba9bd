-- Histories computed move by move, each stopped where a plausible wrong rule would show. The device is the simplest one:
-- a list of the tasks that it was given, from which a worker takes the first.
use Rattle.std.specs.Prelude.{ℕ, ◌≡◌, refl, Bool, true, false, List, [], ◌∷◌, ◌++◌, map, length, replicate}
use Rattle.std.proofs.Math.Option.{Option, none, some}
use Rattle.runs.specs.Update.{upd}
use Rattle.runs.specs.Picks.{run}
use Rattle.runs.specs.Below.{every_below}
use Rattle.plan.specs.Plan.{Task}
use Rattle.plan.specs.declared.access.Access.{Access}
use Rattle.plan.specs.Orders.{numbers_from}
use Rattle.runs.specs.Searches.{last_below, first_from}
use Rattle.tasks.specs.Accesses.{accesses, total, task_of, first, reader, same_address, prev, next}
use Rattle.tasks.specs.Flags.{flag_number, passes_read, passes_write, satisfied}
use Rattle.tasks.specs.Tasks.{Stand, free, working, Status, waiting, ready, running, over, Tasks}
use Rattle.tasks.specs.Tasks as T
use Rattle.tasks.specs.History.{Duty, Op, minds, gives, holds, takes, receives, lowered, link_message, passed, done_messages, after}
use Rattle.tasks.specs.History.{stand_after}
use Rattle.tasks.specs.Duties.{duty, creating}
use Rattle.tasks.specs.Playing.{finished}

pub record State : Type 0 where
  pub tasks : Tasks
  pub stands : ℕ → Stand
  pub stored : List ℕ

abbrev pub start : State
start = record { tasks = T.start; stands = λ _. free; stored = [] }

-- a duty first, else a task to add, else creating, else a task from the list
abbrev taking : List ℕ → Option Op
taking [] = none
taking (i ∷ is) = some (takes i)

abbrev creating_or : Option Duty → List ℕ → Option Op
creating_or none is = taking is
creating_or (some d) is = some (minds d)

abbrev giving_or : List ℕ → Option Duty → List ℕ → Option Op
giving_or [] d is = creating_or d is
giving_or (j ∷ js) d is = some (gives j js)

abbrev duty_or : Option Duty → List ℕ → Option Duty → List ℕ → Option Op
duty_or none js d is = giving_or js d is
duty_or (some e) js d is = some (minds e)

abbrev pub chooses : List Task → State → ℕ → Option Op
chooses ts s w =
    duty_or (duty (s.stands w) (s.tasks.mail w)) (s.tasks.adds w) (creating ts s.tasks.creation) s.stored

-- the list then
abbrev rest : List ℕ → List ℕ
rest [] = []
rest (i ∷ is) = is

abbrev pub stored_after : List ℕ → Op → List ℕ
stored_after is (minds d) = is
stored_after is (gives i js) = is ++ i ∷ []
stored_after is (holds i) = rest is
stored_after is (takes i) = rest is
stored_after is (receives i) = is

abbrev acted : List Task → State → ℕ → Option Op → State
acted ts s w none = s
acted ts s w (some op) =
    record {
      tasks = after ts 0 s.tasks w op;
      stands = upd s.stands w (stand_after ts (s.stands w) op);
      stored = stored_after s.stored op;
    }

unfoldable pub step : List Task → State → ℕ → State
step ts s w = acted ts s w (chooses ts s w)

-- ---- what is played

abbrev pub costing : ℕ → List Access → Task
costing n xs = record { label = []; cost = n; accesses = xs; mask = none }

-- a task of no cost
abbrev pub costless : List Access → Task
costless xs = costing 0 xs

abbrev pub reads : ℕ → Access
reads address = record { writes = false; address = address }

abbrev pub writes : ℕ → Access
writes address = record { writes = true; address = address }

abbrev pub read_then_write : List Task
read_then_write = costless (reads 5 ∷ []) ∷ costless (writes 5 ∷ []) ∷ []

abbrev pub write_then_read : List Task
write_then_read = costless (writes 5 ∷ []) ∷ costless (reads 5 ∷ []) ∷ []

abbrev pub read_twice : List Task
read_twice = costless (reads 5 ∷ []) ∷ costless (reads 5 ∷ []) ∷ []

abbrev pub write_then_two_read : List Task
write_then_two_read = costless (writes 5 ∷ writes 6 ∷ []) ∷ costless (reads 5 ∷ []) ∷ costless (reads 6 ∷ []) ∷ []

-- after the turns of two workers: what has become of the tasks, the flags of the accesses by their numbers, what the device has, and
-- whether they are finished
pub record Moment : Type 0 where
  pub tasks : List Task
  pub turns : List ℕ
  pub statuses : List Status
  pub flags : List ℕ
  pub stored : List ℕ
  pub finished : Bool

unfoldable pub played : List Task → List ℕ → State
played ts ws = run (step ts) start ws

module _ (ts : List Task) (s : State) where
  unfoldable pub statuses_of : List Status
  statuses_of = map s.tasks.status (numbers_from 0 (length ts))

  unfoldable pub flags_of : List ℕ
  flags_of = map (λ a. flag_number (s.tasks.flags a)) (numbers_from 0 (total ts))

abbrev pub Matches : List Moment → Type 0
Matches [] = Unit {0}
Matches (m ∷ ms) =
    (statuses_of m.tasks (played m.tasks m.turns) ≡ m.statuses)
    × (flags_of m.tasks (played m.tasks m.turns) ≡ m.flags)
    × ((played m.tasks m.turns).stored ≡ m.stored)
    × (finished 2 m.tasks (played m.tasks m.turns).tasks (played m.tasks m.turns).stands ≡ m.finished)
    × Matches ms

-- worker 0 creates both readers and ends the first, worker 1 ends the second, and the message that passes WRITE on is delivered
abbrev pub until_notice : List ℕ
until_notice = replicate 13 0 ++ 1 ∷ 1 ∷ 1 ∷ 0 ∷ 0 ∷ 0 ∷ []

abbrev pub moments : List Moment
moments =
    -- the first task was given to the device; READ has come to the later writer, WRITE has not
    record {
      tasks = read_then_write;
      turns = replicate 11 0;
      statuses = ready ∷ waiting ∷ [];
      flags = 27 ∷ 1 ∷ [];
      stored = 0 ∷ [];
      finished = false;
    }
    -- the reader runs, and the writer waits
    ∷ record {
      tasks = read_then_write;
      turns = replicate 12 0;
      statuses = running ∷ waiting ∷ [];
      flags = 27 ∷ 1 ∷ [];
      stored = [];
      finished = false;
    }
    -- both are over: each flag has come once
    ∷ record {
      tasks = read_then_write;
      turns = replicate 20 0;
      statuses = over ∷ over ∷ [];
      flags = 63 ∷ 7 ∷ [];
      stored = [];
      finished = true;
    }
    -- a writer runs, and nothing has come to a later reader
    ∷ record {
      tasks = write_then_read;
      turns = replicate 10 0;
      statuses = running ∷ waiting ∷ [];
      flags = 11 ∷ 0 ∷ [];
      stored = [];
      finished = false;
    }
    ∷ record {
      tasks = write_then_read;
      turns = replicate 18 0;
      statuses = over ∷ over ∷ [];
      flags = 63 ∷ 7 ∷ [];
      stored = [];
      finished = true;
    }
    ∷ []

-- what comes first, and when all is finished
abbrev pub later_moments : List Moment
later_moments =
    -- the oldest message is delivered: DONE to the second access before READ and WRITE to the first reader
    record {
      tasks = write_then_two_read;
      turns = replicate 19 0;
      statuses = over ∷ waiting ∷ waiting ∷ [];
      flags = 15 ∷ 15 ∷ 0 ∷ 0 ∷ [];
      stored = [];
      finished = false;
    }
    -- the oldest task to add is given first
    ∷ record {
      tasks = write_then_two_read;
      turns = replicate 24 0;
      statuses = over ∷ ready ∷ ready ∷ [];
      flags = 63 ∷ 63 ∷ 3 ∷ 3 ∷ [];
      stored = 1 ∷ [];
      finished = false;
    }
    -- all tasks are over and no message is pending, but a notice is
    ∷ record {
      tasks = read_twice;
      turns = until_notice;
      statuses = over ∷ over ∷ [];
      flags = 31 ∷ 7 ∷ [];
      stored = [];
      finished = false;
    }
    ∷ record {
      tasks = read_twice;
      turns = until_notice ++ 0 ∷ [];
      statuses = over ∷ over ∷ [];
      flags = 63 ∷ 7 ∷ [];
      stored = [];
      finished = true;
    }
    ∷ []

pub plays : Matches moments
unfolding upd last_below first_from accesses task_of first reader same_address prev next passes_read passes_write satisfied lowered after T.start
    link_message passed done_messages duty creating step played statuses_of flags_of numbers_from finished every_below
plays = (refl, refl, refl, refl, (refl, refl, refl, refl, (refl, refl, refl, refl, (refl, refl, refl, refl, (refl, refl, refl, refl, tt)))))

pub plays_later : Matches later_moments
unfolding upd last_below first_from accesses task_of first reader same_address prev next passes_read passes_write satisfied lowered after T.start
    link_message passed done_messages duty creating step played statuses_of flags_of numbers_from finished every_below
plays_later = (refl, refl, refl, refl, (refl, refl, refl, refl, (refl, refl, refl, refl, (refl, refl, refl, refl, tt))))

-- who received a task is noted; and who brings a count to 0 has the task to add: worker 1, which ends the writer and delivers what follows
pub by_whom : (map (played read_twice until_notice).tasks.runner (numbers_from 0 2) ≡ 0 ∷ 1 ∷ [])
    × (map (played write_then_read (replicate 9 0 ++ replicate 4 1)).tasks.adds (numbers_from 0 2) ≡ [] ∷ (1 ∷ []) ∷ [])
unfolding upd last_below first_from accesses task_of first reader same_address prev next passes_read passes_write satisfied lowered after T.start
    link_message passed done_messages duty creating step played numbers_from
by_whom = (refl, refl)

-- two steps of work, then one that ends the task: how worker 0 stands with a task of cost 2 after its receipt, and after each of them
pub works_off : map (λ n. (played (costing 2 [] ∷ []) (replicate n 0)).stands 0) (numbers_from 4 4)
    ≡ working 0 2 ∷ working 0 1 ∷ working 0 0 ∷ free ∷ []
unfolding upd last_below first_from accesses task_of first reader same_address prev next passes_read passes_write satisfied lowered after T.start
    link_message passed done_messages duty creating step played numbers_from
works_off = refl
