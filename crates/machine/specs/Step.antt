-- What each event is to the lock, to the tasks and to the device; one pick, and the state after a list of picks.
use Rattle.std.specs.Prelude.{ℕ, suc, Bool, true, false, List, [], ◌∷◌, ◌++◌, ltb}
use Rattle.std.proofs.Math.Option.{Option, none, some}
use Rattle.runs.specs.Update.{upd}
use Rattle.runs.specs.Picks.{run}
use Rattle.runs.specs.Traces as Traces
use Rattle.lock.specs.Lock as L
use Rattle.lock.specs.History as LH
use Rattle.tasks.specs.History as Th
use Rattle.tasks.specs.Playing as P
use Rattle.machine.specs.State.{Setup, Purpose, for_serving, for_adding, Place, idle, trying, registering, looking, draining, serving, handing, leaving, State, start, picked}
use Rattle.machine.specs.Event.{Handed, Event, minds, pushes, finds_full, tries_and_owns, tries_in_vain, takes_ticket, registers, waits, receives, owns, drains, fills, takes, takes_none, hands_over, leaves, event}
use Rattle.machine.specs.Ready.{arrive}

-- what an event is to the lock: one operation at the most
abbrev pub lock_op : Event → Option LH.Op
lock_op (minds d) = none
lock_op (pushes i is) = none
lock_op finds_full = none
lock_op tries_and_owns = some LH.try
lock_op tries_in_vain = none
lock_op takes_ticket = some LH.take
lock_op (registers t) = some (LH.register t)
lock_op waits = none
lock_op (receives t i) = some (LH.receive t i)
lock_op (owns t) = some (LH.own t)
lock_op (drains p k) = none
lock_op (fills n v i is) = some (LH.fill v i)
lock_op (takes i is) = none
lock_op takes_none = none
lock_op (hands_over n o) = some LH.pass
lock_op (leaves o) = some LH.leave

-- what it is to the tasks: one operation at the most
abbrev pub task_op : Event → Option Th.Op
task_op (minds d) = some (Th.minds d)
task_op (pushes i is) = some (Th.gives i is)
task_op finds_full = none
task_op tries_and_owns = none
task_op tries_in_vain = none
task_op takes_ticket = none
task_op (registers t) = none
task_op waits = none
task_op (receives t i) = some (Th.receives i)
task_op (owns t) = none
task_op (drains p k) = none
task_op (fills n v i is) = some (Th.holds i)
task_op (takes i is) = some (Th.takes i)
task_op takes_none = none
task_op (hands_over n o) = none
task_op (leaves o) = none

-- what it is to the device: where the worker goes, and what the queues, the ready list and the givers become
pub record Effect : Type 0 where
  pub place : Place
  pub queue : ℕ → List ℕ
  pub ready_list : List ℕ
  pub giver : ℕ → Option ℕ

module _ (c : Setup) where
  -- after queue k the next; after the last, by the purpose
  abbrev pub after_draining : Purpose → Place
  after_draining for_serving = serving 0
  after_draining for_adding = leaving

  unfoldable pub next_drain : Purpose → ℕ → Place
  next_drain p k = elim (ltb (suc k) c.workers) [ true ↦ draining p (suc k) | false ↦ after_draining p ]

  module _ (s : State) where
    abbrev goes : Place → Effect
    goes p = record { place = p; queue = s.queue; ready_list = s.ready_list; giver = s.giver }

    -- a task that is handed over has a giver: whose session it was
    abbrev pub giver_after : Option Handed → ℕ → Option ℕ
    giver_after none = s.giver
    giver_after (some h) = upd s.giver h.task (some h.by)

    abbrev goes_handing : Place → Option Handed → Effect
    goes_handing p o = record { place = p; queue = s.queue; ready_list = s.ready_list; giver = giver_after o }

    -- worker w's event
    abbrev pub effect : ℕ → Event → Effect
    effect w (minds d) = goes idle
    effect w (pushes i is) =
        record { place = idle; queue = upd s.queue w (s.queue w ++ i ∷ []); ready_list = s.ready_list; giver = s.giver }
    effect w finds_full = goes trying
    effect w tries_and_owns = goes (draining for_adding 0)
    effect w tries_in_vain = goes idle
    effect w takes_ticket = goes (registering s.lock.head)
    effect w (registers t) = goes (looking t)
    effect w waits = goes (s.place w)
    effect w (receives t i) = goes idle
    effect w (owns t) = goes (draining for_serving 0)
    effect w (drains p k) =
        record { place = next_drain p k; queue = upd s.queue k []; ready_list = arrive s.ready_list (s.queue k); giver = s.giver }
    effect w (fills n v i is) = record { place = handing n; queue = s.queue; ready_list = is; giver = s.giver }
    effect w (takes i is) = record { place = leaving; queue = s.queue; ready_list = is; giver = upd s.giver i (some w) }
    effect w takes_none = goes leaving
    effect w (hands_over n o) = goes_handing (serving (suc n)) o
    effect w (leaves o) = goes_handing idle o

  abbrev pub lock_after : L.Lock → ℕ → Option LH.Op → L.Lock
  lock_after l w none = l
  lock_after l w (some op) = LH.after c.slots l w op

  -- a receipt and an ending note the number of the pick
  abbrev pub apply : State → ℕ → Event → State
  apply s w e =
      record {
        lock = lock_after s.lock w (lock_op e);
        tasks = P.tasks_after c.tasks s.picks s.tasks w (task_op e);
        stand = P.stands_after c.tasks s.stand w (task_op e);
        place = upd s.place w (effect s w e).place;
        queue = (effect s w e).queue;
        ready_list = (effect s w e).ready_list;
        giver = (effect s w e).giver;
        picks = s.picks;
      }

  -- one pick of worker w: the pick is counted, and w does what it does where it stands
  unfoldable pub step : State → ℕ → State
  step s w = apply (picked s) w (event c s w)

  -- all tasks are over and no message or notice is pending
  abbrev pub finished : State → Bool
  finished s = P.finished c.workers c.tasks s.tasks s.stand

  -- once the state is finished no pick is taken
  abbrev pub pick : State → ℕ → State
  pick = Traces.pick finished step

  -- the state after a list of picks from a fresh start
  unfoldable pub after : List ℕ → State
  after ws = run pick (start c) ws
