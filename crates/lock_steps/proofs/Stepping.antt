-- A step of a worker at the lock, by what becomes of the lock, of the tasks and of its place.
use Prim.Native.Nat.{ℕ, ◌<◌}
use native.Mathlib.Omega.{arith}
use mathlib.Core.Path.{◌≡◌, refl, ap, ◌∙◌}
use mathlib.Core.List.{List}
use mathlib.Core.Option.{none, some}
use lib.ListN.{length, get_or}
use Rattle.runs.specs.Update.{upd}
use Rattle.lock.specs.Arrays.{lock_of}
use Rattle.lock.specs.declared.Ends.{Ends}
use Rattle.tasks.specs.History as Th
use Rattle.memory.specs.declared.rows.TaskRow.{TaskRow}
use Rattle.memory.specs.Memory as T
use Rattle.tasks.specs.Playing as P
use Rattle.machine.specs.State.{Setup, Place, State}
use Rattle.machine.specs.Event.{Event, event}
use Rattle.machine.specs.Step.{lock_op, task_op, effect, lock_after}
use Rattle.machine.specs.Ranges.{Fit, acted}
use Rattle.steps.specs.Layout.{place_at, number_at}
use Rattle.steps.specs.Memory.{part, station, Stationed, Slotted, Memory, with_ends, Holds, Able, Acts}
use Rattle.steps.proofs.Parts.{station_at}
use Rattle.steps.proofs.Acting.{acts_hold, tasks_still, tasks_able, own_stationed}
use Rattle.lock_steps.proofs.Places.{place_of, decoded}

-- the memory with another lock
abbrev pub with_lock : Memory → Ends → (wait registrations tickets cells : List ℕ) → Memory
with_lock m ends wait registrations tickets cells =
    record {
      counts = with_ends m.counts ends;
      wait = wait;
      registrations = registrations;
      tickets = tickets;
      cells = cells;
      device = m.device;
      rows = m.rows;
      accesses = m.accesses;
    }

-- the tasks' part of the memory
abbrev pub tasks_of : Memory → T.TaskMemory
tasks_of m = T.memory m.counts.tally m.rows m.accesses

-- the code of the worker's place, and what that speaks of
abbrev pub code_in : List ℕ → ℕ
code_in own = get_or own place_at 0

abbrev pub number_in : List ℕ → ℕ
number_in own = get_or own number_at 0

-- the step that worker w is able to take leads to the memory n and the share `next`
abbrev pub Leads : {m : Memory} {own : List ℕ} {w : ℕ} → Able m own w → Memory → List ℕ → Type 0
Leads {w = w} a n next = Holds a.c n (upd a.shares w next) (acted a.c a.s w)

pub acting : {m n : Memory} {own : List ℕ} {w : ℕ} (next : List ℕ) → ((a : Able m own w) → Leads a n next) → Acts m own n next w
acting next law c s shares lent long holds fit =
    law (record { c = c; s = s; shares = shares; lent = lent; long = long; holds = holds; fit = fit })

module _ {c : Setup} {s : State} {w : ℕ} (fit : Fit c s w) where
  pub workers_few : (v : ℕ) → v < c.workers → v < 32
  workers_few v l = omega (arith, fit.sized.workers)

  pub tasks_few : (i : ℕ) → i < length c.tasks → i < 128
  tasks_few i l = omega (arith, fit.sized.tasks)

module _ {m : Memory} {own : List ℕ} {w : ℕ} (a : Able m own w) where
  pub place_is : (k : ℕ) → code_in own ≡ k → a.s.place w ≡ place_of k (number_in own)
  place_is k e =
      decoded (get_or (station own) place_at 0) (get_or (station own) number_at 0) (a.s.place w) (own_stationed a).place
      ∙ ap (λ (x : ℕ). place_of x (get_or (station own) number_at 0)) (station_at own place_at (omega arith) ∙ e)
      ∙ ap (place_of k) (station_at own number_at (omega arith))

  module _ (e : Event) (is : event a.c a.s w ≡ e) where
    -- the lock and the worker's place change, and nothing else
    pub goes : task_op e ≡ none → (to : Place)
        → effect a.c a.s w e ≡ record { place = to; queue = a.s.queue; ready_list = a.s.ready_list; giver = a.s.giver }
        → (ends : Ends) (wait registrations tickets cells : List ℕ)
        → lock_of a.c.slots ends.head.0 ends.tail.0 wait registrations tickets cells ≡ lock_after a.c a.s.lock w (lock_op e)
        → (next : List ℕ) → part next ≡ part own → Stationed (station next) to (a.s.queue w) → Slotted a.c.slots (station next) to
        → Leads a (with_lock m ends wait registrations tickets cells) next
    goes nothing to effects ends wait registrations tickets cells lock next kept there slot =
        acts_hold a.holds e is (with_lock m ends wait registrations tickets cells) next lock
        (tasks_still a.holds e is own next a.lent kept nothing)
        (refl, refl, refl)
        (rw effects there)
        (rw effects slot)
        (λ v d. rw effects)
        a.holds.device.ready_at_lem
        (rw effects a.holds.device.ready)
        (rw effects a.holds.device.givers)
        a.holds.device.masks
        refl

    -- the tasks after the event's operation on them
    pub tasks_after_lem : (op : Th.Op) → task_op e ≡ some op → (rows : List TaskRow) (next : List ℕ)
        → T.Does op m.counts.picks (T.memory m.counts.tally m.rows m.accesses) (part own)
        (T.memory m.counts.tally rows m.accesses) (part next) w
        → T.HoldsTasks a.c.workers a.c.tasks (T.memory m.counts.tally rows m.accesses)
        (upd (λ v. part (a.shares v)) w (part next))
        (P.tasks_after a.c.tasks a.s.picks a.s.tasks w (task_op e)) (P.stands_after a.c.tasks a.s.stand w (task_op e))
    tasks_after_lem op its rows next does =
        let may = rw (is, its) at a.fit.may in
        rw (its, ← a.holds.picks)
        (does (tasks_able a refl) may)
