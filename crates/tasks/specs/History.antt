-- What a worker may do with the tasks, what that makes of them, and histories of such operations. A device is what hands the ready tasks
-- to the workers: the paper's is the lock, with queues, ready list and cells. Where it keeps the tasks that it was given is its own matter:
-- it holds out or has received only what it was given.
use Rattle.std.specs.Prelude.{ℕ, zero, suc, ◌+◌, ◌-◌, ◌≤◌, ◌<◌, ◌≡◌, Bool, true, false, ◌&&◌, ◌||◌, length, eqb, ltb}
use mathlib.Core.List.{List, [], ◌∷◌, ◌++◌, map, Memᴰ}
use Rattle.std.proofs.Math.Option.{Option, none, some}
use Rattle.runs.specs.Update.{upd}
use Rattle.runs.specs.Counts.{is}
use Rattle.plan.specs.Orders.{numbers_from}
use Rattle.plan.specs.Plan.{Task}
use Rattle.tasks.specs.Accesses.{task_at, task_of, first, reader, prev, next}
use Rattle.tasks.specs.Flags.{Flags, granting, DONE, NEXT, sent, with, passes_read, passes_write, satisfied}
use Rattle.tasks.specs.Tasks.{Message, Stand, free, telling, working, waiting, ready, held, opening, linking, Tasks, start, with_mail}
use Rattle.tasks.specs.Tasks.{with_adds, with_flags, with_count, with_status, with_creation, received, ended, given}

-- what a worker does with the tasks by itself
pub data Duty : Type 0 where
  -- creating: a task is opened, its access is linked, it is closed
  opens : (task : ℕ) → Duty
  links : (task access : ℕ) → Duty
  closes : (task : ℕ) → Duty
  -- the oldest message is delivered; those left
  delivers : Message → List Message → Duty
  -- the notice: the access that sent a pass message is told of the flags passed
  tells : ℕ → Flags → Duty
  -- a step of work, with so many left, and the step that ends the task
  works : (task left : ℕ) → Duty
  ends : (task : ℕ) → Duty

pub data Op : Type 0 where
  minds : Duty → Op
  -- the oldest task to add is given to the device (by a push); those left
  gives : ℕ → List ℕ → Op
  -- the device holds a task out to a worker (in a cell)
  holds : (task : ℕ) → Op
  -- a task is received: from the device itself, or one that it held out
  takes : (task : ℕ) → Op
  receives : (task : ℕ) → Op

-- what worker w, who stands as x, may do
pub data CanMind (W : ℕ) (ts : List Task) (t : Tasks) (x : Stand) (w : ℕ) : Duty → Type 0 where
  can_open : (i : ℕ) → t.creation ≡ opening i → i < length ts → CanMind W ts t x w (opens i)
  can_link : (i a : ℕ) → t.creation ≡ linking i a → a < first ts (suc i) → x ≡ free → t.mail w ≡ [] → CanMind W ts t x w (links i a)
  can_close : (i a : ℕ) → t.creation ≡ linking i a → first ts (suc i) ≤ a → CanMind W ts t x w (closes i)
  can_deliver : (m : Message) (ms : List Message) → x ≡ free → t.mail w ≡ m ∷ ms → CanMind W ts t x w (delivers m ms)
  can_tell : (a : ℕ) (f : Flags) → x ≡ telling a f → CanMind W ts t x w (tells a f)
  can_work : (i n : ℕ) → x ≡ working i (suc n) → CanMind W ts t x w (works i n)
  can_end : (i : ℕ) → x ≡ working i zero → CanMind W ts t x w (ends i)

pub data Can (W : ℕ) (ts : List Task) (t : Tasks) (x : Stand) (w : ℕ) : Op → Type 0 where
  can_mind : {d : Duty} → CanMind W ts t x w d → Can W ts t x w (minds d)
  can_give : (i : ℕ) (is : List ℕ) → t.adds w ≡ i ∷ is → Can W ts t x w (gives i is)
  can_hold : (i : ℕ) → given W t i ≡ 1 → Can W ts t x w (holds i)
  can_take : (i : ℕ) → x ≡ free → t.mail w ≡ [] → given W t i ≡ 1 → Can W ts t x w (takes i)
  can_receive : (i : ℕ) → x ≡ free → t.mail w ≡ [] → t.status i ≡ held → Can W ts t x w (receives i)

-- a message without sender
abbrev pub plain : ℕ → Flags → Message
plain a f = record { to = a; flags = f; sender = none }

-- task i's count falls by x; the worker that brings it to 0 has the task to add
unfoldable pub lowered : Tasks → ℕ → ℕ → ℕ → Tasks
lowered t w i x =
    elim (ltb 0 (t.count i) && eqb (t.count i - x) 0) [
      | true ↦ with_adds (with_status (with_count t i 0) i ready) w (t.adds w ++ i ∷ [])
      | false ↦ with_count t i (t.count i - x)
    ]

-- after a delivery: a pass message is followed by the notice to its sender
abbrev pub notice_of : Message → Option ℕ → Stand
notice_of m none = free
notice_of m (some b) = telling b m.flags

module _ (ts : List Task) where
  -- what linking access a causes: the first to an address is sent READ and WRITE, else the last before it is sent NEXT
  unfoldable pub link_message : ℕ → Message
  link_message a = elim (prev ts a) [ none ↦ plain a (granting 1 1) | some b ↦ plain b NEXT ]

  -- access a's flags become f, from e: what passes on for the first time goes to its successor as one message
  unfoldable pub passed : ℕ → Flags → Flags → List Message
  passed a e f =
      let read = passes_read (reader ts a) f - passes_read (reader ts a) e in
      let write = passes_write f - passes_write e in
      elim (eqb read 0 && eqb write 0) [ true ↦ [] | false ↦ record { to = next ts a; flags = granting read write; sender = some a } ∷ [] ]

  -- a DONE message for each access of task i
  unfoldable pub done_messages : ℕ → List Message
  done_messages i = map (λ a. plain a DONE) (numbers_from (first ts i) (length (task_at ts i).accesses))

  -- the flags of message m are set, and what passes on is posted
  abbrev pub delivered : Tasks → ℕ → Message → List Message → Tasks
  delivered t w m ms =
      let a = m.to in
      let e = t.flags a in
      let f = with e m.flags in
      with_mail (with_flags t a f) w (ms ++ passed a e f)

  -- 1 where the access that message m goes to becomes satisfied by it
  abbrev pub newly_satisfied : Tasks → Message → ℕ
  newly_satisfied t m =
      let a = m.to in
      let e = t.flags a in
      satisfied (reader ts a) (with e m.flags) - satisfied (reader ts a) e

  -- what worker w's operation makes of the tasks; a receipt and an ending note the time
  unfoldable pub after : ℕ → Tasks → ℕ → Op → Tasks
  after n t w (minds (opens i)) =
      with_creation (with_status (with_count t i (suc (length (task_at ts i).accesses))) i waiting) (linking i (first ts i))
  after n t w (minds (links i a)) = with_creation (with_mail t w (t.mail w ++ link_message a ∷ [])) (linking i (suc a))
  after n t w (minds (closes i)) = lowered (with_creation t (opening (suc i))) w i 1
  after n t w (minds (delivers m ms)) = lowered (delivered t w m ms) w (task_of ts m.to) (newly_satisfied t m)
  after n t w (minds (tells a f)) = with_flags t a (with (t.flags a) (sent f))
  after n t w (minds (works i k)) = t
  after n t w (minds (ends i)) = with_mail (ended t i n) w (t.mail w ++ done_messages i)
  after n t w (gives i is) = with_adds t w is
  after n t w (holds i) = with_status t i held
  after n t w (takes i) = received t w i n
  after n t w (receives i) = received t w i n

  -- and where w stands then
  abbrev pub stand_after : Stand → Op → Stand
  stand_after x (minds (opens i)) = x
  stand_after x (minds (links i a)) = x
  stand_after x (minds (closes i)) = x
  stand_after x (minds (delivers m ms)) = notice_of m m.sender
  stand_after x (minds (tells a f)) = free
  stand_after x (minds (works i n)) = working i n
  stand_after x (minds (ends i)) = free
  stand_after x (gives i is) = x
  stand_after x (holds i) = x
  stand_after x (takes i) = working i (task_at ts i).cost
  stand_after x (receives i) = working i (task_at ts i).cost

-- ---- what becomes of task i by an operation

-- how an operation deals with the device: what is done with which task
pub data Verb : Type 0 where
  give : Verb
  hold : Verb
  take : Verb
  fetch : Verb

pub record Deal : Type 0 where
  pub verb : Verb
  pub task : ℕ

abbrev pub deals : Op → Option Deal
deals (minds d) = none
deals (gives i is) = some (record { verb = give; task = i })
deals (holds i) = some (record { verb = hold; task = i })
deals (takes i) = some (record { verb = take; task = i })
deals (receives i) = some (record { verb = fetch; task = i })

-- the task that a duty ends
abbrev pub ends_task : Duty → Option ℕ
ends_task (opens i) = none
ends_task (links i a) = none
ends_task (closes i) = none
ends_task (delivers m ms) = none
ends_task (tells a f) = none
ends_task (works i n) = none
ends_task (ends i) = some i

-- the task that a duty works on
abbrev works_on : Duty → Option ℕ
works_on (opens i) = none
works_on (links i a) = none
works_on (closes i) = none
works_on (delivers m ms) = none
works_on (tells a f) = none
works_on (works i n) = some i
works_on (ends i) = none

-- the verbs told apart by number
abbrev verb_number : Verb → ℕ
verb_number give = 0
verb_number hold = 1
verb_number take = 2
verb_number fetch = 3

abbrev pub alike : Verb → Verb → Bool
alike u v = eqb (verb_number u) (verb_number v)

-- what a dealing counts for: as much as its task weighs, if it is of the kind that is meant
abbrev pub dealing : (Verb → Bool) → (ℕ → ℕ) → Option Deal → ℕ
dealing kind weight none = 0
dealing kind weight (some d) = elim (kind d.verb) [ true ↦ weight d.task | false ↦ 0 ]

-- 1 where task i is given to the device
abbrev pub gave : ℕ → Op → ℕ
gave i op = dealing (alike give) (λ j. is j i) (deals op)

-- 1 where it is taken from the device, to hold it out or to run it
abbrev pub took : ℕ → Op → ℕ
took i op = dealing (λ v. alike hold v || alike take v) (λ j. is j i) (deals op)

-- 1 where it is held out, and where it no longer is
abbrev pub held_out : ℕ → Op → ℕ
held_out i op = dealing (alike hold) (λ j. is j i) (deals op)

abbrev pub fetched : ℕ → Op → ℕ
fetched i op = dealing (alike fetch) (λ j. is j i) (deals op)

-- 1 where it is received: taken or fetched
abbrev pub is_receipt : ℕ → Op → ℕ
is_receipt i op = dealing (λ v. alike take v || alike fetch v) (λ j. is j i) (deals op)

-- 1 where it is ended
abbrev named : ℕ → Option ℕ → ℕ
named i none = 0
named i (some j) = is j i

abbrev pub is_ending : ℕ → Op → ℕ
is_ending i (minds d) = named i (ends_task d)
is_ending i (gives j js) = 0
is_ending i (holds j) = 0
is_ending i (takes j) = 0
is_ending i (receives j) = 0

-- 1 where a step of work is done on it
abbrev pub is_work : ℕ → Op → ℕ
is_work i (minds d) = named i (works_on d)
is_work i (gives j js) = 0
is_work i (holds j) = 0
is_work i (takes j) = 0
is_work i (receives j) = 0

-- x where a and b are equal, else 0
unfoldable pub here : ℕ → ℕ → ℕ → ℕ
here a b x = elim (eqb a b) [ true ↦ x | false ↦ 0 ]

-- of a flag, what comes to access a: by a delivery, and by a notice
abbrev brought_by : (Flags → ℕ) → ℕ → Duty → ℕ
brought_by flag a (opens i) = 0
brought_by flag a (links i b) = 0
brought_by flag a (closes i) = 0
brought_by flag a (delivers m ms) = here a m.to (flag m.flags)
brought_by flag a (tells b f) = here a b (flag (sent f))
brought_by flag a (works i n) = 0
brought_by flag a (ends i) = 0

abbrev pub brings : (Flags → ℕ) → ℕ → Op → ℕ
brings flag a (minds d) = brought_by flag a d
brings flag a (gives i is) = 0
brings flag a (holds i) = 0
brings flag a (takes i) = 0
brings flag a (receives i) = 0

-- 1 where any task is given to the device
abbrev pub is_give : Op → ℕ
is_give op = dealing (alike give) (λ j. 1) (deals op)

-- 1 for an operation that leaves its worker's lists alone: it neither posts nor gives nor makes a task ready
abbrev quiet_duty : Duty → ℕ
quiet_duty (opens i) = 1
quiet_duty (links i a) = 0
quiet_duty (closes i) = 0
quiet_duty (delivers m ms) = 0
quiet_duty (tells a f) = 1
quiet_duty (works i n) = 1
quiet_duty (ends i) = 0

abbrev pub quiet : Op → ℕ
quiet (minds d) = quiet_duty d
quiet (gives i is) = 0
quiet (holds i) = 1
quiet (takes i) = 1
quiet (receives i) = 1

pub record Move : Type 0 where
  pub by : ℕ
  pub at : ℕ
  pub op : Op

-- moves of workers below W, the latest first, each one allowed where it comes; their times are any
pub data Run (W : ℕ) (ts : List Task) (t : Tasks) (st : ℕ → Stand) : List Move → Tasks → (ℕ → Stand) → Type 0 where
  still : Run W ts t st [] t st
  then : {ms : List Move} {now : Tasks} {at : ℕ → Stand} → Run W ts t st ms now at → (w : ℕ) → w < W → (n : ℕ) (op : Op)
      → Can W ts now (at w) w op
      → Run W ts t st (record { by = w; at = n; op = op } ∷ ms) (after ts n now w op) (upd at w (stand_after ts (at w) op))

-- how often something happens in a history
unfoldable pub tally : (Op → ℕ) → List Move → ℕ
tally f [] = 0
tally f (m ∷ ms) = f m.op + tally f ms

-- the moves come one after another in time, and those of one worker are at least M apart
abbrev pub Spaced : ℕ → List Move → Type 0
Spaced M [] = Unit {0}
Spaced M (m ∷ ms) = ((n : Move) → Memᴰ n ms → (n.at < m.at) × (n.by ≡ m.by → n.at + M ≤ m.at)) × Spaced M ms

-- from the start, with nobody at a task
abbrev pub History : ℕ → List Task → List Move → Tasks → (ℕ → Stand) → Type 0
History W ts = Run W ts start (λ _. free)
