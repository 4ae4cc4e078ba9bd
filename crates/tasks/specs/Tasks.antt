-- The tasks of a plan as they stand in a run: what is held by access, by task and by worker; statuses by their stage; how far creating is;
-- and who has a task: in hand, to be added, or given to the device.
use Rattle.std.specs.Prelude.{ℕ, suc, ◌+◌, ◌*◌, ◌-◌, ◌≤◌, ◌<◌, ◌≡◌, Bool, List, [], length, eqb, leb}
use Rattle.std.proofs.Math.Option.{Option, some}
use Rattle.runs.specs.Update.{upd}
use Rattle.runs.specs.Sums.{sum}
use Rattle.runs.specs.Counts.{one, is, count}
use Rattle.plan.specs.Plan.{Task}
use Rattle.tasks.specs.Accesses.{total, task_at, first, reader}
use Rattle.tasks.specs.Flags.{Flags, no_flag, satisfied, RightsOnly}

-- flags under way to an access; a pass message has the access that sends it
pub record Message : Type 0 where
  pub to : ℕ
  pub flags : Flags
  pub sender : Option ℕ

-- where a worker stands with the tasks
pub data Stand : Type 0 where
  free : Stand
  -- it has delivered a pass message and has its notice to give: the sender is to be told of these flags
  telling : ℕ → Flags → Stand
  -- it has a task in hand, with so many steps of work left
  working : ℕ → ℕ → Stand

-- what has become of a task, the paper's states: new, waiting (opened), ready (count 0), held (in a cell), run, over
pub data Status : Type 0 where
  new : Status
  waiting : Status
  ready : Status
  held : Status
  running : Status
  over : Status

-- how far creating the tasks is: task i is to be opened (none is left after the last), or, with task i open, access a is to be linked
pub data Creation : Type 0 where
  opening : ℕ → Creation
  linking : ℕ → ℕ → Creation

pub record Tasks : Type 0 where
  -- by worker: its mailbox and its tasks to add, the oldest first
  pub mail : ℕ → List Message
  pub adds : ℕ → List ℕ
  -- by access
  pub flags : ℕ → Flags
  -- by task: its count of unsatisfied accesses, plus one until closed; what has become of it, and by whom and when
  pub count : ℕ → ℕ
  pub status : ℕ → Status
  pub runner : ℕ → ℕ
  pub receipt : ℕ → ℕ
  pub ending : ℕ → ℕ
  pub creation : Creation

unfoldable pub start : Tasks
start =
    record {
      mail = λ _. [];
      adds = λ _. [];
      flags = λ _. no_flag;
      count = λ _. 0;
      status = λ _. new;
      runner = λ _. 0;
      receipt = λ _. 0;
      ending = λ _. 0;
      creation = opening 0;
    }

-- the tasks with one thing changed
module _ (t : Tasks) where
  abbrev pub with_mail : ℕ → List Message → Tasks
  with_mail w ms =
      record {
        mail = upd t.mail w ms;
        adds = t.adds;
        flags = t.flags;
        count = t.count;
        status = t.status;
        runner = t.runner;
        receipt = t.receipt;
        ending = t.ending;
        creation = t.creation;
      }

  abbrev pub with_adds : ℕ → List ℕ → Tasks
  with_adds w is =
      record {
        mail = t.mail;
        adds = upd t.adds w is;
        flags = t.flags;
        count = t.count;
        status = t.status;
        runner = t.runner;
        receipt = t.receipt;
        ending = t.ending;
        creation = t.creation;
      }

  abbrev pub with_flags : ℕ → Flags → Tasks
  with_flags a f =
      record {
        mail = t.mail;
        adds = t.adds;
        flags = upd t.flags a f;
        count = t.count;
        status = t.status;
        runner = t.runner;
        receipt = t.receipt;
        ending = t.ending;
        creation = t.creation;
      }

  abbrev pub with_count : ℕ → ℕ → Tasks
  with_count i n =
      record {
        mail = t.mail;
        adds = t.adds;
        flags = t.flags;
        count = upd t.count i n;
        status = t.status;
        runner = t.runner;
        receipt = t.receipt;
        ending = t.ending;
        creation = t.creation;
      }

  abbrev pub with_status : ℕ → Status → Tasks
  with_status i x =
      record {
        mail = t.mail;
        adds = t.adds;
        flags = t.flags;
        count = t.count;
        status = upd t.status i x;
        runner = t.runner;
        receipt = t.receipt;
        ending = t.ending;
        creation = t.creation;
      }

  abbrev pub with_creation : Creation → Tasks
  with_creation x =
      record {
        mail = t.mail;
        adds = t.adds;
        flags = t.flags;
        count = t.count;
        status = t.status;
        runner = t.runner;
        receipt = t.receipt;
        ending = t.ending;
        creation = x;
      }

  -- worker w has received task i, and task i is ended, at time n
  abbrev pub received : ℕ → ℕ → ℕ → Tasks
  received w i n =
      record {
        mail = t.mail;
        adds = t.adds;
        flags = t.flags;
        count = t.count;
        status = upd t.status i running;
        runner = upd t.runner i w;
        receipt = upd t.receipt i n;
        ending = t.ending;
        creation = t.creation;
      }

  abbrev pub ended : ℕ → ℕ → Tasks
  ended i n =
      record {
        mail = t.mail;
        adds = t.adds;
        flags = t.flags;
        count = t.count;
        status = upd t.status i over;
        runner = t.runner;
        receipt = t.receipt;
        ending = upd t.ending i n;
        creation = t.creation;
      }

-- ---- statuses

-- the order in which a task goes through them
abbrev pub stage : Status → ℕ
stage new = 0
stage waiting = 1
stage ready = 2
stage held = 3
stage running = 4
stage over = 5

abbrev pub is_over : Status → Bool
is_over x = eqb (stage x) (stage over)

-- each is 1 where it holds, else 0
abbrev pub is_ready : Status → ℕ
is_ready x = one (eqb (stage x) (stage ready))

abbrev pub is_held : Status → ℕ
is_held x = one (eqb (stage x) (stage held))

abbrev pub is_running : Status → ℕ
is_running x = one (eqb (stage x) (stage running))

-- the count of the task is 0: it is ready, held, run or over
abbrev pub past_waiting : Status → ℕ
past_waiting x = one (leb (stage ready) (stage x))

-- the task was received: it is run or over
abbrev pub is_received : Status → ℕ
is_received x = one (leb (stage running) (stage x))

abbrev pub is_ended : Status → ℕ
is_ended x = one (is_over x)

-- ---- how far creating is

-- how many tasks are opened and closed, and how many accesses are linked
abbrev pub opened : Creation → ℕ
opened (opening i) = i
opened (linking i a) = suc i

abbrev pub closed : Creation → ℕ
closed (opening i) = i
closed (linking i a) = i

abbrev pub linked : List Task → Creation → ℕ
linked ts (opening i) = first ts i
linked ts (linking i a) = a

-- 1 until task i is closed, then 0
abbrev pub until_closed : Creation → ℕ → ℕ
until_closed x i = one (leb (closed x) i)

-- it is at a task of the plan and at one of its accesses, or at the end of either
abbrev pub Made : List Task → Creation → Type 0
Made ts (opening i) = i ≤ length ts
Made ts (linking i a) = (i < length ts) × (first ts i ≤ a) × (a ≤ first ts (suc i))

-- all tasks are created
abbrev pub Created : List Task → Creation → Type 0
Created ts (opening i) = length ts ≤ i
Created ts (linking i a) = ⊥

-- ---- who has a task

-- 1 where a worker that stands so has task i in hand
abbrev pub in_hand : ℕ → Stand → ℕ
in_hand i free = 0
in_hand i (telling a f) = 0
in_hand i (working j n) = is j i

-- the steps of work that are left of task i, in the hands of such a worker
abbrev pub left_in_hand : ℕ → Stand → ℕ
left_in_hand i free = 0
left_in_hand i (telling a f) = 0
left_in_hand i (working j n) = is j i * n

-- how often task i is to be added, by one of W workers
abbrev pub to_add : ℕ → (ℕ → List ℕ) → ℕ → ℕ
to_add W adds i = sum W (λ w. count i (adds w))

-- 1 where task i is ready and no longer to be added: the device has it
unfoldable pub given : ℕ → Tasks → ℕ → ℕ
given W t i = is_ready (t.status i) - to_add W t.adds i

-- ---- what is said of messages and of tasks

-- a message goes to an access and brings a flag, none of the SENT ones; one with a sender passes READ or WRITE
pub record Sound (ts : List Task) (m : Message) : Type 0 where
  pub to : m.to < total ts
  pub brings : 1 ≤ m.flags.read + m.flags.write + m.flags.next + m.flags.done
  pub unsent : (m.flags.sent_read ≡ 0) × (m.flags.sent_write ≡ 0)
  pub from : (b : ℕ) → m.sender ≡ some b → (b < total ts) × RightsOnly m.flags

-- how many accesses of task i are not satisfied
abbrev pub unsatisfied : List Task → (ℕ → Flags) → ℕ → ℕ
unsatisfied ts flags i =
    sum (length (task_at ts i).accesses) (λ k. let a = first ts i + k in 1 - satisfied (reader ts a) (flags a))

-- a task is closed, and its accesses are all linked and satisfied
pub record Released (ts : List Task) (t : Tasks) (i : ℕ) : Type 0 where
  pub closed : i < closed t.creation
  pub linked : first ts (suc i) ≤ linked ts t.creation
  pub satisfied : (a : ℕ) → first ts i ≤ a → a < first ts (suc i) → 1 ≤ satisfied (reader ts a) (t.flags a)
