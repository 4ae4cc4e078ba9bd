-- The tasks' promise: what a device may count on, whatever it is. A client cites these laws and can look behind none of them.
use Rattle.std.specs.Prelude.{ℕ, suc, ◌+◌, ◌*◌, ◌-◌, ◌≤◌, ◌<◌, ◌≡◌, refl, ◌⊎◌, ◌≢◌, ◌↔◌, true, length, get_or, leb}
use Rattle.std.proofs.Common.{arith, ap, ◌∙◌}
use mathlib.Core.List.{List, [], ◌∷◌, ◌++◌, Memᴰ}
use Rattle.std.proofs.Math.Option.{none, some}
use Rattle.runs.specs.Update.{upd}
use Rattle.runs.specs.Sums.{sum}
use Rattle.runs.specs.Counts.{one_le, count}
use Rattle.plan.specs.Orders.{numbers_from}
use Rattle.plan.specs.Plan.{Task}
use Rattle.plan.specs.Chains.{conflict, Chain, chain_cost, last_of}
use Rattle.tasks.specs.Accesses.{no_access, task_of, task_at, access_at, first, reader, prev, next}
use Rattle.tasks.specs.Flags.{no_flag, Flags, each, sent, with, passes_read, passes_write}
use Rattle.tasks.specs.Tasks.{Message, Stand, free, telling, working, Status, new, waiting, ready, held, running, over, opening}
use Rattle.tasks.specs.Tasks.{Tasks, start, with_adds, with_count, with_status, stage, is_over, is_ready, is_held, is_running, past_waiting}
use Rattle.tasks.specs.Tasks.{is_received, is_ended, opened, linked, in_hand, left_in_hand, to_add, given}
use Rattle.tasks.specs.History.{Op, gives, Can, lowered, done_messages, after, stand_after, gave, took, held_out, fetched, is_receipt}
use Rattle.tasks.specs.History.{is_ending, is_work, brings, is_give, quiet, Move, Run, tally, Spaced, History}
use Rattle.tasks.proofs.Inside.Statuses as statuses
use Rattle.tasks.proofs.Inside.Links as links
use Rattle.tasks.proofs.Inside.Rights as rights
use Rattle.tasks.proofs.Inside.Lowered as counts
use Rattle.tasks.proofs.Inside.Messages as messages
use Rattle.tasks.proofs.Inside.Counting as counting
use Rattle.tasks.proofs.Inside.Order as ordering
use Rattle.tasks.proofs.Inside.Stuck as stuck
use Rattle.tasks.proofs.Inside.Invariant.{Inv}
use Rattle.tasks.proofs.Inside.Keeps as keeps
use Rattle.tasks.proofs.Inside.Lists as lists
use Rattle.tasks.proofs.Inside.Stories as stories
use Rattle.tasks.specs.Inside.Work as work
use Rattle.tasks.proofs.Inside.Work as work_laws
use Rattle.tasks.proofs.Inside.Histories as histories
use Rattle.tasks.proofs.Inside.Brought as came
use Rattle.tasks.proofs.Inside.Worked as labour
use Rattle.tasks.proofs.Inside.Spans as spans
-- the words of the laws
pub use Rattle.tasks.specs.Accesses.{total, addr, total_cost, Distinct}
pub use Rattle.tasks.specs.Flags.{Once, NoneTwice, RightsOnly}
pub use Rattle.tasks.specs.Tasks.{until_closed, Made, Created, Sound, unsatisfied, Released}

-- what holds of the tasks of ts, and of where W workers stand with them, throughout every history
pub record Kept (W : ℕ) (ts : List Task) (t : Tasks) (st : ℕ → Stand) : Type 0 where
  inv : Inv W ts t st

-- the operations that are still to come at the most, and the tasks that are still to be given to the device
pub work_left : ℕ → List Task → Tasks → (ℕ → Stand) → ℕ
work_left = work.work_left

pub to_give : ℕ → List Task → Tasks → ℕ
to_give = work_laws.to_give

-- ---- the start

pub kept_start : (W : ℕ) (ts : List Task) → Distinct ts → Kept W ts start (λ _. free)
kept_start W ts d = record { inv = keeps.starts W ts (links.links ts d) }

pub start_status : (i : ℕ) → start.status i ≡ new
unfolding start
start_status i = refl

pub start_lists : (w : ℕ) → (start.mail w ≡ []) × (start.adds w ≡ [])
unfolding start
start_lists w = (refl, refl)

pub start_given : (W i : ℕ) → given W start i ≡ 0
unfolding start given
start_given W i = omega arith

-- 7 operations for each access, 6 for each task, and the steps of work that the tasks cost
pub work_start : (W : ℕ) (ts : List Task) → work_left W ts start (λ _. free) ≡ 7 * total ts + 6 * length ts + total_cost ts
unfolding work_left
work_start = work_laws.work_start

pub gives_start : (W : ℕ) (ts : List Task) → to_give W ts start ≡ length ts
unfolding to_give
gives_start = work_laws.gives_start

module _ {W : ℕ} {ts : List Task} {t : Tasks} {st : ℕ → Stand} (v : Kept W ts t st) where
  -- ---- messages and flags

  -- every flag is set at most once
  pub flags_once : (a : ℕ) → Once (t.flags a)
  flags_once = messages.flags_once W ts v.inv.links t st v.inv.messages

  -- a notice is to an access, and tells of each flag once
  pub notice_once : (w : ℕ) → w < W → (a : ℕ) (f : Flags) → st w ≡ telling a f → (a < total ts) × Once f
  notice_once = messages.notice_once W ts v.inv.links t st v.inv.messages

  -- and sets no flag that is set
  pub notice_new : (w : ℕ) → w < W → (a : ℕ) (f : Flags) → st w ≡ telling a f → Once (with (t.flags a) (sent f))
  notice_new = messages.notice_new W ts v.inv.links t st v.inv.messages

  module _ (w : ℕ) (hw : w < W) (xs : List Message) (m : Message) (ys : List Message) (e : t.mail w ≡ xs ++ m ∷ ys) where
    -- a message is to an access and brings a flag
    pub message_sound : Sound ts m
    message_sound = messages.message_sound W ts v.inv.links t st v.inv.messages w hw xs m ys e

    -- it repeats no flag that is set
    pub no_repeat : NoneTwice (t.flags m.to) m.flags
    no_repeat = messages.no_repeat W ts v.inv.links t st v.inv.messages w hw xs m ys e

    -- and none of another message under way, in another mailbox
    pub no_two : (u : ℕ) → u < W → w ≢ u → (us : List Message) (n : Message) (vs : List Message) → t.mail u ≡ us ++ n ∷ vs
        → m.to ≡ n.to → NoneTwice m.flags n.flags
    no_two = messages.no_two W ts v.inv.links t st v.inv.messages w hw xs m ys e

  -- or in the same
  pub no_two_in : (w : ℕ) → w < W → (xs : List Message) (m : Message) (ys : List Message) (n : Message) (zs : List Message)
      → t.mail w ≡ xs ++ (m ∷ (ys ++ n ∷ zs)) → m.to ≡ n.to → NoneTwice m.flags n.flags
  no_two_in = messages.no_two_in W ts v.inv.links t st v.inv.messages

  -- every message is to an access that is linked, and one that is not linked has no flag
  pub way_linked : (w : ℕ) → w < W → (xs : List Message) (m : Message) (ys : List Message) → t.mail w ≡ xs ++ m ∷ ys
      → m.to < linked ts t.creation
  way_linked = counting.way_linked W ts v.inv.links t st v.inv.counts v.inv.messages v.inv.counting

  pub unlinked_bare : (a : ℕ) → linked ts t.creation ≤ a → t.flags a ≡ no_flag
  unlinked_bare = counting.unlinked_bare W ts v.inv.links t st v.inv.counts v.inv.messages v.inv.counting

  -- an access that is DONE is of a task that is over
  pub done_over : (a : ℕ) → a < total ts → 1 ≤ (t.flags a).done → t.status (task_of ts a) ≡ over
  done_over = ordering.done_over W ts v.inv.links t st v.inv.messages

  -- one with READ has every earlier writer of its address DONE, one with WRITE every earlier access
  pub read_after : (a : ℕ) → a < total ts → 1 ≤ (t.flags a).read
      → (b : ℕ) → b < a → addr ts b ≡ addr ts a → reader ts b ≡ 0 → 1 ≤ (t.flags b).done
  read_after = ordering.read_after W ts v.inv.links t st v.inv.messages

  pub write_after : (a : ℕ) → a < total ts → 1 ≤ (t.flags a).write → (b : ℕ) → b < a → addr ts b ≡ addr ts a → 1 ≤ (t.flags b).done
  write_after = ordering.write_after W ts v.inv.links t st v.inv.messages

  -- no mailbox holds more messages than a task has accesses at the most
  pub mails_keep : (n : ℕ) → 0 < n → ((i : ℕ) → length (task_at ts i).accesses ≤ n) → ((u : ℕ) → length (t.mail u) ≤ n)
      → (w time : ℕ) {op : Op} → Can W ts t (st w) w op → (u : ℕ) → length ((after ts time t w op).mail u) ≤ n
  mails_keep n pos few b w time can = lists.mails_keep n pos few v.inv b w time can

  -- ---- creating

  pub made : Made ts t.creation
  made = v.inv.messages.made

  -- the tasks that are opened are those that are not new
  pub uncreated : (i : ℕ) → opened t.creation ≤ i → t.status i ≡ new
  uncreated = v.inv.counts.uncreated

  pub created : (i : ℕ) → i < opened t.creation → t.status i ≢ new
  created = v.inv.counts.created

  pub of_the_plan : (i : ℕ) → t.status i ≢ new → i < length ts
  of_the_plan = keeps.of_the_plan v.inv

  -- ---- becoming ready

  -- a task waits exactly while it counts: it becomes ready when its count gets 0
  pub waits_exactly : (i : ℕ) → (t.status i ≡ waiting) ↔ (0 < t.count i)
  waits_exactly i = (v.inv.counts.uncounted i, keeps.counts_waits v.inv i)

  -- a task that is opened counts its unsatisfied accesses, plus one until it is closed
  pub counts_unsatisfied : (i : ℕ) → i < opened t.creation → t.count i ≡ unsatisfied ts t.flags i + until_closed t.creation i
  counts_unsatisfied = v.inv.counting

  -- one that is ready, held, run or over is closed, and its accesses are all linked and satisfied
  pub released : (i : ℕ) → past_waiting (t.status i) ≡ 1 → Released ts t i
  released = counting.released W ts v.inv.links t st v.inv.counts v.inv.messages v.inv.counting

  -- and every earlier task that conflicts with it is over
  pub in_order : (i j : ℕ) → i < j → j < length ts → conflict (task_at ts i) (task_at ts j) ≡ true → past_waiting (t.status j) ≡ 1
      → t.status i ≡ over
  in_order = ordering.earlier_over W ts v.inv.links t st v.inv.counts v.inv.messages v.inv.counting

  -- so once the last task of a chain is over, all of its tasks are
  pub chain_over : (i : ℕ) (is : List ℕ) → Chain ts (i ∷ is) → t.status (last_of i is) ≡ over
      → (j : ℕ) → Memᴰ j (i ∷ is) → t.status j ≡ over
  chain_over = spans.chain_over v.inv

  -- where all tasks are created, every mailbox is empty and no task is ready, held or run, every task is over
  pub nothing_stuck : (n : ℕ) → t.creation ≡ opening n → length ts ≤ n → ((w : ℕ) → w < W → t.mail w ≡ [])
      → ((i : ℕ) → i < length ts → is_ready (t.status i) + is_held (t.status i) + is_running (t.status i) ≡ 0)
      → (i : ℕ) → i < length ts → t.status i ≡ over
  nothing_stuck = stuck.not_stuck W ts v.inv.links t st v.inv.counts v.inv.messages v.inv.counting

  -- ---- who has a task

  -- what is ready is to be added, or the device was given it
  pub to_add_or_given : (i : ℕ) → to_add W t.adds i + given W t i ≡ is_ready (t.status i)
  to_add_or_given = keeps.to_add_or_given v.inv

  pub adds_ready : (w i : ℕ) → w < W → 0 < count i (t.adds w) → t.status i ≡ ready
  adds_ready = keeps.adds_ready v.inv

  pub adds_length : (w : ℕ) → w < W → length (t.adds w) ≤ length ts
  adds_length = keeps.adds_length v.inv

  -- the device has a task of the plan, and at most once
  pub given_le : (i : ℕ) → given W t i ≤ 1
  given_le = keeps.given_le v.inv

  pub given_below : (i : ℕ) → 0 < given W t i → i < length ts
  given_below = keeps.given_below v.inv

  -- so a list of what it was given is no longer than the plan
  pub given_room : (xs : List ℕ) → ((i : ℕ) → count i xs ≤ given W t i) → length xs ≤ length ts
  given_room = keeps.given_room v.inv

  -- a task that runs is in one worker's hands: of its runner, whose mailbox is empty
  pub in_hands : (i : ℕ) → sum W (λ w. in_hand i (st w)) ≡ is_running (t.status i)
  in_hands = v.inv.hands

  pub in_hand_lem : (w i n : ℕ) → w < W → st w ≡ working i n
      → (t.status i ≡ running) × (t.runner i ≡ w) × (t.mail w ≡ []) × (n ≤ (task_at ts i).cost)
  in_hand_lem = keeps.all_in_hand v.inv

  -- ---- one operation

  module _ (w : ℕ) (hw : w < W) (time : ℕ) (op : Op) (can : Can W ts t (st w) w op) where
    pub kept : Kept W ts (after ts time t w op) (upd st w (stand_after ts (st w) op))
    kept = record { inv = keeps.keeps v.inv w hw time op can }

    -- the device has what it had, with what is given to it and without what is taken
    pub given_after : (i : ℕ) → given W (after ts time t w op) i + took i op ≡ given W t i + gave i op
    given_after = keeps.given_after v.inv w hw time can

    -- only what it has is taken from it
    pub took_given : (i : ℕ) → took i op ≤ given W t i
    took_given = keeps.took_given v.inv w hw can

    -- what is held changes by holding out and fetching
    pub held_after : (i : ℕ) → is_held ((after ts time t w op).status i) + fetched i op ≡ is_held (t.status i) + held_out i op
    held_after i = (stories.counted (stories.change v.inv w hw time can i)).held

    -- a status never goes back
    pub never_back : (i : ℕ) → stage (t.status i) ≤ stage ((after ts time t w op).status i)
    never_back i = (stories.counted (stories.change v.inv w hw time can i)).forward

    -- every operation takes at least 1 of the work that is left
    pub work_less : suc (work_left W ts (after ts time t w op) (upd st w (stand_after ts (st w) op))) ≤ work_left W ts t st
    unfolding work_left
    work_less = work_laws.work_falls W ts v.inv w hw time op can

    -- each give is one less to come, and nothing else changes their number
    pub gives_fall : to_give W ts (after ts time t w op) + is_give op ≡ to_give W ts t
    unfolding to_give
    gives_fall = work_laws.gives_fall W ts v.inv w hw time can

-- what the device has is ready
pub given_ready : (W : ℕ) (t : Tasks) (i : ℕ) → given W t i ≡ 1 → t.status i ≡ ready
given_ready = counting.given_ready

-- with no work left every task is over
pub no_work_over : (W : ℕ) (ts : List Task) (t : Tasks) (st : ℕ → Stand) → work_left W ts t st ≡ 0
    → (i : ℕ) → i < length ts → t.status i ≡ over
unfolding work_left
no_work_over = work_laws.no_work_over

module _ {W : ℕ} {ts : List Task} {t : Tasks} {x : Stand} {w : ℕ} {op : Op} (can : Can W ts t x w op) where
  -- what is received was ready or held
  pub receipt_past : (i : ℕ) → 0 < is_receipt i op → past_waiting (t.status i) ≡ 1
  receipt_past = histories.receipt_past can

  -- once all tasks are created they are
  pub created_stays : (time : ℕ) → Created ts t.creation → Created ts (after ts time t w op).creation
  created_stays time = lists.created_stays time can

-- ---- the lists of the workers

module _ (ts : List Task) (time : ℕ) (t : Tasks) (w : ℕ) where
  -- another worker's are left alone
  pub others : (op : Op) (u : ℕ) → u ≢ w → ((after ts time t w op).mail u ≡ t.mail u) × ((after ts time t w op).adds u ≡ t.adds u)
  others = lists.others ts time t w

  -- and its own by a quiet operation
  pub own : (op : Op) → quiet op ≡ 1 → ((after ts time t w op).mail w ≡ t.mail w) × ((after ts time t w op).adds w ≡ t.adds w)
  own = lists.own ts time t w

  pub own_given : (j : ℕ) (js : List ℕ)
      → ((after ts time t w (gives j js)).mail w ≡ t.mail w) × ((after ts time t w (gives j js)).adds w ≡ js)
  own_given = lists.own_given ts time t w

  -- whoever brings a count to 0 has the task to add, after what it had to add before; nobody else's tasks to add change
  pub has_to_add : (op : Op) (i : ℕ) → 0 < t.count i → (after ts time t w op).count i ≡ 0
      → (after ts time t w op).adds ≡ upd t.adds w (t.adds w ++ i ∷ [])
  has_to_add = lists.has_to_add ts time t w

-- an ending posts as many messages as the task has accesses
pub done_length : (ts : List Task) (i : ℕ) → length (done_messages ts i) ≡ length (task_at ts i).accesses
done_length = lists.done_length

pub numbers_length : (k n : ℕ) → length (numbers_from k n) ≡ n
numbers_length = lists.numbers_length

-- a count that falls comes to 0, or it was 0 or stays above
pub lowered_cases : (P : Tasks → Type 0) (t : Tasks) (w i x : ℕ)
    → (0 < t.count i → t.count i - x ≡ 0 → P (with_adds (with_status (with_count t i 0) i ready) w (t.adds w ++ i ∷ [])))
    → ((t.count i ≡ 0) ⊎ (x < t.count i) → P (with_count t i (t.count i - x))) → P (lowered t w i x)
lowered_cases = counts.lowered_cases

-- ---- histories

-- a run with an operation before it
pub run_first : {W : ℕ} {ts : List Task} {t : Tasks} {st : ℕ → Stand} (w : ℕ) → w < W → (time : ℕ) (op : Op) → Can W ts t (st w) w op
    → {ms : List Move} {now : Tasks} {at : ℕ → Stand} → Run W ts (after ts time t w op) (upd st w (stand_after ts (st w) op)) ms now at
    → Run W ts t st (ms ++ record { by = w; at = time; op = op } ∷ []) now at
run_first = histories.run_first

pub tally_append : (f : Op → ℕ) (xs ys : List Move) → tally f (xs ++ ys) ≡ tally f xs + tally f ys
tally_append = histories.tally_append

-- what holds before a run holds after it
pub run_keeps : {W : ℕ} {ts : List Task} {t : Tasks} {st : ℕ → Stand} → Kept W ts t st
    → {ms : List Move} {now : Tasks} {at : ℕ → Stand} → Run W ts t st ms now at → Kept W ts now at
run_keeps v r = record { inv = histories.run_keeps v.inv r }

module _ {W : ℕ} {ts : List Task} (d : Distinct ts) {ms : List Move} {t : Tasks} {st : ℕ → Stand} (history : History W ts ms t st) where
  -- so every history keeps the promise
  pub always : Kept W ts t st
  always = run_keeps (kept_start W ts d) history

  -- every history ends: it has at most 7 operations for each access, 6 for each task, and the steps of work that the tasks cost
  pub short : length ms + work_left W ts t st ≤ 7 * total ts + 6 * length ts + total_cost ts
  unfolding work_left
  short = histories.short (links.links ts d) history

  pub mails : (n : ℕ) → 0 < n → ((i : ℕ) → length (task_at ts i).accesses ≤ n) → (u : ℕ) → length (t.mail u) ≤ n
  mails n pos few = histories.mails (links.links ts d) n pos few history

  -- an access has the flags that deliveries and notices brought to it
  pub brought : (a : ℕ) → t.flags a ≡ each (λ flag. tally (brings flag a) ms)
  brought a =
      rw (
        came.brought (λ f. f.read) (λ f g. refl) a refl history,
        came.brought (λ f. f.write) (λ f g. refl) a refl history,
        came.brought (λ f. f.done) (λ f g. refl) a refl history,
        came.brought (λ f. f.next) (λ f g. refl) a refl history,
        came.brought (λ f. f.sent_read) (λ f g. refl) a refl history,
        came.brought (λ f. f.sent_write) (λ f g. refl) a refl history,
      )

  module _ (i : ℕ) where
    -- a task was received once where it is run or over, and ended once where it is over
    pub receipts : tally (is_receipt i) ms ≡ is_received (t.status i)
    receipts = histories.receipts (links.links ts d) i history

    pub endings : tally (is_ending i) ms ≡ is_ended (t.status i)
    endings = histories.endings (links.links ts d) i history

    pub received_once : tally (is_receipt i) ms ≤ 1
    received_once = histories.received_once (links.links ts d) i history

    pub ended_once : tally (is_ending i) ms ≤ 1
    ended_once = histories.ended_once (links.links ts d) i history

    -- for each receipt as many steps of work as the task costs: those that were done, and those that are left in the workers' hands
    pub worked : tally (is_work i) ms + sum W (λ w. left_in_hand i (st w)) ≡ tally (is_receipt i) ms * (task_at ts i).cost
    worked = labour.worked i history

    -- so it was worked on for as many steps as it costs, once it is over
    pub works_exactly : t.status i ≡ over → tally (is_work i) ms ≡ (task_at ts i).cost
    works_exactly o =
        let once : tally (is_receipt i) ms ≡ 1 = receipts ∙ ap is_received o in
        omega (arith, rw once at worked, labour.nothing_left W i st (in_hands always i ∙ ap is_running o))

    -- its receipt, and its ending, are by the worker and at the time that are noted
    pub receipt_by : (m : Move) → Memᴰ m ms → 0 < is_receipt i m.op → (t.runner i ≡ m.by) × (t.receipt i ≡ m.at)
    receipt_by = histories.receipt_by (links.links ts d) i history

    pub ending_by : (m : Move) → Memᴰ m ms → 0 < is_ending i m.op → (t.runner i ≡ m.by) × (t.ending i ≡ m.at)
    ending_by = histories.ending_by (links.links ts d) i history

    -- where there is a worker at all: what is noted is a worker's number, and no later than the latest operation
    pub noted_within : 0 < W → (n : ℕ) → ((m : Move) → Memᴰ m ms → m.at ≤ n)
        → (t.runner i < W) × (t.receipt i ≤ n) × (t.ending i ≤ n)
    noted_within any n late = histories.noted_within (links.links ts d) i any n history late

  -- where the moves come one after another in time, and those of one worker are at least M apart
  module _ (M : ℕ) (spaced : Spaced M ms) where
    -- every step of work on a task is a move of its runner, and so are its receipt and its ending
    pub span : (i : ℕ) → t.status i ≡ over → t.receipt i + suc (task_at ts i).cost * M ≤ t.ending i
    span i = spans.span (links.links ts d) M i history spaced

    -- a task is received after every earlier one that conflicts with it has ended
    pub received_after : (i j : ℕ) → i < j → j < length ts → conflict (task_at ts i) (task_at ts j) ≡ true → 0 < is_received (t.status j)
        → t.ending i < t.receipt j
    received_after i j l b x = spans.received_after (links.links ts d) M i j l b x history spaced

    -- so the tasks of a chain come one after another
    pub chain_span : (i : ℕ) (is : List ℕ) → Chain ts (i ∷ is) → t.status (last_of i is) ≡ over
        → t.receipt i + (chain_cost ts (i ∷ is) + length (i ∷ is)) * M ≤ t.ending (last_of i is)
    chain_span = spans.chain_span (links.links ts d) M history spaced

-- ---- statuses

-- no two are at one stage, and there are six
pub stage_same : (x y : Status) → stage x ≡ stage y → x ≡ y
stage_same = statuses.stage_same

pub stage_le : (x : Status) → stage x ≤ 5
stage_le = statuses.stage_le

pub is_ready_lem : (x : Status) → 0 < is_ready x → x ≡ ready
is_ready_lem x = statuses.at_stage_lem x ready

pub is_held_lem : (x : Status) → 0 < is_held x → x ≡ held
is_held_lem x = statuses.at_stage_lem x held

pub is_running_lem : (x : Status) → 0 < is_running x → x ≡ running
is_running_lem x = statuses.at_stage_lem x running

pub is_over_lem : (x : Status) → is_over x ≡ true → x ≡ over
is_over_lem x e = statuses.at_stage_lem x over (rw e (omega arith))

pub received_le : (x : Status) → is_received x ≤ 1
received_le x = one_le (leb 4 (stage x))

pub ended_le : (x : Status) → is_ended x ≤ 1
ended_le x = one_le (is_over x)

-- ---- flags

-- what passes on rises with the flags
pub passes_with : (q : ℕ) (e m : Flags) → (passes_read q e ≤ passes_read q (with e m)) × (passes_write e ≤ passes_write (with e m))
passes_with q e m = (rights.passes_with rights.to_read q e m, rights.passes_with rights.to_write q e m)

-- ---- the numbers of the accesses

module _ (ts : List Task) where
  -- task i has the accesses from first i up to first (i + 1)
  pub first_zero : first ts 0 ≡ 0
  first_zero = links.first_zero ts

  pub first_suc : (i : ℕ) → i < length ts → first ts (suc i) ≡ first ts i + length (task_at ts i).accesses
  first_suc = links.first_suc ts

  pub first_all : (i : ℕ) → length ts ≤ i → first ts i ≡ total ts
  first_all = links.first_all ts

  pub first_mono : (i j : ℕ) → i ≤ j → first ts i ≤ first ts j
  first_mono = links.first_mono ts

  pub task_of_lem : (a : ℕ) → a < total ts → (task_of ts a < length ts) × (first ts (task_of ts a) ≤ a) × (a < first ts (suc (task_of ts a)))
  task_of_lem = links.task_of_lem ts

  pub of_task : (a i : ℕ) → i < length ts → first ts i ≤ a → a < first ts (suc i) → task_of ts a ≡ i
  of_task = links.of_task ts

  pub access_of : (i k : ℕ) → i < length ts → k < length (task_at ts i).accesses
      → access_at ts (first ts i + k) ≡ get_or (task_at ts i).accesses k no_access
  access_of = links.access_of ts

  -- the access before at the same address, and the one after
  pub prev_some : (a b : ℕ) → prev ts b ≡ some a
      → (a < b) × (addr ts a ≡ addr ts b) × ((x : ℕ) → a < x → x < b → addr ts x ≢ addr ts b)
  prev_some = links.prev_some ts

  pub prev_none : (b : ℕ) → prev ts b ≡ none → (x : ℕ) → x < b → addr ts x ≢ addr ts b
  prev_none = links.prev_none ts

  pub next_le : (a : ℕ) → a < total ts → next ts a ≤ total ts
  next_le = links.next_le ts

  pub next_is : (a : ℕ) → a < total ts → next ts a < total ts
      → (a < next ts a) × (addr ts a ≡ addr ts (next ts a)) × ((x : ℕ) → a < x → x < next ts a → addr ts x ≢ addr ts a)
  next_is = links.next_is ts

  pub prev_next : (a b : ℕ) → b < total ts → prev ts b ≡ some a → next ts a ≡ b
  prev_next = links.prev_next ts

  pub next_prev : (a b : ℕ) → a < total ts → b < total ts → next ts a ≡ b → prev ts b ≡ some a
  next_prev = links.next_prev ts

  pub reader_one : (a : ℕ) → reader ts a ≤ 1
  reader_one = links.reader_one ts

  -- accesses to one address are of different tasks
  pub apart : Distinct ts → (a b : ℕ) → b < total ts → a < b → addr ts a ≡ addr ts b → task_of ts a < task_of ts b
  apart = links.apart ts
