-- A worker with a task: the messages of an ending, and the memory after a receipt, after a step of work and after an ending.
use Prim.Native.Nat.{ℕ, zero, suc, ◌+◌, ◌-◌, ◌≤◌, ◌<◌}
use native.Mathlib.Omega.{arith}
use native.Mathlib.Numerals.{add-one}
use native.Mathlib.Nat.{add-zero}
use mathlib.Core.Path.{◌≡◌, refl, ap, ◌∙◌}
use mathlib.Core.List.{List, [], ◌∷◌, ◌++◌, map, map-append, append_assoc}
use mathlib.Core.Option.{some}
use lib.ListN.{length, get_or, set, length-map, length-append}
use mathlib.Core.Logic.{◌≢◌}
use Rattle.runs.specs.Update.{upd, upd_same, upd_other}
use Rattle.runs.specs.Sums.{le_sum}
use Rattle.plan.specs.Orders.{numbers_from}
use Rattle.tasks.specs.Accesses.{task_at, first}
use Rattle.tasks.specs.Flags.{DONE}
use Rattle.tasks.specs.Tasks.{Message, Stand, free, working, running, over, received}
use Rattle.tasks.specs.History as Th
use Rattle.tasks.specs.History.{Op, Can, can_take, can_receive, takes, receives, plain, done_messages}
use Rattle.memory.specs.Layout as layout
use Rattle.memory.specs.Shares.{Stored}
use Rattle.memory.specs.Rows.{task_row, TaskRows, counted, timed, received_rows}
use Rattle.memory.specs.declared.rows.TaskRow.{TaskRow}
use Rattle.memory.specs.declared.rows.Status.TheVariants.{Over}
use Rattle.memory.specs.Memory.{TaskMemory, memory, HoldsTasks, Able, HeldAfter, unfinished, notices, its_duty}
use Rattle.memory.specs.declared.tally.Tally.{Tally}
use Rattle.memory.specs.ShareLaws.{mail_count_lem}
use Rattle.memory.specs.RowLaws.{row_set}
use Rattle.duties.specs.FromTasks.{working_within, given_within, held_within}
use Rattle.tasks.proofs.Promise.{first_suc, numbers_length, done_length}
use Rattle.duties.proofs.Held.{own_stored, stored_now, stored_still, pending_now, pending_still, left_now}
use Rattle.duties.proofs.Given.{working_at, its_work, its_end, total_few, row_fits, end_within, most_pending, pending_few}

-- DONE for each of so many accesses from `a` on
abbrev pub dones_from : ℕ → ℕ → List Message
dones_from a n = map (λ b. plain b DONE) (numbers_from a n)

numbers_snoc : (a n : ℕ) → numbers_from a (suc n) ≡ numbers_from a n ++ (a + n) ∷ []
unfolding numbers_from
numbers_snoc a zero = rw add-zero refl
numbers_snoc a (suc n) =
    let next : suc a + n ≡ a + suc n = omega arith in
    ap (λ (l : List ℕ). a ∷ l) (rw next at (numbers_snoc (suc a) n))

pub numbers_none : (a : ℕ) → numbers_from a 0 ≡ []
unfolding numbers_from
numbers_none a = refl

pub dones_length : (a n : ℕ) → length (dones_from a n) ≡ n
dones_length a n = length-map (numbers_from a n) (λ b. plain b DONE) ∙ numbers_length a n

-- one more
pub dones_more : (mail : List Message) (a n : ℕ) → mail ++ dones_from a (n + 1) ≡ (mail ++ dones_from a n) ++ plain (a + n) DONE ∷ []
dones_more mail a n = rw (add-one n, numbers_snoc a n, map-append, append_assoc)

module _ {m : TaskMemory} {own : List ℕ} {w : ℕ} (a : Able m own w) where
  -- ---- a receipt

  received_rows_lem : (i k : ℕ) → i < length a.ts
      → TaskRows a.ts (received_rows m.rows i w k) a.t.count (upd a.t.status i running) (upd a.t.runner i w)
      (upd a.t.receipt i k) a.t.ending
  received_rows_lem i k l =
      row_set a.ts _ _ _ _ _ _ a.holds.task_rows_lem i (row_fits a.fit a.long i l) _ a.t.count (upd a.t.status i running)
      (upd a.t.runner i w) (upd a.t.receipt i k) a.t.ending
      (λ b. rw (a.holds.task_rows_lem i b, upd_same a.t.status i running, upd_same a.t.runner i w, upd_same a.t.receipt i k))
      (λ j d. rw (upd_other a.t.status i running j d, upd_other a.t.runner i w j d, upd_other a.t.receipt i k j d))

  -- the cost as the row has it
  pub cost_at : (i : ℕ) → i < length a.ts → (task_row m.rows i).cost ≡ (task_at a.ts i).cost
  cost_at i l = ap (λ (r : TaskRow). r.cost) (a.holds.task_rows_lem i l)

  module _ (i : ℕ) (x : a.st w ≡ free) (before : unfinished (a.t.status i) ≡ 1) (within : i < length a.ts) where
    receives_holds : (k : ℕ) (next : List ℕ) → Stored next (working i (task_at a.ts i).cost) (a.t.mail w) (a.t.adds w)
        → HoldsTasks a.W a.ts (memory m.tally (received_rows m.rows i w k) m.accesses) (upd a.parts w next)
        (received a.t w i k) (upd a.st w (working i (task_at a.ts i).cost))
    receives_holds k next new =
        let h = a.holds in
        let cost = (task_at a.ts i).cost in
        record {
          tasks = h.tasks;
          stored = stored_still a next (working i cost) new;
          task_rows_lem = received_rows_lem i k within;
          access_rows_lem = h.access_rows_lem;
          creation = h.creation;
          left = omega (arith, before, left_now a i within running);
          pending = omega (arith, ap notices x, pending_still a (working i cost));
        }

  -- what may be received is a task of the plan
  pub take_within : (i : ℕ) → Can a.W a.ts a.t (a.st w) w (takes i) → i < length a.ts
  take_within i (can_take _ x e g) = (given_within a.fit.kept i g).0

  pub receive_within : (i : ℕ) → Can a.W a.ts a.t (a.st w) w (receives i) → i < length a.ts
  receive_within i (can_receive _ x e z) = held_within a.fit.kept i z

  module _ (i k : ℕ) (next : List ℕ) (new : Stored next (working i (task_at a.ts i).cost) (a.t.mail w) (a.t.adds w)) where
    abbrev received_memory : TaskMemory
    received_memory = memory m.tally (received_rows m.rows i w k) m.accesses

    pub taken : Can a.W a.ts a.t (a.st w) w (takes i)
        → HeldAfter a k (takes i) received_memory next
    unfolding Th.after
    taken (can_take _ x e g) =
        let (within, ready) = given_within a.fit.kept i g in
        receives_holds i x (ap unfinished ready) within k next new

    pub fetched : Can a.W a.ts a.t (a.st w) w (receives i)
        → HeldAfter a k (receives i) received_memory next
    unfolding Th.after
    fetched (can_receive _ x e z) = receives_holds i x (ap unfinished z) (held_within a.fit.kept i z) k next new

  -- ---- a step of work

  -- the task in work and the steps left, as the part has them
  pub at_work : get_or own layout.stand 0 ≡ layout.working → a.st w ≡ working (get_or own layout.about 0) (get_or own layout.left 0)
  at_work k = working_at (get_or own layout.stand 0) (get_or own layout.about 0) (get_or own layout.left 0) (a.st w) (own_stored a).stand k

  pub works_holds : (i n : ℕ) → a.st w ≡ working i (suc n) → (next : List ℕ) → Stored next (working i n) (a.t.mail w) (a.t.adds w)
      → (k : ℕ) (op : Op) → its_duty a.ts a.t (a.st w) w ≡ some op
      → HeldAfter a k op m next
  unfolding Th.after
  works_holds i n x next new k op is =
      let h = a.holds in
      rw (← its_work a.ts a.t (a.st w) w op i n x is)
      (record {
        tasks = h.tasks;
        stored = stored_still a next (working i n) new;
        task_rows_lem = h.task_rows_lem;
        access_rows_lem = h.access_rows_lem;
        creation = h.creation;
        left = h.left;
        pending = omega (arith, ap notices x, pending_still a (working i n));
      })

-- ---- an ending

-- the rows of the tasks
abbrev pub ended_rows : List TaskRow → ℕ → ℕ → List TaskRow
ended_rows rows i time =
    let row = task_row rows i in set rows i (timed (counted row row.count Over) row.runner row.receipt time)

-- the numbers, with so many messages
abbrev pub ended_tally : Tally → ℕ → Tally
ended_tally n count =
    record { tasks = n.tasks; task = n.task; access = n.access; left = n.left - 1; pending = n.pending + count }

module _ {m : TaskMemory} {own : List ℕ} {w : ℕ} (a : Able m own w) (i n : ℕ) (p : a.st w ≡ working i n) where
  in_hand_lem : (i < length a.ts) × (a.t.status i ≡ running) × (a.t.mail w ≡ [])
  in_hand_lem = working_within a.fit.kept w i n a.fit.worker p

  in_plan : i < length a.ts
  in_plan = in_hand_lem.0

  ended_rows_lem : (k : ℕ) → TaskRows a.ts (ended_rows m.rows i k) a.t.count (upd a.t.status i over) a.t.runner a.t.receipt
      (upd a.t.ending i k)
  ended_rows_lem k =
      row_set a.ts _ _ _ _ _ _ a.holds.task_rows_lem i (row_fits a.fit a.long i in_plan) _ a.t.count (upd a.t.status i over) a.t.runner
      a.t.receipt (upd a.t.ending i k)
      (λ b. rw (a.holds.task_rows_lem i b, upd_same a.t.status i over, upd_same a.t.ending i k))
      (λ j d. rw (upd_other a.t.status i over j d, upd_other a.t.ending i k j d))

  pub ended_first : (task_row m.rows i).first ≡ first a.ts i
  ended_first = ap (λ (r : TaskRow). r.first) (a.holds.task_rows_lem i in_plan)

  pub ended_count : (task_row m.rows i).accesses ≡ length (task_at a.ts i).accesses
  ended_count = ap (λ (r : TaskRow). r.accesses) (a.holds.task_rows_lem i in_plan)

  accesses_within : first a.ts i + length (task_at a.ts i).accesses ≤ layout.most_accesses
  accesses_within = omega (arith, first_suc a.ts i in_plan, end_within a.fit i in_plan, total_few a.fit)

  in_work : unfinished (a.t.status i) ≡ 1
  in_work = ap unfinished in_hand_lem.1

  one_left : 1 ≤ m.tally.left
  one_left = omega (arith, a.holds.left, in_work, le_sum (length a.ts) (λ j. unfinished (a.t.status j)) i in_plan)

module _ {m : TaskMemory} {own : List ℕ} {w : ℕ} (a : Able m own w) (k i : ℕ) (p : a.st w ≡ working i 0) where
  pub ends_holds : (next : List ℕ) → Stored next free (a.t.mail w ++ done_messages a.ts i) (a.t.adds w) → (op : Op)
      → its_duty a.ts a.t (a.st w) w ≡ some op
      → HeldAfter a k op (memory (ended_tally m.tally (task_row m.rows i).accesses)
      (ended_rows m.rows i k) m.accesses) next
  unfolding Th.after
  ends_holds next new op is =
      let h = a.holds in
      let mail = a.t.mail w ++ done_messages a.ts i in
      let posted = upd a.t.mail w mail in
      let others : (v : ℕ) → v ≢ w → posted v ≡ a.t.mail v = upd_other a.t.mail w mail in
      let mine : posted w ≡ mail = upd_same a.t.mail w mail in
      rw (← its_end a.ts a.t (a.st w) w op i p is)
      (record {
        tasks = h.tasks;
        stored = stored_now a next free posted a.t.adds others (λ v d. refl) (rw mine new);
        task_rows_lem = ended_rows_lem a i 0 p k;
        access_rows_lem = h.access_rows_lem;
        creation = h.creation;
        left = omega (arith, in_work a i 0 p, left_now a i (in_plan a i 0 p) over);
        pending = omega (
          arith,
          ap notices p,
          ap length mine,
          length-append (a.t.mail w) (done_messages a.ts i),
          done_length a.ts i,
          ended_count a i 0 p,
          pending_now a posted others free,
        );
      })

-- what the code of an ending rests on
pub record Ending (n : Tally) (rows : List TaskRow) (own : List ℕ) : Type 0 where
  pub part : length own ≡ layout.part
  pub task : get_or own layout.about 0 < length rows
  pub few : length rows ≡ layout.most_tasks
  pub stored : (p : Stand) × (mail : List Message) × (adds : List ℕ) × Stored own p mail adds
  pub room : get_or own layout.mail_count 0 + (task_row rows (get_or own layout.about 0)).accesses ≤ layout.mail_room
  pub within : (task_row rows (get_or own layout.about 0)).first + (task_row rows (get_or own layout.about 0)).accesses ≤ layout.most_accesses
  pub left : 1 ≤ n.left
  pub pending : n.pending ≤ most_pending

pub ending : {m : TaskMemory} {own : List ℕ} {w : ℕ} → Able m own w → get_or own layout.stand 0 ≡ layout.working
    → Ending m.tally m.rows own
ending {m} {own} {w} a place =
    let i = get_or own layout.about 0 in
    let n = get_or own layout.left 0 in
    let h = own_stored a in
    let p = at_work a place in
    record {
      part = h.long;
      task = row_fits a.fit a.long i (in_plan a i n p);
      few = a.long.rows;
      stored = (_, _, _, h);
      room = omega (arith, ended_count a i n p, a.fit.sized.each i, mail_count_lem h, ap length (in_hand_lem a i n p).2);
      within = omega (arith, ended_count a i n p, ended_first a i n p, accesses_within a i n p);
      left = one_left a i n p;
      pending = pending_few a;
    }
