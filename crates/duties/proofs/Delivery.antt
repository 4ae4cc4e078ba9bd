-- The delivery of the oldest message: what it finds in its ranges, and that the memory after it holds the tasks after it.
use Prim.Native.Nat.{ℕ, suc, ◌+◌, ◌-◌, ◌*◌, ◌≤◌, ◌<◌}
use native.Mathlib.Omega.{arith}
use mathlib.Core.Path.{◌≡◌, refl, sym, ap, ◌∙◌}
use mathlib.Core.Logic.{◌≢◌}
use mathlib.Core.List.{List, [], ◌∷◌, ◌++◌}
use mathlib.Core.Option.{some}
use lib.ListN.{length, get_or, length-append}
use Rattle.runs.specs.Update.{upd, upd_same, upd_other}
use Rattle.runs.specs.Sums.{sum}
use Rattle.runs.specs.Stores.{first_of}
use Rattle.tasks.specs.Accesses.{task_of, reader, next, total}
use Rattle.tasks.specs.Flags.{Flags, flag_number, with, passes_read, passes_write, satisfied, Once}
use Rattle.tasks.specs.Tasks.{Tasks, Message, Stand, free, Status, ready, with_mail, with_flags}
use Rattle.tasks.specs.History as Th
use Rattle.tasks.specs.History.{Op, Can, can_mind, can_deliver, minds, delivers, passed, lowered, notice_of}
use Rattle.memory.specs.Layout as layout
use Rattle.memory.specs.Codes.{letter, reader_number, option_of}
use Rattle.memory.specs.Rows.{task_row, access_row, TaskRows, AccessRows, flagged_rows}
use Rattle.memory.specs.declared.rows.TaskRow.{TaskRow}
use Rattle.memory.specs.declared.rows.AccessRow.{AccessRow}
use Rattle.memory.specs.Shares.{Stored}
use Rattle.memory.specs.Memory.{TaskMemory, memory, unfinished, notices, HoldsTasks, Able, HeldAfter, its_duty}
use Rattle.memory.specs.ShareLaws.{adds_count_lem, mail_count_lem}
use Rattle.memory.specs.RowLaws.{flags_set}
use Rattle.memory.specs.declared.share.Letter.{Letter}
use Rattle.duties.specs.FromTasks.{task_within, message_fits, counted_waits}
use Rattle.tasks.proofs.Promise.{flags_once}
use Rattle.duties.proofs.Held.{own_stored, stored_now, pending_now, left_now}
use Rattle.duties.proofs.Flagging.{number_small}
use Rattle.duties.proofs.Delivering.{lowered_out, lowered_ways, passed_one}
use Rattle.duties.proofs.Given.{free_at, its_delivery, tasks_few, accesses_few, access_fits, room_mail, room_adds, row_flags, row_small, pending_here}
use Rattle.duties.proofs.Telling.{with_pending}

-- a worker that is free and has mail
pub record Delivery (t : Tasks) (x : Stand) (w : ℕ) : Type 0 where
  pub message : Message
  pub rest : List Message
  pub stand : x ≡ free
  pub mail : t.mail w ≡ message ∷ rest

module _ {m : TaskMemory} {own : List ℕ} {w : ℕ} (able : Able m own w) where
  abbrev t : Tasks
  t = able.t

  pub delivery : get_or own layout.stand 0 ≡ layout.free → 0 < get_or own layout.mail_count 0 → Delivery t (able.st w) w
  delivery at has =
      let h = own_stored able in
      let (message, rest, e) = first_of (t.mail w) (omega (arith, mail_count_lem h)) in
      record { message = message; rest = rest; stand = free_at _ _ _ (able.st w) h.stand at; mail = e }

  module _ (d : Delivery t (able.st w) w) where
    -- the access, its flags before and after, and its task
    abbrev pub access : ℕ
    access = d.message.to

    abbrev pub before : Flags
    before = t.flags access

    abbrev pub after : Flags
    after = with before d.message.flags

    abbrev pub kind : ℕ
    kind = reader able.ts access

    abbrev pub task : ℕ
    task = task_of able.ts access

    -- what changes: messages, stand, and by how much the count of the task falls
    abbrev pub mailed : List Message
    mailed = d.rest ++ passed able.ts access before after

    abbrev pub stands : Stand
    stands = notice_of d.message d.message.sender

    abbrev pub falls : ℕ
    falls = satisfied kind after - satisfied kind before

    -- the tasks but for the count
    abbrev pub brought : Tasks
    brought = with_mail (with_flags t access after) w mailed

    can : Can able.W able.ts t (able.st w) w (minds (delivers d.message d.rest))
    can = can_mind (can_deliver d.message d.rest d.stand d.mail)

    fits : (access < total able.ts) × Once d.message.flags × Once after
    fits = message_fits able.fit.kept w able.fit.worker d.message d.rest d.mail

    pub once_before : Once before
    once_before = flags_once able.fit.kept access

    pub once : Once d.message.flags
    once = fits.1

    pub both : Once after
    both = fits.2

    pub within : access < total able.ts
    within = fits.0

    pub access_few : access < layout.most_accesses
    access_few = accesses_few able.fit access within

    pub task_below : task < length able.ts
    task_below = task_within able.ts access within

    pub task_few : task < layout.most_tasks
    task_few = tasks_few able.fit task task_below

    -- the room that it takes
    pub mail_room_lem : length mailed ≤ layout.mail_room
    unfolding Th.after
    mail_room_lem =
        rw (lowered_ways brought w task falls (λ r. r.mail w ≡ mailed) (λ _. upd_same t.mail w mailed) (upd_same t.mail w mailed))
        at (room_mail able.fit can)

    pub adds_room : 0 < t.count task → t.count task ≤ falls → length (t.adds w) < layout.add_room
    unfolding Th.after
    adds_room p l =
        let e = rw (lowered_out brought w task falls p l, upd_same) at (room_adds able.fit can) in
        omega (arith, e, length-append (t.adds w) (task ∷ []))

    pub mail_pending : 1 ≤ m.tally.pending
    mail_pending = omega (arith, pending_here able, ap length d.mail)

    -- the worker with its mailbox
    pub opened : Stored own free (d.message ∷ d.rest) (t.adds w)
    opened = rw (d.stand, d.mail) at (own_stored able)

    -- the message as it is read
    module _ (taken : Letter) (is : letter d.message ≡ taken) where
      abbrev to : ℕ
      to = taken.to

      abbrev flags : ℕ
      flags = taken.flags

      pub is_to : to ≡ access
      is_to = sym (ap (λ (l : Letter). l.to) is)

      pub is_flags : flags ≡ flag_number d.message.flags
      is_flags = sym (ap (λ (l : Letter). l.flags) is)

      pub is_sender : taken.sender ≡ option_of d.message.sender
      is_sender = sym (ap (λ (l : Letter). l.sender) is)

      pub flags_fit : (to < length m.accesses) × ((access_row m.accesses to).flags < 64) × (flags < 64)
      flags_fit = (
        rw is_to (access_fits able.fit able.long access within),
        rw is_to (row_small able access within),
        number_small d.message.flags once
            flags is_flags,
      )

      pub is_reader : reader_number (access_row m.accesses to).reader ≡ kind
      is_reader = rw is_to (able.holds.access_rows_lem.reader access within)

      pub is_before : (access_row m.accesses to).flags ≡ flag_number before
      is_before = rw is_to (row_flags able access within)

      -- the rows of accesses after it
      module _ (rows : List AccessRow) (stored : rows ≡ flagged_rows m.accesses to ((access_row m.accesses to).flags + flags)) where
        pub rows_after : AccessRows able.ts rows (upd t.flags access after)
        rows_after =
            let number : flag_number before + flag_number d.message.flags ≡ flag_number after = omega arith in
            let held = flags_set able.ts m.accesses t.flags able.holds.access_rows_lem access
            (access_fits able.fit able.long access within) after in
            rw (stored, is_before, is_flags, is_to, number) held

        pub is_next : (access_row rows to).next ≡ next able.ts to
        is_next = rw is_to (rows_after.next access within)

        pub is_task : (access_row rows to).task ≡ task
        is_task = rw is_to (rows_after.task access within)

    -- there is room for a message, where one is passed on
    pub post_room : (share : List ℕ) (passes : ℕ) → Stored share free d.rest (t.adds w)
        → passes ≡ passes_read kind after - passes_read kind before + 2 * (passes_write after - passes_write before) → 0 < passes
        → get_or share layout.mail_count 0 < layout.mail_room
    post_room share passes k is any =
        let (x, one, told) = passed_one able.ts access before after kind passes refl is (λ z. omega arith) in
        omega (arith, mail_count_lem k, mail_room_lem, length-append d.rest (passed able.ts access before after), ap length one)

    -- and for a task to add
    pub add_room_lem : (share : List ℕ) (x : Stand) (ms : List Message) → Stored share x ms (t.adds w)
        → 0 < (task_row m.rows task).count → (task_row m.rows task).count ≤ falls
        → get_or share layout.adds_count 0 < layout.add_room
    add_room_lem share x ms k any few =
        let count = ap (λ (r : TaskRow). r.count) (able.holds.task_rows_lem task task_below) in
        omega (arith, adds_count_lem k, adds_room (omega (arith, count)) (omega (arith, count)))

    -- the memory after it
    module _ (accesses : List AccessRow) (rows : List TaskRow) (share : List ℕ) (posted noticed : ℕ) (is_posted : posted ≡ length (passed able.ts access before after))
        (is_noticed : noticed ≡ notices stands)
        (accesses_held : AccessRows able.ts accesses (upd t.flags access after)) where
      abbrev memory_after : TaskMemory
      memory_after = memory (with_pending m.tally (m.tally.pending - 1 + posted + noticed)) rows accesses

      -- whatever becomes of counts, statuses and tasks to add
      held_after : (counts : ℕ → ℕ) (statuses : ℕ → Status) (added : ℕ → List ℕ)
          → TaskRows able.ts rows counts statuses t.runner t.receipt t.ending → Stored share stands mailed (added w)
          → ((v : ℕ) → v ≢ w → added v ≡ t.adds v)
          → sum (length able.ts) (λ i. unfinished (statuses i)) ≡ sum (length able.ts) (λ i. unfinished (t.status i))
          → HoldsTasks able.W able.ts memory_after (upd able.parts w share)
          record {
            mail = upd t.mail w mailed;
            adds = added;
            flags = upd t.flags access after;
            count = counts;
            status = statuses;
            runner = t.runner;
            receipt = t.receipt;
            ending = t.ending;
            creation = t.creation;
          }
          (upd able.st w stands)
      held_after counts statuses added task_rows_lem new apart same_left =
          let h = able.holds in
          let ms = upd t.mail w mailed in
          let mails : (v : ℕ) → v ≢ w → ms v ≡ t.mail v = upd_other t.mail w mailed in
          let now = pending_now able ms mails stands in
          let old_mail : length (t.mail w) ≡ suc (length d.rest) = ap length d.mail in
          let old_stand : notices (able.st w) ≡ 0 = ap notices d.stand in
          let new_mail : length (ms w) ≡ length d.rest + posted =
          ap length (upd_same t.mail w mailed) ∙ rw is_posted (length-append d.rest _) in
          record {
            tasks = h.tasks;
            stored = stored_now able share stands ms added mails apart (rw (upd_same t.mail w mailed) new);
            task_rows_lem = task_rows_lem;
            access_rows_lem = accesses_held;
            creation = h.creation;
            left = h.left ∙ sym same_left;
            pending = omega (arith, now, old_mail, old_stand, new_mail, is_noticed, mail_pending);
          }

      pub delivered : TaskRows able.ts rows (lowered brought w task falls).count (lowered brought w task falls).status
          t.runner t.receipt t.ending
          → Stored share stands mailed ((lowered brought w task falls).adds w) → (k : ℕ) (op : Op)
          → its_duty able.ts t (able.st w) w ≡ some op
          → HeldAfter able k op memory_after share
      unfolding Th.after
      delivered held new k op is =
          rw (← its_delivery able.ts t (able.st w) w op d.message d.rest d.stand d.mail is)
          (lowered_ways brought w task falls
          (λ r. TaskRows able.ts rows r.count r.status t.runner t.receipt t.ending → Stored share stands mailed
          (r.adds w)
          → HoldsTasks able.W able.ts memory_after (upd able.parts w share) r (upd able.st w stands))
          (λ any held new.
          let was : unfinished (t.status task) ≡ 1 = ap unfinished (counted_waits able.fit.kept task any) in
          held_after (upd t.count task 0) (upd t.status task ready) (upd t.adds w (t.adds w ++ task ∷ [])) held new
          (upd_other t.adds w (t.adds w ++ task ∷ []))
          (omega (arith, was, able.holds.left, left_now able task task_below ready)))
          (λ held new. held_after (upd t.count task (t.count task - falls)) t.status t.adds held new (λ v n. refl) refl) held new)
