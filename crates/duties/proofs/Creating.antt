-- The tasks are created: the memory after a task is opened, after an access is linked, and after a task is closed.
use Rattle.tasks.specs.History as Th
use Prim.Native.Nat.{ℕ, suc, ◌+◌, ◌-◌, ◌≤◌, ◌<◌}
use native.Mathlib.Omega.{arith}
use mathlib.Core.Path.{◌≡◌, refl, sym, ap, ◌∙◌}
use mathlib.Core.Logic.{◌≢◌}
use mathlib.Core.List.{List, [], ◌∷◌, ◌++◌}
use mathlib.Core.Option.{Option, none, some}
use Rattle.std.specs.Prelude.{Some, None}
use Rattle.std.proofs.lemmas.Option.{none-some}
use native.Mathlib.Numerals.{add-one}
use lib.ListN.{length, get_or, set, length-append}
use Rattle.runs.specs.Update.{upd, upd_same, upd_other}
use lib.Dec.{ltb}
use borrow.Author.Tests.{ltb-true}
use mathlib.Core.Bool.{true}
use Rattle.runs.specs.Sums.{sum}
use Rattle.tasks.specs.Accesses.{task_at, first, prev, total}
use Rattle.tasks.specs.Flags.{granting, NEXT}
use Rattle.tasks.specs.Tasks.{Status, waiting, ready, opening, linking, with_creation}
use Rattle.plan.specs.Plan.{Task}
use Rattle.tasks.specs.History.{Op, plain, link_message, lowered}
use Rattle.memory.specs.Layout as layout
use Rattle.memory.specs.Codes.{letter, option_of}
use Rattle.memory.specs.Shares.{Stored}
use Rattle.memory.specs.Rows.{task_row, TaskRows, counted}
use Rattle.memory.specs.declared.rows.TaskRow.{TaskRow}
use Rattle.memory.specs.declared.rows.AccessRow.{AccessRow}
use Rattle.memory.specs.declared.rows.Status.TheVariants.{Waiting}
use Rattle.memory.specs.Memory.{TaskMemory, memory, HoldsTasks, Able, HeldAfter, unfinished, its_creating, to_create}
use Rattle.memory.specs.declared.tally.Tally.{Tally}
use Rattle.memory.specs.RowLaws.{row_set}
use Rattle.duties.specs.FromTasks.{counted_waits, opening_new, linking_within}
use Rattle.tasks.proofs.Promise.{first_suc}
use Rattle.duties.proofs.Held.{own_stored, stored_now, stored_still, pending_now, pending_still, left_now}
use Rattle.duties.proofs.Delivering.{lowered_ways}
use Rattle.duties.proofs.Given.{opening_at, linking_at, its_open, its_link, its_close, tasks_few, accesses_few, total_few, row_fits, access_fits, end_within, most_pending, pending_few}

module _ {m : TaskMemory} {own : List ℕ} {w : ℕ} (a : Able m own w) where
  pub to_open : m.tally.access ≡ None → a.t.creation ≡ opening m.tally.task
  to_open z = opening_at m.tally.task m.tally.access a.t.creation a.holds.creation z

  pub to_link : (x : ℕ) → m.tally.access ≡ Some x → a.t.creation ≡ linking m.tally.task x
  to_link x z = linking_at m.tally.task x m.tally.access a.t.creation a.holds.creation z

  -- where the accesses of a task end
  pub row_end : (i : ℕ) → i < length a.ts
      → (task_row m.rows i).first + (task_row m.rows i).accesses ≡ first a.ts (suc i)
  row_end i l = rw (a.holds.task_rows_lem i l) (sym (first_suc a.ts i l))

-- ---- a task is opened

abbrev pub opened_rows : List TaskRow → ℕ → List TaskRow
opened_rows rows i = let row = task_row rows i in set rows i (counted row (row.accesses + 1) Waiting)

abbrev pub opened_tally : Tally → ℕ → Tally
opened_tally n access =
    record {
      tasks = n.tasks;
      task = n.task;
      access = Some access;
      left = n.left;
      pending = n.pending;
    }

module _ {m : TaskMemory} {own : List ℕ} {w : ℕ} (a : Able m own w) (i : ℕ) (l : i < length a.ts) where
  opened_rows_lem : TaskRows a.ts (opened_rows m.rows i) (upd a.t.count i (suc (length (task_at a.ts i).accesses)))
      (upd a.t.status i waiting) a.t.runner a.t.receipt a.t.ending
  opened_rows_lem =
      let n = suc (length (task_at a.ts i).accesses) in
      row_set a.ts _ _ _ _ _ _ a.holds.task_rows_lem i (row_fits a.fit a.long i l) _ (upd a.t.count i n) (upd a.t.status i waiting)
      a.t.runner a.t.receipt a.t.ending
      (λ b. rw (a.holds.task_rows_lem i b, add-one, upd_same a.t.count i n, upd_same a.t.status i waiting))
      (λ j d. rw (upd_other a.t.count i n j d, upd_other a.t.status i waiting j d))

  pub opens_holds : a.t.creation ≡ opening i → (k : ℕ) (op : Op) → its_creating a.ts a.t (a.st w) w ≡ some op
      → HeldAfter a k op (memory (opened_tally m.tally (task_row m.rows i).first) (opened_rows m.rows i)
      m.accesses) own
  unfolding Th.after
  opens_holds e k op is =
      let h = a.holds in
      rw (← its_open a.ts a.t (a.st w) w op i e l is)
      (record {
        tasks = h.tasks;
        stored = stored_still a own (a.st w) (own_stored a);
        task_rows_lem = opened_rows_lem;
        access_rows_lem = h.access_rows_lem;
        creation = ((rw e at h.creation).0, rw (h.task_rows_lem i l) refl);
        left = omega (arith, ap unfinished (opening_new a.fit.kept i e), left_now a i l waiting);
        pending = omega (arith, pending_still a (a.st w));
      })

-- ---- an access is linked

abbrev pub linked_tally : Tally → ℕ → Tally
linked_tally n x =
    record {
      tasks = n.tasks;
      task = n.task;
      access = Some (x + 1);
      left = n.left;
      pending = n.pending + 1;
    }

-- the message, by the number of the access before
module _ (ts : List Task) (x : ℕ) where
  pub first_letter : None ≡ option_of (prev ts x) → letter (link_message ts x) ≡ record { to = x; flags = 3; sender = None }
  unfolding link_message
  first_letter = go (prev ts x)
    where
      go : (o : Option ℕ) → None ≡ option_of o
          → letter (elim o [ none ↦ plain x (granting 1 1) | some b ↦ plain b NEXT ]) ≡ record { to = x; flags = 3; sender = None }
      go none z = refl
      go (some b) z = absurd (none-some b z)

  pub later_letter : (p : ℕ) → Some p ≡ option_of (prev ts x) → letter (link_message ts x) ≡ record { to = p; flags = 8; sender = None }
  unfolding link_message
  later_letter p = go (prev ts x)
    where
      go : (o : Option ℕ) → Some p ≡ option_of o
          → letter (elim o [ none ↦ plain x (granting 1 1) | some b ↦ plain b NEXT ]) ≡ record { to = p; flags = 8; sender = None }
      go none z = absurd (none-some p (sym z))
      go (some b) z = cc

module _ {m : TaskMemory} {own : List ℕ} {w : ℕ} (a : Able m own w) (i x : ℕ) (e : a.t.creation ≡ linking i x) where
  at_task_lem : (m.tally.task ≡ i) × (m.tally.access ≡ Some x)
  at_task_lem = rw e at a.holds.creation

  task_in_plan : i < length a.ts
  task_in_plan = linking_within a.fit.kept i x e

  pub links_holds : x < first a.ts (suc i) → (next : List ℕ)
      → Stored next (a.st w) (a.t.mail w ++ link_message a.ts x ∷ []) (a.t.adds w)
      → (k : ℕ) (op : Op) → its_creating a.ts a.t (a.st w) w ≡ some op
      → HeldAfter a k op (memory (linked_tally m.tally x) m.rows m.accesses) next
  unfolding Th.after
  links_holds l next new k op is =
      let h = a.holds in
      let mail = a.t.mail w ++ link_message a.ts x ∷ [] in
      let posted = upd a.t.mail w mail in
      let others : (v : ℕ) → v ≢ w → posted v ≡ a.t.mail v = upd_other a.t.mail w mail in
      let mine : posted w ≡ mail = upd_same a.t.mail w mail in
      rw (← its_link a.ts a.t (a.st w) w op i x e l is)
      (record {
        tasks = h.tasks;
        stored = stored_now a next (a.st w) posted a.t.adds others (λ v d. refl) (rw mine new);
        task_rows_lem = h.task_rows_lem;
        access_rows_lem = h.access_rows_lem;
        creation = (at_task_lem.0, rw add-one refl);
        left = h.left;
        pending = omega (
          arith,
          ap length mine,
          length-append (a.t.mail w) (link_message a.ts x ∷ []),
          pending_now a posted others
              (a.st w),
        );
      })

-- what the code of a link rests on
pub record Linking (n : Tally) (x : ℕ) (accesses : List AccessRow) (own : List ℕ) : Type 0 where
  pub part : length own ≡ layout.part
  pub mail_at_lem : get_or own layout.mail_at 0 < layout.mail_room
  pub access : x < length accesses
  pub few : x < layout.most_accesses
  pub pending : n.pending ≤ most_pending

module _ {m : TaskMemory} {own : List ℕ} {w : ℕ} (a : Able m own w) (x : ℕ) (z : m.tally.access ≡ Some x) where
  -- the open task, and where its accesses end
  pub task_below : m.tally.task < length a.ts
  task_below = task_in_plan a m.tally.task x (to_link a x z)

  pub task_fits : m.tally.task < length m.rows
  task_fits = row_fits a.fit a.long m.tally.task task_below

  pub task_few : m.tally.task < layout.most_tasks
  task_few = tasks_few a.fit m.tally.task task_below

  pub end_few : (task_row m.rows m.tally.task).first + (task_row m.rows m.tally.task).accesses ≤ layout.most_accesses
  end_few = omega (arith, row_end a m.tally.task task_below, end_within a.fit m.tally.task task_below, total_few a.fit)

module _ {m : TaskMemory} {own : List ℕ} {w : ℕ} (a : Able m own w) (x : ℕ) (z : m.tally.access ≡ Some x)
    (l : x < (task_row m.rows m.tally.task).first + (task_row m.rows m.tally.task).accesses) where
  pub before_end : x < first a.ts (suc m.tally.task)
  before_end = omega (arith, row_end a m.tally.task (task_below a x z))

  pub access_below : x < total a.ts
  access_below = omega (arith, before_end, end_within a.fit m.tally.task (task_below a x z))

  pub linking_facts : Linking m.tally x m.accesses own
  linking_facts =
      record {
        part = (own_stored a).long;
        mail_at_lem = (own_stored a).mail_at_lem;
        access = access_fits a.fit a.long x access_below;
        few = accesses_few a.fit x access_below;
        pending = pending_few a;
      }

-- ---- a task is closed

abbrev pub closed_tally : Tally → Tally
closed_tally n =
    record {
      tasks = n.tasks;
      task = n.task + 1;
      access = None;
      left = n.left;
      pending = n.pending;
    }

module _ {m : TaskMemory} {own : List ℕ} {w : ℕ} (a : Able m own w) (i x : ℕ) (e : a.t.creation ≡ linking i x) where
  -- counts, statuses and tasks to add may change with it
  closed_with : (rows : List TaskRow) (next : List ℕ) (count : ℕ → ℕ) (status : ℕ → Status) (added : ℕ → List ℕ)
      → TaskRows a.ts rows count status a.t.runner a.t.receipt a.t.ending → ((v : ℕ) → v ≢ w → added v ≡ a.t.adds v)
      → Stored next (a.st w) (a.t.mail w) (added w)
      → sum (length a.ts) (λ k. unfinished (status k)) ≡ sum (length a.ts) (λ k. unfinished (a.t.status k))
      → HoldsTasks a.W a.ts (memory (closed_tally m.tally) rows m.accesses) (upd a.parts w next)
      (record {
        mail = a.t.mail;
        adds = added;
        flags = a.t.flags;
        count = count;
        status = status;
        runner = a.t.runner;
        receipt = a.t.receipt;
        ending = a.t.ending;
        creation = opening (suc i);
      })
      (upd a.st w (a.st w))
  closed_with rows next count status added kept others new left =
      let h = a.holds in
      record {
        tasks = h.tasks;
        stored = stored_now a next (a.st w) a.t.mail added (λ v d. refl) others new;
        task_rows_lem = kept;
        access_rows_lem = h.access_rows_lem;
        creation = (omega (arith, (at_task_lem a i x e).0), refl);
        left = h.left ∙ sym left;
        pending = omega (arith, pending_still a (a.st w));
      }

  pub closes_holds : first a.ts (suc i) ≤ x → (rows : List TaskRow) (next : List ℕ)
      → TaskRows a.ts rows (lowered (with_creation a.t (opening (suc i))) w i 1).count
      (lowered (with_creation a.t (opening (suc i))) w i 1).status a.t.runner a.t.receipt a.t.ending
      → Stored next (a.st w) (a.t.mail w) ((lowered (with_creation a.t (opening (suc i))) w i 1).adds w)
      → (k : ℕ) (op : Op) → its_creating a.ts a.t (a.st w) w ≡ some op
      → HeldAfter a k op (memory (closed_tally m.tally) rows m.accesses) next
  unfolding Th.after
  closes_holds l rows next kept new k op is =
      let more = a.t.adds w ++ i ∷ [] in
      let plan = task_in_plan a i x e in
      let after = memory (closed_tally m.tally) rows m.accesses in
      rw (← its_close a.ts a.t (a.st w) w op i x e l is)
      (lowered_ways (with_creation a.t (opening (suc i))) w i 1
      (λ r. TaskRows a.ts rows r.count r.status a.t.runner a.t.receipt a.t.ending → Stored next (a.st w)
      (a.t.mail w) (r.adds w)
      → HoldsTasks a.W a.ts after (upd a.parts w next) r (upd a.st w (a.st w)))
      (λ z kept new. closed_with rows next (upd a.t.count i 0) (upd a.t.status i ready) (upd a.t.adds w more) kept
      (upd_other a.t.adds w more) new
      (omega (arith, ap unfinished (counted_waits a.fit.kept i z), a.holds.left, left_now a i plan ready)))
      (λ kept new. closed_with rows next (upd a.t.count i (a.t.count i - 1)) a.t.status a.t.adds kept (λ v d. refl) new refl)
      kept new)

-- whether a task is to be opened
pub to_create_lem : (n : Tally) → to_create n ≡ true → n.access ≡ None → n.task < n.tasks
unfolding to_create
to_create_lem n e z = ltb-true _ _ (let y : to_create n ≡ ltb n.task n.tasks = rw (to_create, z) in sym y ∙ e)
