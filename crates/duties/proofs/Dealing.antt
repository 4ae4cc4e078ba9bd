-- The dealings with a device that leave a worker where it stands: a task is given to the device, and one is held out.
use Prim.Native.Nat.{ℕ}
use native.Mathlib.Omega.{arith}
use mathlib.Core.Path.{◌≡◌, refl, ap}
use mathlib.Core.List.{List, ◌∷◌}
use Rattle.runs.specs.Update.{upd, upd_same, upd_other}
use Rattle.tasks.specs.Tasks.{held}
use Rattle.tasks.specs.History.{Can, can_give, can_hold, gives, holds, after}
use Rattle.memory.specs.Shares.{Stored}
use Rattle.memory.specs.Rows.{held_rows}
use Rattle.memory.specs.Memory.{TaskMemory, memory, Able, HeldAfter, unfinished}
use Rattle.memory.specs.RowLaws.{status_set}
use Rattle.duties.specs.FromTasks.{given_within}
use Rattle.duties.proofs.Held.{own_stored, stored_now, stored_still, pending_still, left_now}
use Rattle.duties.proofs.Given.{row_fits}

module _ {m : TaskMemory} {own : List ℕ} {w : ℕ} (a : Able m own w) where
  pub first_add : {i : ℕ} {is : List ℕ} → Can a.W a.ts a.t (a.st w) w (gives i is) → a.t.adds w ≡ i ∷ is
  first_add (can_give _ _ e) = e

  pub gave : (i : ℕ) (is next : List ℕ) → Stored next (a.st w) (a.t.mail w) is → (k : ℕ)
      → HeldAfter a k (gives i is) m next
  unfolding after
  gave i is next new k =
      let h = a.holds in
      record {
        tasks = h.tasks;
        stored = stored_now a next (a.st w) a.t.mail (upd a.t.adds w is) (λ v d. refl) (upd_other a.t.adds w is)
            (rw (upd_same a.t.adds w is) new);
        task_rows_lem = h.task_rows_lem;
        access_rows_lem = h.access_rows_lem;
        creation = h.creation;
        left = h.left;
        pending = omega (arith, pending_still a (a.st w));
      }

  pub held_out : (i k : ℕ) → Can a.W a.ts a.t (a.st w) w (holds i)
      → HeldAfter a k (holds i) (memory m.tally (held_rows m.rows i) m.accesses) own
  unfolding after
  held_out i k (can_hold _ g) =
      let h = a.holds in
      let (within, ready) = given_within a.fit.kept i g in
      record {
        tasks = h.tasks;
        stored = stored_still a own (a.st w) (own_stored a);
        task_rows_lem =
            status_set a.ts m.rows a.t.count a.t.status a.t.runner a.t.receipt a.t.ending h.task_rows_lem i
            (row_fits a.fit a.long i within) held;
        access_rows_lem = h.access_rows_lem;
        creation = h.creation;
        left = omega (arith, ap unfinished ready, left_now a i within held);
        pending = omega (arith, pending_still a (a.st w));
      }
