-- The notice: the sender of a pass message has its SENT flags set, and the worker is free.
use Prim.Native.Nat.{ℕ, ◌+◌, ◌-◌, ◌*◌, ◌≤◌, ◌<◌}
use native.Mathlib.Omega.{arith}
use mathlib.Core.Path.{◌≡◌, ap}
use mathlib.Core.List.{List}
use mathlib.Core.Option.{some}
use lib.ListN.{length, get_or}
use Rattle.tasks.specs.Flags.{Flags, flag_number, with, sent, Once}
use Rattle.tasks.specs.Tasks.{Stand, free, telling}
use Rattle.tasks.specs.History.{Op, after}
use Rattle.memory.specs.Layout as layout
use Rattle.tasks.specs.Accesses.{total}
use Rattle.memory.specs.Rows.{access_row, flagged_rows}
use Rattle.memory.specs.declared.rows.AccessRow.{AccessRow}
use Rattle.memory.specs.Shares.{Stored}
use Rattle.memory.specs.Memory.{TaskMemory, memory, notices, Able, HeldAfter, its_duty}
use Rattle.memory.specs.declared.tally.Tally.{Tally}
use Rattle.memory.specs.RowLaws.{flags_set}
use Rattle.tasks.proofs.Promise.{notice_once}
use Rattle.duties.proofs.Held.{own_stored, stored_still, pending_still}
use Rattle.duties.proofs.Given.{telling_at, its_tell, access_fits, row_flags, row_small, pending_here}

-- the numbers with another number of messages and notices that are pending
abbrev pub with_pending : Tally → ℕ → Tally
with_pending n pending =
    record { tasks = n.tasks; task = n.task; access = n.access; left = n.left; pending = pending }

-- the rows of accesses: what was passed is now a SENT flag
abbrev pub told_rows : List AccessRow → ℕ → ℕ → List AccessRow
told_rows rows access rights = flagged_rows rows access ((access_row rows access).flags + 16 * rights)

-- the notice that a worker is to give, and its numbers
pub record Noticed (n : ℕ) (x : Stand) (own : List ℕ) : Type 0 where
  pub to : ℕ
  pub flags : Flags
  pub stand : x ≡ telling to flags
  pub is_to : get_or own layout.about 0 ≡ to
  pub is_flags : get_or own layout.left 0 ≡ flags.read + 2 * flags.write
  pub within : to < n
  pub once : Once flags

module _ {m : TaskMemory} {own : List ℕ} {w : ℕ} (a : Able m own w) (at : get_or own layout.stand 0 ≡ layout.telling) where
  pub noticed : Noticed (total a.ts) (a.st w) own
  noticed =
      let h = own_stored a in
      let (x, f, e) = telling_at (get_or own layout.stand 0) (get_or own layout.about 0) (get_or own layout.left 0) (a.st w) h.stand at in
      let coded = rw e at h.stand in
      let within = notice_once a.fit.kept w a.fit.worker x f e in
      record { to = x; flags = f; stand = e; is_to = coded.1; is_flags = coded.2; within = within.0; once = within.1 }

  pub told : (next : List ℕ) → Stored next free (a.t.mail w) (a.t.adds w) → (k : ℕ) (op : Op)
      → its_duty a.ts a.t (a.st w) w ≡ some op
      → HeldAfter a k op (memory (with_pending m.tally (m.tally.pending - 1)) m.rows
      (told_rows m.accesses (get_or own layout.about 0) (get_or own layout.left 0))) next
  unfolding after
  told next new k op is =
      let o = noticed in
      let h = a.holds in
      let e = a.t.flags o.to in
      let number : flag_number e + 16 * (o.flags.read + 2 * o.flags.write) ≡ flag_number (with e (sent o.flags)) = omega arith in
      let fits = access_fits a.fit a.long o.to o.within in
      let rows = flags_set a.ts m.accesses a.t.flags h.access_rows_lem o.to fits (with e (sent o.flags)) in
      let old : notices (a.st w) ≡ 1 = ap notices o.stand in
      rw (← its_tell a.ts a.t (a.st w) w op o.to o.flags o.stand is)
      record {
        tasks = h.tasks;
        stored = stored_still a next free new;
        task_rows_lem = h.task_rows_lem;
        access_rows_lem = rw (o.is_to, o.is_flags, row_flags a o.to o.within, number) rows;
        creation = h.creation;
        left = h.left;
        pending = omega (arith, pending_still a free, old);
      }

-- what the code needs to know of them
pub record Noticing (n : Tally) (accesses : List AccessRow) (own : List ℕ) : Type 0 where
  pub long : length own ≡ layout.part
  pub access : get_or own layout.about 0 < length accesses
  pub few : length accesses ≡ layout.most_accesses
  pub rights : get_or own layout.left 0 < 4
  pub row : (access_row accesses (get_or own layout.about 0)).flags < 64
  pub pending : 1 ≤ n.pending

pub noticing : {n : Tally} {accesses : List AccessRow} {own : List ℕ}
    → ((m : TaskMemory) × (w : ℕ) × Able (memory n m.rows accesses) own w) × (get_or own layout.stand 0 ≡ layout.telling)
    → Noticing n accesses own
noticing ((m, w, a), at) =
    let o = noticed a at in
    let n : 1 ≤ length (a.t.mail w) + notices (a.st w) = rw o.stand (omega arith) in
    record {
      long = (own_stored a).long;
      access = rw o.is_to (access_fits a.fit a.long o.to o.within);
      few = a.long.accesses;
      rights = omega (arith, o.is_flags, o.once.read, o.once.write);
      row = rw o.is_to (row_small a o.to o.within);
      pending = omega (arith, n, pending_here a);
    }
