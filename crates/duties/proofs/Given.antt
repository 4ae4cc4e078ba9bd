-- What an operation is given: the worker in its part, what the numbers of the part say of it, and what is bounded wherever it can act.
use Prim.Native.Nat.{ℕ, zero, suc, ◌+◌, ◌*◌, ◌≤◌, ◌<◌}
use native.Mathlib.Omega.{arith}
use mathlib.Core.Path.{◌≡◌, refl, sym, ap, ◌∙◌}
use mathlib.Core.List.{List, ◌∷◌}
use mathlib.Core.Option.{some}
use Rattle.std.specs.Prelude.{Option as RustOption, Some, None}
use Rattle.std.proofs.lemmas.Option.{none-some}
use lib.ListN.{length}
use Rattle.runs.specs.Sums.{le_sum, sum_le, sum_const}
use borrow.Author.Tests.{lt-ltb, le-ltb}
use Rattle.plan.specs.Plan.{Task}
use Rattle.tasks.specs.Accesses.{first, total}
use Rattle.tasks.specs.Flags.{Flags, flag_number}
use Rattle.tasks.specs.Tasks.{Message, Stand, free, telling, working, Creation, opening, linking, Tasks}
use Rattle.tasks.specs.History.{Op, Can, after, minds, opens, links, closes, tells, delivers, works, ends}
use Rattle.tasks.specs.Duties.{duty, creating}
use Rattle.memory.specs.Layout as layout
use Rattle.memory.specs.Codes.{Coded, Making}
use Rattle.memory.specs.Rows.{access_row}
use Rattle.memory.specs.Memory.{TaskMemory, Long, Fit, Able, notices, its_duty, its_creating}
use Rattle.duties.specs.FromTasks.{first_last, first_within, mail_after, adds_after}
use Rattle.tasks.proofs.Promise.{first_zero, first_suc, flags_once}
use Rattle.duties.proofs.Flagging.{number_small}

-- where a worker stands, from its number
pub free_at : (k a b : ℕ) (x : Stand) → Coded k a b x → k ≡ layout.free → x ≡ free
free_at k a b free h e = refl
free_at k a b (telling y f) h e = absurd (omega arith)
free_at k a b (working i n) h e = absurd (omega arith)

pub telling_at : (k a b : ℕ) (x : Stand) → Coded k a b x → k ≡ layout.telling → (y : ℕ) × (f : Flags) × (x ≡ telling y f)
telling_at k a b free h e = absurd (omega arith)
telling_at k a b (telling y f) h e = (y, f, refl)
telling_at k a b (working i n) h e = absurd (omega arith)

pub working_at : (k a b : ℕ) (x : Stand) → Coded k a b x → k ≡ layout.working → x ≡ working a b
working_at k a b free h e = absurd (omega arith)
working_at k a b (telling y f) h e = absurd (omega arith)
working_at k a b (working i n) h e = let (z, p, q) = h in cc

pub stand_few : (k a b : ℕ) (x : Stand) → Coded k a b x → k ≤ layout.working
stand_few k a b free h = omega arith
stand_few k a b (telling y f) h = omega arith
stand_few k a b (working i n) h = omega arith

-- what a worker's duty is, by where it stands
pub its_tell : (ts : List Task) (t : Tasks) (x : Stand) (w : ℕ) (op : Op) (a : ℕ) (f : Flags) → x ≡ telling a f
    → its_duty ts t x w ≡ some op → minds (tells a f) ≡ op
unfolding duty
its_tell ts t x w op a f e h = let z = rw e at h in cc

pub its_delivery : (ts : List Task) (t : Tasks) (x : Stand) (w : ℕ) (op : Op) (m : Message) (ms : List Message) → x ≡ free
    → t.mail w ≡ m ∷ ms → its_duty ts t x w ≡ some op → minds (delivers m ms) ≡ op
unfolding duty
its_delivery ts t x w op m ms e l h = let z = rw (e, l) at h in cc

pub its_work : (ts : List Task) (t : Tasks) (x : Stand) (w : ℕ) (op : Op) (i n : ℕ) → x ≡ working i (suc n) → its_duty ts t x w ≡ some op
    → minds (works i n) ≡ op
unfolding duty
its_work ts t x w op i n e h = let z = rw e at h in cc

pub its_end : (ts : List Task) (t : Tasks) (x : Stand) (w : ℕ) (op : Op) (i : ℕ) → x ≡ working i 0 → its_duty ts t x w ≡ some op
    → minds (ends i) ≡ op
unfolding duty
its_end ts t x w op i e h = let z = rw e at h in cc

module _ (ts : List Task) (t : Tasks) (x : Stand) (w : ℕ) (op : Op) where
  pub its_open : (i : ℕ) → t.creation ≡ opening i → i < length ts → its_creating ts t x w ≡ some op → minds (opens i) ≡ op
  unfolding creating
  its_open i e l h = let z : its_creating ts t x w ≡ some (minds (opens i)) = rw (e, creating, lt-ltb i (length ts) l) in cc

  pub its_link : (i a : ℕ) → t.creation ≡ linking i a → a < first ts (suc i) → its_creating ts t x w ≡ some op → minds (links i a) ≡ op
  unfolding creating
  its_link i a e l h = let z : its_creating ts t x w ≡ some (minds (links i a)) = rw (e, creating, lt-ltb a (first ts (suc i)) l) in cc

  pub its_close : (i a : ℕ) → t.creation ≡ linking i a → first ts (suc i) ≤ a → its_creating ts t x w ≡ some op → minds (closes i) ≡ op
  unfolding creating
  its_close i a e l h = let z : its_creating ts t x w ≡ some (minds (closes i)) = rw (e, creating, le-ltb a (first ts (suc i)) l) in cc

-- where creation is, by whether a task is open
pub opening_at : (task : ℕ) (access : RustOption ℕ) (x : Creation) → Making task access x → access ≡ None → x ≡ opening task
opening_at task access (opening i) e z = ap opening (sym e.0)
opening_at task access (linking i a) e z = let y : None ≡ Some a = sym z ∙ e.1 in absurd (none-some a y)

pub linking_at : (task a : ℕ) (access : RustOption ℕ) (x : Creation) → Making task access x → access ≡ Some a → x ≡ linking task a
linking_at task a access (opening i) e z = let y : None ≡ Some a = sym e.1 ∙ z in absurd (none-some a y)
linking_at task a access (linking i b) e z = let (x, y) = e in let q : Some b ≡ Some a = sym y ∙ z in cc

pub notices_one : (x : Stand) → notices x ≤ 1
notices_one free = omega arith
notices_one (telling a f) = omega arith
notices_one (working i n) = omega arith

-- messages and notices: each worker's mailbox full, and a notice
abbrev pub most_pending : ℕ
most_pending = layout.most_workers * (layout.mail_room + 1)

module _ {W : ℕ} {ts : List Task} {t : Tasks} {st : ℕ → Stand} {w : ℕ} (fit : Fit W ts t st w) where
  -- how many accesses and tasks there can be
  first_few : (i : ℕ) → i ≤ length ts → first ts i ≤ layout.most_task_accesses * i
  first_few zero l = omega (arith, first_zero ts)
  first_few (suc i) l = omega (arith, first_suc ts i (omega arith), fit.sized.each i, first_few i (omega arith))

  pub total_few : total ts ≤ layout.most_accesses
  total_few = omega (arith, first_last ts, first_few (length ts) (omega arith), fit.sized.tasks)

  pub accesses_few : (x : ℕ) → x < total ts → x < layout.most_accesses
  accesses_few x l = omega (arith, l, total_few)

  pub tasks_few : (i : ℕ) → i < length ts → i < layout.most_tasks
  tasks_few i l = omega (arith, l, fit.sized.tasks)

  -- the row of a task lies in the array, and so does that of an access
  pub row_fits : {m : TaskMemory} → Long m → (i : ℕ) → i < length ts → i < length m.rows
  row_fits long i l = omega (arith, tasks_few i l, long.rows)

  pub access_fits : {m : TaskMemory} → Long m → (x : ℕ) → x < total ts → x < length m.accesses
  access_fits long x l = omega (arith, accesses_few x l, long.accesses)

  -- the accesses of a task end within those of the plan
  pub end_within : (i : ℕ) → i < length ts → first ts (suc i) ≤ total ts
  end_within i l = first_within ts (suc i) l

  -- the room that an operation takes
  module _ {op : Op} (can : Can W ts t (st w) w op) where
    pub room_mail : length ((after ts 0 t w op).mail w) ≤ layout.mail_room
    room_mail = mail_after fit.kept layout.mail_room (omega arith) fit.sized.each fit.mails w fit.worker can

    pub room_adds : length ((after ts 0 t w op).adds w) ≤ layout.add_room
    room_adds = omega (arith, adds_after fit.kept w fit.worker can, fit.sized.tasks)

module _ {m : TaskMemory} {own : List ℕ} {w : ℕ} (a : Able m own w) where
  -- the flags of an access in its row
  module _ (x : ℕ) (within : x < total a.ts) where
    pub row_flags : (access_row m.accesses x).flags ≡ flag_number (a.t.flags x)
    row_flags = a.holds.access_rows_lem.flags x within

    pub row_small : (access_row m.accesses x).flags < 64
    row_small = number_small (a.t.flags x) (flags_once a.fit.kept x) _ row_flags

  -- what is pending: at least what is the worker's own, at most four messages and a notice for each worker
  pub pending_here : length (a.t.mail w) + notices (a.st w) ≤ m.tally.pending
  pending_here = omega (arith, a.holds.pending, le_sum a.W (λ v. length (a.t.mail v) + notices (a.st v)) w a.fit.worker)

  pub pending_few : m.tally.pending ≤ most_pending
  pending_few =
      let each = sum_le a.W (λ v. length (a.t.mail v) + notices (a.st v)) (λ v. layout.mail_room + 1)
      (λ v l. omega (arith, a.fit.mails v, notices_one (a.st v))) in
      omega (arith, a.holds.pending, each, sum_const a.W (layout.mail_room + 1), a.fit.sized.workers)
