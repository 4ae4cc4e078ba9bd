-- What the kept rows of a plan say of its tasks and accesses. Assumes nothing.
use Prim.Native.Nat.{ℕ, zero, suc, ◌+◌, ◌≤◌, ◌<◌}
use mathlib.Core.Path.{◌≡◌, refl, sym, ap, ◌∙◌}
use mathlib.Core.Bool.{not}
use mathlib.Core.List.{List, [], ◌∷◌, ◌++◌}
use native.Mathlib.Omega.{arith}
use lib.ListN.{length, get_or, take, length-append, get_or-append}
use lib.Seq.{get_or-append-add}
use Rattle.plan.specs.Plan.{Task, Plan}
use Rattle.plan.specs.Reading.{reading, accepted}
use Rattle.plan.specs.Accepted.{WellFormed}
use Rattle.plan.proofs.Accepted.{accepted_well_formed}
use Rattle.tasks.specs.Accesses.{no_task, no_access, accesses, task_at, access_at, first}
use Rattle.tasks.proofs.Promise.{first_suc, first_all, first_mono, of_task}
use Rattle.kept.specs.declared.tasks.Row.{Row}
use Rattle.plan.specs.declared.access.Access.{Access}
use Rattle.kept.specs.Tasks.{row_at, TaskIn, HasTasks}
use Rattle.memory.specs.Layout as layout
use Rattle.memory.specs.Labels.{LabelOf}
use Rattle.tables.specs.Laid.{IsAccess, AreAccesses}
use Rattle.tables.specs.Tables.{Readable}

-- ---- one access of a task

access_of : (ts : List Task) (i k : ℕ) → i < length ts → k < length (task_at ts i).accesses
    → access_at ts (first ts i + k) ≡ get_or (task_at ts i).accesses k no_access
unfolding accesses first
access_of [] i k l h = absurd (omega arith)
access_of (t ∷ ts) zero k l h =
    let e : 0 + k ≡ k = omega arith in
    rw e (get_or-append t.accesses (accesses ts) no_access k h)
access_of (t ∷ ts) (suc i) k l h =
    let before = accesses (take i ts) in
    let e : length (t.accesses ++ before) + k ≡ length t.accesses + (length before + k) =
    omega (arith, length-append t.accesses before) in
    rw e (get_or-append-add t.accesses (accesses ts) (length before + k) no_access ∙ access_of ts i k (omega arith) h)

pub one_access : (ts : List Task) (i at k : ℕ) (row : Row) (x : Access) → x ≡ get_or row.accesses k no_access
    → AreAccesses ts i at row → k < row.count → IsAccess ts (at + k) i (not x.writes) x.address
one_access ts i at k row x e h l =
    record {
      low = omega (arith, ends, first_mono ts (suc i) (length ts) h.low, first_all ts (length ts) (omega arith));
      of = of_task ts (at + k) i h.low (omega (arith, h.begins)) (omega (arith, ends));
      kind = ap (λ (y : Access). not y.writes) (sym same);
      at = ap (λ (y : Access). y.address) (sym same);
    }
  where
    ends : first ts (suc i) ≡ at + row.count
    ends = omega (arith, first_suc ts i h.low, h.begins, h.count)

    is : access_at ts (at + k) ≡ get_or (task_at ts i).accesses k no_access
    is = ap (λ x. access_at ts (x + k)) (sym h.begins) ∙ access_of ts i k h.low (omega (arith, h.count))

    same : x ≡ access_at ts (at + k)
    same = e ∙ h.accesses k l ∙ sym is

-- ---- tasks

module _ (text : List ℕ) (p : Plan) (e : reading text ≡ accepted p) (kept : List Row) (has : HasTasks text kept p.tasks) where
  pub formed : WellFormed p
  formed = accepted_well_formed text p e

  -- the row of a task
  pub record RowSays (i : ℕ) (row : Row) : Type 0 where
    pub label : LabelOf (task_at p.tasks i) text (record { place = row.place; size = row.size })
    pub cost : row.cost ≡ (task_at p.tasks i).cost
    pub count : row.count ≡ length (task_at p.tasks i).accesses
    pub few : row.count ≤ layout.most_task_accesses
    pub accesses : (at : ℕ) → at ≡ first p.tasks i → AreAccesses p.tasks i at row

  pub says_row : (i : ℕ) → i < length p.tasks → RowSays i (row_at kept i)
  says_row i l =
      let t : TaskIn text kept i (task_at p.tasks i) = has i l no_task in
      let count : (row_at kept i).count ≡ length (task_at p.tasks i).accesses = t.count in
      record {
        label =
            record {
              label = t.label;
              size = t.size;
              short = omega (arith, t.size, (formed.tasks i l no_task).label_short);
            };
        cost = t.cost;
        count = t.count;
        few = omega (arith, count, (formed.tasks i l no_task).accesses_few);
        accesses = λ at begin.
            record {
              low = l;
              begins = sym begin;
              count = sym t.count;
              accesses = λ k b. t.accesses k (omega (arith, count)) no_access;
            };
      }

  pub first_next : (i : ℕ) (row : Row) → i < length p.tasks → RowSays i row
      → first p.tasks i + row.count ≡ first p.tasks (suc i)
  first_next i row l h = omega (arith, first_suc p.tasks i l, h.count)

-- what keeps the stores within the arrays
module _ (kept : List Row) (count : ℕ) where
  pub task_low : Readable kept count → (i : ℕ) → i < count → i < layout.most_tasks
  task_low (text, p, e, size, has) i l = omega (arith, size, (formed text p e kept has).tasks_few)

  pub row_few : Readable kept count → (i : ℕ) → i < count → (row : Row) → row ≡ row_at kept i → row.count ≤ layout.most_task_accesses
  row_few (text, p, e, size, has) i l row is = rw is (says_row text p e kept has i (omega (arith, size))).few
