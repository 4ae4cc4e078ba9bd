-- The lines of a report, one after the other. Assumes nothing.
use Prim.Native.Nat.{ℕ, zero, suc, ◌+◌, ◌≤◌, ◌<◌}
use mathlib.Core.Path.{◌≡◌, refl, sym, ap, ◌∙◌}
use mathlib.Core.List.{List, [], ◌∷◌, ◌++◌, append-nil, append_assoc}
use mathlib.Core.Option.{Option}
use native.Mathlib.Nat.{add-zero}
use native.Mathlib.Numerals.{add-one}
use native.Mathlib.Omega.{arith}
use lib.ListN.{length, take, drop, get_or, length-take}
use lib.Seq.{take-length}
use Rattle.text.specs.declared.write.Writer.{Writer}
use Rattle.text.specs.Writing.{plain, fields}
use Rattle.text.specs.WritingLaws.{wrote_none}
use Rattle.text.specs.Writers.{Writes}
use Rattle.text.specs.WriterLaws.{writes_then}
use Rattle.plan.specs.Plan.{Task}
use Rattle.tasks.specs.Accesses.{task_at}
use Rattle.tasks.specs.Tasks.{Status}
use Rattle.machine.specs.State.{Setup, State}
use Rattle.machine.specs.Step.{finished}
use Rattle.machine.specs.Whereabouts.{leader}
use Rattle.memory.specs.Layout as layout
use Rattle.std.specs.Prelude as rust
use Rattle.memory.specs.Codes.{status_of, option_of}
use Rattle.memory.specs.Rows.{outcome_at}
use Rattle.memory.specs.RowLaws.{outcome_is}
use Rattle.memory.specs.Labels.{label_at, label_in}
use Rattle.memory.specs.declared.labels.Label.{Label}
use Rattle.memory.specs.declared.rows.Outcome.{Outcome}
use Rattle.memory.specs.declared.rows.TaskRow.{TaskRow}
use Rattle.report.specs.Report.{outcome_fields, task_fields, lock_fields, total_permitted, outcome_line, task_line, task_lines, report}
use Rattle.report.specs.Shown.{fields_of, TaskShown, Shown}
use Rattle.report.specs.declared.Summary.{Summary}

-- one line more
pub lines_more : (c : Setup) (s : State) (i k : ℕ) (ts : List Task) → k < length ts
    → task_lines c s i (take (suc k) ts) ≡ task_lines c s i (take k ts) ++ task_line c s (i + k) (task_at ts k)
unfolding task_lines
lines_more c s i k [] h = absurd (omega arith)
lines_more c s i zero (t ∷ ts) h = append-nil (task_line c s i t) ∙ ap (λ (j : ℕ). task_line c s j t) (sym (add-zero i))
lines_more c s i (suc k) (t ∷ ts) h =
    let e : suc i + k ≡ i + suc k = omega arith in
    ap (λ (l : List ℕ). task_line c s i t ++ l)
    (lines_more c s (suc i) k ts (omega arith) ∙ ap (λ (j : ℕ). task_lines c s (suc i) (take k ts) ++ task_line c s j (task_at ts k)) e)
    ∙ sym (append_assoc (task_line c s i t) (task_lines c s (suc i) (take k ts)) (task_line c s (i + suc k) (task_at ts k)))

-- ---- a task's line

-- what is written of a task's numbers is the line of the task that they show
pub wrote_task : {c : Setup} {s : State} {table : List TaskRow} {places : List Label} {given : List (rust.Option ℕ)} {bs : List ℕ}
    → {i : ℕ} → TaskShown c s table places given bs i
    → {label : List ℕ} {task : Outcome} {giver : rust.Option ℕ} {w v : Writer}
    → label ≡ label_in bs (label_at places i) → task ≡ outcome_at table i → giver ≡ get_or given i rust.None
    → ((x : Status) (g : Option ℕ) → status_of x ≡ task.status → option_of g ≡ giver
    → Writes w (fields (task_fields i label x task.runner task.receipt task.ending g)) v)
    → Writes w (fields (fields_of c s i)) v
wrote_task {s = s} {i = i} shown e f h w =
    let is = f ∙ shown.outcome in
    rw (e ∙ shown.label, ap (λ (t : Outcome). t.runner) is, ap (λ (t : Outcome). t.receipt) is, ap (λ (t : Outcome). t.ending) is)
    at (w (s.tasks.status i) (s.giver i) (sym (ap (λ (t : Outcome). t.status) is)) (sym (h ∙ shown.giver)))

pub label_short : (bs : List ℕ) (l : Label) {label : List ℕ} → label ≡ label_in bs l → l.size ≤ layout.most_label
    → length label ≤ layout.most_label
label_short bs l e h = omega (arith, ap length e, length-take l.size (drop l.place bs))

-- ---- the whole report

module _ {c : Setup} {s : State} {summary : Summary} {table : List TaskRow} {places : List Label} {given : List (rust.Option ℕ)} {bs : List ℕ}
    (shown : Shown c s summary table places given bs) where
  task_shown : (i : ℕ) → i < length c.tasks → TaskShown c s table places given bs i
  task_shown i h =
      let t = s.tasks in
      record {
        outcome = outcome_is c.tasks table t.count t.status t.runner t.receipt t.ending shown.rows i h;
        label = (shown.labels i h).label;
        giver = shown.givers i h;
      }

  -- the lines of the first i tasks, and one more
  module _ {w : Writer} where
    pub first_none : Writes w (plain (task_lines c s 0 (take 0 c.tasks))) w
    unfolding task_lines
    first_none = record { wrote = wrote_none; same = refl }

    pub first_more : (i : ℕ) → i < summary.tasks → {v u : Writer} → Writes w (plain (task_lines c s 0 (take i c.tasks))) v
        → (TaskShown c s table places given bs i → Writes v (fields (fields_of c s i)) u)
        → Writes w (plain (task_lines c s 0 (take (i + 1) c.tasks))) u
    first_more i h lines task =
        let z : 0 + i ≡ i = omega arith in
        let here : i < length c.tasks = omega (arith, shown.count) in
        writes_then lines (rw (add-one i) (rw z at (lines_more c s 0 i c.tasks here))) (task (task_shown i here))

  -- the first line, those of all tasks, and the last
  pub wrote_report : (i : ℕ) {w v u x : Writer}
      → Writes w (fields (outcome_fields summary.finished summary.picks summary.permitted)) v
      → Writes v (plain (task_lines c s 0 (take i c.tasks))) u → i ≡ summary.tasks
      → Writes u (fields (lock_fields summary.head summary.tail summary.leader)) x
      → Writes w (plain (report c s)) x
  unfolding report
  wrote_report i {w} {v} {u} {x} first lines e lock =
      let all : take summary.tasks c.tasks ≡ c.tasks = rw shown.count (take-length c.tasks) in
      let outcome : Writes w (fields (outcome_fields (finished c s) s.picks (total_permitted c))) v =
      rw (shown.finished, shown.picks, shown.permitted) at first in
      let tasks : Writes v (plain (task_lines c s 0 c.tasks)) u = rw (e, all) at lines in
      let ends : Writes u (fields (lock_fields s.lock.head s.lock.tail (leader c s))) x =
      rw (shown.head, shown.tail, shown.leader) at lock in
      let both : Writes w (plain (outcome_line c s ++ task_lines c s 0 c.tasks)) u = writes_then outcome refl tasks in
      writes_then both refl ends
