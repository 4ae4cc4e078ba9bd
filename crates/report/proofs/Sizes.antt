-- How long a report can be.
use Rattle.std.specs.Prelude.{ℕ, suc, ◌+◌, ◌*◌, ◌^◌, ◌≤◌, ◌<◌, ◌≡◌, refl, Bool, true, false}
use mathlib.Core.List.{List, [], ◌∷◌, ◌++◌}
use Rattle.std.proofs.Math.Option.{Option, none, some}
use native.Mathlib.Omega.{arith}
use Rattle.std.proofs.Math.ListN.{length, length-append}
use Rattle.text.specs.Text.{bytes, decimal, number_or_none}
use Rattle.plan.specs.Plan.{Task}
use Rattle.tasks.specs.Accesses.{task_at}
use Rattle.tasks.specs.Tasks.{Status, new, waiting, ready, held, running, over}
use Rattle.machine.specs.State.{Setup, State}
use Rattle.machine.specs.Step.{finished}
use Rattle.memory.specs.Layout as layout
use Rattle.machine.specs.declared.Leader.{Leader}
use Rattle.machine.specs.declared.Leader.TheVariants.{Nobody, Owner, Due}
use Rattle.machine.specs.Whereabouts.{leader}
use Rattle.report.specs.Report.{outcome_name, status_name, known_from, leader_field, total_permitted, outcome_line, task_line, task_lines, lock_line, report}
use Rattle.text.specs.Decimals.{decimal_short, decimal_20}
use Rattle.text.specs.Lines.{length_4, length_8}
use Rattle.report.specs.Sizes.{longest, LeaderBelow, Small}

pub outcome_short : (done : Bool) → length (outcome_name done) ≤ 8
unfolding bytes
outcome_short true = omega arith
outcome_short false = omega arith

-- a giver's number
worker_short : (o : Option ℕ) → ((w : ℕ) → o ≡ some w → w < 2 ^ 64) → length (number_or_none o) ≤ 20
unfolding bytes
worker_short none h = omega arith
worker_short (some w) h = decimal_20 w (h w refl)

-- a leader's, and `>` where it is due
leader_short : (x : Leader) → LeaderBelow (2 ^ 64) x → length (leader_field x) ≤ 21
unfolding bytes
leader_short Nobody h = omega arith
leader_short (Owner w) h = omega (arith, decimal_20 w h)
leader_short (Due w) h = omega (arith, decimal_20 w h)

-- a status and the three numbers after it, which it may not yet show
figures_short : (st : Status) (a b e : ℕ) → a < 2 ^ 64 → b < 2 ^ 64 → e < 2 ^ 64
    → length (status_name st) + length (known_from running st a) + length (known_from running st b) + length (known_from over st e) ≤ 64
unfolding bytes
figures_short new a b e p q r = omega arith
figures_short waiting a b e p q r = omega arith
figures_short ready a b e p q r = omega arith
figures_short held a b e p q r = omega arith
figures_short running a b e p q r = omega (arith, decimal_20 a p, decimal_20 b q)
figures_short over a b e p q r = omega (arith, decimal_20 a p, decimal_20 b q, decimal_20 e r)

module _ (c : Setup) (s : State) where
  -- the numbers after task i's status are of 64 bits
  abbrev Figures : ℕ → Type 0
  Figures i =
      (s.tasks.runner i < 2 ^ 64) × (s.tasks.receipt i < 2 ^ 64) × (s.tasks.ending i < 2 ^ 64)
      × ((g : ℕ) → s.giver i ≡ some g → g < 2 ^ 64)

  task_short : (i : ℕ) (t : Task) → i < layout.most_tasks → length t.label ≤ layout.most_label
      → Figures i → length (task_line c s i t) ≤ 112
  unfolding bytes
  task_short i t h k n =
      let status = s.tasks.status i in
      omega (
        arith,
        decimal_short 2 i (omega arith),
        figures_short status (s.tasks.runner i) (s.tasks.receipt i) (s.tasks.ending i) n.0 n.1 n.2,
        worker_short (s.giver i) n.3,
        length_8 (bytes "T") (decimal i) t.label (status_name status)
            (known_from running status (s.tasks.runner i)) (known_from running status (s.tasks.receipt i))
            (known_from over status (s.tasks.ending i)) (number_or_none (s.giver i)),
      )

  tasks_short : (i : ℕ) (ts : List Task) → i + length ts ≤ layout.most_tasks
      → ((k : ℕ) → k < length ts → length (task_at ts k).label ≤ layout.most_label)
      → ((k : ℕ) → k < i + length ts → Figures k) → length (task_lines c s i ts) ≤ 112 * length ts
  unfolding task_lines
  tasks_short i [] h k n = omega arith
  tasks_short i (t ∷ ts) h k n =
      omega (
        arith,
        length-append (task_line c s i t) (task_lines c s (suc i) ts),
        task_short i t (omega arith) (k 0 (omega arith)) (n i (omega arith)),
        tasks_short (suc i) ts (omega arith) (λ j g. k (suc j) (omega arith)) (λ j g. n j (omega arith)),
      )

  pub report_short : Small c s → length (report c s) ≤ longest
  unfolding report bytes
  report_short small =
      let z : 0 + length c.tasks ≡ length c.tasks = omega arith in
      omega (
        arith,
        length-append (outcome_line c s ++ task_lines c s 0 c.tasks) (lock_line c s),
        length-append (outcome_line c s) (task_lines c s 0 c.tasks),
        length_4 (bytes "E") (outcome_name (finished c s)) (decimal s.picks) (decimal (total_permitted c)),
        outcome_short (finished c s),
        decimal_20 s.picks small.picks,
        decimal_short 3 (total_permitted c) small.permitted,
        length_4 (bytes "L") (decimal s.lock.head) (decimal s.lock.tail) (leader_field (leader c s)),
        decimal_20 s.lock.head small.head,
        decimal_20 s.lock.tail small.tail,
        leader_short (leader c s) small.leader,
        small.tasks,
        tasks_short 0 c.tasks (rw z small.tasks) small.labels
            (λ k g.
            let h : k < length c.tasks = rw z at g in
            (small.runner k h, small.receipt k h, small.ending k h, λ w. small.giver k w h)),
      )
