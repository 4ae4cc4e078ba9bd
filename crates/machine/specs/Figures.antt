-- How many picks a wait and a run take at the most, where every B picks in a row include each worker, and how many a chain takes at the
-- least, where the workers are picked in turn.
use Rattle.std.specs.Prelude.{ℕ, ◌+◌, ◌*◌, ◌≡◌, refl, Bool, true, false, List, length}
use Rattle.runs.specs.Sums.{sum}
use Rattle.plan.specs.Chains.{chain_cost}
use Rattle.plan.specs.Permits.{any_masked}
use Rattle.tasks.specs.Accesses.{accesses, task_at}
use Rattle.machine.specs.State.{Setup}

module _ (c : Setup) where
  -- the waiting figure, for a ticket distance d
  abbrev pub waiting_figure : ℕ → ℕ → ℕ
  waiting_figure B d = (d * (3 * c.workers + 2) + 1) * B

  -- the picks of each worker that one step of progress takes at the most: with M lines in the plan, and without
  abbrev pub factor : Bool → ℕ
  factor true = 3 * (c.workers * c.workers) + 7 * c.workers + 8
  factor false = 4 * c.workers + 8

  abbrev pub per_progress : ℕ
  per_progress = factor (any_masked c.tasks)

  -- the finishing figure, for T tasks with A accesses and total cost C
  abbrev pub finishing_figure : ℕ → ℕ
  finishing_figure B =
      let T = length c.tasks in
      let A = length (accesses c.tasks) in
      let C = sum T (λ i. (task_at c.tasks i).cost) in
      B * per_progress * (7 * T + 7 * A + C)

  -- for each step of work of a chain, and for each of its tasks, one pick of each worker
  abbrev pub chain_figure : List ℕ → ℕ
  chain_figure xs = c.workers * (chain_cost c.tasks xs + length xs)

  -- the finishing figure written out
  pub figure_unmasked : any_masked c.tasks ≡ false → (B : ℕ)
      → finishing_figure B
      ≡ B * (4 * c.workers + 8)
      * (7 * length c.tasks + 7 * length (accesses c.tasks) + sum (length c.tasks) (λ i. (task_at c.tasks i).cost))
  figure_unmasked e B = rw e refl

  pub figure_masked : any_masked c.tasks ≡ true → (B : ℕ)
      → finishing_figure B
      ≡ B * (3 * (c.workers * c.workers) + 7 * c.workers + 8)
      * (7 * length c.tasks + 7 * length (accesses c.tasks) + sum (length c.tasks) (λ i. (task_at c.tasks i).cost))
  figure_masked e B = rw e refl
