-- How many picks chains of conflicting tasks take at the least: what every list of workers' picks from a fresh start says of them.
use Rattle.std.specs.Prelude.{ℕ, ◌+◌, ◌*◌, ◌≤◌, ◌≡◌, true, List, ◌∷◌, length}
use Rattle.runs.specs.Apart.{Apart, InTurn}
use Rattle.plan.specs.Chains.{Chain, chain_cost, last_of}
use Rattle.tasks.specs.Tasks.{over}
use Rattle.machine.specs.State.{Setup}
use Rattle.machine.specs.Step.{finished, after}
use Rattle.machine.specs.Figures.{chain_figure}

pub record Chains (c : Setup) (ws : List ℕ) : Type 0 where
  -- whatever the order: once a chain's last task is over, from the receipt of its first task to that ending there were at least as many
  -- picks as the chain costs, and one for each of its tasks; the pick of the receipt isn't counted, that of the ending is
  pub span : (i : ℕ) (is : List ℕ) → Chain c.tasks (i ∷ is) → (after c ws).tasks.status (last_of i is) ≡ over
      → (after c ws).tasks.receipt i + (chain_cost c.tasks (i ∷ is) + length (i ∷ is)) ≤ (after c ws).tasks.ending (last_of i is)
  -- and M times as many where each worker's picks are at least M apart
  pub span_apart : (M : ℕ) → Apart M ws → (i : ℕ) (is : List ℕ) → Chain c.tasks (i ∷ is)
      → (after c ws).tasks.status (last_of i is) ≡ over
      → (after c ws).tasks.receipt i + (chain_cost c.tasks (i ∷ is) + length (i ∷ is)) * M ≤ (after c ws).tasks.ending (last_of i is)
  -- where the workers are picked in turn, a finished run took at least W times the cost of every chain, and W more for each task of it
  pub in_turn_lem : InTurn c.workers ws → finished c (after c ws) ≡ true → (xs : List ℕ) → Chain c.tasks xs
      → chain_figure c xs ≤ (after c ws).picks
  -- so W times its cost
  pub at_least : InTurn c.workers ws → finished c (after c ws) ≡ true → (xs : List ℕ) → Chain c.tasks xs
      → c.workers * chain_cost c.tasks xs ≤ (after c ws).picks
