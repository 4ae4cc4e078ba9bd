-- What the longest chain of a plan says of the plan's own run, and of what `run` answers: how many picks were taken at the least.
use Rattle.std.specs.Prelude.{ℕ}
use Rattle.plan.specs.Plan.{Plan}
use Rattle.plan.specs.Chains.{chain_cost}
use Rattle.chain.specs.Longest.{longest}

-- the sum that the tool writes
abbrev pub longest_sum : Plan → ℕ
longest_sum p = chain_cost p.tasks (longest p.tasks)
