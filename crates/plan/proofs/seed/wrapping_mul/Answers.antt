-- `plan::seed::wrapping_mul` meets its contract: each product of halves fits, and the law on halves gives the rest.
use Rattle.std.proofs.Common.{rules}
use Rattle.plan.proofs.Halves.{halves_fit, by_halves}
use Rattle.plan.proofs.seed.wrapping_mul.Goals as goal

pub overflow_mul-low : goal.overflow_mul-low
overflow_mul-low c =
    record { fits = halves_fit _ _ (search rules) (search rules) }

pub overflow_mul-cross : goal.overflow_mul-cross
overflow_mul-cross c =
    record { fits = halves_fit _ _ (search rules) (search rules) }

pub overflow_mul-cross-2 : goal.overflow_mul-cross-2
overflow_mul-cross-2 c =
    record { fits = halves_fit _ _ (search rules) (search rules) }

pub returns : goal.returns
returns c =
    by_halves 4294967296 c.args.a c.args.b
