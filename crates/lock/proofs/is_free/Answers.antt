-- `lock::is_free` meets its contract.
use mathlib.Core.Path.{◌≡◌}
use Prim.Native.Nat.{ℕ, suc, ◌-◌, ◌<◌}
use native.Mathlib.Omega.{arith}
use lib.Dec.{eqb}
use Rattle.std.proofs.lemmas.Bool.Decides.{nat_tests}
use Rattle.lock.specs.Lock.{is_free}
use Rattle.lock.proofs.is_free.Goals as goal

gap-one : (head tail : ℕ) → head < tail → eqb (tail - head) 1 ≡ eqb tail (suc head)
gap-one head tail h = grind (arith, nat_tests)

pub returns-then-head-tail : goal.returns-then-head-tail
unfolding is_free
returns-then-head-tail c slots wait registrations tickets tasks =
    gap-one _ _ c.if-head-tail.true

pub returns-else-head-tail : goal.returns-else-head-tail
unfolding is_free
returns-else-head-tail c slots wait registrations tickets tasks =
    grind (arith, nat_tests)
