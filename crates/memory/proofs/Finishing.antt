-- The tasks are finished where no task is left and nothing is pending.
use Prim.Native.Nat.{ℕ, zero, suc, ◌+◌}
use native.Mathlib.Omega.{arith}
use native.Mathlib.Nat.{add_comm, zero-add}
use mathlib.Core.Path.{◌≡◌, refl, ap}
use mathlib.Core.Bool.{Bool, not, ◌&&◌}
use mathlib.Core.List.{List}
use lib.ListN.{length}
use lib.Dec.{eqb}
use borrow.Author.Tests.{ne_eqb}
use Rattle.runs.specs.Sums.{sum}
use Rattle.plan.specs.Plan.{Task}
use Rattle.tasks.specs.Tasks.{Message, Stand, free, telling, working, Status, new, waiting, ready, held, running, over, Tasks}
use Rattle.runs.specs.Below.{every_below}
use Rattle.tasks.specs.Tasks.{is_over}
use Rattle.tasks.specs.Playing.{has_notice, finished}
use Rattle.memory.specs.Memory.{TaskMemory, HoldsTasks, unfinished, notices, nothing_left}

both_zero : (a b : ℕ) → (eqb a 0 && eqb b 0) ≡ eqb (a + b) 0
both_zero zero b = rw (zero-add b)
both_zero (suc a) b = rw (ne_eqb (suc a) 0 (λ e. omega arith), ne_eqb (suc a + b) 0 (λ e. omega arith))

-- a test that each number below n passes: the numbers of misses sum to 0
every_below_lem : (n : ℕ) (test : ℕ → Bool) (misses : ℕ → ℕ) → ((k : ℕ) → test k ≡ eqb (misses k) 0) → every_below n test ≡ eqb (sum n misses) 0
unfolding every_below sum
every_below_lem zero test misses h = refl
every_below_lem (suc n) test misses h =
    rw (h n, every_below_lem n test misses h, both_zero (misses n) (sum n misses))
    (ap (λ (k : ℕ). eqb k 0) (add_comm (misses n) (sum n misses)))

over_none : (x : Status) → is_over x ≡ eqb (unfinished x) 0
over_none new = refl
over_none waiting = refl
over_none ready = refl
over_none held = refl
over_none running = refl
over_none over = refl

notice_none : (x : Stand) → not (has_notice x) ≡ eqb (notices x) 0
notice_none free = refl
notice_none (telling a f) = refl
notice_none (working i n) = refl

quiet : (ms : List Message) (x : Stand) → (eqb (length ms) 0 && not (has_notice x)) ≡ eqb (length ms + notices x) 0
quiet ms x = rw (notice_none x) (both_zero (length ms) (notices x))

pub finished_counts : (W : ℕ) (ts : List Task) (m : TaskMemory) (parts : ℕ → List ℕ) (t : Tasks) (st : ℕ → Stand)
    → HoldsTasks W ts m parts t st
    → finished W ts t st ≡ nothing_left m.tally
unfolding finished
finished_counts W ts m parts t st h =
    let over = every_below_lem (length ts) (λ i. is_over (t.status i)) (λ i. unfinished (t.status i)) (λ i. over_none (t.status i)) in
    let still = every_below_lem W (λ w. eqb (length (t.mail w)) 0 && not (has_notice (st w))) (λ w. length (t.mail w) + notices (st w))
    (λ w. quiet (t.mail w) (st w)) in
    rw (h.left, h.pending, over, still)
