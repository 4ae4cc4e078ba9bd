-- Runs computed up to the figures: with smaller factors the worker would still wait, and the task would still run; and with a worker that
-- is never picked no figure would do. Runs in which a chain takes no more than the least.
use Rattle.std.specs.Prelude.{ℕ, ◌+◌, ◌*◌, ◌≡◌, refl, Bool, true, false, List, [], ◌∷◌, ◌++◌, replicate, take, eqb, leb}
use Rattle.std.proofs.Math.Option.{none}
use Rattle.runs.specs.Sums.{sum}
use Rattle.lock.specs.History as LH
use Rattle.plan.specs.Orders.{times}
use Rattle.plan.specs.Chains.{chain_cost}
use Rattle.machine.specs.State.{Setup}
use Rattle.machine.specs.Step.{finished, after}
use Rattle.machine.specs.Whereabouts.{lock_stand}
use Rattle.machine.specs.Figures.{waiting_figure, finishing_figure, chain_figure}
use Rattle.machine.specs.Computing.{computing}

-- one task with this cost and no access
abbrev pub one : ℕ → ℕ → Setup
one workers cost =
    record { workers = workers; slots = 64; capacity = 8; tasks = record { label = []; cost = cost; accesses = []; mask = none } ∷ [] }

abbrev pub waits_with : ℕ → LH.Stand → Bool
waits_with t LH.out = false
waits_with t (LH.taken u) = false
waits_with t (LH.waiting u) = eqb u t
waits_with t LH.owning = false
waits_with t LH.serving = false

-- worker 1 owns the lock, worker 2 registers with ticket 65 at distance 1, and rounds in which the owner is picked last follow
abbrev pub until_registered : List ℕ
until_registered = 1 ∷ 1 ∷ 1 ∷ 2 ∷ 2 ∷ []

pub out_in_time : waits_with 65
    (lock_stand ((after (one 3 9) (until_registered ++ take (waiting_figure (one 3 9) 3 1) (times 12 (0 ∷ 2 ∷ 1 ∷ [])))).place 2)) ≡ false
unfolding computing
out_in_time = refl

-- one worker and a task of cost 100
pub finished_in_time : finished (one 1 100) (after (one 1 100) (replicate (finishing_figure (one 1 100) 1) 0)) ≡ true
unfolding computing sum
finished_in_time = refl

-- worker 0 is never picked: its task isn't even opened
pub unfinished_unpicked : finished (one 2 0) (after (one 2 0) (replicate (finishing_figure (one 2 0) 1) 1)) ≡ false
unfolding computing sum
unfinished_unpicked = refl

-- ---- the least that a chain takes

-- worker 1 fills worker 0's cell with the task, and from the receipt on worker 0 alone is picked
pub exact_alone : let t = (after (one 2 1) (0 ∷ 0 ∷ 0 ∷ 1 ∷ 1 ∷ 1 ∷ 0 ∷ 0 ∷ 1 ∷ 1 ∷ 1 ∷ 1 ∷ 0 ∷ 0 ∷ 0 ∷ [])).tasks in
    eqb (t.receipt 0 + (chain_cost (one 2 1).tasks (0 ∷ []) + 1)) (t.ending 0) ≡ true
unfolding computing chain_cost
exact_alone = refl

-- likewise with the workers in turn
pub exact_in_turn : let t = (after (one 2 1) (times 10 (0 ∷ 1 ∷ []))).tasks in
    eqb (t.receipt 0 + (chain_cost (one 2 1).tasks (0 ∷ []) + 1) * 2) (t.ending 0) ≡ true
unfolding computing chain_cost
exact_in_turn = refl

-- one worker and a task of cost 100: finished after 110 picks, so no figure for it is more
pub finished_early : finished (one 1 100) (after (one 1 100) (replicate 110 0)) ≡ true
unfolding computing
finished_early = refl

pub least_below : leb (chain_figure (one 1 100) (0 ∷ [])) 110 ≡ true
unfolding chain_cost
least_below = refl
