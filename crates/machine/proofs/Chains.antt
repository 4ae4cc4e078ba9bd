-- How many picks chains of conflicting tasks take at the least: what every list of workers' picks from a fresh start says of them.
use Rattle.std.specs.Prelude.{ℕ, ◌+◌, ◌*◌, ◌≤◌, ◌≡◌, true, List, [], ◌∷◌, length}
use Rattle.std.proofs.Common.{arith}
use Rattle.runs.specs.Picks.{Picks}
use Rattle.runs.specs.Apart.{Apart, apart_one, apart_take, in_turn_apart}
use Rattle.runs.proofs.Traces as Traces
use Rattle.runs.specs.Traces.{workers_of}
use Rattle.plan.specs.Chains.{Chain, chain_cost, last_of, last_below_lem}
use Rattle.tasks.specs.Tasks.{over}
use Rattle.tasks.proofs.Playing as P
use Rattle.machine.specs.State.{Setup, State, start}
use Rattle.machine.specs.Event.{event}
use Rattle.machine.specs.Step.{task_op, step, finished, after}
use Rattle.machine.specs.Trace.{Happening, trace}
use Rattle.machine.proofs.Safety as Safety
use Rattle.machine.proofs.Safety.Histories as R
use Rattle.machine.specs.Safety.Invariant.{Playable}
use Rattle.machine.specs.Chains.{Chains}

module _ (c : Setup) (playable : Playable c) (ws : List ℕ) (p : Picks c.workers ws) where
  abbrev now : State
  now = after c ws

  abbrev list : List Happening
  list = trace c (start c) ws

  module _ (M : ℕ) (apart : Apart M ws) where
    taken_apart : Apart M (workers_of list)
    taken_apart = rw (Traces.trace_workers (finished c) (step c) (event c) ws (start c)) (apart_take M (length list) ws apart)

    spans : (i : ℕ) (is : List ℕ) → Chain c.tasks (i ∷ is) → now.tasks.status (last_of i is) ≡ over
        → now.tasks.receipt i + (chain_cost c.tasks (i ∷ is) + length (i ∷ is)) * M ≤ now.tasks.ending (last_of i is)
    spans = P.chain_span task_op playable.distinct list (R.task_history c playable ws p) M taken_apart

    -- the ending of the last task was picked too
    whole : finished c now ≡ true → (xs : List ℕ) → Chain c.tasks xs → M * (chain_cost c.tasks xs + length xs) ≤ now.picks
    whole e [] f = absurd f
    whole e (i ∷ is) f =
        let last = last_of i is in
        let done = P.all_over c.workers c.tasks now.tasks now.stand e last (last_below_lem c.tasks i is f) in
        omega (arith, spans i is f done, (Safety.noted c playable ws p last).2)

pub chains : (c : Setup) → Playable c → (ws : List ℕ) → Picks c.workers ws → Chains c ws
chains c playable ws p =
    record {
      span = λ i is f o. omega (arith, spans c playable ws p 1 (apart_one ws) i is f o);
      span_apart = λ M apart. spans c playable ws p M apart;
      in_turn_lem = λ turn. whole c playable ws p c.workers (in_turn_apart c.workers ws turn);
      at_least = λ turn e xs f. omega (arith, whole c playable ws p c.workers (in_turn_apart c.workers ws turn) e xs f);
    }
