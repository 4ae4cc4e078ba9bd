-- Demand 3, one claim about whole lists of picks: every list of workers below W from a fresh start, the empty one too.
use Rattle.std.specs.Prelude.{ℕ, ◌+◌, ◌≤◌, ◌<◌, ◌≡◌, ◌⊎◌, ◌↔◌, true, false, List, ◌∷◌, ◌++◌, length}
use Rattle.std.proofs.Math.Option.{some}
use Rattle.std.proofs.Math.ListN.{get_elem?}
use Rattle.runs.specs.Picks.{Regular, run, Within}
use Rattle.lock.specs.Lock as L
use Rattle.plan.specs.Chains.{conflict}
use Rattle.tasks.specs.Accesses.{task_at}
use Rattle.tasks.specs.Tasks.{ready, held, running, over, past_waiting}
use Rattle.machine.specs.State.{Setup, State, start}
use Rattle.machine.specs.Event.{registers, may, event}
use Rattle.machine.specs.Step.{step, finished, pick, after}
use Rattle.machine.specs.Figures.{waiting_figure, finishing_figure}
use Rattle.machine.specs.Trace.{Happening, trace, tally, is_receipt, is_ending, is_hand_over}
use Rattle.machine.specs.Whereabouts.{places}
use Rattle.machine.specs.Progress.Waiting.{OutOfWait}

-- a list in which worker w registers with ticket t: what was picked before, and after
pub record Registers (c : Setup) (ws : List ℕ) (w t : ℕ) : Type 0 where
  pub before : List ℕ
  pub since : List ℕ
  pub whole : before ++ w ∷ since ≡ ws
  pub taken : finished c (after c before) ≡ false
  pub registering : event c (after c before) w ≡ registers t

-- the state just after registering, and the ticket distance in it
abbrev pub registered : {c : Setup} {ws : List ℕ} {w t : ℕ} → Registers c ws w t → State
registered {c = c} {w = w} r = step c (after c r.before) w

abbrev pub distance_of : {c : Setup} {ws : List ℕ} {w t : ℕ} → Registers c ws w t → ℕ
distance_of {t = t} r = L.distance (registered r).lock t

pub record WholeRun (c : Setup) (ws : List ℕ) : Type 0 where
  -- each pick gets the state that the last one left, and once the state is finished the rest of the list isn't taken
  pub rest_untaken : (us vs : List ℕ) → us ++ vs ≡ ws
      → (after c ws ≡ run (pick c) (after c us) vs) × (finished c (after c us) ≡ true → after c ws ≡ after c us)
  -- no task is lost
  pub none_lost : (i : ℕ)
      → ((after c ws).tasks.status i ≡ ready) ⊎ ((after c ws).tasks.status i ≡ held) ⊎ ((after c ws).tasks.status i ≡ running)
      → places c (after c ws) i ≡ 1
  -- no task is received twice, and its receipt and its ending are by the same worker
  pub received_once : (i : ℕ) → tally (is_receipt i) (trace c (start c) ws) ≤ 1
  pub same_worker : (i k : ℕ) (h : Happening) → get_elem? (trace c (start c) ws) k ≡ some h
      → 0 < is_receipt i h.what + is_ending i h.what → h.by ≡ (after c ws).tasks.runner i
  -- who receives a task may run it, and so may the worker that has run it or runs it
  pub may_receive : (i k : ℕ) (h : Happening) → get_elem? (trace c (start c) ws) k ≡ some h → 0 < is_receipt i h.what
      → may c h.by i ≡ true
  pub may_run : (i : ℕ) → ((after c ws).tasks.status i ≡ running) ⊎ ((after c ws).tasks.status i ≡ over)
      → may c ((after c ws).tasks.runner i) i ≡ true
  -- an earlier task that conflicts with one that is ready, held, run or over is over
  pub in_order : (i j : ℕ) → i < j → j < length c.tasks → conflict (task_at c.tasks i) (task_at c.tasks j) ≡ true
      → past_waiting ((after c ws).tasks.status j) ≡ 1 → (after c ws).tasks.status i ≡ over
  -- a worker that registered at ticket distance d has its turn exactly when at least d hand-overs have come since
  pub turn : (w t : ℕ) (r : Registers c ws w t)
      → (L.turn c.slots (after c ws).lock t ≡ true) ↔ (distance_of r ≤ tally is_hand_over (trace c (registered r) r.since))
  -- if every B picks in a row include each worker, it is out of the wait within (d (3W + 2) + 1) B picks,
  -- unless the run finishes or the list ends first
  pub waiting : (B : ℕ) → Regular c.workers B ws → (w t : ℕ) (r : Registers c ws w t)
      → Within (pick c) (λ s. (finished c s ≡ true) ⊎ OutOfWait c w s) (waiting_figure c B (distance_of r)) r.since (registered r)
      ⊎ (length r.since < waiting_figure c B (distance_of r))
  -- and T tasks with A accesses and total cost C are finished within B F (7T + 7A + C) picks if the list is that long, each with one
  -- receipt and one ending; F is 4W + 8, or 3W² + 7W + 8 for a plan with M lines (`per_progress`)
  pub finishing : (B : ℕ) → Regular c.workers B ws → finishing_figure c B ≤ length ws
      → (finished c (after c ws) ≡ true)
      × ((after c ws).picks ≤ finishing_figure c B)
      × ((i : ℕ) → i < length c.tasks
      → (tally (is_receipt i) (trace c (start c) ws) ≡ 1) × (tally (is_ending i) (trace c (start c) ws) ≡ 1))
  -- no tasks: finished at once
  pub at_once : length c.tasks ≡ 0 → finished c (start c) ≡ true
