-- Every list of picks is a history of the lock and a history of the tasks: the operations of its events, in their order. So the lock is
-- changed by the lock's operations and by nothing else, and likewise tasks and flags.
use Rattle.std.specs.Prelude.{ℕ, suc, ◌+◌, ◌*◌, ◌≤◌, ◌<◌, ◌≡◌, List, [], ◌∷◌, ◌++◌, length}
use Rattle.std.proofs.Math.Path.{refl}
use Rattle.std.proofs.Common.{append-nil}
use Rattle.std.proofs.Math.Option.{Option, none, some}
use Rattle.std.proofs.Math.ListN.{get_elem?}
use Rattle.runs.specs.Picks.{Picks}
use Rattle.runs.proofs.Traces as Traces
use Rattle.lock.specs.Lock as L
use Rattle.lock.specs.History as LH
use Rattle.lock.proofs.Promise as Lock
use Rattle.tasks.specs.Accesses.{task_at}
use Rattle.tasks.specs.Tasks.{over, is_received, is_ended}
use Rattle.tasks.specs.History as Th
use Rattle.tasks.specs.Playing as P
use Rattle.tasks.proofs.Playing as PLaws
use Rattle.machine.specs.State.{Setup, Place, State, start, picked}
use Rattle.machine.specs.Event.{event}
use Rattle.machine.specs.Step.{lock_op, task_op, lock_after, step, finished, after}
use Rattle.machine.proofs.View.{does_step}
use Rattle.machine.specs.Trace as Trace
use Rattle.machine.specs.Trace.{Happening, trace}
use Rattle.machine.specs.Whereabouts.{left_in_hands}
use Rattle.machine.specs.Safety.Locked.{lock_stands}
use Rattle.machine.proofs.Safety.Locked.{LockMove, aside, operates, lock_move, stands_after, moved_stands}
use Rattle.machine.specs.Safety.Invariant.{Playable, Inv}
use Rattle.machine.proofs.Safety.Invariant.{may_do, inv_start, inv_step, inv_picked}
use Rattle.machine.proofs.Safety.Traces.{step_picks}

-- ---- the lock

abbrev lock_moves_by : ℕ → Option LH.Op → List LH.Move
lock_moves_by w none = []
lock_moves_by w (some op) = record { by = w; op = op } ∷ []

-- the operations of the lock in what happened, the latest first
unfoldable pub lock_moves : List Happening → List LH.Move
lock_moves [] = []
lock_moves (h ∷ hs) = lock_moves hs ++ lock_moves_by h.by (lock_op h.what)

module _ (c : Setup) where
  -- from one state to another by the operations in what happened
  abbrev LockPlays : State → List Happening → State → Type 0
  LockPlays s hs t = LH.Run c.workers c.slots s.lock (lock_stands s.place) (lock_moves hs) t.lock (lock_stands t.place)

  -- an event before it
  lock_first : (s : State) (w : ℕ) → w < c.workers → {o : Option LH.Op} {p : Place} → LockMove c s w o p
      → (ms : List LH.Move) (now : L.Lock) (at : ℕ → LH.Stand)
      → LH.Run c.workers c.slots (lock_after c s.lock w o) (stands_after c s w o) ms now at
      → LH.Run c.workers c.slots s.lock (lock_stands s.place) (ms ++ lock_moves_by w o) now at
  lock_first s w l (aside e) ms now at r = rw (append-nil ms) r
  lock_first s w l (operates op can e) ms now at r = Lock.run_first w l op can r

  lock_more : (s t : State) (w : ℕ) (hs : List Happening) → w < c.workers → Unit {0} → LockPlays (step c s w) hs t
      → LockPlays s (record { by = w; what = event c s w } ∷ hs) t
  unfolding lock_moves step
  lock_more s t w hs l v r =
      let move = lock_move c (picked s) w (does_step c s w) in
      lock_first (picked s) w l move (lock_moves hs) t.lock (lock_stands t.place) (rw (moved_stands c (picked s) w move) at r)

  -- every list of picks, whatever the setup
  pub lock_history : (ws : List ℕ) → Picks c.workers ws
      → LH.History c.workers c.slots (lock_moves (trace c (start c) ws)) (after c ws).lock (lock_stands (after c ws).place)
  unfolding after start lock_moves
  lock_history ws p =
      Traces.along (finished c) (step c) (event c) c.workers (λ s. Unit {0}) LockPlays (λ s w l v. tt) (λ s v. LH.still) lock_more ws p
      (start c) tt

-- ---- the tasks

module _ (c : Setup) (playable : Playable c) where
  may_step : (s : State) (w : ℕ) → w < c.workers → Inv c s → P.May c.workers c.tasks s.tasks (s.stand w) w (task_op (event c s w))
  may_step s w l v = may_do c (picked s) (inv_picked c playable s v) w l (does_step c s w)

  tasks_step : (s : State) (w : ℕ) → (step c s w).tasks ≡ P.tasks_after c.tasks (suc s.picks) s.tasks w (task_op (event c s w))
  unfolding step
  tasks_step s w = refl

  stands_step : (s : State) (w : ℕ) → w < c.workers → Inv c s
      → (step c s w).stand ≡ P.stands_after c.tasks s.stand w (task_op (event c s w))
  unfolding step
  stands_step s w l v = refl

  module _ (ws : List ℕ) (p : Picks c.workers ws) where
    pub task_history :
        Th.History c.workers c.tasks (P.moves task_op 0 (trace c (start c) ws)) (after c ws).tasks (after c ws).stand
    unfolding after start
    task_history =
        PLaws.plays task_op (finished c) (step c) (event c) (λ s. s.picks) (λ s. s.tasks) (λ s. s.stand) c.workers c.tasks (Inv c)
        (inv_step c playable) may_step (step_picks c) tasks_step stands_step ws p (start c) (inv_start c playable)

    module _ (i : ℕ) where
      pub receipts : Trace.tally (Trace.is_receipt i) (trace c (start c) ws) ≡ is_received ((after c ws).tasks.status i)
      receipts = PLaws.receipts task_op playable.distinct (trace c (start c) ws) task_history i

      pub endings : Trace.tally (Trace.is_ending i) (trace c (start c) ws) ≡ is_ended ((after c ws).tasks.status i)
      endings = PLaws.endings task_op playable.distinct (trace c (start c) ws) task_history i

      pub worked : Trace.tally (Trace.is_work i) (trace c (start c) ws) + left_in_hands c (after c ws) i
          ≡ Trace.tally (Trace.is_receipt i) (trace c (start c) ws) * (task_at c.tasks i).cost
      worked = PLaws.worked task_op playable.distinct (trace c (start c) ws) task_history i

      pub works_exactly : (after c ws).tasks.status i ≡ over
          → Trace.tally (Trace.is_work i) (trace c (start c) ws) ≡ (task_at c.tasks i).cost
      works_exactly = PLaws.works_exactly task_op playable.distinct (trace c (start c) ws) task_history i

      pub receipt_by : (k : ℕ) (h : Happening) → get_elem? (trace c (start c) ws) k ≡ some h → 0 < Trace.is_receipt i h.what
          → ((after c ws).tasks.runner i ≡ h.by) × ((after c ws).tasks.receipt i ≡ suc k)
      receipt_by = PLaws.receipt_by task_op playable.distinct (trace c (start c) ws) task_history i

      pub ending_by : (k : ℕ) (h : Happening) → get_elem? (trace c (start c) ws) k ≡ some h → 0 < Trace.is_ending i h.what
          → ((after c ws).tasks.runner i ≡ h.by) × ((after c ws).tasks.ending i ≡ suc k)
      ending_by = PLaws.ending_by task_op playable.distinct (trace c (start c) ws) task_history i

      pub noted : ((after c ws).tasks.runner i < c.workers) × ((after c ws).tasks.receipt i ≤ length (trace c (start c) ws))
          × ((after c ws).tasks.ending i ≤ length (trace c (start c) ws))
      noted = PLaws.noted task_op playable.distinct (trace c (start c) ws) task_history i playable.workers
