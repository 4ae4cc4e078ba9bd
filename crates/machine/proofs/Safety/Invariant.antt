-- All that holds of every state that picks lead to: the lock's promise, the tasks' promise, and what the device keeps.
use Rattle.std.specs.Prelude.{ℕ, ◌<◌, List}
use Rattle.runs.specs.Picks.{Picks, run}
use Rattle.tasks.specs.Playing as P
use Rattle.tasks.proofs.Promise as Promise
use Rattle.machine.specs.State.{Setup, State, start, picked}
use Rattle.machine.specs.Event.{Event}
use Rattle.machine.specs.Step.{task_op, apply, step, pick, after}
use Rattle.machine.specs.View.{Does}
use Rattle.machine.proofs.View.{does_step}
use Rattle.machine.proofs.Safety.Locked.{locked_start, locked_keep}
use Rattle.machine.proofs.Safety.Device.{device_start}
use Rattle.machine.proofs.Safety.Tasked.{task_may, tasked_keep, device_keep}
use Rattle.machine.proofs.Safety.Traces.{run_inv}
use Rattle.machine.specs.Safety.Invariant.{Playable, Inv}

-- each event is an operation of the tasks that its worker may do, or none
pub may_do : (c : Setup) (s : State) → Inv c s → (w : ℕ) → w < c.workers → {e : Event} → Does c s w e
    → P.May c.workers c.tasks s.tasks (s.stand w) w (task_op e)
may_do c s v w l d = task_may c s v.locked v.tasked v.device w l d

module _ (c : Setup) (playable : Playable c) where
  pub inv_start : Inv c (start c)
  unfolding start
  inv_start =
      record {
        locked = locked_start c playable.workers playable.ring;
        tasked = Promise.kept_start c.workers c.tasks playable.distinct;
        device = device_start c;
      }

  -- counting the pick changes none of it
  pub inv_picked : (s : State) → Inv c s → Inv c (picked s)
  inv_picked s v =
      record {
        locked = v.locked;
        tasked = v.tasked;
        device = record { stored = v.device.stored; boxes = v.device.boxes; fits = v.device.fits };
      }

  pub inv_keep : (s : State) → Inv c s → (w : ℕ) → w < c.workers → {e : Event} → Does c s w e → Inv c (apply c s w e)
  inv_keep s v w l d =
      record {
        locked = locked_keep c s w v.locked l d;
        tasked = tasked_keep c s v.locked v.tasked v.device w l d;
        device = device_keep c s v.locked v.tasked v.device w l d;
      }

  pub inv_step : (s : State) (w : ℕ) → w < c.workers → Inv c s → Inv c (step c s w)
  unfolding step
  inv_step s w l v = inv_keep (picked s) (inv_picked s v) w l (does_step c s w)

  pub inv_run : (ws : List ℕ) → Picks c.workers ws → (s : State) → Inv c s → Inv c (run (pick c) s ws)
  inv_run = run_inv c (Inv c) inv_step

  pub inv_after : (ws : List ℕ) → Picks c.workers ws → Inv c (after c ws)
  unfolding after
  inv_after ws p = inv_run ws p (start c) inv_start
