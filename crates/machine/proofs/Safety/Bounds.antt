-- What the layout in memory rests on: how long the lists of a state get, and which numbers stand in them.
use Rattle.std.specs.Prelude.{ℕ, suc, ◌≤◌, ◌<◌, [], ◌∷◌, length}
use Rattle.std.proofs.Common.{arith, length-append}
use Rattle.runs.specs.Counts.{count}
use Rattle.runs.specs.Update.{upd_all}
use Rattle.lock.proofs.Promise as Lock
use Rattle.tasks.specs.Accesses.{task_at}
use Rattle.tasks.proofs.Playing as P
use Rattle.tasks.proofs.Promise as Promise
use Rattle.machine.specs.State.{Setup, State, start, picked}
use Rattle.machine.specs.Event.{Event, event}
use Rattle.machine.specs.Step.{task_op, apply, step}
use Rattle.machine.specs.View as view
use Rattle.machine.specs.View.{Does}
use Rattle.machine.proofs.View.{does_step}
use Rattle.machine.proofs.Safety.Device.{listed_given}
use Rattle.machine.specs.Safety.Invariant.{Playable, Inv}
use Rattle.machine.proofs.Safety.Invariant.{may_do, inv_picked}
use Rattle.machine.proofs.Safety.Traces.{step_picks}
use Rattle.machine.proofs.Safety.Ends.{head_step}
use Rattle.machine.specs.Safety.Bounds.{Roomy, Small}

module _ (c : Setup) (s : State) (b : Roomy c s) (w : ℕ) where
  keeps_queues : {e : Event} → Does c s w e → Roomy c (apply c s w e)
  keeps_queues (view.does_mind d p can) = b
  keeps_queues (view.does_push i js r d l) =
      upd_all (λ v x. length x ≤ c.capacity) s.queue w _ (omega (arith, length-append (s.queue w) (i ∷ []))) (λ v k. b v)
  keeps_queues (view.does_find_full i js r d l) = b
  keeps_queues (view.does_win p q) = b
  keeps_queues (view.does_fail p q) = b
  keeps_queues (view.does_take_ticket r d z) = b
  keeps_queues (view.does_register t p) = b
  keeps_queues (view.does_wait t p q) = b
  keeps_queues (view.does_receive t i p q) = b
  keeps_queues (view.does_own t p q) = b
  keeps_queues (view.does_drain u k p) = upd_all (λ v x. length x ≤ c.capacity) s.queue k [] (omega arith) (λ v i. b v)
  keeps_queues (view.does_fill n v i js p q f l) = b
  keeps_queues (view.does_take n i js p q) = b
  keeps_queues (view.does_take_none n p q) = b
  keeps_queues (view.does_hand_over n p) = b
  keeps_queues (view.does_leave p) = b

pub roomy_start : (c : Setup) → Roomy c (start c)
unfolding start
roomy_start c w = omega arith

pub roomy_step : (c : Setup) (s : State) (w : ℕ) → Roomy c s → Roomy c (step c s w)
unfolding step
roomy_step c s w b = keeps_queues c (picked s) b w (does_step c s w)

-- and mailboxes, with at most n accesses in a task
pub mails_step : (c : Setup) → Playable c → (n : ℕ) → 0 < n → ((i : ℕ) → length (task_at c.tasks i).accesses ≤ n) → (s : State) → Inv c s
    → (w : ℕ) → w < c.workers → ((u : ℕ) → length (s.tasks.mail u) ≤ n) → (u : ℕ) → length ((step c s w).tasks.mail u) ≤ n
unfolding step
mails_step c playable n any few s v w l b =
    let v' = inv_picked c playable s v in
    P.mails_by v'.tasked w l (suc s.picks) n any few b (task_op (event c s w)) (may_do c (picked s) v' w l (does_step c s w))

module _ (c : Setup) (playable : Playable c) (s : State) (v : Inv c s) where
  -- what is stored was given to the device, so no list of it is longer than the plan
  pub ready_length : length s.ready_list ≤ length c.tasks
  ready_length = Promise.given_room v.tasked s.ready_list (λ i. omega (arith, v.device.stored i))

  pub ready_below : (i : ℕ) → 0 < count i s.ready_list → i < length c.tasks
  ready_below i l = Promise.given_below v.tasked i (omega (arith, listed_given c s v.device v.tasked i l))

pub small_start : (c : Setup) → Small c (start c)
unfolding start
small_start c = omega (arith, (Lock.start_ends c.slots).0)

pub small_step : (c : Setup) (s : State) (w : ℕ) → Small c s → Small c (step c s w)
small_step c s w h = omega (arith, head_step c s w, step_picks c s w)
