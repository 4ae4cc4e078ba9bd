-- Head, tail and cells over one event: by the lock's promise for the operation that the event is.
use Rattle.std.specs.Prelude.{ℕ, suc, ◌+◌, ◌≤◌, ◌≡◌, refl}
use Rattle.std.proofs.Common.{arith}
use Rattle.std.proofs.Math.Option.{Option, none, some}
use Rattle.lock.specs.Lock as L
use Rattle.lock.specs.History as H
use Rattle.lock.proofs.Promise as Promise
use Rattle.machine.specs.State.{Setup, State}
use Rattle.machine.specs.Event.{Event, event}
use Rattle.machine.specs.Step.{apply, lock_op, lock_after, step}
use Rattle.machine.specs.Trace.{by_lock, is_hand_over}

module _ (c : Setup) where
  -- the tail is raised by hand-overs alone, the head by tickets taken, and cells are filled by fills
  tail_by : (l : L.Lock) (w : ℕ) (o : Option H.Op) → (lock_after c l w o).tail ≡ l.tail + by_lock H.hands_over o
  tail_by l w none = omega arith
  tail_by l w (some op) = Promise.tail_after c.slots l w op

  head_by : (l : L.Lock) (w : ℕ) (o : Option H.Op) → (lock_after c l w o).head ≤ suc l.head
  head_by l w none = omega arith
  head_by l w (some op) = omega (arith, Promise.head_after c.slots l w op, Promise.at_most_one op)

  cells_by : (l : L.Lock) (w : ℕ) (o : Option H.Op) → by_lock H.fills o ≡ 0
      → ((lock_after c l w o).cell_ticket ≡ l.cell_ticket) × ((lock_after c l w o).cell_task ≡ l.cell_task)
  cells_by l w none n = (refl, refl)
  cells_by l w (some op) n = Promise.cells_after c.slots l w op n

  pub tail_apply : (s : State) (w : ℕ) (e : Event) → (apply c s w e).lock.tail ≡ s.lock.tail + is_hand_over e
  tail_apply s w e = tail_by s.lock w (lock_op e)

  pub tail_kept : (s : State) (w : ℕ) (e : Event) → is_hand_over e ≡ 0 → (apply c s w e).lock.tail ≡ s.lock.tail
  tail_kept s w e z = omega (arith, tail_apply s w e)

  pub tail_raised : (s : State) (w : ℕ) (e : Event) → is_hand_over e ≡ 1 → (apply c s w e).lock.tail ≡ suc s.lock.tail
  tail_raised s w e z = omega (arith, tail_apply s w e)

  pub cells_kept : (s : State) (w : ℕ) (e : Event) → by_lock H.fills (lock_op e) ≡ 0
      → ((apply c s w e).lock.cell_ticket ≡ s.lock.cell_ticket) × ((apply c s w e).lock.cell_task ≡ s.lock.cell_task)
  cells_kept s w e n = cells_by s.lock w (lock_op e) n

  pub head_step : (s : State) (w : ℕ) → (step c s w).lock.head ≤ suc s.lock.head
  unfolding step
  head_step s w = head_by s.lock w (lock_op (event c s w))
