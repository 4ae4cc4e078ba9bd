-- All that holds of every state that picks lead to: the lock's promise, the tasks' promise, and what the device keeps.
use Rattle.std.specs.Prelude.{ℕ, ◌≤◌, ◌<◌, ◌≡◌, true, length}
use Rattle.tasks.specs.Accesses.{Distinct}
use Rattle.machine.specs.State.{Setup, State}
use Rattle.machine.specs.Event.{may}
use Rattle.machine.specs.Safety.Locked.{Locked}
use Rattle.machine.specs.Safety.Device.{Tasked, Device}

-- what a run may be played with: a ring with a slot for each worker, queues with room for a task, no address twice in a task, and for each
-- task a worker that may run it
pub record Playable (c : Setup) : Type 0 where
  pub workers : 0 < c.workers
  pub ring : c.workers ≤ c.slots
  pub room : 0 < c.capacity
  pub distinct : Distinct c.tasks
  pub runnable : (i : ℕ) → i < length c.tasks → (w : ℕ) × (w < c.workers) × (may c w i ≡ true)

pub record Inv (c : Setup) (s : State) : Type 0 where
  pub locked : Locked c s.lock s.place
  pub tasked : Tasked c s.tasks s.stand
  pub device : Device c s
