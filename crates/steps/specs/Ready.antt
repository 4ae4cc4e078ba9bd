-- The device's ready list, by its places: the oldest task is at place 0.
use Rattle.std.specs.Prelude.{ℕ, suc, ◌+◌, ◌%◌, ◌≤◌, ◌<◌, ◌≡◌, Bool, true, false, List, ◌++◌, length, get_or, take, drop}
use Rattle.runs.specs.Counts.{count}
use Rattle.runs.specs.Circular.{entries}
use Rattle.machine.specs.State.{Setup}
use Rattle.machine.specs.Ready.{nothing, chosen, choose}
use Rattle.machine.specs.Event.{may}
use Rattle.steps.specs.Layout.{READY}
use Rattle.steps.specs.Memory.{Masked}
use Rattle.steps.specs.declared.Counts.{Counts}
use Rattle.steps.specs.declared.device.Device.{Device}

abbrev pub ready_in : Counts → List ℕ → List ℕ
ready_in n ready = entries (λ k. get_or ready k 0) READY n.ready_at n.ready

-- the task at place k, and its mask
abbrev pub listed : Counts → List ℕ → ℕ → ℕ
listed n ready k = get_or ready ((n.ready_at + k) % READY) 0

abbrev pub mask_at : Counts → Device → ℕ → ℕ
mask_at n device k = get_or device.masks (listed n device.ready k) 0

-- each task of a list is below a bound
abbrev pub Below : ℕ → List ℕ → Type 0
Below bound tasks = (i : ℕ) → 0 < count i tasks → i < bound

-- the list without what stands at place k
abbrev pub without : ℕ → List ℕ → List ℕ
without k tasks = take k tasks ++ drop (suc k) tasks

-- r is the first of the numbers below n that passes a test, or n where none does
pub record First (test : ℕ → Bool) (n r : ℕ) : Type 0 where
  pub within : r ≤ n
  pub before : (k : ℕ) → k < r → test k ≡ false
  pub found : r < n → test r ≡ true

-- the choice falls on the task at place k, or on nothing where the list has no such place
pub record Falls (may : ℕ → Bool) (tasks : List ℕ) (k : ℕ) : Type 0 where
  pub inside : k < length tasks → choose may tasks ≡ chosen (get_or tasks k 0) (without k tasks)
  pub past : length tasks ≤ k → choose may tasks ≡ nothing

-- so it is for worker w in each setup that has these masks and the tasks of the list
abbrev pub FallsFor : Counts → Device → (w k : ℕ) → Type 0
FallsFor n device w k =
    (c : Setup) → Masked c.workers c.tasks device.masks → Below (length c.tasks) (ready_in n device.ready) → w < c.workers
    → Falls (may c w) (ready_in n device.ready) k
