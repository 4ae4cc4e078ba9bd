-- What the device keeps: exactly the tasks that it was given, in its queues and its ready list; in
-- the cells, exactly those that it holds out.
use Rattle.std.specs.Prelude.{ℕ, ◌-◌, ◌≤◌, ◌<◌, ◌≡◌, false, List, [], length}
use Rattle.tasks.specs.Tasks as T
use Rattle.tasks.specs.Tasks.{Message, is_held, given}
use Rattle.tasks.specs.Playing.{has_notice}
use Rattle.tasks.proofs.Promise as Promise
use Rattle.machine.specs.State.{Setup, for_serving, for_adding, Place, idle, trying, registering, looking, draining, serving, handing, leaving, State}
use Rattle.machine.specs.Whereabouts.{stored, boxes}

abbrev pub Tasked : Setup → T.Tasks → (ℕ → T.Stand) → Type 0
Tasked c t st = Promise.Kept c.workers c.tasks t st

-- a worker that has nothing in hand, no mail, and nothing to add
abbrev pub Bare : T.Stand → List Message → List ℕ → Type 0
Bare x ms js = (x ≡ T.free) × (ms ≡ []) × (js ≡ [])

-- one that has tasks to add
abbrev pub Adding : T.Stand → List Message → List ℕ → Type 0
Adding x ms js = (x ≡ T.free) × (ms ≡ []) × (0 < length js)

-- what a worker has in hand, in its mailbox and to add at each place, and the numbers of the place
abbrev pub Fits : Setup → Place → T.Stand → List Message → List ℕ → Type 0
Fits c idle x ms js = Unit {0}
Fits c trying x ms js = Adding x ms js
Fits c (registering t) x ms js = Bare x ms js
Fits c (looking t) x ms js = Bare x ms js
Fits c (draining for_serving k) x ms js = (k < c.workers) × (Bare x ms js)
Fits c (draining for_adding k) x ms js = (k < c.workers) × (Adding x ms js)
Fits c (serving n) x ms js = (n ≤ c.workers - 1) × (Bare x ms js)
Fits c (handing n) x ms js = (n < c.workers - 1) × (Bare x ms js)
Fits c leaving x ms js = (ms ≡ []) × (has_notice x ≡ false)

pub record Device (c : Setup) (s : State) : Type 0 where
  pub stored : (i : ℕ) → stored c s i ≡ given c.workers s.tasks i
  pub boxes : (i : ℕ) → boxes c s i ≡ is_held (s.tasks.status i)
  pub fits : (w : ℕ) → Fits c (s.place w) (s.stand w) (s.tasks.mail w) (s.tasks.adds w)
