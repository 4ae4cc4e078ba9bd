-- What the layout in memory rests on: how long the lists of a state get, and which numbers stand in them.
use Rattle.std.specs.Prelude.{ℕ, ◌+◌, ◌≤◌, length}
use Rattle.machine.specs.State.{Setup, State}

-- queues within their capacity
abbrev pub Roomy : Setup → State → Type 0
Roomy c s = (w : ℕ) → length (s.queue w) ≤ c.capacity

-- the head is below the slots and the picks taken
abbrev pub Small : Setup → State → Type 0
Small c s = s.lock.head ≤ c.slots + s.picks
