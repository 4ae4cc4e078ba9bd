-- Who is due, by the lock's promise: at most one worker, while nobody owns and the lock isn't free; and it stays so whatever others do.
use Rattle.std.specs.Prelude.{ℕ, ◌≡◌, ◌≢◌, true}
use Rattle.lock.specs.Lock as L
use Rattle.lock.specs.History as LH

-- worker w holds ticket t, registered or not; its turn has come, and the worker's cell doesn't hold it
abbrev pub DueWith : ℕ → L.Lock → ℕ → LH.Stand → ℕ → Type 0
DueWith N l w x t = LH.Holds x t × (L.turn N l t ≡ true) × (l.cell_ticket w ≢ t)
