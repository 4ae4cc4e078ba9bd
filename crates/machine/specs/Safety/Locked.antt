-- The machine's lock keeps the lock's promise: each event is one operation of the lock that its worker may do, or leaves the lock alone.
use Rattle.std.specs.Prelude.{ℕ}
use Rattle.lock.specs.Lock as L
use Rattle.lock.specs.History as H
use Rattle.lock.proofs.Promise.{Kept}
use Rattle.machine.specs.State.{Setup, Place}
use Rattle.machine.specs.Whereabouts.{lock_stand}

-- where the workers stand with the lock
abbrev pub lock_stands : (ℕ → Place) → ℕ → H.Stand
lock_stands place w = lock_stand (place w)

abbrev pub Locked : Setup → L.Lock → (ℕ → Place) → Type 0
Locked c l place = Kept c.workers c.slots l (lock_stands place)
