-- What holds of the lock and of where the workers stand, throughout a history. Each part speaks of just the fields that it depends on.
use Rattle.std.specs.Prelude.{◌≡◌, ◌⊎◌, ◌≢◌, ℕ, suc, ◌%◌, ◌≤◌, ◌<◌}
use Rattle.lock.specs.Lock.{Lock, EMPTY, join}
use Rattle.lock.specs.History.{Stand, out, taken, waiting, owning, serving}
use Rattle.lock.specs.Inside.Ring.{Slots}

-- a worker's ticket, 0 for none: tickets start at N, which is above 0
abbrev pub held : Stand → ℕ
held out = 0
held (taken t) = t
held (waiting t) = t
held owning = 0
held serving = 0

-- a ticket that is held was given, and before the worker registers it is newer than what its cell holds
abbrev pub Given : ℕ → ℕ → ℕ → Stand → Type 0
Given N head cell out = Unit {0}
Given N head cell (taken t) = (N ≤ t) × (t < head) × (cell < t)
Given N head cell (waiting t) = (N ≤ t) × (t < head)
Given N head cell owning = Unit {0}
Given N head cell serving = Unit {0}

-- the worker that owns the lock or, where nobody does, whose turn it is to own it
abbrev pub Leads : ℕ → ℕ → Stand → Type 0
Leads tail cell out = ⊥
Leads tail cell (taken t) = suc t ≡ tail
Leads tail cell (waiting t) = (suc t ≡ tail) × (cell ≢ t)
Leads tail cell owning = Unit {0}
Leads tail cell serving = Unit {0}

-- any other worker: if its turn has come, it has been served
abbrev pub Aside : ℕ → ℕ → Stand → Type 0
Aside tail cell out = Unit {0}
Aside tail cell (taken t) = tail ≤ t
Aside tail cell (waiting t) = t < tail → cell ≡ t
Aside tail cell owning = ⊥
Aside tail cell serving = ⊥

-- the lock is free, or exactly one worker leads
pub data Led (W head tail : ℕ) (cell : ℕ → ℕ) (st : ℕ → Stand) : Type 0 where
  free : tail ≡ suc head → ((v : ℕ) → Aside tail (cell v) (st v)) → Led W head tail cell st
  led : (w : ℕ) → w < W → tail ≤ head → Leads tail (cell w) (st w) → ((v : ℕ) → v ≢ w → Aside tail (cell v) (st v))
      → Led W head tail cell st

pub record Tickets (W N head tail : ℕ) (st : ℕ → Stand) : Type 0 where
  pub begun : N < tail
  -- no two workers hold one ticket
  pub apart : (v w : ℕ) → held (st v) ≢ 0 → held (st v) ≡ held (st w) → v ≡ w
  -- each ticket that was given and not let in is held
  pub each : (t : ℕ) → tail ≤ t → t < head → (w : ℕ) × (w < W) × (held (st w) ≡ t)

pub record Cells (head tail : ℕ) (cell : ℕ → ℕ) (st : ℕ → Stand) : Type 0 where
  pub given : (v : ℕ) → cell v < head
  pub below : (v : ℕ) → cell v ≤ tail
  -- no two cells hold one ticket
  pub apart : (v w : ℕ) → cell v ≢ 0 → cell v ≡ cell w → v ≡ w
  -- a cell holds the tail exactly while the owner has filled it and not yet handed over
  pub filled : (v : ℕ) → cell v ≡ tail → (w : ℕ) × (st w ≡ serving)
  pub served : (w : ℕ) → st w ≡ serving → (v : ℕ) × (st v ≡ waiting tail) × (cell v ≡ tail)

-- a slot holds nothing, or a registration with a ticket of that slot; if that ticket was not let in, its worker waits with it
abbrev pub Entry : ℕ → ℕ → ℕ → ℕ → (ℕ → Stand) → ℕ → ℕ → Type 0
Entry W N head tail st j r =
    (r ≡ EMPTY) ⊎ ((t : ℕ) × (v : ℕ) × (r ≡ join t v) × (t % N ≡ j) × (t < head) × (v < W) × (tail ≤ t → st v ≡ waiting t))

pub record Entries (W N head tail : ℕ) (reg : ℕ → ℕ) (st : ℕ → Stand) : Type 0 where
  pub entry : (j : ℕ) → Entry W N head tail st j (reg j)
  -- who waits with a ticket that was not let in is registered
  pub entered : (v t : ℕ) → st v ≡ waiting t → tail ≤ t → reg (t % N) ≡ join t v

pub record Inv (W N : ℕ) (l : Lock) (st : ℕ → Stand) : Type 0 where
  -- the ring has a slot for each worker
  pub sizes : (0 < W) × (W ≤ N)
  pub workers : (v : ℕ) → W ≤ v → st v ≡ out
  pub slots : Slots N l.tail l.wait
  pub givens : (v : ℕ) → Given N l.head (l.cell_ticket v) (st v)
  pub tickets : Tickets W N l.head l.tail st
  pub leader : Led W l.head l.tail l.cell_ticket st
  pub cells : Cells l.head l.tail l.cell_ticket st
  pub entries : Entries W N l.head l.tail l.registration st
