-- Free or spoken for: what every list of picks from a fresh start says of who leads the lock.
use Rattle.std.specs.Prelude.{ℕ, suc, ◌<◌, ◌≡◌, ◌⊎◌, ◌↔◌, ◌≢◌, false, List, ◌∷◌, ◌++◌, length}
use Rattle.runs.specs.Picks as Picks
use Rattle.runs.specs.Picks.{Picks}
use Rattle.lock.specs.History as LH
use Rattle.machine.specs.declared.Leader.TheVariants.{Nobody, Owner, Due}
use Rattle.machine.specs.State.{Setup, State}
use Rattle.machine.specs.Event.{owns, registers, event}
use Rattle.machine.specs.Step.{finished, after}
use Rattle.machine.specs.Whereabouts.{lock_stand, leader}
use Rattle.machine.specs.Safety.Dues.{DueWith}

-- ---- the three cases

module _ (c : Setup) (s : State) where
  -- worker w's turn has come with a ticket that it holds, registered or not, and its cell doesn't hold this ticket
  abbrev pub IsDue : ℕ → Type 0
  IsDue w = (t : ℕ) × DueWith c.slots s.lock w (lock_stand (s.place w)) t

  abbrev pub Owns : ℕ → Type 0
  Owns w = LH.Owner (lock_stand (s.place w))

  -- a worker owns the lock; nobody does, and a worker is due; the lock is free
  abbrev pub Owned : Type 0
  Owned = (w : ℕ) × (w < c.workers) × Owns w

  abbrev pub SpokenFor : Type 0
  SpokenFor = ((v : ℕ) → Owns v → ⊥) × ((w : ℕ) × (w < c.workers) × IsDue w)

  abbrev pub Free : Type 0
  Free = s.lock.tail ≡ suc s.lock.head

-- ---- what is shown of them

-- picks of other workers than w
abbrev pub Others : ℕ → ℕ → List ℕ → Type 0
Others W w xs = (i : ℕ) → i < length xs → (Picks.pick xs i < W) × (Picks.pick xs i ≢ w)

-- worker w's next pick after the list is a look that wins the lock; or it registers, and its next pick after that is such a look, whatever
-- others do between
pub data OwnsNext (c : Setup) (w : ℕ) (ws : List ℕ) : Type 0 where
  at_once : (t : ℕ) → event c (after c ws) w ≡ owns t → OwnsNext c w ws
  registered : (t : ℕ) → event c (after c ws) w ≡ registers t
      → (finished c (after c ws) ≡ false → (us : List ℕ) → Others c.workers w us → event c (after c (ws ++ w ∷ us)) w ≡ owns t)
      → OwnsNext c w ws

pub record Leaders (c : Setup) (ws : List ℕ) : Type 0 where
  -- the owner is shown exactly while it owns
  pub owner : (w : ℕ) → (leader c (after c ws) ≡ Owner w) ↔ ((w < c.workers) × Owns c (after c ws) w)
  -- a worker is shown as due exactly while its turn has come and its cell doesn't hold its ticket, also before it has registered
  pub due : (w : ℕ) → (leader c (after c ws) ≡ Due w) ↔ ((w < c.workers) × IsDue c (after c ws) w)
  -- nobody exactly where tail = head + 1
  pub free : (leader c (after c ws) ≡ Nobody) ↔ Free c (after c ws)
  -- one of the three cases holds, and not two
  pub cover : Owned c (after c ws) ⊎ SpokenFor c (after c ws) ⊎ Free c (after c ws)
  pub exclude : (Owned c (after c ws) → SpokenFor c (after c ws) → ⊥)
      × (Owned c (after c ws) → Free c (after c ws) → ⊥) × (SpokenFor c (after c ws) → Free c (after c ws) → ⊥)
  -- at most one worker is due, and while one is nobody owns
  pub one_due : (v w : ℕ) → IsDue c (after c ws) v → IsDue c (after c ws) w → v ≡ w
  pub unowned : (v w : ℕ) → IsDue c (after c ws) w → Owns c (after c ws) v → ⊥
  -- a worker whose cell holds its ticket is never shown as due
  pub served_unshown : (w t : ℕ) → LH.Holds (lock_stand ((after c ws).place w)) t → (after c ws).lock.cell_ticket w ≡ t
      → leader c (after c ws) ≢ Due w
  -- who is shown as due owns the lock at its next look, or at the look after it registers, whatever the others do before it
  pub owns_next : (w : ℕ) → leader c (after c ws) ≡ Due w → (vs : List ℕ) → Others c.workers w vs → OwnsNext c w (ws ++ vs)
