-- Who owns the lock and who is due, by the numbers of the store.
use Rattle.std.specs.Prelude.{ℕ, ◌+◌, ◌*◌, Bool, ◌&&◌, List, get_or, leb, Option, None, Some}
use Rattle.std.proofs.Math.Option as maybe
use Rattle.lock.specs.Lock as L
use Rattle.machine.specs.Whereabouts.{wins}
use Rattle.steps.specs.Layout.{share_size, place_at, number_at, REGISTERING, LOOKING, SERVING}

-- whom a search found
abbrev pub found : Option ℕ → maybe.Option ℕ
found None = maybe.none
found (Some w) = maybe.some w

abbrev pub place_in : List ℕ → ℕ → ℕ
place_in store w = get_or store (w * share_size + place_at) 0

abbrev pub number_in : List ℕ → ℕ → ℕ
number_in store w = get_or store (w * share_size + number_at) 0

-- the worker is at an owner's place: those are from SERVING on
abbrev pub owns_in : List ℕ → ℕ → Bool
owns_in store w = leb SERVING (place_in store w)

-- at this place worker w has this ticket, and a look with it wins the lock
abbrev pub due_at : ℕ → L.Lock → ℕ → ℕ → ℕ → Bool
due_at slots l place ticket w = leb REGISTERING place && (leb place LOOKING && wins (L.look slots l ticket w))

abbrev pub due_in : ℕ → L.Lock → List ℕ → ℕ → Bool
due_in slots l store w = due_at slots l (place_in store w) (number_in store w) w
