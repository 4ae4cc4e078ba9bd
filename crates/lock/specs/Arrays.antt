-- The lock as it lies in arrays, each of which may be longer than the ring.
use Rattle.std.specs.Prelude.{List, ℕ, get_or}
use Rattle.lock.specs.Lock.{Lock, EMPTY}

-- past its end an array reads as it was at the start
abbrev pub lock_of : ℕ → ℕ → ℕ → List ℕ → List ℕ → List ℕ → List ℕ → Lock
lock_of N head tail wait registrations tickets tasks =
    record {
      head = head;
      tail = tail;
      wait = λ k. get_or wait k N;
      registration = λ k. get_or registrations k EMPTY;
      cell_ticket = λ k. get_or tickets k EMPTY;
      cell_task = λ k. get_or tasks k EMPTY;
    }
