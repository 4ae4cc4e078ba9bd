-- Histories of two workers, computed. In the first every operation comes, so that no guard is out of reach: worker 1 owns the lock and
-- serves worker 0, who receives; then worker 0 tries the free lock. In the second the tickets go round small rings.
use Rattle.std.specs.Prelude.{List, [], ◌∷◌, ℕ, zero, suc, ◌+◌, ◌%◌}
use Rattle.lock.specs.Lock.{Lock, start, Told, tells}
use Rattle.lock.specs.History.{take, register, own, receive, fill, pass, leave, try}
use Rattle.lock.specs.History.{after, hands_over, Move}

abbrev pub moves : List Move
moves =
    record { by = 0; op = try }
    ∷ record { by = 1; op = leave }
    ∷ record { by = 0; op = receive 65 7 }
    ∷ record { by = 1; op = pass }
    ∷ record { by = 1; op = fill 0 7 }
    ∷ record { by = 1; op = own 64 }
    ∷ record { by = 0; op = register 65 }
    ∷ record { by = 1; op = register 64 }
    ∷ record { by = 0; op = take }
    ∷ record { by = 1; op = take }
    ∷ []

-- the lock after such moves from the start, in a ring of N slots
unfoldable pub reached : ℕ → List Move → Lock
reached N [] = start N
reached N (m ∷ ms) = after N (reached N ms) m.by m.op

-- what the hand-overs among moves tell, the latest first
unfoldable pub tellings : ℕ → List Move → List Told
tellings N [] = []
tellings N (m ∷ ms) = elim (hands_over m.op) [ zero ↦ tellings N ms | suc _ ↦ tells N (reached N ms) m.by ∷ tellings N ms ]

-- worker 1 owns a ring of N slots and serves worker 0 so many times
unfoldable pub served : ℕ → ℕ → List Move
served N zero = record { by = 1; op = own N } ∷ record { by = 1; op = register N } ∷ record { by = 1; op = take } ∷ []
served N (suc n) =
    record { by = 0; op = receive (suc n + N) 7 }
    ∷ record { by = 1; op = pass }
    ∷ record { by = 1; op = fill 0 7 }
    ∷ record { by = 0; op = register (suc n + N) }
    ∷ record { by = 0; op = take }
    ∷ served N n

-- a ring of four slots with the tail at 8, and one registration in its slot
abbrev pub with : ℕ → Lock
with r = record { head = 10; tail = 8; wait = λ k. 4 + k % 4; registration = λ _. r; cell_ticket = λ _. 0; cell_task = λ _. 0 }
