-- Histories of two workers, computed. In the first every operation comes, so that no guard is out of reach: worker 1 owns the lock and
-- serves worker 0, who receives; then worker 0 tries the free lock. In the second the tickets go round small rings.
use Rattle.std.specs.Prelude.{◌≡◌, refl, true, false, List, [], ◌∷◌, ℕ, zero, suc, ◌+◌, ◌≤◌, ◌<◌, replicate}
use Rattle.std.proofs.Common.{sym, ap, arith}
use Rattle.std.proofs.Math.Option.{none, some}
use Rattle.runs.specs.Update.{upd}
use Rattle.lock.specs.Lock as lock
use Rattle.lock.specs.Lock.{Lock, EMPTY, start, take_ticket, join, turn, hand_over, front, worker_in, tells, is_free}
use Rattle.lock.specs.Lock.{not_yet, owns, look}
use Rattle.lock.specs.History.{Stand, out, taken, waiting, owning, Op, take, register, own, receive, fill, pass, leave, try}
use Rattle.lock.specs.History.{Can, can_take, can_register, can_own, can_receive, can_fill, can_pass, can_leave, can_try}
use Rattle.lock.specs.History.{after, stand_after, Move, hand_overs, still, then, History}
use Rattle.lock.proofs.Promise.{look_called, look_served, front_iff, always}
use Rattle.lock.specs.Played.{moves, reached, tellings, served, with}

pub played : (st : ℕ → Stand) × History 2 64 moves (reached 64 moves) st
    × ((reached 64 moves).head ≡ 67) × ((reached 64 moves).tail ≡ 67) × (hand_overs moves ≡ 2)
unfolding upd start take_ticket lock.register join turn hand_over front worker_in is_free lock.fill look hand_overs after reached
played = (
  _,
  then (then (then (then (then (then (then (then (then (then still
      1 (omega arith) take (can_take refl))
      0 (omega arith) take (can_take refl))
      1 (omega arith) (register 64) (can_register 64 refl))
      0 (omega arith) (register 65) (can_register 65 refl))
      1 (omega arith) (own 64) (can_own 64 refl refl))
      1 (omega arith) (fill 0 7) (can_fill 0 7 refl refl))
      1 (omega arith) pass (can_pass refl))
      0 (omega arith) (receive 65 7) (can_receive 65 7 refl refl))
      1 (omega arith) leave (can_leave refl))
      0 (omega arith) try (can_try refl refl),
  refl,
  refl,
  refl,
)

-- worker 1 lets in worker 0, and nobody when it leaves: the next ticket is not taken yet
pub tellings_played : tellings 64 moves ≡ record { let_in = none; by = 1 } ∷ record { let_in = some 0; by = 1 } ∷ []
unfolding upd start take_ticket lock.register join hand_over front worker_in tells lock.fill after reached tellings
tellings_played = refl

-- a history of two workers with a move more
more : {N : ℕ} {ms : List Move} {l : Lock} {st : ℕ → Stand} → History 2 N ms l st → (w : ℕ) → w < 2 → (op : Op) → Can N l (st w) w op
    → History 2 N (record { by = w; op = op } ∷ ms) (after N l w op) (upd st w (stand_after l op))
more = then

-- in every ring from two slots on this is a history, for any number of laps
pub served_plays : (N : ℕ) → 2 ≤ N → (n : ℕ) → (st : ℕ → Stand) × History 2 N (served N n) (reached N (served N n)) st
    × (st 0 ≡ out) × (st 1 ≡ owning) × ((reached N (served N n)).head ≡ suc n + N) × ((reached N (served N n)).tail ≡ suc n + N)
unfolding upd start take_ticket lock.register hand_over lock.fill after reached served
served_plays N fits zero =
    let registered = more (more {N = N} still 1 (omega arith) take (can_take refl)) 1 (omega arith) (register N) (can_register N refl) in
    let sees = (look_called (always (omega arith) fits registered) 1 N refl).1 (omega arith, λ e. omega (arith, e)) in
    (_, more registered 1 (omega arith) (own N) (can_own N refl sees), refl, refl, omega arith, omega arith)
served_plays N fits (suc n) =
    let t = suc n + N in
    let (st, before, free, owner, head, tail) = served_plays N fits n in
    let took = more before 0 (omega arith) take (can_take free) in
    let registered = more took 0 (omega arith) (register t) (can_register t (ap taken head)) in
    let finds = (front_iff (always (omega arith) fits registered) 0).1 (omega arith, ap waiting (sym tail)) in
    let filled = more registered 1 (omega arith) (fill 0 7) (can_fill 0 7 owner finds) in
    let passed = more filled 1 (omega arith) pass (can_pass refl) in
    let sees = (look_served (always (omega arith) fits passed) 0 t refl 7).1 (omega (arith, tail), tail, refl) in
    (_, more passed 0 (omega arith) (receive t 7) (can_receive t 7 refl sees), refl, refl, omega (arith, head), omega (arith, tail))

-- each time it lets in worker 0, who receives with its ticket; the next ticket's turn has not come, and nobody is registered with it
abbrev Serves : ℕ → ℕ → Type 0
Serves N n =
    (tellings N (served N n) ≡ replicate n (record { let_in = some 0; by = 1 }))
    × (look N (reached N (served N n)) (n + N) 0 ≡ lock.receives 7)
    × (look N (reached N (served N n)) (suc n + N) 0 ≡ not_yet)
    × (front N (reached N (served N n)) ≡ none)

-- over two laps of a ring of two slots and of one of three: what stands in the next ticket's slot is a registration of the lap before
pub laps : Serves 2 4 × Serves 3 6
unfolding upd start take_ticket lock.register join turn hand_over front worker_in tells lock.fill look after reached tellings served
laps = ((refl, refl, refl, refl), (refl, refl, refl, refl))

-- worker 0 that registered with ticket 8 is the front waiter, worker 1 that registered with ticket 4 a lap ago is none; ticket 7's turn has
-- come, and ticket 8's not
pub seen : (front 4 (with 8) ≡ some 0) × (front 4 (with 5) ≡ none) × (look 4 (with 8) 7 1 ≡ owns) × (look 4 (with 8) 8 0 ≡ not_yet)
unfolding turn front worker_in look
seen = (refl, refl, refl, refl)

-- handing over, worker 3 lets in that front waiter, and nobody where the registration is of the lap before or the slot is empty
pub told : (tells 4 (with 8) 3 ≡ record { let_in = some 0; by = 3 })
    × ((tells 4 (with 5) 3).let_in ≡ none) × ((tells 4 (with EMPTY) 3).let_in ≡ none)
unfolding front worker_in tells
told = (refl, refl, refl)

-- a hand-over lets in the tail and no later ticket, even in a ring of one slot
pub let_in_lem : (turn 1 (hand_over 1 (with 8)) 8 ≡ true) × (turn 1 (hand_over 1 (with 8)) 9 ≡ false)
unfolding upd turn hand_over
let_in_lem = (refl, refl)
