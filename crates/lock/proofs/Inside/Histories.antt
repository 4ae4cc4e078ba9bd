-- The laws of histories.
use Rattle.std.specs.Prelude.{◌≡◌, refl, ◌⊎◌, ◌↔◌, true, ℕ, suc, ◌+◌, ◌≤◌, ◌<◌, length}
use Rattle.std.proofs.Common.{inl, inr, ⊎_elim}
use mathlib.Core.List.{List, [], ◌∷◌, ◌++◌, Memᴰ}
use native.Mathlib.Omega.{arith}
use Rattle.runs.specs.Update.{upd}
use Rattle.lock.specs.Lock.{Lock, start, turn, join, distance}
use Rattle.lock.specs.History.{Stand, waiting, Op, receive, Can, after, stand_after, hands_over, Move, hand_overs, Run, still, then}
use Rattle.lock.specs.History.{History, Holds, InCell}
use Rattle.lock.specs.Inside.Invariant.{Inv}
use Rattle.lock.proofs.Inside.Keeps.{starts, keeps}
use Rattle.lock.proofs.Inside.Laws.{ticket_given, holder_below, ends, turn_hands}
use Rattle.lock.proofs.Inside.Changes.{ends_after, at_most_one, cell_stays}

pub hand_overs_more : (m : Move) (ms : List Move) → hand_overs (m ∷ ms) ≡ hands_over m.op + hand_overs ms
unfolding hand_overs
hand_overs_more m ms = refl

pub hand_overs_none : hand_overs [] ≡ 0
unfolding hand_overs
hand_overs_none = refl

pub hand_overs_append : (xs ys : List Move) → hand_overs (xs ++ ys) ≡ hand_overs xs + hand_overs ys
unfolding hand_overs
hand_overs_append [] ys = omega arith
hand_overs_append (x ∷ xs) ys = omega (arith, hand_overs_append xs ys)

module _ {W N : ℕ} {l : Lock} {st : ℕ → Stand} where
  pub run_first : (w : ℕ) → w < W → (op : Op) → Can N l (st w) w op → {ms : List Move} {now : Lock} {at : ℕ → Stand}
      → Run W N (after N l w op) (upd st w (stand_after l op)) ms now at → Run W N l st (ms ++ record { by = w; op = op } ∷ []) now at
  run_first w h op can still = then still w h op can
  run_first w h op can (then r v k o c) = then (run_first w h op can r) v k o c

  pub run_keeps : Inv W N l st → {ms : List Move} {now : Lock} {at : ℕ → Stand} → Run W N l st ms now at → Inv W N now at
  run_keeps i still = i
  run_keeps i (then r w h op c) = keeps (run_keeps i r) w h c

  pub run_tail : {ms : List Move} {now : Lock} {at : ℕ → Stand} → Run W N l st ms now at → now.tail ≡ l.tail + hand_overs ms
  unfolding hand_overs
  run_tail still = omega arith
  run_tail (then {now = now} r w h op c) = omega (arith, run_tail r, (ends_after N now w op).1)

  pub run_head : {ms : List Move} {now : Lock} {at : ℕ → Stand} → Run W N l st ms now at → now.head ≤ l.head + length ms
  run_head still = omega arith
  run_head (then {now = now} r w h op c) = omega (arith, run_head r, (ends_after N now w op).0, at_most_one op)

  pub turn_exactly : Inv W N l st → (w t : ℕ) → st w ≡ waiting t → {ms : List Move} {now : Lock} {at : ℕ → Stand} → Run W N l st ms now at
      → (turn N now t ≡ true) ↔ (distance l t ≤ hand_overs ms)
  turn_exactly i w t e {ms} r = turn_hands (run_keeps i r) t l.tail (hand_overs ms) (ticket_given i w t (inr e)).0 (run_tail r)

  pub cell_reaches : Inv W N l st → (v t j : ℕ) → InCell l st v t j → {ms : List Move} {now : Lock} {at : ℕ → Stand}
      → Run W N l st ms now at
      → Memᴰ (record { by = v; op = receive t j }) ms ⊎ InCell now at v t j
  cell_reaches i v t j h still = inr h
  cell_reaches i v t j h (then r w k op c) =
      ⊎_elim (λ m. inl (Memᴰ.tail m))
      (λ b. ⊎_elim (λ (a, e). inl (Memᴰ.head (cc))) inr (cell_stays (run_keeps i r) w v t j b c))
      (cell_reaches i v t j h r)

pub always : {W N : ℕ} → 0 < W → W ≤ N → {ms : List Move} {l : Lock} {st : ℕ → Stand} → History W N ms l st → Inv W N l st
always {W} {N} any fits r = run_keeps (starts W N any fits) r

pub no_wrap : {W N : ℕ} → 0 < W → W ≤ N → {ms : List Move} {l : Lock} {st : ℕ → Stand} → History W N ms l st
    → (l.head ≤ N + length ms) × (l.tail ≤ suc (N + length ms)) × ((w t : ℕ) → Holds (st w) t → join t w < N + length ms + W)
unfolding start join
no_wrap {N = N} any fits {ms} {l} r =
    let i = always any fits r in
    let h : l.head ≤ N + length ms = run_head r in
    (h, omega (arith, ends i), λ w t q. omega (arith, ticket_given i w t q, holder_below i w t q))
