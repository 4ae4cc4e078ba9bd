-- A waiting worker's turn: exactly when as many hand-overs have come as its ticket distance says.
use Rattle.std.specs.Prelude.{ℕ, ◌+◌, ◌≤◌, ◌<◌, ◌≡◌, ◌↔◌, true, List}
use Rattle.std.proofs.Common.{ap, inr}
use Rattle.runs.specs.Update.{upd_same}
use Rattle.runs.specs.Picks.{Picks, run}
use Rattle.lock.specs.Lock as L
use Rattle.lock.proofs.Promise as Promise
use Rattle.machine.specs.State.{Setup, looking, State, start, picked}
use Rattle.machine.specs.Event.{registers, event}
use Rattle.machine.specs.Step.{step, pick, after}
use Rattle.machine.proofs.View.{does_step}
use Rattle.machine.proofs.Safety.Ends.{tail_apply}
use Rattle.machine.specs.Whereabouts.{lock_stand}
use Rattle.machine.specs.Safety.Locked.{Locked}
use Rattle.machine.proofs.Safety.Locked.{locked_start, locked_keep}
use Rattle.machine.specs.Trace.{trace, tally, is_hand_over}
use Rattle.machine.proofs.Safety.Traces.{run_inv, tallied}

module _ (c : Setup) where
  pub tail_step : (s : State) (w : ℕ) → (step c s w).lock.tail ≡ s.lock.tail + is_hand_over (event c s w)
  unfolding step
  tail_step s w = tail_apply c (picked s) w (event c s w)

  pub locked_step : (s : State) (w : ℕ) → w < c.workers → Locked c s.lock s.place
      → Locked c (step c s w).lock (step c s w).place
  unfolding step
  locked_step s w h i = locked_keep c (picked s) w i h (does_step c s w)

  pub locked_after : 0 < c.workers → c.workers ≤ c.slots → (ws : List ℕ) → Picks c.workers ws
      → Locked c (after c ws).lock (after c ws).place
  unfolding after
  locked_after any fits ws h = run_inv c (λ s. Locked c s.lock s.place) locked_step ws h (start c) (locked_start c any fits)

  registered : (s : State) (w t : ℕ) → event c s w ≡ registers t → lock_stand ((step c s w).place w) ≡ lock_stand (looking t)
  unfolding step
  registered s w t e = rw e (ap lock_stand (upd_same s.place w (looking t)))

  -- a worker registers with ticket t after any list of picks, and any list follows: its turn has come exactly when that list has at
  -- least as many hand-overs as the ticket distance just after registering
  pub turn_exactly : 0 < c.workers → c.workers ≤ c.slots → (ws : List ℕ) → Picks c.workers ws
      → (w t : ℕ) → w < c.workers → event c (after c ws) w ≡ registers t → (vs : List ℕ) → Picks c.workers vs
      → (L.turn c.slots (run (pick c) (step c (after c ws) w) vs).lock t ≡ true)
      ↔ (L.distance (step c (after c ws) w).lock t ≤ tally is_hand_over (trace c (step c (after c ws) w) vs))
  turn_exactly any fits ws h w t k e vs g =
      let s = step c (after c ws) w in
      let i : Locked c s.lock s.place = locked_step (after c ws) w k (locked_after any fits ws h) in
      let j : Locked c (run (pick c) s vs).lock (run (pick c) s vs).place =
      run_inv c (λ s. Locked c s.lock s.place) locked_step vs g s i in
      Promise.turn_hands j t s.lock.tail (tally is_hand_over (trace c s vs))
      (Promise.ticket_given i w t (inr (registered (after c ws) w t e))).0
      (tallied c is_hand_over (λ s. s.lock.tail) tail_step vs g s)
