-- Who gave each task: what every list of workers' picks from a fresh start says of the givers.
use Rattle.std.specs.Prelude.{ℕ, suc, ◌<◌, ◌≡◌, ◌⊎◌, List, length}
use Rattle.std.proofs.Common.{arith, ap, ⊎_elim}
use Rattle.runs.specs.Update.{clash}
use Rattle.runs.specs.Picks.{Picks}
use Rattle.tasks.specs.Tasks.{is_received}
use Rattle.machine.specs.State.{Setup, looking, State, start}
use Rattle.machine.specs.Step.{after}
use Rattle.machine.specs.Trace.{Happening, trace}
use Rattle.machine.specs.Whereabouts.{lock_stand}
use Rattle.machine.proofs.Safety.Device.{celled}
use Rattle.machine.proofs.Safety.Histories as R
use Rattle.machine.proofs.Safety.Giving.{Ungiven, HandedTo, TakenBy, giver_below, ungiven_early, given_in_cell, given_received, gave_after}
use Rattle.machine.specs.Safety.Invariant.{Playable, Inv}
use Rattle.machine.proofs.Safety.Invariant.{inv_after}
use Rattle.machine.specs.Givers.{Givers}

module _ (c : Setup) (playable : Playable c) (ws : List ℕ) (p : Picks c.workers ws) (i : ℕ) where
  abbrev now : State
  now = after c ws

  abbrev list : List Happening
  list = trace c (start c) ws

  inv : Inv c now
  inv = inv_after c playable ws p

  -- in a cell: still to be handed over, or handed over to its worker
  in_cell_lem : (v t : ℕ) → v < c.workers → now.place v ≡ looking t → now.lock.cell_ticket v ≡ t → now.lock.cell_task v ≡ i
      → ((t ≡ now.lock.tail) × Ungiven i (now.giver i) list) ⊎ ((t < now.lock.tail) × HandedTo c i v (length list) (now.giver i) list)
  in_cell_lem v t l q e d = given_in_cell c i now inv v t l (ap lock_stand q, e, d) (gave_after c playable i ws p)

  -- received: handed over to its runner before the receipt, or taken by it
  to_runner : is_received (now.tasks.status i) ≡ 1
      → (n : ℕ) × (now.tasks.receipt i ≡ suc n)
      × (HandedTo c i (now.tasks.runner i) n (now.giver i) list ⊎ TakenBy c i (now.tasks.runner i) (now.giver i) list)
  to_runner e =
      let (w, n, r, g) = given_received c i now inv e (R.receipts c playable ws p i) (gave_after c playable i ws p) in
      let (a, b) = R.receipt_by c playable ws p i n (record { by = w; what = r.what }) r.happens r.receives in
      (n, b, rw a g)

pub givers : (c : Setup) → Playable c → (ws : List ℕ) → Picks c.workers ws → (i : ℕ) → Givers c ws i
givers c playable ws p i =
    record {
      worker = giver_below c i (gave_after c playable i ws p);
      early = λ l. (ungiven_early c i (after c ws) (inv_after c playable ws p) l (gave_after c playable i ws p)).nobody;
      held = λ v t l q e d. (
        celled c (after c ws) (inv_after c playable ws p).device v t i l q e d,
        ⊎_elim
            (λ (z, u). (λ (g, y). clash (let x = u.nobody in cc), λ k. absurd (omega arith)))
            (λ (z, h). (λ g. z, λ k. (h.by, h.giver)))
            (in_cell_lem c playable ws p i v t l q e d),
      );
      let_in_lem = λ v t l q e d g r.
          ⊎_elim
          (λ (z, u). clash (let x = u.nobody in cc))
          (λ (z, h).
          let x : h.by ≡ g = let y = h.giver in cc in
          rw (← x) (h.other, h.once, (h.at, h.what, (h.happens, h.gives))))
          (in_cell_lem c playable ws p i v t l q e d);
      received = λ e.
          let (n, a, b) = to_runner c playable ws p i e in
          ⊎_elim (λ h. (h.by, h.giver)) (λ h. (_, h.giver)) b;
      own = λ e.
          let (n, a, b) = to_runner c playable ws p i e in
          ⊎_elim
          (λ h. (λ q. absurd (h.other (let y = h.giver in cc)), λ q. absurd (omega (arith, h.untaken))))
          (λ h. (λ q. h.once, λ q. h.giver)) b;
      other = λ e g q o.
          let (n, a, b) = to_runner c playable ws p i e in
          ⊎_elim
          (λ h.
          let x : h.by ≡ g = let y = h.giver in cc in
          rw (← x) (h.once, (h.at, h.what, (h.happens, h.gives), omega (arith, h.before))))
          (λ h. absurd (o (let y = h.giver in cc))) b;
    }
