-- Free or spoken for: what every list of picks from a fresh start says of who leads the lock.
use Rattle.std.specs.Prelude.{ℕ, suc, ◌<◌, ◌≡◌, ◌⊎◌, ◌↔◌, ◌≢◌, Bool, true, false, List, [], ◌∷◌, ◌++◌}
use Rattle.std.proofs.Common.{arith, sym, ◌∙◌, inl, inr}
use Rattle.std.proofs.Math.Path.{refl, ap}
use Rattle.std.proofs.Math.Logic.{⊎_elim}
use Rattle.std.proofs.Math.Option.{Option, none, some}
use Rattle.runs.specs.Update.{upd, upd_same, upd_other, clash}
use Rattle.runs.specs.Searches.{last_exactly}
use Rattle.runs.specs.Picks.{Picks, run, run_append}
use Rattle.lock.specs.Lock as L
use Rattle.lock.specs.History as LH
use Rattle.lock.proofs.Promise as Lock
use Rattle.machine.specs.declared.Leader.TheVariants.{Nobody, Owner, Due}
use Rattle.machine.specs.State.{Setup, Place, registering, looking, State, picked}
use Rattle.machine.specs.Event.{owns, registers, seeing, standing_at, event}
use Rattle.machine.specs.Step.{lock_after, step, finished, pick, after}
use Rattle.machine.proofs.View.{does_step}
use Rattle.machine.specs.Whereabouts.{lock_stand, is_due, owner, due, leads, leader}
use Rattle.machine.proofs.Safety.Locked.{LockMove, aside, operates, lock_move, ticket_at}
use Rattle.machine.proofs.Safety.Owners.{owner_exactly}
use Rattle.machine.specs.Safety.Dues.{DueWith}
use Rattle.machine.proofs.Safety.Dues.{cases, due_is, due_lock, due_one, due_stays, due_registered}
use Rattle.machine.proofs.Safety.Traces.{pick_finished, pick_open}
use Rattle.machine.specs.Safety.Invariant.{Playable, Inv}
use Rattle.machine.proofs.Safety.Invariant.{inv_step, inv_after}
use Rattle.machine.specs.Leaders.{IsDue, Owns, Owned, SpokenFor, Free, Others, OwnsNext, at_once, registered, Leaders}

-- ---- one step

module _ (c : Setup) (w t : ℕ) where
  -- who is due with this ticket
  abbrev DueAt : State → Type 0
  DueAt s = DueWith c.slots s.lock w (lock_stand (s.place w)) t

  -- it looks: the lock is its own
  look_owns : (s : State) → DueAt s → s.place w ≡ looking t → event c s w ≡ owns t
  unfolding standing_at
  look_owns s (h, turn, cell) e =
      ap (standing_at c s w) e ∙ ap (seeing c s t) ((Lock.look_wins c.slots s.lock t w).1 (turn, cell))

  registers_at : (s : State) → s.place w ≡ registering t → event c s w ≡ registers t
  unfolding standing_at
  registers_at s e = ap (standing_at c s w) e

  module _ (s : State) (v : Inv c s) (d : DueAt s) where
    -- another's step leaves it where it is, and due
    other_step : (u : ℕ) → u ≢ w → DueAt (step c s u) × ((step c s u).place w ≡ s.place w)
    unfolding step
    other_step u n =
        let stays : (step c s u).place w ≡ s.place w = upd_other s.place u _ w (λ e. n (sym e)) in
        let (turn, cell) = go (lock_move c (picked s) u (does_step c s u)) in
        ((rw stays d.0, turn, cell), stays)
      where
        go : {o : Option LH.Op} {p : Place} → LockMove c (picked s) u o p
            → (L.turn c.slots (lock_after c s.lock u o) t ≡ true) × ((lock_after c s.lock u o).cell_ticket w ≢ t)
        go (aside e) = (d.1, d.2)
        go (operates op can e) = let (h, turn, cell) = due_stays v.locked w t d u n op can in (turn, cell)

    -- its registration too
    own_step : s.place w ≡ registering t → DueAt (step c s w) × ((step c s w).place w ≡ looking t)
    unfolding step
    own_step e =
        let (h, turn, cell) = due_registered v.locked w t (inl refl, d.1, d.2) (ap lock_stand e) in
        let here : upd s.place w (looking t) w ≡ looking t = upd_same s.place w (looking t) in
        rw (registers_at s e) ((rw here (inr refl), turn, cell), here)

module _ (c : Setup) (playable : Playable c) (w t : ℕ) where
  -- due, and at this place
  abbrev StaysDue : Place → State → Type 0
  StaysDue p s = Inv c s × DueAt c w t s × (s.place w ≡ p)

  -- picks of others leave it there, and due
  others_stay : (p : Place) (vs : List ℕ) → Others c.workers w vs → (s : State) → StaysDue p s → StaysDue p (run (pick c) s vs)
  others_stay p [] o s h = h
  others_stay p (v ∷ vs) o s h = others_stay p vs (λ i l. o (suc i) (omega arith)) (pick c s v) (go (finished c s) refl)
    where
      go : (b : Bool) → finished c s ≡ b → StaysDue p (pick c s v)
      go true f = rw (pick_finished c s v f) h
      go false f =
          let (below, other) = o 0 (omega arith) in
          let (d, e) = other_step c w t s h.0 h.1 v other in
          rw (pick_open c s v f) (inv_step c playable s v below h.0, d, e ∙ h.2)

  -- it registers, and is due still
  registers_stays : w < c.workers → (s : State) → finished c s ≡ false → StaysDue (registering t) s → StaysDue (looking t) (pick c s w)
  registers_stays l s f (v, d, e) =
      let (next, here) = own_step c w t s v d e in rw (pick_open c s w f) (inv_step c playable s w l v, next, here)

  next_look : w < c.workers → (ws : List ℕ) → (p : Place) → StaysDue p (after c ws) → OwnsNext c w ws
  unfolding after
  next_look l ws p h = ⊎_elim registering_first looking_now (ticket_at ((after c ws).place w) t h.1.0)
    where
      looking_now : (after c ws).place w ≡ looking t → OwnsNext c w ws
      looking_now e = at_once t (look_owns c w t (after c ws) h.1 e)

      registering_first : (after c ws).place w ≡ registering t → OwnsNext c w ws
      registering_first e =
          registered t (registers_at c w t (after c ws) e)
          (λ f us o.
          let (_, d, here) = others_stay (looking t) us o (pick c (after c ws) w) (registers_stays l (after c ws) f (h.0, h.1, e)) in
          let goes : after c (ws ++ w ∷ us) ≡ run (pick c) (pick c (after c ws) w) us = run_append (pick c) _ ws (w ∷ us) in
          rw goes (look_owns c w t _ d here))

-- ---- every list of picks

leads_owner : (o d : Option ℕ) (w : ℕ) → (leads o d ≡ Owner w) ↔ (o ≡ some w)
leads_owner (some v) d w = (λ e. cc, λ e. cc)
leads_owner none (some v) w = (λ e. clash (cc), λ e. clash (cc))
leads_owner none none w = (λ e. clash (cc), λ e. clash (cc))

leads_due : (o d : Option ℕ) (w : ℕ) → (leads o d ≡ Due w) ↔ ((o ≡ none) × (d ≡ some w))
leads_due (some v) d w = (λ e. clash (cc), λ (e, _). clash (cc))
leads_due none (some v) w = (λ e. (refl, cc), λ (_, e). cc)
leads_due none none w = (λ e. clash (cc), λ (_, e). clash (cc))

leads_nobody : (o d : Option ℕ) → (leads o d ≡ Nobody) ↔ ((o ≡ none) × (d ≡ none))
leads_nobody (some v) d = (λ e. clash (cc), λ (e, _). clash (cc))
leads_nobody none (some v) = (λ e. clash (cc), λ (_, e). clash (cc))
leads_nobody none none = (λ e. (refl, refl), λ e. refl)

module _ (c : Setup) (playable : Playable c) (ws : List ℕ) (p : Picks c.workers ws) where
  abbrev now : State
  now = after c ws

  inv : Inv c now
  inv = inv_after c playable ws p

  only_due : (v w : ℕ) → IsDue c now v → IsDue c now w → v ≡ w
  only_due v w (s, d) (t, e) = due_one inv.locked v w s t d e

  none_owns : (v w : ℕ) → IsDue c now w → Owns c now v → ⊥
  none_owns v w (t, d) o = (due_lock inv.locked w t d).1 v o

  due_exactly : (w : ℕ) → (due c now ≡ some w) ↔ ((w < c.workers) × IsDue c now w)
  unfolding due
  due_exactly =
      last_exactly (λ w. is_due c.slots now.lock w (lock_stand (now.place w))) (IsDue c now)
      (λ w. due_is c.slots now.lock w (lock_stand (now.place w))) only_due c.workers

  unowned_none : ((v : ℕ) → Owns c now v → ⊥) → owner c now ≡ none
  unowned_none h = go (owner c now) refl
    where
      go : (o : Option ℕ) → owner c now ≡ o → o ≡ none
      go none e = refl
      go (some v) e = absurd (h v ((owner_exactly c playable ws p v).0 e).1)

  undue_none : ((w : ℕ) → IsDue c now w → ⊥) → due c now ≡ none
  undue_none h = go (due c now) refl
    where
      go : (o : Option ℕ) → due c now ≡ o → o ≡ none
      go none e = refl
      go (some w) e = absurd (h w ((due_exactly w).0 e).1)

  shown_owner : (w : ℕ) → (leader c now ≡ Owner w) ↔ ((w < c.workers) × Owns c now w)
  shown_owner w =
      let (is, leads_it) = leads_owner (owner c now) (due c now) w in
      let (to, from) = owner_exactly c playable ws p w in
      (λ e. to (is e), λ h. leads_it (from h))

  shown_due : (w : ℕ) → (leader c now ≡ Due w) ↔ ((w < c.workers) × IsDue c now w)
  shown_due w =
      let (is, leads_it) = leads_due (owner c now) (due c now) w in
      let (to, from) = due_exactly w in
      (λ e. to (is e).1, λ (l, d). leads_it (unowned_none (λ v. none_owns v w d), from (l, d)))

  shown_free : (leader c now ≡ Nobody) ↔ Free c now
  shown_free =
      let (is, leads_it) = leads_nobody (owner c now) (due c now) in (
        λ e. from_none (is e).0 (is e).1 (cases inv.locked),
        λ f.
            let (unowned, served) = Lock.free_lock inv.locked ((Lock.free_iff inv.locked).1 f) in
            leads_it (unowned_none unowned, undue_none (λ w (t, (h, turn, cell)). cell (served w t h).2)),
      )
    where
      from_none : owner c now ≡ none → due c now ≡ none → Owned c now ⊎ SpokenFor c now ⊎ Free c now → Free c now
      from_none o d (inl (w, l, h)) = clash (let e = (owner_exactly c playable ws p w).1 (l, h) in cc)
      from_none o d (inr (inl (_, (w, l, h)))) = clash (let e = (due_exactly w).1 (l, h) in cc)
      from_none o d (inr (inr f)) = f

  next_owner : (w : ℕ) → leader c now ≡ Due w → (vs : List ℕ) → Others c.workers w vs → OwnsNext c w (ws ++ vs)
  unfolding after
  next_owner w e vs o =
      let (l, (t, d)) = (shown_due w).0 e in
      let goes : after c (ws ++ vs) ≡ run (pick c) now vs = run_append (pick c) _ ws vs in
      next_look c playable w t l (ws ++ vs) (now.place w)
      (rw goes (others_stay c playable w t (now.place w) vs o now (inv, d, refl)))

  -- every list of picks from a fresh start leads to such a state
  pub leaders : Leaders c ws
  leaders =
      record {
        owner = shown_owner;
        due = shown_due;
        free = shown_free;
        cover = cases inv.locked;
        exclude = (
          λ (w, l, o) (unowned, _). unowned w o,
          λ (w, l, o) f. omega (arith, (Lock.owned_lock inv.locked w o).0),
          λ (_, (w, l, (t, d))) f. omega (arith, (due_lock inv.locked w t d).0),
        );
        one_due = only_due;
        unowned = none_owns;
        served_unshown = λ w t h e q.
            let (l, (u, (held, turn, cell))) = (shown_due w).0 q in
            cell (e ∙ Lock.holds_one h held);
        owns_next = next_owner;
      }
