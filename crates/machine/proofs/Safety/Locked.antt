-- The machine's lock keeps the lock's promise: each event is one operation of the lock that its worker may do, or leaves the lock alone.
use Rattle.std.specs.Prelude.{ℕ, suc, ◌≤◌, ◌<◌, ◌≡◌, refl, ◌⊎◌, Bool, true, false, ltb}
use Rattle.std.proofs.Common.{sym, ap, subst, ◌∙◌, inl, inr, ⊎_elim}
use Rattle.std.proofs.Math.Option.{Option, none, some}
use Rattle.runs.specs.Update.{upd, upd_id, map_upd, clash}
use Rattle.lock.specs.History as H
use Rattle.lock.proofs.Promise as Promise
use Rattle.lock.proofs.Promise.{Kept}
use Rattle.machine.specs.State.{Setup, Purpose, Place, idle, trying, registering, looking, draining, serving, handing, leaving, for_serving, for_adding, State, start}
use Rattle.machine.specs.Event.{Event}
use Rattle.machine.specs.Step.{apply, lock_op, effect, lock_after, after_draining, next_drain}
use Rattle.machine.specs.Whereabouts.{lock_stand}
use Rattle.machine.specs.View as view
use Rattle.machine.specs.View.{Does}
use Rattle.machine.specs.Safety.Locked.{lock_stands, Locked}

pub locked_start : (c : Setup) → 0 < c.workers → c.workers ≤ c.slots → Locked c (start c).lock (start c).place
unfolding start
locked_start c any fits = Promise.kept_start c.workers c.slots any fits

-- what an event is to the lock: nothing, and its worker stands with the lock as before; or an operation that its worker may do
pub data LockMove (c : Setup) (s : State) (w : ℕ) : Option H.Op → Place → Type 0 where
  aside : {p : Place} → lock_stand p ≡ lock_stand (s.place w) → LockMove c s w none p
  operates : {p : Place} (op : H.Op) → H.Can c.slots s.lock (lock_stand (s.place w)) w op
      → lock_stand p ≡ H.stand_after s.lock op → LockMove c s w (some op) p

-- a drain keeps the owner an owner
drained : (c : Setup) (p : Purpose) (k : ℕ) → lock_stand (next_drain c p k) ≡ H.owning
unfolding next_drain
drained c p k = go p (ltb (suc k) c.workers)
  where
    go : (u : Purpose) (b : Bool) → lock_stand (elim b [ true ↦ draining p (suc k) | false ↦ after_draining c u ]) ≡ H.owning
    go u true = refl
    go for_serving false = refl
    go for_adding false = refl

module _ (c : Setup) (s : State) (w : ℕ) where
  pub lock_move : {e : Event} → Does c s w e → LockMove c s w (lock_op e) (effect c s w e).place
  lock_move (view.does_mind d p can) = aside (sym (ap lock_stand p))
  lock_move (view.does_push j js r d l) = aside (sym (ap lock_stand r.place))
  lock_move (view.does_find_full j js r d l) = aside (sym (ap lock_stand r.place))
  lock_move (view.does_win p f) = operates H.try (H.can_try (ap lock_stand p) f) refl
  lock_move (view.does_fail p f) = aside (sym (ap lock_stand p))
  lock_move (view.does_take_ticket r d z) = operates H.take (H.can_take (ap lock_stand r.place)) refl
  lock_move (view.does_register t p) = operates (H.register t) (H.can_register t (ap lock_stand p)) refl
  lock_move (view.does_wait t p q) = aside refl
  lock_move (view.does_receive t j p q) = operates (H.receive t j) (H.can_receive t j (ap lock_stand p) q) refl
  lock_move (view.does_own t p q) = operates (H.own t) (H.can_own t (ap lock_stand p) q) refl
  lock_move (view.does_drain u k p) = aside (drained c u k ∙ sym (ap lock_stand p))
  lock_move (view.does_fill n v j js p q f l) = operates (H.fill v j) (H.can_fill v j (ap lock_stand p) f) refl
  lock_move (view.does_take n j js p q) = aside (sym (ap lock_stand p))
  lock_move (view.does_take_none n p q) = aside (sym (ap lock_stand p))
  lock_move (view.does_hand_over n p) = operates H.pass (H.can_pass (ap lock_stand p)) refl
  lock_move (view.does_leave p) = operates H.leave (H.can_leave (ap lock_stand p)) refl

  -- where the workers stand with the lock then
  stands : (p : Place) (x : H.Stand) → lock_stand p ≡ x
      → ◌≡◌ {A = ℕ → H.Stand} (lock_stands (upd s.place w p)) (upd (lock_stands s.place) w x)
  stands p x e = map_upd lock_stand s.place w p ∙ ap (upd (lock_stands s.place) w) e

  abbrev pub stands_after : Option H.Op → ℕ → H.Stand
  stands_after none = lock_stands s.place
  stands_after (some op) = upd (lock_stands s.place) w (H.stand_after s.lock op)

  pub moved_stands : {o : Option H.Op} {p : Place} → LockMove c s w o p
      → ◌≡◌ {A = ℕ → H.Stand} (lock_stands (upd s.place w p)) (stands_after o)
  moved_stands (aside {p} e) = stands p (lock_stand (s.place w)) e ∙ upd_id (lock_stands s.place) w
  moved_stands (operates {p} op can e) = stands p (H.stand_after s.lock op) e

  module _ (i : Locked c s.lock s.place) (h : w < c.workers) where
    moved : {o : Option H.Op} {p : Place} → LockMove c s w o p → Locked c (lock_after c s.lock w o) (upd s.place w p)
    moved (aside {p} e) = subst (λ (st : ℕ → H.Stand). Kept c.workers c.slots s.lock st) (sym (moved_stands (aside {p = p} e))) i
    moved (operates {p} op can e) =
        subst (λ (st : ℕ → H.Stand). Kept c.workers c.slots (H.after c.slots s.lock w op) st)
        (sym (moved_stands (operates {p = p} op can e))) (Promise.kept_after i w h op can)

    pub locked_keep : {e : Event} → Does c s w e → Locked c (apply c s w e).lock (apply c s w e).place
    locked_keep d = moved (lock_move d)

-- ---- a place from where its worker stands with the lock

pub ticket_at : (p : Place) (t : ℕ) → H.Holds (lock_stand p) t → (p ≡ registering t) ⊎ (p ≡ looking t)
ticket_at (registering u) t h = ⊎_elim (λ e. inl cc) (λ e. clash (cc)) h
ticket_at (looking u) t h = ⊎_elim (λ e. clash (cc)) (λ e. inr cc) h
ticket_at idle t h = ⊎_elim (λ e. clash (cc)) (λ e. clash (cc)) h
ticket_at trying t h = ⊎_elim (λ e. clash (cc)) (λ e. clash (cc)) h
ticket_at (draining p k) t h = ⊎_elim (λ e. clash (cc)) (λ e. clash (cc)) h
ticket_at (serving n) t h = ⊎_elim (λ e. clash (cc)) (λ e. clash (cc)) h
ticket_at (handing n) t h = ⊎_elim (λ e. clash (cc)) (λ e. clash (cc)) h
ticket_at leaving t h = ⊎_elim (λ e. clash (cc)) (λ e. clash (cc)) h

pub waits_at : (p : Place) (t : ℕ) → lock_stand p ≡ H.waiting t → p ≡ looking t
waits_at p t e =
    ⊎_elim (λ (q : p ≡ registering t). let taken : lock_stand p ≡ H.taken t = ap lock_stand q in clash (cc)) (λ q. q) (ticket_at p t (inr e))
