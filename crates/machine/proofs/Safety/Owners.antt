-- Who is shown as the owner owns the lock by the lock's own word: from the look or try that wins until it hands over and leaves.
use Rattle.std.specs.Prelude.{ℕ, ◌<◌, ◌≡◌, refl, ◌↔◌, ◌≢◌, Bool, true, false, List}
use Rattle.std.proofs.Common.{ap, ◌∙◌, inl, inr, ⊎_elim}
use Rattle.std.proofs.Math.Option.{Option, none, some}
use Rattle.runs.specs.Update.{upd_same, upd_other, clash}
use Rattle.runs.specs.Searches.{last_exactly}
use Rattle.runs.specs.Picks.{Picks}
use Rattle.lock.specs.Lock as L
use Rattle.lock.specs.History as LH
use Rattle.lock.proofs.Promise as Lock
use Rattle.machine.specs.State.{Setup, Place, State, picked}
use Rattle.machine.specs.Event.{event}
use Rattle.machine.specs.Step.{lock_op, step, after}
use Rattle.machine.proofs.View.{does_step}
use Rattle.machine.specs.Whereabouts.{lock_stand, is_owner, owner}
use Rattle.machine.proofs.Safety.Locked.{LockMove, aside, operates, lock_move}
use Rattle.machine.specs.Safety.Invariant.{Playable}
use Rattle.machine.proofs.Safety.Invariant.{inv_after}

pub owner_is : (x : LH.Stand) → (is_owner x ≡ true) ↔ LH.Owner x
owner_is x = (shown x, ⊎_elim (λ (e : x ≡ LH.owning). rw e) (λ (e : x ≡ LH.serving). rw e))
  where
    shown : (y : LH.Stand) → is_owner y ≡ true → LH.Owner y
    shown LH.out e = clash (cc)
    shown (LH.taken t) e = clash (cc)
    shown (LH.waiting t) e = clash (cc)
    shown LH.owning e = inl refl
    shown LH.serving e = inr refl

-- who is shown is exactly who owns
pub owner_exactly : (c : Setup) → Playable c → (ws : List ℕ) → Picks c.workers ws → (w : ℕ)
    → (owner c (after c ws) ≡ some w) ↔ ((w < c.workers) × LH.Owner (lock_stand ((after c ws).place w)))
unfolding owner
owner_exactly c playable ws p w =
    let stand : ℕ → LH.Stand = λ k. lock_stand ((after c ws).place k) in
    last_exactly (λ k. is_owner (stand k)) (λ k. LH.Owner (stand k)) (λ k. owner_is (stand k))
    (Lock.one_owner (inv_after c playable ws p).locked) c.workers w

-- whether a worker owns after its step, by whether it owned before: an ownership is won by a look or a try, and ends by leaving
abbrev pub owns_after : Bool → Option LH.Op → Bool
owns_after before none = before
owns_after before (some LH.take) = before
owns_after before (some (LH.register t)) = before
owns_after before (some (LH.own t)) = true
owns_after before (some (LH.receive t i)) = before
owns_after before (some (LH.fill v i)) = before
owns_after before (some LH.pass) = before
owns_after before (some LH.leave) = false
owns_after before (some LH.try) = true

by_operation : {N : ℕ} {l : L.Lock} {x : LH.Stand} {w : ℕ} {op : LH.Op} → LH.Can N l x w op
    → is_owner (LH.stand_after l op) ≡ owns_after (is_owner x) (some op)
by_operation (LH.can_take e) = rw e refl
by_operation (LH.can_register t e) = rw e refl
by_operation (LH.can_own t e q) = refl
by_operation (LH.can_receive t i e q) = rw e refl
by_operation (LH.can_fill v i e q) = rw e refl
by_operation (LH.can_pass e) = rw e refl
by_operation (LH.can_leave e) = refl
by_operation (LH.can_try e q) = refl

by_move : (c : Setup) (s : State) (w : ℕ) {o : Option LH.Op} {p : Place} → LockMove c s w o p
    → is_owner (lock_stand p) ≡ owns_after (is_owner (lock_stand (s.place w))) o
by_move c s w (aside e) = ap is_owner e
by_move c s w (operates op can e) = ap is_owner e ∙ by_operation can

-- the step of worker w, at every state: by it w owns or not, and any other worker owns as before
pub owns_after_lem : (c : Setup) (s : State) (w : ℕ)
    → (is_owner (lock_stand ((step c s w).place w)) ≡ owns_after (is_owner (lock_stand (s.place w))) (lock_op (event c s w)))
    × ((v : ℕ) → v ≢ w → is_owner (lock_stand ((step c s w).place v)) ≡ is_owner (lock_stand (s.place v)))
unfolding step
owns_after_lem c s w = (
  simp upd_same (by_move c (picked s) w (lock_move c (picked s) w (does_step c s w))),
  λ v n. ap (λ p. is_owner (lock_stand p)) (upd_other s.place w _ v n),
)
