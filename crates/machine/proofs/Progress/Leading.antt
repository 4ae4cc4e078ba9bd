-- Who leads: the owner or, where nobody owns and the lock is not free, the worker whose turn it is
-- to own. Nobody else changes what it stands on.
use Rattle.std.specs.Prelude.{ℕ, suc, ◌≤◌, ◌<◌, ◌≡◌, refl, ◌⊎◌, ◌≢◌}
use Rattle.std.proofs.Common.{arith, sym, ap, ◌∙◌, inl, inr}
use Rattle.std.proofs.Math.Option.{Option}
use Rattle.runs.specs.Update.{upd_other}
use Rattle.lock.specs.History as H
use Rattle.lock.proofs.Promise as Promise
use Rattle.machine.specs.State.{Setup, Place, State}
use Rattle.machine.specs.Event.{Event}
use Rattle.machine.specs.Step.{effect, lock_after, apply}
use Rattle.machine.specs.Whereabouts.{lock_stand}
use Rattle.machine.specs.View.{Does}
use Rattle.machine.specs.Safety.Locked.{Locked}
use Rattle.machine.proofs.Safety.Locked.{LockMove, aside, operates, lock_move}

-- an event moves its own worker alone
pub place_other : (c : Setup) (s : State) (w : ℕ) (e : Event) (v : ℕ) → v ≢ w → (apply c s w e).place v ≡ s.place v
place_other c s w e v n = upd_other s.place w (effect c s w e).place v n

abbrev pub standing : State → ℕ → H.Stand
standing s w = lock_stand (s.place w)

abbrev pub Leads : State → ℕ → Type 0
Leads s v = H.Owner (standing s v) ⊎ H.Called s.lock (standing s) v

module _ (c : Setup) (s : State) (i : Locked c s.lock s.place) where
  -- while somebody leads, the lock isn't free
  pub leads_busy : (v : ℕ) → Leads s v → s.lock.tail ≤ s.lock.head
  leads_busy v (inl o) = (Promise.owned_lock i v o).0
  leads_busy v (inr d) = (Promise.called_lock i v d).0

  -- and no other worker owns it
  pub leads_alone : (v x : ℕ) → Leads s v → x ≢ v → H.Owner (standing s x) → ⊥
  leads_alone v x (inl o) n q = n (Promise.one_owner i x v q o)
  leads_alone v x (inr d) n q = (Promise.called_lock i v d).1 x q

  -- a worker whose ticket is the tail or later waits behind somebody
  pub leader_of : (w t : ℕ) → H.Holds (standing s w) t → s.lock.tail ≤ t → (v : ℕ) × (v < c.workers) × Leads s v
  leader_of w t h l = go (Promise.leader i)
    where
      go : Promise.Leader c.workers s.lock (standing s) → (v : ℕ) × (v < c.workers) × Leads s v
      go (Promise.nobody e) =
          let z : s.lock.tail ≡ suc s.lock.head = (Promise.free_iff i).0 e in absurd (omega (arith, Promise.ticket_given i w t h))
      go (Promise.called v b d) = (v, b, inr d)
      go (Promise.owner v b o) = (v, b, inl o)

  module _ (v : ℕ) (d : Leads s v) (x : ℕ) (n : x ≢ v) where
    untouched : (op : H.Op) → H.hands_over op ≡ 0 → H.fills op ≡ 0
        → ((H.after c.slots s.lock x op).tail ≡ s.lock.tail)
        × ((H.after c.slots s.lock x op).cell_ticket v ≡ s.lock.cell_ticket v)
    untouched op z f =
        (omega (arith, Promise.tail_after c.slots s.lock x op), ap (λ g. g v) (Promise.cells_after c.slots s.lock x op f).0)

    -- what another worker's operation leaves to the leader
    others_can : {op : H.Op} → H.Can c.slots s.lock (standing s x) x op
        → ((H.after c.slots s.lock x op).tail ≡ s.lock.tail)
        × ((H.after c.slots s.lock x op).cell_ticket v ≡ s.lock.cell_ticket v)
    others_can (H.can_take e) = untouched H.take refl refl
    others_can (H.can_register t e) = untouched (H.register t) refl refl
    others_can (H.can_own t e q) = untouched (H.own t) refl refl
    others_can (H.can_receive t j e q) = untouched (H.receive t j) refl refl
    others_can (H.can_fill u j e f) = absurd (leads_alone v x d n (inl e))
    others_can (H.can_pass e) = absurd (leads_alone v x d n (inr e))
    others_can (H.can_leave e) = absurd (leads_alone v x d n (inl e))
    others_can (H.can_try e f) =
        let z : s.lock.tail ≡ suc s.lock.head = (Promise.free_iff i).0 f in absurd (omega (arith, leads_busy v d))

    others_by : {o : Option H.Op} {p : Place} → LockMove c s x o p
        → ((lock_after c s.lock x o).tail ≡ s.lock.tail) × ((lock_after c s.lock x o).cell_ticket v ≡ s.lock.cell_ticket v)
    others_by (aside e) = (refl, refl)
    others_by (operates op can e) = others_can can

    pub others_lock : {e : Event} → Does c s x e
        → ((apply c s x e).lock.tail ≡ s.lock.tail) × ((apply c s x e).lock.cell_ticket v ≡ s.lock.cell_ticket v)
    others_lock u = others_by (lock_move c s x u)

    -- the leader leads on
    pub others_lead : {e : Event} → Does c s x e → Leads (apply c s x e) v
    others_lead {e} u = go d
      where
        still : standing (apply c s x e) v ≡ standing s v
        still = ap lock_stand (place_other c s x e v (λ z. n (sym z)))

        go : Leads s v → Leads (apply c s x e) v
        go (inl o) = inl (rw still o)
        go (inr (t, h, q, k)) = let (a, b) = others_lock u in inr (t, rw still h, q ∙ sym a, λ z. k (sym b ∙ z))
