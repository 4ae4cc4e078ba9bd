-- What follows at once from the invariant: who leads, how many tickets there are, and who the front waiter is.
use Rattle.std.specs.Prelude.{◌≡◌, refl, ◌⊎◌, ◌≢◌, ◌↔◌, ℕ, zero, suc, ◌+◌, ◌-◌, ◌%◌, ◌≤◌, ◌<◌}
use Rattle.std.proofs.Common.{sym, ◌∙◌, inl, inr, ⊎_elim}
use Rattle.std.proofs.Math.Path.{ap}
use Rattle.std.proofs.Math.Option.{some}
use native.Mathlib.Omega.{arith}
use Rattle.runs.specs.Update.{same, clash}
use Rattle.runs.specs.Sums.{cover}
use Rattle.runs.specs.Near.{near_mod}
use Rattle.lock.specs.Lock.{Lock, join, worker_in, front}
use Rattle.lock.specs.History.{Stand, out, taken, waiting, owning, serving, Holds, Owner}
use Rattle.lock.proofs.Inside.Looks.{front_some, fronted}
use Rattle.lock.proofs.Inside.Ring.{turn_iff}
use Rattle.lock.specs.Inside.Invariant.{held, Given, Leads, Aside, Led, free, led, Tickets, Entry, Inv}

pub held_given : (N head c : ℕ) (x : Stand) → Given N head c x → held x ≢ 0 → (N ≤ held x) × (held x < head)
held_given N head c out g h = absurd (h refl)
held_given N head c (taken t) g h = omega arith
held_given N head c (waiting t) g h = g
held_given N head c owning g h = absurd (h refl)
held_given N head c serving g h = absurd (h refl)

pub leads_held : (tail c : ℕ) (x : Stand) → 0 < tail → Leads tail c x → held x < tail
leads_held tail c out h q = absurd q
leads_held tail c (taken t) h q = omega arith
leads_held tail c (waiting t) h q = omega arith
leads_held tail c owning h q = h
leads_held tail c serving h q = h

pub not_both : (tail c : ℕ) (x : Stand) → Leads tail c x → Aside tail c x → ⊥
not_both tail c out q a = q
not_both tail c (taken t) q a = omega arith
not_both tail c (waiting t) q a = q.1 (a (omega arith))
not_both tail c owning q a = a
not_both tail c serving q a = a

pub holds_held : {x : Stand} {t : ℕ} → Holds x t → held x ≡ t
holds_held (inl e) = ap held e
holds_held (inr e) = ap held e

pub held_holds : (x : Stand) → held x ≢ 0 → Holds x (held x)
held_holds out h = absurd (h refl)
held_holds (taken t) h = inl refl
held_holds (waiting t) h = inr refl
held_holds owning h = absurd (h refl)
held_holds serving h = absurd (h refl)

pub no_ticket : {x : Stand} {t : ℕ} → Owner x → Holds x t → ⊥
no_ticket (inl p) (inl q) = clash (cc)
no_ticket (inl p) (inr q) = clash (cc)
no_ticket (inr p) (inl q) = clash (cc)
no_ticket (inr p) (inr q) = clash (cc)

pub owner_leads : (tail c : ℕ) (x : Stand) → Owner x → Leads tail c x
owner_leads tail c x (inl e) = rw e tt
owner_leads tail c x (inr e) = rw e tt

pub aside_served : (tail c : ℕ) (x : Stand) → Aside tail c x → (t : ℕ) → Holds x t → t < tail → (x ≡ waiting t) × (c ≡ t)
aside_served tail c x a t (inl e) h = let z : tail ≤ t = rw e at a in absurd (omega arith)
aside_served tail c x a t (inr e) h = (e, (rw e at a) h)

pub leads_called : (N head tail c : ℕ) (x : Stand) → Given N head c x → Leads tail c x
    → Owner x ⊎ ((t : ℕ) × Holds x t × (suc t ≡ tail) × (c ≢ t))
leads_called N head tail c out g q = absurd q
leads_called N head tail c (taken t) g q = inr (t, inl refl, q, omega arith)
leads_called N head tail c (waiting t) g q = inr (t, inr refl, q.0, q.1)
leads_called N head tail c owning g q = inl (inl refl)
leads_called N head tail c serving g q = inl (inr refl)

module _ {W head tail : ℕ} {cell : ℕ → ℕ} {st : ℕ → Stand} where
  pub leads_or_aside : Led W head tail cell st → (v : ℕ) → Leads tail (cell v) (st v) ⊎ Aside tail (cell v) (st v)
  leads_or_aside (free q a) v = inr (a v)
  leads_or_aside (led w h b q a) v = ⊎_elim (λ (e : v ≡ w). inl (rw e q)) (λ (n : v ≢ w). inr (a v n)) (same v w)

  -- who leads is the only one to do so
  pub led_by : Led W head tail cell st → (w : ℕ) → Leads tail (cell w) (st w)
      → (tail ≤ head) × ((v : ℕ) → v ≢ w → Aside tail (cell v) (st v))
  led_by (free q a) w h = absurd (not_both tail (cell w) (st w) h (a w))
  led_by (led k b c q a) w h =
      ⊎_elim
      (λ (e : w ≡ k). (c, λ v n. a v (λ z. n (z ∙ sym e))))
      (λ (n : w ≢ k). absurd (not_both tail (cell w) (st w) h (a w n)))
      (same w k)

  pub one_leader : Led W head tail cell st → (v w : ℕ) → Leads tail (cell v) (st v) → Leads tail (cell w) (st w) → v ≡ w
  one_leader d v w p q =
      ⊎_elim
      (λ (e : v ≡ w). e)
      (λ (n : v ≢ w). absurd (not_both tail (cell v) (st v) p ((led_by d w q).1 v n)))
      (same v w)

  pub free_or_led : Led W head tail cell st → tail ≤ suc head
  free_or_led (free q a) = omega arith
  free_or_led (led w h b q a) = omega arith

  -- the leader and the holders of the tickets from the tail on are different workers
  pub room : (N : ℕ) → Tickets W N head tail st → Led W head tail cell st → suc head ≤ tail + W
  room N k (free q a) = omega arith
  room N k (led w h b q a) = omega (arith, cover W (suc head - tail) (λ v. suc (held (st v)) - tail) hit)
    where
      hit : (t : ℕ) → t < suc head - tail → (v : ℕ) × (v < W) × (suc (held (st v)) - tail ≡ t)
      hit zero l = (w, h, omega (arith, leads_held tail (cell w) (st w) (omega (arith, k.begun)) q))
      hit (suc t) l = let (v, c, e) = k.each (tail + t) (omega arith) (omega arith) in (v, c, omega arith)

module _ {W N : ℕ} {l : Lock} {st : ℕ → Stand} (i : Inv W N l st) where
  pub slot_iff : (w t : ℕ) → st w ≡ waiting t → (t ≤ l.wait (t % N)) ↔ (t < l.tail)
  slot_iff w t e = turn_iff N l.tail l.wait i.slots t (rw e at (i.givens w)).0

  -- an unregistered ticket is the newest that was let in, or newer
  pub late : (w t : ℕ) → st w ≡ taken t → l.tail ≤ suc t
  late w t e = go (leads_or_aside i.leader w)
    where
      go : Leads l.tail (l.cell_ticket w) (st w) ⊎ Aside l.tail (l.cell_ticket w) (st w) → l.tail ≤ suc t
      go (inl q) = let z : suc t ≡ l.tail = rw e at q in omega arith
      go (inr a) = let z : l.tail ≤ t = rw e at a in omega arith

  -- while a worker owns and hasn't filled a cell, no cell holds the tail
  pub unfilled : (w : ℕ) → st w ≡ owning → (v : ℕ) → l.cell_ticket v ≢ l.tail
  unfilled w e v c =
      let (k, q) = i.cells.filled v c in
      let y : st k ≡ st w = ap st (one_leader i.leader k w (rw q tt) (rw e tt)) in
      clash (cc)

  -- what stands in the slot of a ticket that was not let in with that ticket is of a worker that waits with it
  pub entry_waits : (t v : ℕ) → l.tail ≤ t → l.registration (t % N) ≡ join t v → (v < W) × (st v ≡ waiting t)
  unfolding join
  entry_waits t v a e = go (i.entries.entry (t % N))
    where
      go : Entry W N l.head l.tail st (t % N) (l.registration (t % N)) → (v < W) × (st v ≡ waiting t)
      go (inl z) = absurd (omega (arith, e, i.tickets.begun))
      go (inr (s, u, q, m, h, k, f)) =
          let few = room N i.tickets i.leader in
          let z : s ≡ t = near_mod N s t m (omega (arith, i.sizes, few)) (omega (arith, i.sizes, e)) in
          let y : u ≡ v = omega (arith, e) in
          (omega arith, rw (y, z) at (f (omega arith)))

  pub front_waits : (v : ℕ) → front N l ≡ some v → (v < W) × (st v ≡ waiting l.tail)
  front_waits v e = entry_waits l.tail v (omega arith) (rw e at (fronted N l))

  pub waits_front : (v : ℕ) → st v ≡ waiting l.tail → front N l ≡ some v
  unfolding join worker_in
  waits_front v e =
      let r : l.registration (l.tail % N) ≡ join l.tail v = i.entries.entered v l.tail e (omega arith) in
      front_some N l (omega arith) ∙ ap some (omega arith)
