-- The laws of the promise, proved from the invariant.
use Rattle.std.specs.Prelude.{◌≡◌, refl, ◌⊎◌, ◌≢◌, ◌↔◌, true, false, ℕ, suc, ◌+◌, ◌-◌, ◌%◌, ◌≤◌, ◌<◌}
use Rattle.std.proofs.Common.{sym, ap, ◌∙◌, inl, inr, arith}
use Rattle.std.proofs.Math.Logic.{⊎_elim}
use Rattle.std.proofs.Math.Option.{Option, none, some}
use borrow.Author.Tests.{leb-true, leb-false, le-leb, lt-leb, eqb-true, eqb-false, eq-eqb, ne_eqb}
use Rattle.runs.specs.Update.{same, order, clash}
use Rattle.runs.specs.Near.{near_mod}
use Rattle.lock.specs.Lock.{Lock, start, turn, join, distance, front, is_free, not_yet, receives, owns, look}
use Rattle.lock.specs.History.{Stand, out, taken, waiting, owning, serving, Holds, Owner, Served, Due, Called, InCell}
use Rattle.lock.proofs.Inside.Looks.{looks_early, looks_served, looks_first, seen}
use Rattle.lock.specs.Inside.Ring.{Slots}
use Rattle.lock.proofs.Inside.Ring.{turn_iff}
use Rattle.lock.specs.Inside.Invariant.{Leads, Aside, Led, free, led, Inv}
use Rattle.lock.proofs.Inside.Facts.{holds_held, held_holds, no_ticket, owner_leads, aside_served, leads_called, not_both}
use Rattle.lock.proofs.Inside.Facts.{leads_or_aside, led_by, one_leader, free_or_led, room, slot_iff, late, unfilled}
use Rattle.lock.proofs.Inside.Facts.{entry_waits, front_waits, waits_front}

pub turn_slot : (N : ℕ) (l : Lock) → Slots N l.tail l.wait → (t : ℕ) → N ≤ t → (turn N l t ≡ true) ↔ (t < l.tail)
unfolding turn
turn_slot N l s t h =
    let (a, b) = turn_iff N l.tail l.wait s t h in
    (λ e. a (leb-true t (l.wait (t % N)) e), λ c. le-leb t (l.wait (t % N)) (b c))

pub free_at_start : (N : ℕ) → is_free (start N) ≡ true
unfolding is_free start
free_at_start N = eq-eqb (suc N) (suc N) refl

pub look_received : (N : ℕ) (l : Lock) (t w j : ℕ) → look N l t w ≡ receives j → (l.cell_ticket w ≡ t) × (l.cell_task w ≡ j)
look_received N l t w j e = let (a, b, c) = rw e at (seen N l t w) in (b, c)

pub look_owned : (N : ℕ) (l : Lock) (t w : ℕ) → look N l t w ≡ owns → l.cell_ticket w ≢ t
look_owned N l t w e = (rw e at (seen N l t w)).1

pub look_wins : (N : ℕ) (l : Lock) (t w : ℕ) → (look N l t w ≡ owns) ↔ ((turn N l t ≡ true) × (l.cell_ticket w ≢ t))
unfolding turn
look_wins N l t w = (
  λ e. let (a, b) = rw e at (seen N l t w) in (le-leb t (l.wait (t % N)) a, b),
  λ (a, b). looks_first N l t w (leb-true t (l.wait (t % N)) a) b,
)

pub holds_one : {x : Stand} {s t : ℕ} → Holds x s → Holds x t → s ≡ t
holds_one p q = sym (holds_held p) ∙ holds_held q

module _ {W N : ℕ} {l : Lock} {st : ℕ → Stand} (i : Inv W N l st) where
  -- while a worker leads the lock isn't free, and whose turn has come is served unless it is that one
  led_lock : (w : ℕ) → Leads l.tail (l.cell_ticket w) (st w)
      → (l.tail ≤ l.head) × ((v : ℕ) → v ≢ w → (Owner (st v) → ⊥) × Served l st v)
  led_lock w q =
      let (b, a) = led_by i.leader w q in
      let owned : (v : ℕ) → v ≢ w → Owner (st v) → ⊥ = λ v n o. not_both l.tail (l.cell_ticket v) (st v) (owner_leads _ _ _ o) (a v n) in
      (b, λ v n. (owned v n, aside_served l.tail (l.cell_ticket v) (st v) (a v n)))

  called_leads : (w : ℕ) → Called l st w → Leads l.tail (l.cell_ticket w) (st w)
  called_leads w (t, inl e, q, c) = rw e q
  called_leads w (t, inr e, q, c) = rw e (q, c)

  -- ---- tickets

  -- a ticket that is held was given
  pub ticket_given : (w t : ℕ) → Holds (st w) t → (N ≤ t) × (t < l.head)
  ticket_given w t (inl e) = let g : (N ≤ t) × (t < l.head) × (l.cell_ticket w < t) = rw e at (i.givens w) in omega arith
  ticket_given w t (inr e) = rw e at (i.givens w)

  -- no two workers hold one ticket
  pub ticket_one : (v w t : ℕ) → Holds (st v) t → Holds (st w) t → v ≡ w
  ticket_one v w t p q =
      i.tickets.apart v w (omega (arith, i.sizes, holds_held p, ticket_given v t p)) (holds_held p ∙ sym (holds_held q))

  -- each ticket from the tail on that was given is held by a worker
  pub ticket_each : (t : ℕ) → l.tail ≤ t → t < l.head → (w : ℕ) × (w < W) × Holds (st w) t
  ticket_each t a b =
      let (w, h, e) = i.tickets.each t a b in
      (w, h, rw e at (held_holds (st w) (omega (arith, i.tickets.begun))))

  -- a ticket that isn't registered is newer than what the worker's cell holds
  pub ticket_new : (w t : ℕ) → st w ≡ taken t → l.cell_ticket w < t
  ticket_new w t e = (rw e at (i.givens w)).2

  -- only workers below W have to do with the lock
  pub worker_below : (w : ℕ) → st w ≢ out → w < W
  worker_below w n = ⊎_elim (λ (h : w < W). h) (λ (h : W ≤ w). absurd (n (i.workers w h))) (order w W)

  pub holder_below : (w t : ℕ) → Holds (st w) t → w < W
  holder_below w t (inl e) = worker_below w (λ z. clash (cc))
  holder_below w t (inr e) = worker_below w (λ z. clash (cc))

  -- ---- head and tail

  pub ends : (N < l.tail) × (l.tail ≤ suc l.head)
  ends = (i.tickets.begun, free_or_led i.leader)

  -- at most W tickets from the newest below the tail on
  pub ends_near : suc l.head ≤ l.tail + W
  ends_near = room N i.tickets i.leader

  pub free_iff : (is_free l ≡ true) ↔ (l.tail ≡ suc l.head)
  unfolding is_free
  free_iff = (eqb-true l.tail (suc l.head), eq-eqb l.tail (suc l.head))

  pub busy_iff : (is_free l ≡ false) ↔ (l.tail ≤ l.head)
  unfolding is_free
  busy_iff = (
    λ e. omega (arith, eqb-false l.tail (suc l.head) e, ends),
    λ h. ne_eqb l.tail (suc l.head) (omega arith),
  )

  -- ---- turns

  -- a ticket's turn has come exactly when it is below the tail
  pub turn_below : (t : ℕ) → N ≤ t → (turn N l t ≡ true) ↔ (t < l.tail)
  turn_below t h = turn_slot N l i.slots t h

  pub turn_early : (t : ℕ) → N ≤ t → (turn N l t ≡ false) ↔ (l.tail ≤ t)
  unfolding turn
  turn_early t h = (
    λ e.
        ⊎_elim (λ (k : t < l.tail). absurd (omega (arith, i.slots.come t h k, leb-false t (l.wait (t % N)) e)))
        (λ (k : l.tail ≤ t). k)
        (order t l.tail),
    λ k. lt-leb t (l.wait (t % N)) (omega (arith, i.slots.below (t % N))),
  )

  -- the tail was `from` and `hands` hand-overs have come since: it has come exactly when these are at least the ticket's distance then
  pub turn_hands : (t from hands : ℕ) → N ≤ t → l.tail ≡ from + hands → (turn N l t ≡ true) ↔ (suc t - from ≤ hands)
  turn_hands t from hands h e =
      let (a, b) = turn_below t h in
      (λ q. let c : t < l.tail = a q in omega arith, λ q. b (omega arith))

  -- the distance of a ticket that its worker is about to register loses nothing by the subtraction, and is below W
  pub distance_whole : (w t : ℕ) → st w ≡ taken t → (distance l t + l.tail ≡ suc t) × (distance l t < W)
  distance_whole w t e = (omega (arith, late i w t e), omega (arith, i.sizes, ends_near, ticket_given w t (inl e)))

  -- ---- looks

  module _ (w t : ℕ) (e : st w ≡ waiting t) where
    pub look_early : (look N l t w ≡ not_yet) ↔ (l.tail ≤ t)
    look_early = (
      λ q.
          let z : l.wait (t % N) < t = rw q at (seen N l t w) in
          ⊎_elim (λ (h : t < l.tail). absurd (omega (arith, (slot_iff i w t e).1 h))) (λ (h : l.tail ≤ t). h) (order t l.tail),
      λ h.
          looks_early N l t w
          (⊎_elim (λ (z : l.wait (t % N) < t). z)
          (λ (z : t ≤ l.wait (t % N)). absurd (omega (arith, (slot_iff i w t e).0 z)))
          (order (l.wait (t % N)) t)),
    )

    pub look_served : (j : ℕ) → (look N l t w ≡ receives j) ↔ ((t < l.tail) × (l.cell_ticket w ≡ t) × (l.cell_task w ≡ j))
    look_served j = (
      λ q. let (a, b, c) = rw q at (seen N l t w) in ((slot_iff i w t e).0 a, b, c),
      λ (a, b, c). looks_served N l t w ((slot_iff i w t e).1 a) b ∙ ap receives c,
    )

    pub look_called : (look N l t w ≡ owns) ↔ ((t < l.tail) × (l.cell_ticket w ≢ t))
    look_called = (
      λ q. let (a, b) = rw q at (seen N l t w) in ((slot_iff i w t e).0 a, b),
      λ (a, b). looks_first N l t w ((slot_iff i w t e).1 a) b,
    )

  -- ---- who leads

  pub leader : {A : Type 0} → (is_free l ≡ true → A) → ((w : ℕ) → w < W → Called l st w → A) → ((w : ℕ) → w < W → Owner (st w) → A) → A
  leader {A} nobody called owner = go i.leader
    where
      go : Led W l.head l.tail l.cell_ticket st → A
      go (free q a) = nobody (free_iff.1 q)
      go (led w h b q a) =
          ⊎_elim (λ (o : Owner (st w)). owner w h o) (λ (c : Called l st w). called w h c)
          (leads_called N l.head l.tail (l.cell_ticket w) (st w) (i.givens w) q)

  -- while the lock is free nobody owns it, and who has a ticket waits with it, its turn has come and it is served
  pub free_lock : is_free l ≡ true
      → ((v : ℕ) → Owner (st v) → ⊥) × ((v t : ℕ) → Holds (st v) t → (st v ≡ waiting t) × (t < l.tail) × (l.cell_ticket v ≡ t))
  free_lock f = go i.leader
    where
      go : Led W l.head l.tail l.cell_ticket st
          → ((v : ℕ) → Owner (st v) → ⊥) × ((v t : ℕ) → Holds (st v) t → (st v ≡ waiting t) × (t < l.tail) × (l.cell_ticket v ≡ t))
      go (free q a) = (
        λ v o. not_both l.tail (l.cell_ticket v) (st v) (owner_leads _ _ _ o) (a v),
        λ v t o.
            let b : t < l.tail = omega (arith, ticket_given v t o) in
            let (e, c) = aside_served l.tail (l.cell_ticket v) (st v) (a v) t o b in
            (e, b, c),
      )
      go (led w h b q a) = let z : l.tail ≡ suc l.head = free_iff.0 f in absurd (omega arith)

  -- while nobody owns and a worker is called, the lock isn't free, and whose turn has come is served, but for that worker
  pub called_lock : (w : ℕ) → Called l st w → (l.tail ≤ l.head) × ((v : ℕ) → Owner (st v) → ⊥) × ((v : ℕ) → v ≢ w → Served l st v)
  called_lock w c =
      let (b, a) = led_lock w (called_leads w c) in
      let else : (v : ℕ) → Owner (st v) → v ≡ w → ⊥ = λ v o e. no_ticket (rw e at o) c.1 in
      (b, λ v o. ⊎_elim (else v o) (λ (n : v ≢ w). (a v n).0 o) (same v w), λ v n. (a v n).1)

  -- while a worker owns, whose turn has come is served
  pub owned_lock : (w : ℕ) → Owner (st w) → (l.tail ≤ l.head) × ((v : ℕ) → Served l st v)
  owned_lock w o =
      let (b, a) = led_lock w (owner_leads _ _ _ o) in
      (b, λ v. ⊎_elim (λ (e : v ≡ w). λ t h k. absurd (no_ticket o (rw e at h))) (λ (n : v ≢ w). (a v n).1) (same v w))

  -- at most one worker owns
  pub one_owner : (v w : ℕ) → Owner (st v) → Owner (st w) → v ≡ w
  one_owner v w p q = one_leader i.leader v w (owner_leads _ _ _ p) (owner_leads _ _ _ q)

  -- while nobody owns and the lock isn't free, exactly one worker's turn has come that is not served, and it is called
  pub one_due : is_free l ≡ false → ((v : ℕ) → Owner (st v) → ⊥) → (w : ℕ) × (w < W) × Called l st w × ((v : ℕ) → Due l st v → v ≡ w)
  one_due f n =
      leader (λ e. clash (cc))
      (λ w h c.
      (w, h, c, λ v (t, o, b, d). ⊎_elim (λ (e : v ≡ w). e) (λ (m : v ≢ w). absurd (d ((called_lock w c).2 v m t o b).1)) (same v w)))
      (λ w h o. absurd (n w o))

  -- who waits: its turn has not come, or it is served, or it is called
  pub waits : (w t : ℕ) → st w ≡ waiting t
      → (l.tail ≤ t) ⊎ ((t < l.tail) × InCell l st w t (l.cell_task w)) ⊎ ((suc t ≡ l.tail) × (l.cell_ticket w ≢ t))
  waits w t e = go (order t l.tail) (leads_or_aside i.leader w)
    where
      go : (t < l.tail) ⊎ (l.tail ≤ t) → Leads l.tail (l.cell_ticket w) (st w) ⊎ Aside l.tail (l.cell_ticket w) (st w)
          → (l.tail ≤ t) ⊎ ((t < l.tail) × InCell l st w t (l.cell_task w)) ⊎ ((suc t ≡ l.tail) × (l.cell_ticket w ≢ t))
      go (inr h) q = inl h
      go (inl h) (inl q) = inr (inr (rw e at q))
      go (inl h) (inr a) = inr (inl (h, (e, (rw e at a) h, refl)))

  -- ---- slots and laps

  -- the given tickets from the newest below the tail on have each a slot of its own
  pub slot_one : (s t : ℕ) → l.tail ≤ suc s → s < l.head → l.tail ≤ suc t → t < l.head → s % N ≡ t % N → s ≡ t
  slot_one s t a b c d e = near_mod N s t e (omega (arith, i.sizes, ends_near)) (omega (arith, i.sizes, ends_near))

  module _ (t : ℕ) (early : l.tail ≤ t) where
    -- the slot of a ticket that was not let in has its registration exactly when its worker waits
    pub registered_iff : (v : ℕ) → (l.registration (t % N) ≡ join t v) ↔ ((v < W) × (st v ≡ waiting t))
    registered_iff v = (entry_waits i t v early, λ (h, e). i.entries.entered v t e early)

    -- otherwise what stands there is below the ticket: a registration of an earlier lap, or none
    pub unregistered_iff : (l.registration (t % N) < t) ↔ ((v : ℕ) → st v ≢ waiting t)
    unfolding join
    unregistered_iff = (
      λ h v e. absurd (omega (arith, i.entries.entered v t e early)),
      λ n.
          ⊎_elim (λ (h : l.registration (t % N) < t). h)
          (λ (h : t ≤ l.registration (t % N)). absurd (n _ (entry_waits i t (l.registration (t % N) - t) early (omega arith)).1))
          (order (l.registration (t % N)) t),
    )

  -- ---- the front waiter

  -- it is exactly the worker that waits with the tail: no registration of an earlier lap is taken for a waiter
  pub front_iff : (v : ℕ) → (front N l ≡ some v) ↔ ((v < W) × (st v ≡ waiting l.tail))
  front_iff v = (front_waits i v, λ (h, e). waits_front i v e)

  pub front_none_iff : (front N l ≡ none) ↔ ((v : ℕ) → st v ≢ waiting l.tail)
  front_none_iff = (λ q v e. let z : front N l ≡ some v = waits_front i v e in clash (cc), λ n. go n (front N l) refl)
    where
      go : ((v : ℕ) → st v ≢ waiting l.tail) → (o : Option ℕ) → front N l ≡ o → front N l ≡ none
      go n none e = e
      go n (some v) e = absurd (n v (front_waits i v e).1)

  -- ---- cells

  -- what lies in the cell of a waiting worker is received as soon as its turn has come, and by nobody else
  pub cell_look : (v t j : ℕ) → InCell l st v t j → (t < l.tail → look N l t v ≡ receives j) × (l.tail ≤ t → look N l t v ≡ not_yet)
  cell_look v t j (e, c, d) = (λ h. (look_served v t e j).1 (h, c, d), λ h. (look_early v t e).1 h)

  pub cell_one : (u v t j : ℕ) → InCell l st v t j → l.cell_ticket u ≡ t → u ≡ v
  cell_one u v t j (e, c, d) q = i.cells.apart u v (omega (arith, i.sizes, ticket_given v t (inr e))) (q ∙ sym c)

  -- an owner that serves has filled the cell of the front waiter
  pub serving_cell : (w : ℕ) → st w ≡ serving → (v : ℕ) × (v < W) × InCell l st v l.tail (l.cell_task v)
  serving_cell w e =
      let (v, q, c) = i.cells.served w e in
      (v, worker_below v (λ z. clash (cc)), (q, c, refl))

  -- before that no cell holds the tail
  pub owning_cells : (w : ℕ) → st w ≡ owning → (v : ℕ) → l.cell_ticket v < l.tail
  owning_cells w e v = omega (arith, unfilled i w e v, i.cells.below v)

  -- a cell that holds a ticket whose turn has not come was filled by an owner that has not handed over yet
  pub cell_early : (v : ℕ) → l.tail ≤ l.cell_ticket v → (w : ℕ) × (w < W) × (st w ≡ serving)
  cell_early v h = let (w, e) = i.cells.filled v (omega (arith, i.cells.below v)) in (w, worker_below w (λ z. clash (cc)), e)
