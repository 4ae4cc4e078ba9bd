-- Every operation that a worker may do keeps the invariant.
use Rattle.std.specs.Prelude.{◌≡◌, ◌⊎◌, ◌≢◌}
use Rattle.std.proofs.Math.Path.{refl, ap}
use Rattle.std.proofs.Common.{sym, ◌∙◌}
use Rattle.std.proofs.Math.Logic.{inl, inr, ⊎_elim}
use Prim.Native.Nat.{ℕ, suc, ◌%◌, ◌≤◌, ◌<◌}
use native.Mathlib.Omega.{arith}
use borrow.Author.Tests.{eqb-true}
use Rattle.runs.specs.Update.{same, order, upd, upd_same, upd_other, upd_all, clash}
use Rattle.runs.specs.Near.{near_mod}
use Rattle.lock.specs.Lock as lock
use Rattle.lock.specs.Lock.{Lock, start, join}
use Rattle.lock.specs.History.{Stand, out, taken, waiting, owning, serving, Op, Can, can_take, can_register, can_own, can_receive}
use Rattle.lock.specs.History.{can_fill, can_pass, can_leave, can_try, after, stand_after}
use Rattle.lock.proofs.Inside.Looks.{seen}
use Rattle.lock.proofs.Inside.Ring.{slots_start, slots_handed}
use Rattle.lock.specs.Inside.Invariant.{held, Given, Leads, Aside, Led, free, led, Tickets, Cells, Entry, Entries, Inv}
use Rattle.lock.proofs.Inside.Facts.{held_given, not_both, leads_or_aside, led_by, room, free_or_led, slot_iff, late, unfilled}
use Rattle.lock.proofs.Inside.Facts.{front_waits}

given_more : (N head c : ℕ) (x : Stand) → Given N head c x → Given N (suc head) c x
given_more N head c out g = tt
given_more N head c (taken t) g = omega arith
given_more N head c (waiting t) g = omega arith
given_more N head c owning g = tt
given_more N head c serving g = tt

-- a hand-over lets in the tail: who is aside stays so, unless it holds the tail and was not served
aside_more : (tail c : ℕ) (x : Stand) → (held x ≡ tail → (x ≡ waiting tail) × (c ≡ tail)) → Aside tail c x → Aside (suc tail) c x
aside_more tail c out h a = tt
aside_more tail c (taken t) h a =
    ⊎_elim (λ (e : t ≡ tail). let z : taken t ≡ waiting tail = (h e).0 in clash (cc)) (λ (n : t ≢ tail). omega arith) (same t tail)
aside_more tail c (waiting t) h a = λ b. ⊎_elim (λ (e : t ≡ tail). (h e).1 ∙ sym e) (λ (n : t ≢ tail). a (omega arith)) (same t tail)
aside_more tail c owning h a = a
aside_more tail c serving h a = a

leads_next : (tail c : ℕ) (x : Stand) → 0 < tail → held x ≡ tail → c ≢ tail → Leads (suc tail) c x
leads_next tail c out h e n = absurd (omega arith)
leads_next tail c (taken t) h e n = omega arith
leads_next tail c (waiting t) h e n = (omega arith, λ z. n (z ∙ e))
leads_next tail c owning h e n = tt
leads_next tail c serving h e n = tt

module _ {W N : ℕ} {l : Lock} {st : ℕ → Stand} (i : Inv W N l st) (w : ℕ) (hw : w < W) where
  workers_move : (x : Stand) → (v : ℕ) → W ≤ v → upd st w x v ≡ out
  workers_move x = upd_all (λ v y. W ≤ v → y ≡ out) st w x (λ h. absurd (omega arith)) (λ v n. i.workers v)

  givens_move : (x : Stand) → Given N l.head (l.cell_ticket w) x → (v : ℕ) → Given N l.head (l.cell_ticket v) (upd st w x v)
  givens_move x g = upd_all (λ v y. Given N l.head (l.cell_ticket v) y) st w x g (λ v n. i.givens v)

  -- w comes to stand at x: nobody else holds its ticket there, and each ticket from the new tail on was held by another or is that one
  tickets_move : (x : Stand) (head tail : ℕ) → N < tail → ((v : ℕ) → v ≢ w → held x ≢ 0 → held x ≢ held (st v))
      → ((t : ℕ) → tail ≤ t → t < head → (held x ≡ t) ⊎ ((l.tail ≤ t) × (t < l.head) × (held (st w) ≢ t)))
      → Tickets W N head tail (upd st w x)
  tickets_move x head tail b new all =
      record {
        begun = b;
        apart =
            upd_all (λ v y. (u : ℕ) → held y ≢ 0 → held y ≡ held (upd st w x u) → v ≡ u) st w x
            (upd_all (λ u z. held x ≢ 0 → held x ≡ held z → w ≡ u) st w x (λ h e. refl) (λ u n h e. absurd (new u n h e)))
            (λ v m.
            upd_all (λ u z. held (st v) ≢ 0 → held (st v) ≡ held z → v ≡ u) st w x
            (λ h e. absurd (new v m (omega arith) (sym e)))
            (λ u n. i.tickets.apart v u));
        each = λ t a h. at t (all t a h);
      }
    where
      at : (t : ℕ) → (held x ≡ t) ⊎ ((l.tail ≤ t) × (t < l.head) × (held (st w) ≢ t)) → (v : ℕ) × (v < W) × (held (upd st w x v) ≡ t)
      at t (inl e) = (w, hw, ap held (upd_same st w x) ∙ e)
      at t (inr (a, h, n)) =
          let (v, k, e) = i.tickets.each t a h in
          (v, k, ap held (upd_other st w x v (λ z. n (ap (λ (u : ℕ). held (st u)) (sym z) ∙ e))) ∙ e)

  -- w keeps its ticket, or gives up one that was let in
  tickets_keep : (x : Stand) → held x ≡ held (st w) → Tickets W N l.head l.tail (upd st w x)
  tickets_keep x e =
      tickets_move x l.head l.tail i.tickets.begun (λ v n h q. n (i.tickets.apart v w (omega arith) (omega arith)))
      (λ t a h. ⊎_elim (λ (q : held x ≡ t). inl q) (λ (q : held x ≢ t). inr (a, h, omega arith)) (same (held x) t))

  tickets_drop : (x : Stand) → held x ≡ 0 → held (st w) < l.tail → Tickets W N l.head l.tail (upd st w x)
  tickets_drop x e b = tickets_move x l.head l.tail i.tickets.begun (λ v n h q. h e) (λ t a h. inr (a, h, omega arith))

  tickets_hand : (x : Stand) → held x ≡ 0 → held (st w) ≡ 0 → Tickets W N l.head (suc l.tail) (upd st w x)
  tickets_hand x e b =
      tickets_move x l.head (suc l.tail) (omega (arith, i.tickets.begun)) (λ v n h q. h e)
      (λ t a h. inr (omega arith, h, omega (arith, i.tickets.begun)))

  -- an operation of who doesn't lead, or who leads on
  led_aside : (x : Stand) → (Leads l.tail (l.cell_ticket w) (st w) → ⊥) → Aside l.tail (l.cell_ticket w) x
      → Led W l.head l.tail l.cell_ticket (upd st w x)
  led_aside x n a = go i.leader
    where
      go : Led W l.head l.tail l.cell_ticket st → Led W l.head l.tail l.cell_ticket (upd st w x)
      go (free q b) = free q (upd_all (λ v y. Aside l.tail (l.cell_ticket v) y) st w x a (λ v m. b v))
      go (led k h b q c) =
          led k h b (rw (upd_other st w x k (λ z. n (rw (← z) q))) q)
          (upd_all (λ v y. v ≢ k → Aside l.tail (l.cell_ticket v) y) st w x (λ m. a) (λ v m. c v))

  led_on : (x : Stand) → Leads l.tail (l.cell_ticket w) (st w) → Leads l.tail (l.cell_ticket w) x
      → Led W l.head l.tail l.cell_ticket (upd st w x)
  led_on x p q = let (b, a) = led_by i.leader w p in led w hw b (rw upd_same q) (λ v n. rw upd_other (a v n))

  led_take : st w ≡ out → Led W (suc l.head) l.tail l.cell_ticket (upd st w (taken l.head))
  led_take e = go i.leader
    where
      go : Led W l.head l.tail l.cell_ticket st → Led W (suc l.head) l.tail l.cell_ticket (upd st w (taken l.head))
      go (free q a) = led w hw (omega arith) (rw upd_same (sym q)) (λ v n. rw upd_other (a v))
      go (led k h b q c) =
          led k h (omega arith) (rw (upd_other st w (taken l.head) k (λ z. rw (z, e) at q)) q)
          (upd_all (λ v y. v ≢ k → Aside l.tail (l.cell_ticket v) y) st w (taken l.head) (λ m. b) (λ v m. c v))

  led_register : (t : ℕ) → st w ≡ taken t → Leads l.tail (l.cell_ticket w) (st w) ⊎ Aside l.tail (l.cell_ticket w) (st w)
      → Led W l.head l.tail l.cell_ticket (upd st w (waiting t))
  led_register t e (inl q) =
      let g : (N ≤ t) × (t < l.head) × (l.cell_ticket w < t) = rw e at (i.givens w) in
      led_on (waiting t) q (rw e at q, omega arith)
  led_register t e (inr a) =
      let h : l.tail ≤ t = rw e at a in
      led_aside (waiting t) (λ q. not_both l.tail (l.cell_ticket w) (st w) q a) (λ b. absurd (omega arith))

  led_own : (t : ℕ) → st w ≡ waiting t → t < l.tail → l.cell_ticket w ≢ t
      → Leads l.tail (l.cell_ticket w) (st w) ⊎ Aside l.tail (l.cell_ticket w) (st w)
      → Led W l.head l.tail l.cell_ticket (upd st w owning)
  led_own t e h c (inl q) = led_on owning q tt
  led_own t e h c (inr a) = absurd (c ((rw e at a) h))

  led_try : l.tail ≡ suc l.head → Led W (suc l.head) l.tail l.cell_ticket (upd st w owning)
  led_try f = go i.leader
    where
      go : Led W l.head l.tail l.cell_ticket st → Led W (suc l.head) l.tail l.cell_ticket (upd st w owning)
      go (free q a) = led w hw (omega arith) (rw upd_same tt) (λ v n. rw upd_other (a v))
      go (led k h b q c) = absurd (omega arith)

  cells_move : (x : Stand) (head : ℕ) → l.head ≤ head → st w ≢ serving → x ≢ serving → st w ≢ waiting l.tail
      → Cells head l.tail l.cell_ticket (upd st w x)
  cells_move x head h ns nx nw =
      record {
        given = λ v. omega (arith, i.cells.given v);
        below = i.cells.below;
        apart = i.cells.apart;
        filled = λ v e. let (k, q) = i.cells.filled v e in (k, upd_other st w x k (λ z. ns (ap st (sym z) ∙ q)) ∙ q);
        served =
            upd_all (λ k y. y ≡ serving → (v : ℕ) × (upd st w x v ≡ waiting l.tail) × (l.cell_ticket v ≡ l.tail)) st w x
            (λ e. absurd (nx e))
            (λ k n e. let (v, q, c) = i.cells.served k e in (v, upd_other st w x v (λ z. nw (ap st (sym z) ∙ q)) ∙ q, c));
      }

  -- w leaves no wait for a ticket from the new tail on
  entry_move : (x : Stand) (head tail : ℕ) → l.head ≤ head → l.tail ≤ tail → ((t : ℕ) → tail ≤ t → st w ≢ waiting t)
      → (j : ℕ) → Entry W N head tail (upd st w x) j (l.registration j)
  entry_move x head tail a b n j = go (i.entries.entry j)
    where
      go : Entry W N l.head l.tail st j (l.registration j) → Entry W N head tail (upd st w x) j (l.registration j)
      go (inl e) = inl e
      go (inr (t, v, q, m, h, k, f)) =
          let stays : tail ≤ t → upd st w x v ≡ waiting t =
          λ c. let z : st v ≡ waiting t = f (omega arith) in upd_other st w x v (λ y. n t c (ap st (sym y) ∙ z)) ∙ z in
          inr (t, v, q, m, omega arith, k, stays)

  entries_move : (x : Stand) (head tail : ℕ) → l.head ≤ head → l.tail ≤ tail → ((t : ℕ) → tail ≤ t → st w ≢ waiting t)
      → ((t : ℕ) → x ≢ waiting t)
      → Entries W N head tail l.registration (upd st w x)
  entries_move x head tail a b n nx =
      record {
        entry = entry_move x head tail a b n;
        entered =
            upd_all (λ v y. (t : ℕ) → y ≡ waiting t → tail ≤ t → l.registration (t % N) ≡ join t v) st w x
            (λ t e h. absurd (nx t e))
            (λ v m t e h. i.entries.entered v t e (omega arith));
      }

  entries_register : (t : ℕ) → st w ≡ taken t
      → Entries W N l.head l.tail (upd l.registration (t % N) (join t w)) (upd st w (waiting t))
  entries_register t e =
      record {
        entry =
            upd_all (λ j r. Entry W N l.head l.tail (upd st w (waiting t)) j r) l.registration (t % N) (join t w)
            (inr (t, w, refl, refl, omega (arith, mine), hw, λ b. upd_same st w (waiting t)))
            (λ j n. entry_move (waiting t) l.head l.tail (omega arith) (omega arith) (λ u b q. clash (cc)) j);
        entered =
            upd_all
            (λ v y. (u : ℕ) → y ≡ waiting u → l.tail ≤ u → upd l.registration (t % N) (join t w) (u % N) ≡ join u v)
            st w (waiting t)
            (λ u q b. let z : t ≡ u = cc in rw (← z) (upd_same l.registration (t % N) (join t w)))
            (λ v n u q b. upd_other l.registration (t % N) (join t w) (u % N) (far v n u q b) ∙ i.entries.entered v u q b);
      }
    where
      mine : (N ≤ t) × (t < l.head) × (l.cell_ticket w < t)
      mine = rw e at (i.givens w)

      -- nobody else waits in this slot for a ticket that was not let in
      far : (v : ℕ) → v ≢ w → (u : ℕ) → st v ≡ waiting u → l.tail ≤ u → u % N ≢ t % N
      far v n u q b z =
          let his : (N ≤ u) × (u < l.head) = rw q at (i.givens v) in
          let few = room N i.tickets i.leader in
          let near : u ≡ t = near_mod N u t z (omega (arith, i.sizes, few, late i w t e)) (omega (arith, i.sizes, mine, few)) in
          n (i.tickets.apart v w (omega (arith, i.sizes, ap held q)) (omega (arith, ap held q, ap held e)))

  -- who holds the tail, if it is held
  only : (v : ℕ) → held (st v) ≡ l.tail → (u : ℕ) → held (st u) ≡ l.tail → u ≡ v
  only v e u q = i.tickets.apart u v (omega (arith, i.tickets.begun)) (omega arith)

  -- w owns the lock
  module _ (leads : Leads l.tail (l.cell_ticket w) (st w)) where
    others : (v : ℕ) → v ≢ w → Aside l.tail (l.cell_ticket v) (st v)
    others = (led_by i.leader w leads).1

    alone : (v : ℕ) → v ≢ w → st v ≡ serving → ⊥
    alone v n e = rw e at (others v n)

    cells_hand : (x : Stand) → x ≢ serving → Cells l.head (suc l.tail) l.cell_ticket (upd st w x)
    cells_hand x nx =
        record {
          given = i.cells.given;
          below = λ v. omega (arith, i.cells.below v);
          apart = i.cells.apart;
          filled = λ v e. absurd (omega (arith, i.cells.below v));
          served =
              upd_all (λ k y. y ≡ serving → (v : ℕ) × (upd st w x v ≡ waiting (suc l.tail)) × (l.cell_ticket v ≡ suc l.tail)) st w x
              (λ e. absurd (nx e))
              (λ k n e. absurd (alone k n e));
        }

  led_pass : st w ≡ serving → Led W l.head (suc l.tail) l.cell_ticket (upd st w owning)
  led_pass e =
      let leads : Leads l.tail (l.cell_ticket w) (st w) = rw e tt in
      let (v, q, c) = i.cells.served w e in
      let his : (N ≤ l.tail) × (l.tail < l.head) = rw q at (i.givens v) in
      led w hw his.1 (rw upd_same tt)
      (λ u n. rw upd_other (aside_more l.tail (l.cell_ticket u) (st u)
      (λ z. let y : u ≡ v = only v (ap held q) u z in (ap st y ∙ q, ap l.cell_ticket y ∙ c))
      (others leads u n)))

  led_leave : st w ≡ owning → Led W l.head (suc l.tail) l.cell_ticket (upd st w out)
  led_leave e = go (order l.tail l.head)
    where
      leads : Leads l.tail (l.cell_ticket w) (st w)
      leads = rw e tt

      below_head : (u : ℕ) → held (st u) ≡ l.tail → l.tail < l.head
      below_head u z =
          let begun = i.tickets.begun in
          omega (arith, z, begun, held_given N l.head (l.cell_ticket u) (st u) (i.givens u) (omega (arith, z, begun)))

      go : (l.tail < l.head) ⊎ (l.head ≤ l.tail) → Led W l.head (suc l.tail) l.cell_ticket (upd st w out)
      go (inl b) =
          let (v, h, q) = i.tickets.each l.tail (omega arith) b in
          let nw : v ≢ w = λ z. omega (arith, ap (λ (u : ℕ). held (st u)) z, ap held e, i.tickets.begun) in
          led v h b (rw upd_other (leads_next l.tail (l.cell_ticket v) (st v) (omega (arith, i.tickets.begun)) q (unfilled i w e v)))
          (upd_all (λ u y. u ≢ v → Aside (suc l.tail) (l.cell_ticket u) y) st w out (λ n. tt)
          (λ u m n. aside_more l.tail (l.cell_ticket u) (st u) (λ z. absurd (n (only v q u z))) (others leads u m)))
      go (inr b) =
          let (c, a) = led_by i.leader w leads in
          free (omega arith)
          (upd_all (λ u y. Aside (suc l.tail) (l.cell_ticket u) y) st w out tt
          (λ u m. aside_more l.tail (l.cell_ticket u) (st u) (λ z. absurd (omega (arith, below_head u z))) (a u m)))

  -- w fills the cell of v, who waits with the tail
  module _ (e : st w ≡ owning) (v : ℕ) (q : st v ≡ waiting l.tail) where
    his : (N ≤ l.tail) × (l.tail < l.head)
    his = rw q at (i.givens v)

    apart : v ≢ w
    apart z = let y : st v ≡ st w = ap st z in clash (cc)

    cells_fill : Cells l.head l.tail (upd l.cell_ticket v l.tail) (upd st w serving)
    cells_fill =
        record {
          given = upd_all (λ u c. c < l.head) l.cell_ticket v l.tail his.1 (λ u n. i.cells.given u);
          below = upd_all (λ u c. c ≤ l.tail) l.cell_ticket v l.tail (omega arith) (λ u n. i.cells.below u);
          apart =
              upd_all (λ u c. (k : ℕ) → c ≢ 0 → c ≡ upd l.cell_ticket v l.tail k → u ≡ k) l.cell_ticket v l.tail
              (upd_all (λ k d. l.tail ≢ 0 → l.tail ≡ d → v ≡ k) l.cell_ticket v l.tail
              (λ h z. refl)
              (λ k n h z. absurd (unfilled i w e k (sym z))))
              (λ u m.
              upd_all (λ k d. l.cell_ticket u ≢ 0 → l.cell_ticket u ≡ d → u ≡ k) l.cell_ticket v l.tail
              (λ h z. absurd (unfilled i w e u z))
              (λ k n. i.cells.apart u k));
          filled = λ u c. (w, upd_same st w serving);
          served =
              upd_all
              (λ k y. y ≡ serving → (u : ℕ) × (upd st w serving u ≡ waiting l.tail) × (upd l.cell_ticket v l.tail u ≡ l.tail))
              st w serving
              (λ z. (v, upd_other st w serving v apart ∙ q, upd_same l.cell_ticket v l.tail))
              (λ k n z. absurd (alone (rw e tt) k n z));
        }

    givens_fill : (u : ℕ) → Given N l.head (upd l.cell_ticket v l.tail u) (upd st w serving u)
    givens_fill =
        upd_all (λ u c. Given N l.head c (upd st w serving u)) l.cell_ticket v l.tail
        (rw (upd_other st w serving v apart, q) his)
        (λ u n. givens_move serving tt u)

    led_fill : Led W l.head l.tail (upd l.cell_ticket v l.tail) (upd st w serving)
    led_fill =
        let (b, a) = led_by i.leader w (rw e tt) in
        led w hw b (rw upd_same tt)
        (upd_all (λ u c. u ≢ w → Aside l.tail c (upd st w serving u)) l.cell_ticket v l.tail
        (λ n. rw (upd_other st w serving v apart, q) (λ h. absurd (omega arith)))
        (λ u m n. rw upd_other (a u n)))

  pub keeps : {op : Op} → Can N l (st w) w op → Inv W N (after N l w op) (upd st w (stand_after l op))
  unfolding after lock.take_ticket lock.register lock.fill lock.hand_over lock.is_free
  keeps (can_take e) =
      record {
        sizes = i.sizes;
        workers = workers_move (taken l.head);
        slots = i.slots;
        givens =
            upd_all (λ v y. Given N (suc l.head) (l.cell_ticket v) y) st w (taken l.head)
            (omega (arith, i.tickets.begun, free_or_led i.leader), omega arith, i.cells.given w)
            (λ v n. given_more N l.head (l.cell_ticket v) (st v) (i.givens v));
        tickets =
            tickets_move (taken l.head) (suc l.head) l.tail i.tickets.begun
            (λ v n h q. omega (arith, held_given N l.head (l.cell_ticket v) (st v) (i.givens v) (omega arith)))
            (λ t a h.
            ⊎_elim (λ (q : l.head ≡ t). inl q)
            (λ (q : l.head ≢ t). inr (a, omega arith, omega (arith, ap held e, i.tickets.begun)))
            (same l.head t));
        leader = led_take e;
        cells = cells_move (taken l.head) (suc l.head) (omega arith) (λ q. clash (cc)) (λ q. clash (cc)) (λ q. clash (cc));
        entries =
            entries_move (taken l.head) (suc l.head) l.tail (omega arith) (omega arith)
            (λ t a q. clash (cc))
            (λ t q. clash (cc));
      }
  keeps (can_register t e) =
      record {
        sizes = i.sizes;
        workers = workers_move (waiting t);
        slots = i.slots;
        givens = let g : (N ≤ t) × (t < l.head) × (l.cell_ticket w < t) = rw e at (i.givens w) in givens_move (waiting t) (omega arith);
        tickets = tickets_keep (waiting t) (sym (ap held e));
        leader = led_register t e (leads_or_aside i.leader w);
        cells = cells_move (waiting t) l.head (omega arith) (λ q. clash (cc)) (λ q. clash (cc)) (λ q. clash (cc));
        entries = entries_register t e;
      }
  keeps (can_own t e q) =
      let (turn, c) = rw q at (seen N l t w) in
      let h : t < l.tail = (slot_iff i w t e).0 turn in
      record {
        sizes = i.sizes;
        workers = workers_move owning;
        slots = i.slots;
        givens = givens_move owning tt;
        tickets = tickets_drop owning refl (omega (arith, ap held e));
        leader = led_own t e h c (leads_or_aside i.leader w);
        cells =
            cells_move owning l.head (omega arith) (λ z. clash (cc)) (λ z. clash (cc))
            (λ z. let y : t ≡ l.tail = cc in omega arith);
        entries =
            entries_move owning l.head l.tail (omega arith) (omega arith)
            (λ u a z. let y : t ≡ u = cc in omega arith)
            (λ u z. clash (cc));
      }
  keeps (can_receive t j e q) =
      let (turn, c, d) = rw q at (seen N l t w) in
      let h : t < l.tail = (slot_iff i w t e).0 turn in
      record {
        sizes = i.sizes;
        workers = workers_move out;
        slots = i.slots;
        givens = givens_move out tt;
        tickets = tickets_drop out refl (omega (arith, ap held e));
        leader = led_aside out (λ z. (rw e at z).1 c) tt;
        cells = cells_move out l.head (omega arith) (λ z. clash (cc)) (λ z. clash (cc)) (λ z. let y : t ≡ l.tail = cc in omega arith);
        entries =
            entries_move out l.head l.tail (omega arith) (omega arith)
            (λ u a z. let y : t ≡ u = cc in omega arith)
            (λ u z. clash (cc));
      }
  keeps (can_fill v j e f) =
      let q : st v ≡ waiting l.tail = (front_waits i v f).1 in
      record {
        sizes = i.sizes;
        workers = workers_move serving;
        slots = i.slots;
        givens = givens_fill e v q;
        tickets = tickets_keep serving (sym (ap held e));
        leader = led_fill e v q;
        cells = cells_fill e v q;
        entries = entries_move serving l.head l.tail (omega arith) (omega arith) (λ t a z. clash (cc)) (λ t z. clash (cc));
      }
  keeps (can_pass e) =
      record {
        sizes = i.sizes;
        workers = workers_move owning;
        slots = slots_handed N l.tail l.wait i.slots;
        givens = givens_move owning tt;
        tickets = tickets_hand owning refl (ap held e);
        leader = led_pass e;
        cells = cells_hand (rw e tt) owning (λ z. clash (cc));
        entries = entries_move owning l.head (suc l.tail) (omega arith) (omega arith) (λ t a z. clash (cc)) (λ t z. clash (cc));
      }
  keeps (can_leave e) =
      record {
        sizes = i.sizes;
        workers = workers_move out;
        slots = slots_handed N l.tail l.wait i.slots;
        givens = givens_move out tt;
        tickets = tickets_hand out refl (ap held e);
        leader = led_leave e;
        cells = cells_hand (rw e tt) out (λ z. clash (cc));
        entries = entries_move out l.head (suc l.tail) (omega arith) (omega arith) (λ t a z. clash (cc)) (λ t z. clash (cc));
      }
  keeps (can_try e f) =
      let q : l.tail ≡ suc l.head = eqb-true l.tail (suc l.head) f in
      record {
        sizes = i.sizes;
        workers = workers_move owning;
        slots = i.slots;
        givens =
            upd_all (λ v y. Given N (suc l.head) (l.cell_ticket v) y) st w owning tt
            (λ v n. given_more N l.head (l.cell_ticket v) (st v) (i.givens v));
        tickets = tickets_move owning (suc l.head) l.tail i.tickets.begun (λ v n h z. h refl) (λ t a h. absurd (omega arith));
        leader = led_try q;
        cells = cells_move owning (suc l.head) (omega arith) (λ z. clash (cc)) (λ z. clash (cc)) (λ z. clash (cc));
        entries = entries_move owning (suc l.head) l.tail (omega arith) (omega arith) (λ t a z. clash (cc)) (λ t z. clash (cc));
      }

pub starts : (W N : ℕ) → 0 < W → W ≤ N → Inv W N (start N) (λ _. out)
unfolding start
starts W N any fits =
    record {
      sizes = omega arith;
      workers = λ v h. refl;
      slots = slots_start N;
      givens = λ v. tt;
      tickets = record { begun = omega arith; apart = λ v w h e. absurd (h refl); each = λ t a b. absurd (omega arith) };
      leader = free refl (λ v. tt);
      cells =
          record {
            given = λ v. omega arith;
            below = λ v. omega arith;
            apart = λ v w h e. absurd (h refl);
            filled = λ v e. absurd (omega arith);
            served = λ w e. clash (cc);
          };
      entries = record { entry = λ j. inl refl; entered = λ v t e h. clash (cc) };
    }
