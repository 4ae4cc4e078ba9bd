-- The waiting figure: how many picks a registered worker waits at the most, where every B picks in a row include each worker.
use Rattle.std.specs.Prelude.{ℕ, suc, ◌+◌, ◌*◌, ◌-◌, ◌≤◌, ◌<◌, ◌≡◌, ◌⊎◌, ◌≢◌, Bool, List, length}
use Rattle.std.proofs.Common.{arith, suc-mul, add-one, sym, ap, ◌∙◌, inl, inr}
use Rattle.std.proofs.Math.Path.{refl}
use Rattle.std.proofs.Math.Logic.{⊎_elim}
use Rattle.std.proofs.Math.Bool.{true, false}
use Rattle.std.proofs.Math.Dec.{ltb}
use Rattle.runs.specs.Update.{same, order, upd_same, clash}
use Rattle.runs.specs.Picks.{Picks, Regular, Within}
use Rattle.runs.specs.Fair.{Turn, reaches, nearer, waits, fair_to}
use Rattle.lock.specs.Lock as L
use Rattle.lock.specs.History as H
use Rattle.lock.proofs.Promise as Promise
use Rattle.machine.specs.State.{Setup, Purpose, for_serving, for_adding, Place, idle, trying, registering, looking, draining, serving, handing, leaving, State, picked}
use Rattle.machine.specs.Event.{Event, registers, receives, owns, fills, hands_over, leaves, handed_by, event}
use Rattle.machine.specs.Events.{event_wait, event_receive, event_own}
use Rattle.machine.specs.Step.{apply, step, finished, pick, after_draining, next_drain}
use Rattle.machine.specs.Whereabouts.{lock_stand}
use Rattle.machine.specs.View as view
use Rattle.machine.specs.View.{Does}
use Rattle.machine.proofs.View.{does_step}
use Rattle.machine.proofs.Safety.Ends.{tail_apply, tail_kept, tail_raised, cells_kept}
use Rattle.machine.specs.Safety.Locked.{Locked}
use Rattle.machine.proofs.Safety.Locked.{locked_keep}
use Rattle.machine.proofs.Progress.Leading.{place_other, standing, Leads, leader_of, others_lock, others_lead}
use Rattle.machine.proofs.Safety.Traces.{pick_open, pick_finished, pick_keeps}
use Rattle.machine.specs.Progress.Waiting.{OutOfWait}

-- the picks of its own that a leader at a place needs up to its next hand-over
abbrev pub to_hand_over : ℕ → Place → ℕ
to_hand_over W idle = 0
to_hand_over W trying = 0
to_hand_over W (registering t) = W + 4
to_hand_over W (looking t) = W + 3
to_hand_over W (draining for_serving k) = W - k + 2
to_hand_over W (draining for_adding k) = W - k + 1
to_hand_over W (serving n) = 2
to_hand_over W (handing n) = 1
to_hand_over W leaving = 1

-- what one hand-over costs at the most
abbrev pub per_hand_over : ℕ → ℕ
per_hand_over W = 3 * W + 2

pub to_hand_over_le : (W : ℕ) (p : Place) → 0 < W → to_hand_over W p ≤ per_hand_over W
to_hand_over_le W idle h = omega arith
to_hand_over_le W trying h = omega arith
to_hand_over_le W (registering t) h = omega arith
to_hand_over_le W (looking t) h = omega arith
to_hand_over_le W (draining for_serving k) h = omega arith
to_hand_over_le W (draining for_adding k) h = omega arith
to_hand_over_le W (serving n) h = omega arith
to_hand_over_le W (handing n) h = omega arith
to_hand_over_le W leaving h = omega arith

-- who is out of the wait is out of the lock or owns it
pub out_stand : (c : Setup) (s : State) (w : ℕ) → OutOfWait c w s → (lock_stand (s.place w) ≡ H.out) ⊎ (lock_stand (s.place w) ≡ H.owning)
out_stand c s w = ⊎_elim (λ (i, z, r). inl (ap lock_stand z)) (λ z. inr (ap lock_stand z))

-- a waiting worker is out of the wait by the pick in which it receives a task or owns the lock, and by no other
pub out_by : (c : Setup) (s : State) (w t : ℕ) → s.place w ≡ looking t → OutOfWait c w (step c s w)
    → ((i : ℕ) × (event c s w ≡ receives t i)) ⊎ (event c s w ≡ owns t)
unfolding step
out_by c s w t p out = go (L.look c.slots s.lock t w) refl
  where
    still : L.look c.slots s.lock t w ≡ L.not_yet → (step c s w).place w ≡ looking t
    still e = rw (event_wait c s w p e, upd_same) p

    go : (x : L.Look) → L.look c.slots s.lock t w ≡ x → ((i : ℕ) × (event c s w ≡ receives t i)) ⊎ (event c s w ≡ owns t)
    go L.not_yet e = let q = ap lock_stand (still e) in ⊎_elim (λ z. clash (cc)) (λ z. clash (cc)) (out_stand c (step c s w) w out)
    go (L.receives i) e = inl (i, event_receive c s w p e)
    go L.owns e = inr (event_own c s w p e)

abbrev pub DrainsBelow : Setup → State → Type 0
DrainsBelow c s = (v : ℕ) (p : Purpose) (k : ℕ) → s.place v ≡ draining p k → k < c.workers

-- ---- the leader's own picks

-- a pick of the leader brings it nearer to its hand-over, or is that hand-over
pub data LeaderStep (c : Setup) (s u : State) (v : ℕ) : Type 0 where
  nearing : u.lock.tail ≡ s.lock.tail → Leads u v → to_hand_over c.workers (u.place v) < to_hand_over c.workers (s.place v)
      → LeaderStep c s u v
  handing_over : u.lock.tail ≡ suc s.lock.tail → 0 < to_hand_over c.workers (s.place v) → LeaderStep c s u v

module _ (c : Setup) (s : State) (i : Locked c s.lock s.place) (d : DrainsBelow c s) (v : ℕ) where
  not_out : {A : Type 0} (p : Place) → s.place v ≡ p → lock_stand p ≡ H.out → Leads s v → A
  not_out p e o (inl (inl q)) = let z : lock_stand p ≡ H.owning = ap lock_stand (sym e) ∙ q in clash (cc)
  not_out p e o (inl (inr q)) = let z : lock_stand p ≡ H.serving = ap lock_stand (sym e) ∙ q in clash (cc)
  not_out p e o (inr (t, inl q, a, b)) = let z : lock_stand p ≡ H.taken t = ap lock_stand (sym e) ∙ q in clash (cc)
  not_out p e o (inr (t, inr q, a, b)) = let z : lock_stand p ≡ H.waiting t = ap lock_stand (sym e) ∙ q in clash (cc)

  -- of a leader with a ticket it is the one below the tail, and its cell does not hold it
  called_with : (t : ℕ) → H.Holds (standing s v) t → Leads s v → (suc t ≡ s.lock.tail) × (s.lock.cell_ticket v ≢ t)
  called_with t h (inl o) = absurd (Promise.owner_none o h)
  called_with t h (inr (u, k, a, b)) =
      let e : u ≡ t = Promise.holds_one k h in
      (ap suc (sym e) ∙ a, λ z. b (z ∙ sym e))

  -- the place changes, and the worker owns or goes on owning
  owner_near : (u : State) (p q : Place) → s.place v ≡ p → u.place v ≡ q → u.lock.tail ≡ s.lock.tail → H.Owner (lock_stand q)
      → to_hand_over c.workers q < to_hand_over c.workers p → LeaderStep c s u v
  owner_near u p q e f a o l = nearing a (inl (rw f o)) (rw (e, f) l)

  drains_on : (p : Purpose) (k : ℕ) → k < c.workers
      → (H.Owner (lock_stand (next_drain c p k))) × (to_hand_over c.workers (next_drain c p k) < to_hand_over c.workers (draining p k))
  unfolding next_drain
  drains_on p k l = go p (ltb (suc k) c.workers) refl
    where
      go : (p : Purpose) (b : Bool) → ltb (suc k) c.workers ≡ b
          → (H.Owner (lock_stand (elim b [ true ↦ draining p (suc k) | false ↦ after_draining c p ])))
          × (to_hand_over c.workers (elim b [ true ↦ draining p (suc k) | false ↦ after_draining c p ])
          < to_hand_over c.workers (draining p k))
      go for_serving true e = (inl refl, omega arith)
      go for_serving false e = (inl refl, omega arith)
      go for_adding true e = (inl refl, omega arith)
      go for_adding false e = (inl refl, omega arith)

  pub leader_step : {e : Event} → Does c s v e → Leads s v → LeaderStep c s (apply c s v e) v
  leader_step (view.does_mind a p can) k = not_out idle p refl k
  leader_step (view.does_push j js r a l) k = not_out idle r.place refl k
  leader_step (view.does_find_full j js r a l) k = not_out idle r.place refl k
  leader_step (view.does_win p f) k = not_out trying p refl k
  leader_step (view.does_fail p f) k = not_out trying p refl k
  leader_step (view.does_take_ticket r a z) k = not_out idle r.place refl k
  leader_step (view.does_register t p) k =
      let (a, b) = called_with t (inl (ap lock_stand p)) k in
      let f = upd_same s.place v (looking t) in
      let z = tail_kept c s v (registers t) refl in
      nearing z (inr (t, inr (ap lock_stand f), a ∙ sym z, λ y. b (ap (λ g. g v) (sym (cells_kept c s v (registers t) refl).0) ∙ y)))
      (rw (p, f) (omega arith))
  leader_step (view.does_wait t p q) k =
      let (a, b) = called_with t (inr (ap lock_stand p)) k in
      let l : s.lock.tail ≤ t = (Promise.look_early i v t (ap lock_stand p)).0 q in
      absurd (omega arith)
  leader_step (view.does_receive t j p q) k =
      absurd ((called_with t (inr (ap lock_stand p)) k).1 ((Promise.look_served i v t (ap lock_stand p) j).0 q).1)
  leader_step (view.does_own t p q) k =
      owner_near _ (looking t) (draining for_serving 0) p (upd_same s.place v _) (tail_kept c s v (owns t) refl) (inl refl) (omega arith)
  leader_step (view.does_drain u n p) k =
      let (o, l) = drains_on u n (d v u n p) in owner_near _ (draining u n) (next_drain c u n) p (upd_same s.place v _) refl o l
  leader_step (view.does_fill n u j js p q f l) k =
      owner_near _ (serving n) (handing n) p (upd_same s.place v _) (tail_kept c s v (fills n u j js) refl) (inr refl) (omega arith)
  leader_step (view.does_take n j js p q) k = owner_near _ (serving n) leaving p (upd_same s.place v _) refl (inl refl) (omega arith)
  leader_step (view.does_take_none n p q) k = owner_near _ (serving n) leaving p (upd_same s.place v _) refl (inl refl) (omega arith)
  leader_step (view.does_hand_over n p) k = handing_over (tail_raised c s v (hands_over n (handed_by c s v)) refl) (rw p (omega arith))
  leader_step (view.does_leave p) k = handing_over (tail_raised c s v (leaves (handed_by c s v)) refl) (rw p (omega arith))

-- ---- the waiting worker

module _ (c : Setup) (any : 0 < c.workers) (w t : ℕ) where
  abbrev pub Goal : State → Type 0
  Goal s = (finished c s ≡ true) ⊎ OutOfWait c w s

  -- the picks of leaders until it is ticket t's turn, v leading now
  abbrev pub rank : State → ℕ → ℕ
  rank s v = (t - s.lock.tail) * per_hand_over c.workers + to_hand_over c.workers (s.place v)

  -- w waits with ticket t: it is its turn; or hand-overs are missing, and v leads
  pub data Waits (s : State) (r v : ℕ) : Type 0 where
    its_turn : s.place w ≡ looking t → t < s.lock.tail → v ≡ w → Waits s r v
    behind : s.place w ≡ looking t → s.lock.tail ≤ t → Leads s v → rank s v ≤ r → Waits s r v

  abbrev At : ℕ → ℕ → State → Type 0
  At r v s = Waits s r v

  -- the leader has no ticket from the tail on
  not_leader : (s : State) (v : ℕ) → s.place w ≡ looking t → s.lock.tail ≤ t → Leads s v → w ≢ v
  not_leader s v p l (inl o) e = Promise.owner_none o (inr (ap (λ (k : ℕ). lock_stand (s.place k)) (sym e) ∙ ap lock_stand p))
  not_leader s v p l (inr (u, h, a, b)) e =
      let z : u ≡ t = Promise.holds_one h (inr (ap (λ (k : ℕ). lock_stand (s.place k)) (sym e) ∙ ap lock_stand p)) in
      omega arith

  module _ (s : State) (i : Locked c s.lock s.place) (d : DrainsBelow c s) where
    -- its own pick changes nothing before its turn, and takes it out of the wait then
    looks : {e : Event} → Does c s w e → s.place w ≡ looking t
        → ((s.lock.tail ≤ t) × ((apply c s w e).place w ≡ looking t)) ⊎ OutOfWait c w (apply c s w e)
    looks (view.does_mind a q can) p = clash (cc)
    looks (view.does_push j js r a b) p = let q = r.place in clash (cc)
    looks (view.does_find_full j js r a b) p = let q = r.place in clash (cc)
    looks (view.does_win q f) p = clash (cc)
    looks (view.does_fail q f) p = clash (cc)
    looks (view.does_take_ticket r a z) p = let q = r.place in clash (cc)
    looks (view.does_register u q) p = clash (cc)
    looks (view.does_wait u q r) p =
        let z : looking u ≡ looking t = sym q ∙ p in
        let y : u ≡ t = cc in
        let k : s.lock.tail ≤ u = (Promise.look_early i w u (ap lock_stand q)).0 r in
        inl (omega arith, upd_same s.place w (s.place w) ∙ p)
    looks (view.does_receive u j q r) p = inr (inl (j, upd_same s.place w _, upd_same s.stand w _))
    looks (view.does_own u q r) p = inr (inr (upd_same s.place w _))
    looks (view.does_drain u k q) p = clash (cc)
    looks (view.does_fill n u j js q r f b) p = clash (cc)
    looks (view.does_take n j js q r) p = clash (cc)
    looks (view.does_take_none n q r) p = clash (cc)
    looks (view.does_hand_over n q) p = clash (cc)
    looks (view.does_leave q) p = clash (cc)

    module _ (x : ℕ) (hx : x < c.workers) {e : Event} (u : Does c s x e) where
      later : State
      later = apply c s x e

      Next : ℕ → ℕ → Type 0
      Next r v = Turn Goal At c.workers r v x (apply c s x e)

      elsewhere : x ≢ w → s.place w ≡ looking t → (apply c s x e).place w ≡ looking t
      elsewhere n p = place_other c s x e w (λ z. n (sym z)) ∙ p

      -- at its turn
      at_turn : (r v : ℕ) → s.place w ≡ looking t → t < s.lock.tail → v ≡ w → Next r v
      unfolding Next
      at_turn r v p l z =
          ⊎_elim own (λ (n : x ≢ w). waits (λ y. n (y ∙ z)) (its_turn (elsewhere n p) (omega (arith, tail_apply c s x e)) z)) (same x w)
        where
          own : x ≡ w → Turn Goal At c.workers r v x (apply c s x e)
          own y =
              ⊎_elim (λ (a, b). absurd (omega arith)) (λ (o : OutOfWait c w (apply c s w e)). reaches (inr (rw y o))) (looks (rw y at u) p)

      -- behind a leader that is not picked
      not_picked : (r v : ℕ) → s.place w ≡ looking t → s.lock.tail ≤ t → Leads s v → rank s v ≤ r
          → x ≢ v → Next r v
      unfolding Next
      not_picked r v p l k b n = ⊎_elim own (λ (m : x ≢ w). on (elsewhere m p)) (same x w)
        where
          on : (apply c s x e).place w ≡ looking t → Turn Goal At c.workers r v x (apply c s x e)
          on q =
              let (a, _) = others_lock c s i v k x n u in
              let f = place_other c s x e v (λ z. n (sym z)) in
              waits n (behind q (omega arith) (others_lead c s i v k x n u) (rw (a, f) b))

          own : x ≡ w → Turn Goal At c.workers r v x (apply c s x e)
          own y = ⊎_elim (λ (a, q). on (rw y q)) (λ (o : OutOfWait c w (apply c s w e)). reaches (inr (rw y o))) (looks (rw y at u) p)

      -- behind the leader that is picked
      picked_leader : (hw : w < c.workers) → Locked c (apply c s x e).lock (apply c s x e).place
          → (r : ℕ) → s.place w ≡ looking t → s.lock.tail ≤ t → Leads s x → rank s x ≤ r → Next r x
      unfolding Next
      picked_leader hw j r p l k b = go (leader_step c s i d x u k)
        where
          still : (apply c s x e).place w ≡ looking t
          still = elsewhere (λ z. not_leader s x p l k (sym z)) p

          go : LeaderStep c s (apply c s x e) x → Turn Goal At c.workers r x x (apply c s x e)
          go (nearing a m f) =
              nearer (rank (apply c s x e) x) x (omega (arith, ap (λ (z : ℕ). (t - z) * per_hand_over c.workers) a)) hx
              (behind still (omega arith) m (omega arith))
          go (handing_over a f) = ⊎_elim come missing (order t (apply c s x e).lock.tail)
            where
              come : t < (apply c s x e).lock.tail → Turn Goal At c.workers r x x (apply c s x e)
              come z = nearer 0 w (omega arith) hw (its_turn still z refl)

              missing : (apply c s x e).lock.tail ≤ t → Turn Goal At c.workers r x x (apply c s x e)
              missing z =
                  let (v, hv, m) = leader_of c (apply c s x e) j w t (inr (ap lock_stand still)) z in
                  let less : t - s.lock.tail ≡ suc (t - (apply c s x e).lock.tail) = omega arith in
                  nearer (rank (apply c s x e) v) v
                  (omega (
                    arith,
                    ap (λ (y : ℕ). y * per_hand_over c.workers) less
                        ∙ suc-mul (t - (apply c s x e).lock.tail) (per_hand_over c.workers),
                    to_hand_over_le c.workers ((apply c s x e).place v) any,
                  ))
                  hv (behind still z m (omega arith))

      pub turn_at : (hw : w < c.workers) → Locked c (apply c s x e).lock (apply c s x e).place → (r v : ℕ) → Waits s r v
          → Turn Goal At c.workers r v x (apply c s x e)
      unfolding Next
      turn_at hw j r v (its_turn p l z) = at_turn r v p l z
      turn_at hw j r v (behind p l k b) =
          ⊎_elim (λ (z : x ≡ v). rw (← z) (picked_leader hw j r p l (rw z k) (rw z b))) (λ n. not_picked r v p l k b n) (same x v)

-- ---- the figure

module _ (c : Setup) (any : 0 < c.workers) (Inv : State → Type 0)
    (locked : (s : State) → Inv s → Locked c s.lock s.place)
    (below : (s : State) → Inv s → DrainsBelow c s)
    (keep : (s : State) (x : ℕ) → x < c.workers → Inv s → Inv (step c s x))
    (w t : ℕ) (hw : w < c.workers)
  where
    keep_pick : (s : State) (x : ℕ) → x < c.workers → Inv s → Inv (pick c s x)
    keep_pick = pick_keeps c Inv keep

    counted : (s : State) (r v : ℕ) → Waits c any w t s r v → Waits c any w t (picked s) r v
    counted s r v (its_turn p l z) = its_turn p l z
    counted s r v (behind p l k b) = behind p l k b

    turn : (s : State) (r v x : ℕ) → v < c.workers → x < c.workers → Inv s → Waits c any w t s r v
        → Turn (Goal c any w t) (λ r v s. Waits c any w t s r v) c.workers r v x (pick c s x)
    unfolding step
    turn s r v x hv hx j a = go (finished c s) refl
      where
        go : (b : Bool) → finished c s ≡ b → Turn (Goal c any w t) (λ r v s. Waits c any w t s r v) c.workers r v x (pick c s x)
        go true e = rw (pick_finished c s x e) (reaches (inl e))
        go false e =
            rw (pick_open c s x e)
            (turn_at c any w t (picked s) (locked s j) (below s j) x hx (does_step c s x) hw
            (locked_keep c (picked s) x (locked s j) hx (does_step c s x)) r v (counted s r v a))

    -- a worker that waits with ticket t, at distance d now, has received a task or owns the lock within (d (3W + 2) + 1) B picks,
    -- or the run is finished by then, or the list ends first
    pub waiting_figure_lem : (s : State) → Inv s → s.place w ≡ looking t → (B : ℕ) (ws : List ℕ) → Picks c.workers ws
        → Regular c.workers B ws
        → Within (pick c) (λ u. (finished c u ≡ true) ⊎ OutOfWait c w u) ((L.distance s.lock t * (3 * c.workers + 2) + 1) * B) ws s
        ⊎ (length ws < (L.distance s.lock t * (3 * c.workers + 2) + 1) * B)
    waiting_figure_lem s j p B ws h g = rw add-one (⊎_elim come missing (order t s.lock.tail))
      where
        Figure : Type 0
        Figure =
            Within (pick c) (λ u. (finished c u ≡ true) ⊎ OutOfWait c w u) (suc (L.distance s.lock t * (3 * c.workers + 2)) * B) ws s
            ⊎ (length ws < suc (L.distance s.lock t * (3 * c.workers + 2)) * B)

        from : (v : ℕ) → v < c.workers → Waits c any w t s (L.distance s.lock t * (3 * c.workers + 2)) v → Figure
        from v hv a =
            fair_to (pick c) Inv (Goal c any w t) (λ r v s. Waits c any w t s r v) c.workers B keep_pick turn ws h g s j _ v hv a

        come : t < s.lock.tail → Figure
        come l = from w hw (its_turn p l refl)

        missing : s.lock.tail ≤ t → Figure
        missing l =
            let (v, hv, k) = leader_of c s (locked s j) w t (inr (ap lock_stand p)) l in
            let next : L.distance s.lock t ≡ suc (t - s.lock.tail) = omega arith in
            from v hv
            (behind p l k
            (omega (
              arith,
              ap (λ (y : ℕ). y * per_hand_over c.workers) next ∙ suc-mul (t - s.lock.tail) (per_hand_over c.workers),
              to_hand_over_le c.workers (s.place v) any,
            )))
