-- A quiet pick brings progress nearer: a helpful worker's own pick leaves it, or another worker, fewer
-- picks to go, and other picks leave it as many.
use Rattle.std.specs.Prelude.{ℕ, suc, ◌+◌, ◌*◌, ◌-◌, ◌≤◌, ◌<◌, ◌≡◌, refl, ◌⊎◌, ◌≢◌, Bool, true, false, [], length, ltb}
use Rattle.std.proofs.Common.{arith, suc-mul, sym, ap, ◌∙◌, inl, inr, ⊎_elim, lt-ltb}
use Rattle.runs.specs.Update.{same, order, upd, upd_same, clash}
use Rattle.runs.specs.Fair.{Turn, nearer, waits}
use Rattle.lock.specs.Lock as L
use Rattle.lock.specs.History as H
use Rattle.lock.proofs.Promise as Promise
use Rattle.machine.specs.State.{Setup, Purpose, for_serving, for_adding, Place, idle, trying, registering, looking, draining, serving, handing, leaving, State}
use Rattle.machine.specs.Event.{Event, tries_and_owns, takes_ticket, registers, owns, hands_over, may, handed_by}
use Rattle.machine.proofs.Ready.{none_chosen}
use Rattle.machine.specs.Step.{apply, after_draining, next_drain}
use Rattle.machine.specs.Whereabouts.{lock_stand}
use Rattle.machine.specs.View.{AtRest, AllCreated, Does}
use Rattle.machine.specs.Safety.Locked.{Locked}
use Rattle.machine.proofs.Safety.Locked.{waits_at}
use Rattle.machine.proofs.Safety.Device.{drains_below}
use Rattle.machine.proofs.Safety.Ends.{tail_apply, tail_kept, tail_raised, cells_kept}
use Rattle.machine.specs.Safety.Invariant.{Playable, Inv}
use Rattle.machine.proofs.Safety.Invariant.{inv_keep}
use Rattle.machine.proofs.Progress.Leading.{place_other, standing, Leads, leader_of, others_lock, others_lead}
use Rattle.machine.proofs.Progress.Waiting.{to_hand_over, per_hand_over, to_hand_over_le, LeaderStep, nearing, handing_over, leader_step}
use Rattle.machine.proofs.Progress.Quiet.{Quiet, quiet_full, quiet_win, quiet_fail, quiet_ticket, quiet_register, quiet_wait, quiet_own, quiet_drain, quiet_none, quiet_hand, quiet_leave, Unmoved, unmoved}
use Rattle.machine.proofs.Progress.Creating.{Soon, drain_soon}
use Rattle.machine.proofs.Progress.Helpful.{Prompt, Near, to_idle, FindsQueue, FindsList, Uncreated, Eager, MayRun, Ahead, Sure, to_turn, to_find, Helpful, prompt, hands_on_lem, takes_along, eager, leads_to, leads_past, near, seeks, leads_before, called_helps, due_helps, holder_helps, free_tail, free_unowned, free_served, free_registered, free_helps}

-- a drain that is not the last leads to the next one
drains_next : (c : Setup) (p : Purpose) (k : ℕ) → suc k < c.workers → next_drain c p k ≡ draining p (suc k)
unfolding next_drain
drains_next c p k l = rw (lt-ltb (suc k) c.workers l, next_drain)

drain_to_idle : (c : Setup) (k : ℕ) → k < c.workers
    → to_idle c.workers (next_drain c for_adding k) < to_idle c.workers (draining for_adding k)
unfolding next_drain
drain_to_idle c k l = go (ltb (suc k) c.workers)
  where
    go : (b : Bool) → to_idle c.workers (elim b [ true ↦ draining for_adding (suc k) | false ↦ after_draining c for_adding ])
        < to_idle c.workers (draining for_adding k)
    go true = omega arith
    go false = omega arith

drain_finds_list : (c : Setup) (k : ℕ) → FindsList (next_drain c for_serving k)
unfolding next_drain
drain_finds_list c k = go (ltb (suc k) c.workers)
  where
    go : (b : Bool) → FindsList (elim b [ true ↦ draining for_serving (suc k) | false ↦ after_draining c for_serving ])
    go true = tt
    go false = tt

-- ---- a helpful worker's own pick

module _ (c : Setup) (s : State) (v : ℕ) where
  -- worker v comes to another place
  comes : (P : Place → Type 0) (p : Place) → P p → P (upd s.place v p v)
  comes P p h = rw (upd_same s.place v p) h

  takes_along_step : {e : Event} → Quiet c s v e → s.place v ≡ leaving → (apply c s v e).place v ≡ idle
  takes_along_step (quiet_full j js r a l) h = let p = r.place in clash (cc)
  takes_along_step (quiet_win p f) h = clash (cc)
  takes_along_step (quiet_fail p f) h = clash (cc)
  takes_along_step (quiet_ticket r d z) h = let p = r.place in clash (cc)
  takes_along_step (quiet_register t p) h = clash (cc)
  takes_along_step (quiet_wait t p l) h = clash (cc)
  takes_along_step (quiet_own t p l) h = clash (cc)
  takes_along_step (quiet_drain u k p z) h = clash (cc)
  takes_along_step (quiet_none n p z) h = clash (cc)
  takes_along_step (quiet_hand n p) h = clash (cc)
  takes_along_step (quiet_leave p) h = upd_same s.place v idle

  -- a quiet hand-over: the owner stays, or it leaves
  hands_over_lem : {e : Event} → Quiet c s v e → (apply c s v e).lock.tail ≡ suc s.lock.tail
      → ((n : ℕ) × (s.place v ≡ handing n)) ⊎ ((standing s v ≡ H.owning) × (standing (apply c s v e) v ≡ H.out))
  hands_over_lem (quiet_full j js r a l) y = absurd (omega arith)
  hands_over_lem (quiet_win p f) y = absurd (omega (arith, tail_kept c s v tries_and_owns refl))
  hands_over_lem (quiet_fail p f) y = absurd (omega arith)
  hands_over_lem (quiet_ticket r d z) y = absurd (omega (arith, tail_kept c s v takes_ticket refl))
  hands_over_lem (quiet_register t p) y = absurd (omega (arith, tail_kept c s v (registers t) refl))
  hands_over_lem (quiet_wait t p l) y = absurd (omega arith)
  hands_over_lem (quiet_own t p l) y = absurd (omega (arith, tail_kept c s v (owns t) refl))
  hands_over_lem (quiet_drain u k p z) y = absurd (omega arith)
  hands_over_lem (quiet_none n p z) y = absurd (omega arith)
  hands_over_lem (quiet_hand n p) y = inl (n, p)
  hands_over_lem (quiet_leave p) y = inr (ap lock_stand p, ap lock_stand (upd_same s.place v idle))

  -- a leader on its way to queue j stays on it, and so does one on its way to the ready list
  queue_step : {e : Event} → Quiet c s v e → (j : ℕ) → j < c.workers → 0 < length (s.queue j) → FindsQueue j (s.place v)
      → FindsQueue j ((apply c s v e).place v) × ((apply c s v e).lock.tail ≡ s.lock.tail)
  queue_step (quiet_full i is r a l) j b g h = absurd (rw r.place at h)
  queue_step (quiet_win p f) j b g h = absurd (rw p at h)
  queue_step (quiet_fail p f) j b g h = absurd (rw p at h)
  queue_step (quiet_ticket r d z) j b g h = absurd (rw r.place at h)
  queue_step (quiet_register t p) j b g h = (comes (FindsQueue j) (looking t) tt, tail_kept c s v (registers t) refl)
  queue_step (quiet_wait t p l) j b g h = (comes (FindsQueue j) (s.place v) h, refl)
  queue_step (quiet_own t p l) j b g h = (comes (FindsQueue j) (draining for_serving 0) (omega arith), tail_kept c s v (owns t) refl)
  queue_step (quiet_drain u k p z) j b g h =
      let below : k ≤ j = rw p at h in
      let other : k ≢ j = λ y. omega (arith, ap length (ap s.queue (sym y) ∙ z)) in
      (comes (FindsQueue j) (next_drain c u k) (rw (drains_next c u k (omega arith)) (omega arith)), refl)
  queue_step (quiet_none n p z) j b g h = absurd (rw p at h)
  queue_step (quiet_hand n p) j b g h = absurd (rw p at h)
  queue_step (quiet_leave p) j b g h = absurd (rw p at h)

  list_step : {e : Event} → Quiet c s v e → MayRun c s.ready_list v → FindsList (s.place v)
      → FindsList ((apply c s v e).place v) × ((apply c s v e).lock.tail ≡ s.lock.tail)
  list_step (quiet_full i is r a l) g h = absurd (rw r.place at h)
  list_step (quiet_win p f) g h = absurd (rw p at h)
  list_step (quiet_fail p f) g h = absurd (rw p at h)
  list_step (quiet_ticket r d z) g h = absurd (rw r.place at h)
  list_step (quiet_register t p) g h = (comes FindsList (looking t) tt, tail_kept c s v (registers t) refl)
  list_step (quiet_wait t p l) g h = (comes FindsList (s.place v) h, refl)
  list_step (quiet_own t p l) g h = (comes FindsList (draining for_serving 0) tt, tail_kept c s v (owns t) refl)
  list_step (quiet_drain for_serving k p z) g h = (comes FindsList (next_drain c for_serving k) (drain_finds_list c k), refl)
  list_step (quiet_drain for_adding k p z) g h = absurd (rw p at h)
  list_step (quiet_none n p z) (i, l, m) h = let k = none_chosen (may c v) s.ready_list z i l in clash (cc)
  list_step (quiet_hand n p) g h = absurd (rw p at h)
  list_step (quiet_leave p) g h = absurd (rw p at h)

  sure_step : {e : Event} → Quiet c s v e → Sure c s.queue s.ready_list v (s.place v)
      → Sure c s.queue s.ready_list v ((apply c s v e).place v) × ((apply c s v e).lock.tail ≡ s.lock.tail)
  sure_step q (inl (j, b, g, h)) = let (k, z) = queue_step q j b g h in (inl (j, b, g, k), z)
  sure_step q (inr (g, h)) = let (k, z) = list_step q g h in (inr (g, k), z)

module _ (c : Setup) (playable : Playable c) (s : State) (i : Inv c s) (v : ℕ) (hv : v < c.workers) where
  -- a worker at rest has nothing in hand
  at_rest : AtRest s v → Prompt s.lock.tail (s.lock.cell_ticket v) (s.stand v) (s.place v) → ⊥
  at_rest r h = rw (r.place, r.stand) at h

  not_prompt : {e : Event} → Quiet c s v e → Prompt s.lock.tail (s.lock.cell_ticket v) (s.stand v) (s.place v) → ⊥
  not_prompt (quiet_full j js r a l) h = at_rest r h
  not_prompt (quiet_win p f) h = rw p at h
  not_prompt (quiet_fail p f) h = rw p at h
  not_prompt (quiet_ticket r d z) h = at_rest r h
  not_prompt (quiet_register t p) h = rw p at h
  not_prompt (quiet_wait t p l) h = let (a, b) = rw p at h in omega (arith, (Promise.look_early i.locked v t (ap lock_stand p)).0 l)
  not_prompt (quiet_own t p l) h = let (a, b) = rw p at h in ((Promise.look_called i.locked v t (ap lock_stand p)).0 l).1 b
  not_prompt (quiet_drain u k p z) h = rw p at h
  not_prompt (quiet_none n p z) h = rw p at h
  not_prompt (quiet_hand n p) h = rw p at h
  not_prompt (quiet_leave p) h = rw p at h

  -- a hand-over after a fill: the turn of the waiter with the filled cell has come
  fill_step : {e : Event} → Quiet c s v e → (m : ℕ) → s.place v ≡ handing m
      → (w : ℕ) × (w < c.workers)
      × Prompt (apply c s v e).lock.tail ((apply c s v e).lock.cell_ticket w) ((apply c s v e).stand w) ((apply c s v e).place w)
  fill_step (quiet_full j js r a l) k h = let p = r.place in clash (cc)
  fill_step (quiet_win p f) k h = clash (cc)
  fill_step (quiet_fail p f) k h = clash (cc)
  fill_step (quiet_ticket r d z) k h = let p = r.place in clash (cc)
  fill_step (quiet_register t p) k h = clash (cc)
  fill_step (quiet_wait t p l) k h = clash (cc)
  fill_step (quiet_own t p l) k h = clash (cc)
  fill_step (quiet_drain u n p z) k h = clash (cc)
  fill_step (quiet_none n p z) k h = clash (cc)
  fill_step (quiet_hand n p) m h =
      let (w, b, (st, ticket, task)) = Promise.serving_cell i.locked v (ap lock_stand p) in
      let at : s.place w ≡ looking s.lock.tail = waits_at (s.place w) s.lock.tail st in
      let other : w ≢ v = λ z. let y : s.place w ≡ s.place v = ap s.place z in clash (cc) in (
        w,
        b,
        rw (place_other c s v (hands_over n (handed_by c s v)) w other, at) (
          omega (arith, tail_raised c s v (hands_over n (handed_by c s v)) refl),
          ap (λ f. f w) (cells_kept c s v (hands_over n (handed_by c s v)) refl).0 ∙ ticket,
        ),
      )
  fill_step (quiet_leave p) k h = clash (cc)

  -- an eager worker comes nearer to being idle
  eager_step : {e : Event} → Quiet c s v e → Eager c s.queue s.tasks.mail s.tasks.adds s.tasks.creation v → Soon (s.place v)
      → Soon ((apply c s v e).place v) × (to_idle c.workers ((apply c s v e).place v) < to_idle c.workers (s.place v))
  eager_step (quiet_full j js r a l) (empty, u) h = absurd (omega (arith, playable.room, ap length (empty v hv)))
  eager_step (quiet_win p f) g h = rw (upd_same s.place v (draining for_adding 0), p) (tt, omega arith)
  eager_step (quiet_fail p f) g h = rw (upd_same s.place v idle, p) (tt, omega arith)
  eager_step (quiet_ticket r d z) (empty, u) h = absurd (rests u z)
    where
      rests : (0 < length (s.tasks.mail v)) ⊎ (0 < length (s.tasks.adds v)) ⊎ ((v ≡ 0) × Uncreated c s.tasks.creation)
          → (v ≢ 0) ⊎ AllCreated c s → ⊥
      rests (inl l) z = omega (arith, ap length r.mail)
      rests (inr (inl l)) z = omega (arith, ap length d)
      rests (inr (inr (y, k))) (inl n) = n y
      rests (inr (inr (y, k))) (inr (j, e, l)) = let g : j < length c.tasks = rw e at k in omega arith
  eager_step (quiet_register t p) g h = absurd (rw p at h)
  eager_step (quiet_wait t p l) g h = absurd (rw p at h)
  eager_step (quiet_own t p l) g h = absurd (rw p at h)
  eager_step (quiet_drain for_serving k p z) g h = absurd (rw p at h)
  eager_step (quiet_drain for_adding k p z) g h =
      rw (upd_same s.place v (next_drain c for_adding k), p)
      (drain_soon c k, drain_to_idle c k (drains_below c s i.device v for_adding k p))
  eager_step (quiet_none n p z) g h = absurd (rw p at h)
  eager_step (quiet_hand n p) g h = absurd (rw p at h)
  eager_step (quiet_leave p) g h = rw (upd_same s.place v idle, p) (tt, omega arith)

  -- a worker that seeks a ticket comes nearer to being idle, or has one
  seek_step : {e : Event} → Quiet c s v e → s.tasks.adds v ≡ [] → Soon (s.place v)
      → (Soon ((apply c s v e).place v) × (to_idle c.workers ((apply c s v e).place v) < to_idle c.workers (s.place v)))
      ⊎ H.Holds (standing (apply c s v e) v) s.lock.head
  seek_step (quiet_full j js r a l) z h = clash (cc)
  seek_step (quiet_win p f) z h = inl (rw (upd_same s.place v (draining for_adding 0), p) (tt, omega arith))
  seek_step (quiet_fail p f) z h = inl (rw (upd_same s.place v idle, p) (tt, omega arith))
  seek_step (quiet_ticket r d y) z h = inr (inl (ap lock_stand (upd_same s.place v (registering s.lock.head))))
  seek_step (quiet_register t p) z h = absurd (rw p at h)
  seek_step (quiet_wait t p l) z h = absurd (rw p at h)
  seek_step (quiet_own t p l) z h = absurd (rw p at h)
  seek_step (quiet_drain for_serving k p y) z h = absurd (rw p at h)
  seek_step (quiet_drain for_adding k p y) z h =
      inl
      (rw (upd_same s.place v (next_drain c for_adding k), p)
      (drain_soon c k, drain_to_idle c k (drains_below c s i.device v for_adding k p)))
  seek_step (quiet_none n p y) z h = absurd (rw p at h)
  seek_step (quiet_hand n p) z h = absurd (rw p at h)
  seek_step (quiet_leave p) z h = inl (rw (upd_same s.place v idle, p) (tt, omega arith))

  -- a worker here has no ticket
  unheld : {A : Type 0} (p : Place) (t : ℕ) → s.place v ≡ p → (lock_stand p ≡ H.out) ⊎ H.Owner (lock_stand p) → H.Holds (standing s v) t → A
  unheld p t e (inl o) (inl y) = let z : lock_stand p ≡ H.taken t = ap lock_stand (sym e) ∙ y in clash (cc)
  unheld p t e (inl o) (inr y) = let z : lock_stand p ≡ H.waiting t = ap lock_stand (sym e) ∙ y in clash (cc)
  unheld p t e (inr o) h = absurd (Promise.owner_none (rw (← e) at o) h)

  -- a quiet pick of a worker whose turn has not come leaves it its ticket
  holds_on : {e : Event} → Quiet c s v e → (t : ℕ) → H.Holds (standing s v) t → s.lock.tail ≤ t → H.Holds (standing (apply c s v e) v) t
  holds_on (quiet_full j js r a l) t h b = unheld idle t r.place (inl refl) h
  holds_on (quiet_win p f) t h b = unheld trying t p (inl refl) h
  holds_on (quiet_fail p f) t h b = unheld trying t p (inl refl) h
  holds_on (quiet_ticket r d z) t h b = unheld idle t r.place (inl refl) h
  holds_on (quiet_register u p) t h b =
      let z : u ≡ t = Promise.holds_one (inl (ap lock_stand p)) h in
      inr (ap lock_stand (upd_same s.place v (looking u)) ∙ ap H.waiting z)
  holds_on (quiet_wait u p l) t h b = rw (upd_same s.place v (s.place v)) h
  holds_on (quiet_own u p l) t h b =
      let z : u ≡ t = Promise.holds_one (inr (ap lock_stand p)) h in
      absurd (omega (arith, ((Promise.look_called i.locked v u (ap lock_stand p)).0 l).0))
  holds_on (quiet_drain u k p z) t h b = unheld (draining u k) t p (inr (inl refl)) h
  holds_on (quiet_none n p z) t h b = unheld (serving n) t p (inr (inl refl)) h
  holds_on (quiet_hand n p) t h b = unheld (handing n) t p (inr (inr refl)) h
  holds_on (quiet_leave p) t h b = unheld leaving t p (inr (inl refl)) h

-- who has a ticket whose turn has not come does not lead
not_leading : (s : State) (u v t : ℕ) → H.Holds (standing s u) t → s.lock.tail ≤ t → Leads s v → u ≢ v
not_leading s u v t h l (inl o) e = Promise.owner_none o (rw e at h)
not_leading s u v t h l (inr (a, k, b, d)) e = let z : a ≡ t = Promise.holds_one k (rw e at h) in omega arith

-- ---- a pick near a free lock

-- the picked worker finds its queue full, and is about to try the lock; or it leads, with its session before it
data FreeStep (c : Setup) (s u : State) (x : ℕ) : Type 0 where
  is_full : s.place x ≡ idle → u.place x ≡ trying → L.is_free u.lock ≡ true → FreeStep c s u x
  takes_lead : Leads u x → Sure c s.queue s.ready_list x (u.place x)
      → to_hand_over c.workers (u.place x) ≤ c.workers + 4 → FreeStep c s u x

module _ (c : Setup) (s : State) (i : Inv c s) (a : Ahead c s.queue s.ready_list s.tasks.adds) (free : L.is_free s.lock ≡ true)
    (x : ℕ) (hx : x < c.workers) where
  free_step : {e : Event} → Quiet c s x e → Locked c (apply c s x e).lock (apply c s x e).place → FreeStep c s (apply c s x e) x
  free_step (quiet_full j js r d l) k = is_full r.place (upd_same s.place x trying) free
  free_step (quiet_win p f) k =
      let at = upd_same s.place x (draining for_adding 0) in
      takes_lead (inl (inl (ap lock_stand at))) (rw at (sure a)) (rw at (omega arith))
    where
      -- it has a task to add
      sure : Ahead c s.queue s.ready_list s.tasks.adds → Sure c s.queue s.ready_list x (draining for_adding 0)
      sure (inl (j, b, g)) = inl (j, b, g, omega arith)
      sure (inr (g, unadded)) = let (_, _, more) = rw p at (i.device.fits x) in absurd (omega (arith, more, ap length (unadded x hx)))
  free_step (quiet_fail p f) k = let z = sym free ∙ f in clash (cc)
  free_step (quiet_ticket r d z) k =
      let at = upd_same s.place x (registering s.lock.head) in
      takes_lead
      (inr (
        s.lock.head,
        inl (ap lock_stand at),
        sym (free_tail c s i.locked free) ∙ sym (tail_kept c s x takes_ticket refl),
        λ y. omega (arith, Promise.ticket_new k x s.lock.head (ap lock_stand at)),
      ))
      (rw at (⊎_elim (λ (j, b, g). inl (j, b, g, tt)) (λ (g, n). inr (g x hx, tt)) a)) (rw at (omega arith))
  free_step (quiet_register t p) k = free_registered c s i.locked free x t (ap lock_stand p)
  free_step (quiet_wait t p l) k =
      let (b, z, y) = free_served c s i.locked free x t (inr (ap lock_stand p)) in
      absurd (omega (arith, (Promise.look_early i.locked x t (ap lock_stand p)).0 l))
  free_step (quiet_own t p l) k =
      let (b, z, y) = free_served c s i.locked free x t (inr (ap lock_stand p)) in
      absurd (((Promise.look_called i.locked x t (ap lock_stand p)).0 l).1 y)
  free_step (quiet_drain u n p z) k = free_unowned c s i.locked free x (inl (ap lock_stand p))
  free_step (quiet_none n p z) k = free_unowned c s i.locked free x (inl (ap lock_stand p))
  free_step (quiet_hand n p) k = free_unowned c s i.locked free x (inr (ap lock_stand p))
  free_step (quiet_leave p) k = free_unowned c s i.locked free x (inl (ap lock_stand p))

nears : (W r : ℕ) (p : Place) → Near W r p → W + 4 < r
nears W r idle h = omega arith
nears W r trying h = omega arith
nears W r (registering t) h = absurd h
nears W r (looking t) h = absurd h
nears W r (draining p k) h = absurd h
nears W r (serving n) h = absurd h
nears W r (handing n) h = absurd h
nears W r leaving h = absurd h

-- ---- any quiet pick

module _ (c : Setup) (playable : Playable c) (Goal : State → Type 0) (s : State) (i : Inv c s) (x : ℕ) (hx : x < c.workers) {e : Event}
    (d : Does c s x e) (q : Quiet c s x e) where
  abbrev Next : ℕ → ℕ → Type 0
  Next r v = Turn Goal (λ r v s. Helpful c s r v) c.workers r v x (apply c s x e)

  still : Unmoved s (apply c s x e)
  still = unmoved c s x q

  after_inv : Inv c (apply c s x e)
  after_inv = inv_keep c playable s i x hx d

  still_at : (P : Place → Type 0) (v : ℕ) → x ≢ v → P (s.place v) → P ((apply c s x e).place v)
  still_at P v n h = rw (place_other c s x e v (λ z. n (sym z))) h

  still_ahead : Ahead c s.queue s.ready_list s.tasks.adds
      → Ahead c (apply c s x e).queue (apply c s x e).ready_list (apply c s x e).tasks.adds
  still_ahead a = rw (still.queue, still.ready_list, still.tasks) a

  still_sure : (v : ℕ) (p : Place) → Sure c s.queue s.ready_list v p → Sure c (apply c s x e).queue (apply c s x e).ready_list v p
  still_sure v p a = rw (still.queue, still.ready_list) a

  still_may : (v : ℕ) → MayRun c s.ready_list v → MayRun c (apply c s x e).ready_list v
  still_may v m = rw still.ready_list m

  still_eager : (v : ℕ) → Eager c s.queue s.tasks.mail s.tasks.adds s.tasks.creation v
      → Eager c (apply c s x e).queue (apply c s x e).tasks.mail (apply c s x e).tasks.adds (apply c s x e).tasks.creation v
  still_eager v a = rw (still.queue, still.tasks) a

  still_prompt : (v : ℕ) (p : Place) → Prompt s.lock.tail (s.lock.cell_ticket v) (s.stand v) p
      → Prompt (apply c s x e).lock.tail ((apply c s x e).lock.cell_ticket v) ((apply c s x e).stand v) p
  still_prompt v idle k = rw still.stand k
  still_prompt v trying k = k
  still_prompt v (registering t) k = k
  still_prompt v (looking t) (l, k) = rw still.cells (omega (arith, tail_apply c s x e), k)
  still_prompt v (draining p m) k = k
  still_prompt v (serving m) k = k
  still_prompt v (handing m) k = k
  still_prompt v leaving k = k

  -- the owner has left: the next leader, or any worker near the free lock
  after_leaving : (r : ℕ) → Ahead c s.queue s.ready_list s.tasks.adds → standing s x ≡ H.owning
      → standing (apply c s x e) x ≡ H.out → c.workers + 6 < r → Next r x
  after_leaving r a o z l = go (Promise.leader after_inv.locked)
    where
      go : Promise.Leader c.workers (apply c s x e).lock (standing (apply c s x e)) → Next r x
      go (Promise.nobody f) =
          nearer (c.workers + 6) 0 l playable.workers
          (free_helps c (apply c s x e) after_inv.locked f (still_ahead a) 0 (c.workers + 6) (omega arith))
      go (Promise.called w b k) =
          nearer (c.workers + 4) w (omega arith) b
          (called_helps c (apply c s x e) after_inv.locked (still_ahead a) w (c.workers + 4) k (omega arith))
      go (Promise.owner w b k) =
          absurd
          (⊎_elim (λ (y : w ≡ x). out (rw y at k)) (λ (y : w ≢ x). y (Promise.one_owner i.locked w x (before y) (inl o))) (same w x))
        where
          before : w ≢ x → H.Owner (standing s w)
          before y = rw (place_other c s x e w y) at k

          out : H.Owner (standing (apply c s x e) x) → ⊥
          out (inl y) = let k = sym z ∙ y in clash (cc)
          out (inr y) = let k = sym z ∙ y in clash (cc)

  own_pick : (r : ℕ) → Helpful c s r x → Next r x
  own_pick r (prompt h) = absurd (not_prompt c playable s i x hx q h)
  own_pick r (hands_on_lem n h l) = let (w, b, k) = fill_step c playable s i x hx q n h in nearer 0 w l b (prompt k)
  own_pick r (takes_along h o l) = nearer 0 x l hx (prompt (rw (takes_along_step c s x q h, still.stand) o))
  own_pick r (eager g h l) =
      let (k, b) = eager_step c playable s i x hx q g h in
      nearer (to_idle c.workers ((apply c s x e).place x)) x (omega arith) hx (eager (still_eager x g) k (omega arith))
  own_pick r (leads_to k h l) = go (leader_step c s i.locked (drains_below c s i.device) x d k) (sure_step c s x q h)
    where
      go : LeaderStep c s (apply c s x e) x
          → Sure c s.queue s.ready_list x ((apply c s x e).place x) × ((apply c s x e).lock.tail ≡ s.lock.tail)
          → Next r x
      go (nearing a m f) (g, z) =
          nearer (to_hand_over c.workers ((apply c s x e).place x)) x (omega arith) hx
          (leads_to m (still_sure x ((apply c s x e).place x) g) (omega arith))
      go (handing_over a f) (g, z) = absurd (omega arith)
  own_pick r (leads_past k a l) = go (leader_step c s i.locked (drains_below c s i.device) x d k)
    where
      go : LeaderStep c s (apply c s x e) x → Next r x
      go (nearing b m f) =
          nearer (to_hand_over c.workers ((apply c s x e).place x) + (c.workers + 6)) x (omega arith) hx
          (leads_past m (still_ahead a) (omega arith))
      go (handing_over b f) =
          ⊎_elim (λ (n, h). let (w, b, k) = fill_step c playable s i x hx q n h in nearer 0 w (omega arith) b (prompt k))
          (λ (o, z). after_leaving r a o z (omega arith)) (hands_over_lem c s x q b)
  own_pick r (near f a h) = go (free_step c s i a f x hx q after_inv.locked)
    where
      go : FreeStep c s (apply c s x e) x → Next r x
      go (is_full p z y) =
          let l : c.workers + 6 ≤ r = rw p at h in nearer (c.workers + 5) x (omega arith) hx (near y (still_ahead a) (rw z (omega arith)))
      go (takes_lead k g l) =
          nearer (c.workers + 4) x (nears c.workers r (s.place x) h) hx (leads_to k (still_sure x ((apply c s x e).place x) g) l)
  own_pick r (seeks m z h l) = go (seek_step c playable s i x hx q z h)
    where
      go : (Soon ((apply c s x e).place x) × (to_idle c.workers ((apply c s x e).place x) < to_idle c.workers (s.place x)))
          ⊎ H.Holds (standing (apply c s x e) x) s.lock.head → Next r x
      go (inl (k, f)) =
          nearer (to_idle c.workers ((apply c s x e).place x) + (to_turn c.workers + (c.workers + 5))) x (omega arith) hx
          (seeks (still_may x m) (rw still.tasks z) k (omega arith))
      go (inr k) =
          let enough = to_turn c.workers + (c.workers + 4) in
          let (v, hv, g) = holder_helps c (apply c s x e) after_inv.locked x s.lock.head (still_may x m) k enough (omega arith) in
          nearer enough v (omega arith) hv g
  own_pick r (leads_before u t m h l k b) = go (leader_step c s i.locked (drains_below c s i.device) x d k)
    where
      holds : H.Holds (standing (apply c s x e) u) t
      holds = still_at (λ p. H.Holds (lock_stand p) t) u (λ z. not_leading s u x t h l k (sym z)) h

      later : (t < (apply c s x e).lock.tail) ⊎ ((apply c s x e).lock.tail ≤ t) → (apply c s x e).lock.tail ≡ suc s.lock.tail
          → 0 < to_hand_over c.workers (s.place x) → Next r x
      later (inl y) a f =
          nearer (c.workers + 4) u (omega arith) (Promise.holder_below i.locked u t h)
          (due_helps c (apply c s x e) after_inv.locked u t (still_may u m) holds (c.workers + 4) y (omega arith))
      later (inr y) a f =
          let (v, hv, lead) = leader_of c (apply c s x e) after_inv.locked u t holds y in
          let less : t - s.lock.tail ≡ suc (t - (apply c s x e).lock.tail) = omega arith in
          nearer (to_find c.workers t (apply c s x e).lock.tail ((apply c s x e).place v)) v
          (omega (
            arith,
            ap (λ (n : ℕ). n * per_hand_over c.workers) less ∙ suc-mul (t - (apply c s x e).lock.tail) (per_hand_over c.workers),
            to_hand_over_le c.workers ((apply c s x e).place v) playable.workers,
          ))
          hv (leads_before u t (still_may u m) holds y lead (omega arith))

      go : LeaderStep c s (apply c s x e) x → Next r x
      go (nearing a lead f) =
          nearer (to_find c.workers t (apply c s x e).lock.tail ((apply c s x e).place x)) x (rw a (omega arith)) hx
          (leads_before u t (still_may u m) holds (omega arith) lead (omega arith))
      go (handing_over a f) =
          ⊎_elim (λ (n, y). let (w, hw, g) = fill_step c playable s i x hx q n y in nearer 0 w (omega arith) hw (prompt g))
          (λ o. later (order t (apply c s x e).lock.tail) a f) (hands_over_lem c s x q a)

  other_pick : (r v : ℕ) → x ≢ v → Helpful c s r v → Next r v
  other_pick r v n (prompt h) =
      waits n (prompt (still_at (Prompt (apply c s x e).lock.tail ((apply c s x e).lock.cell_ticket v) ((apply c s x e).stand v)) v n
      (still_prompt v (s.place v) h)))
  other_pick r v n (hands_on_lem m h l) = waits n (hands_on_lem m (still_at (λ p. p ≡ handing m) v n h) l)
  other_pick r v n (takes_along h o l) = waits n (takes_along (still_at (λ p. p ≡ leaving) v n h) (rw still.stand o) l)
  other_pick r v n (eager g h l) = waits n (eager (still_eager v g) (still_at Soon v n h) (still_at (λ p. to_idle c.workers p ≤ r) v n l))
  other_pick r v n (leads_to k h l) =
      waits n
      (leads_to (others_lead c s i.locked v k x n d)
      (still_sure v ((apply c s x e).place v) (still_at (Sure c s.queue s.ready_list v) v n h))
      (still_at (λ p. to_hand_over c.workers p ≤ r) v n l))
  other_pick r v n (leads_past k a l) =
      waits n (leads_past (others_lead c s i.locked v k x n d) (still_ahead a)
      (still_at (λ p. to_hand_over c.workers p + (c.workers + 6) ≤ r) v n l))
  other_pick r v n (near f a h) = go (free_step c s i a f x hx q after_inv.locked)
    where
      go : FreeStep c s (apply c s x e) x → Next r v
      go (is_full p z y) = waits n (near y (still_ahead a) (still_at (Near c.workers r) v n h))
      go (takes_lead k g l) =
          nearer (c.workers + 4) x (nears c.workers r (s.place v) h) hx (leads_to k (still_sure x ((apply c s x e).place x) g) l)
  other_pick r v n (seeks m z h l) =
      waits n
      (seeks (still_may v m) (rw still.tasks z) (still_at Soon v n h)
      (still_at (λ p. to_idle c.workers p + (to_turn c.workers + (c.workers + 5)) ≤ r) v n l))
  other_pick r v n (leads_before u t m h l k b) =
      let (a, _) = others_lock c s i.locked v k x n d in
      waits n
      (leads_before u t (still_may u m) holds (rw a l) (others_lead c s i.locked v k x n d)
      (rw a (still_at (λ p. to_find c.workers t s.lock.tail p ≤ r) v n b)))
    where
      holds : H.Holds (standing (apply c s x e) u) t
      holds =
          ⊎_elim (λ (z : x ≡ u). rw (← z) (holds_on c playable s i x hx q t (rw z h) l))
          (λ (y : x ≢ u). still_at (λ p. H.Holds (lock_stand p) t) u y h) (same x u)

  -- after a quiet pick some worker has fewer picks to go, or the pick was not the helpful worker's and that one has as many as before
  pub quiet_turn : (r v : ℕ) → Helpful c s r v → Turn Goal (λ r v s. Helpful c s r v) c.workers r v x (apply c s x e)
  quiet_turn r v h = ⊎_elim (λ (z : x ≡ v). rw (← z) (own_pick r (rw z h))) (λ n. other_pick r v n h) (same x v)
