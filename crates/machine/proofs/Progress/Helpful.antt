-- Who brings the next progress: a worker of which it is known how many picks of its own are missing, whatever the others do meanwhile.
use Rattle.std.specs.Prelude.{ℕ, suc, ◌+◌, ◌*◌, ◌-◌, ◌≤◌, ◌<◌, ◌≡◌, refl, ◌⊎◌, ◌≢◌, true, List, [], length}
use Rattle.std.proofs.Common.{arith, suc-mul, mul-le-mul_right, sym, ap, ◌∙◌, inl, inr, ⊎_elim}
use Rattle.runs.specs.Update.{same, order, clash}
use Rattle.runs.specs.Counts.{count}
use Rattle.lock.specs.Lock as L
use Rattle.lock.specs.History as H
use Rattle.lock.proofs.Promise as Promise
use Rattle.tasks.specs.Tasks as T
use Rattle.tasks.specs.Tasks.{Message, Creation, opening, linking}
use Rattle.machine.specs.State.{Setup, for_serving, for_adding, Place, idle, trying, registering, looking, draining, serving, handing, leaving, State}
use Rattle.machine.specs.Event.{may}
use Rattle.machine.specs.Whereabouts.{lock_stand}
use Rattle.machine.specs.Safety.Locked.{Locked}
use Rattle.machine.proofs.Safety.Locked.{waits_at}
use Rattle.machine.proofs.Progress.Leading.{standing, Leads, leader_of}
use Rattle.machine.proofs.Progress.Waiting.{to_hand_over, per_hand_over, to_hand_over_le}
use Rattle.machine.proofs.Progress.Creating.{Soon}

-- ---- places

-- a worker has a notice to give or a task in hand
abbrev pub Occupied : T.Stand → Type 0
Occupied T.free = ⊥
Occupied (T.telling a f) = Unit {0}
Occupied (T.working i n) = Unit {0}

-- the next pick of a worker here is progress: it gives a notice, works or ends a task, or receives one from its cell
abbrev pub Prompt : ℕ → ℕ → T.Stand → Place → Type 0
Prompt tail ticket x idle = Occupied x
Prompt tail ticket x trying = ⊥
Prompt tail ticket x (registering t) = ⊥
Prompt tail ticket x (looking t) = (t < tail) × (ticket ≡ t)
Prompt tail ticket x (draining p k) = ⊥
Prompt tail ticket x (serving n) = ⊥
Prompt tail ticket x (handing n) = ⊥
Prompt tail ticket x leaving = ⊥

-- a worker here is out of the lock, and can come to lead it while it is free
abbrev pub Near : ℕ → ℕ → Place → Type 0
Near W r idle = W + 6 ≤ r
Near W r trying = W + 5 ≤ r
Near W r (registering t) = ⊥
Near W r (looking t) = ⊥
Near W r (draining p k) = ⊥
Near W r (serving n) = ⊥
Near W r (handing n) = ⊥
Near W r leaving = ⊥

-- the picks of its own before a worker is idle again
abbrev pub to_idle : ℕ → Place → ℕ
to_idle W idle = 0
to_idle W trying = W + 2
to_idle W (registering t) = 0
to_idle W (looking t) = 0
to_idle W (draining p k) = W - k + 1
to_idle W (serving n) = 0
to_idle W (handing n) = 0
to_idle W leaving = 1

-- a leader here drains queue j before it hands over
abbrev pub FindsQueue : ℕ → Place → Type 0
FindsQueue j idle = ⊥
FindsQueue j trying = ⊥
FindsQueue j (registering t) = Unit {0}
FindsQueue j (looking t) = Unit {0}
FindsQueue j (draining p k) = k ≤ j
FindsQueue j (serving n) = ⊥
FindsQueue j (handing n) = ⊥
FindsQueue j leaving = ⊥

-- a leader here serves or takes a task before it hands over
abbrev pub FindsList : Place → Type 0
FindsList idle = ⊥
FindsList trying = ⊥
FindsList (registering t) = Unit {0}
FindsList (looking t) = Unit {0}
FindsList (draining for_serving k) = Unit {0}
FindsList (draining for_adding k) = ⊥
FindsList (serving n) = Unit {0}
FindsList (handing n) = ⊥
FindsList leaving = ⊥

abbrev pub Uncreated : Setup → Creation → Type 0
Uncreated c (opening i) = i < length c.tasks
Uncreated c (linking i a) = Unit {0}

-- ---- what a quiet pick leaves as it is, by the fields that it speaks of

module _ (c : Setup) where
  -- by worker, all lists are empty
  abbrev pub NoneIn : {A : Type 0} → (ℕ → List A) → Type 0
  NoneIn f = (v : ℕ) → v < c.workers → f v ≡ []

  -- with every queue empty, this worker makes progress as soon as it is idle
  abbrev pub Eager : (ℕ → List ℕ) → (ℕ → List Message) → (ℕ → List ℕ) → Creation → ℕ → Type 0
  Eager queue mail adds creation v = NoneIn queue × ((0 < length (mail v)) ⊎ (0 < length (adds v)) ⊎ ((v ≡ 0) × Uncreated c creation))

  -- worker v may run a task of the list
  abbrev pub MayRun : List ℕ → ℕ → Type 0
  MayRun list v = (i : ℕ) × (0 < count i list) × (may c v i ≡ true)

  module _ (queue : ℕ → List ℕ) (list : List ℕ) where
    -- whoever owns has something to do: a task in a queue, or in the ready list while none is to be added
    abbrev pub Ahead : (ℕ → List ℕ) → Type 0
    Ahead adds =
        ((j : ℕ) × (j < c.workers) × (0 < length (queue j))) ⊎ (((v : ℕ) → v < c.workers → MayRun list v) × NoneIn adds)

    -- leader v, at this place, comes to something to do in this session
    abbrev pub Sure : ℕ → Place → Type 0
    Sure v p = ((j : ℕ) × (j < c.workers) × (0 < length (queue j)) × FindsQueue j p) ⊎ (MayRun list v × FindsList p)

-- the picks of leaders up to the turn of any ticket
abbrev pub to_turn : ℕ → ℕ
to_turn W = W * per_hand_over W

-- the picks of leaders, and of the worker with ticket t itself, until that one has found a task, where the leader stands at p
abbrev pub to_find : ℕ → ℕ → ℕ → Place → ℕ
to_find W t tail p = (t - tail) * per_hand_over W + to_hand_over W p + (W + 5)

-- worker v has at most r + 1 picks of its own up to progress
pub data Helpful (c : Setup) (s : State) (r v : ℕ) : Type 0 where
  prompt : Prompt s.lock.tail (s.lock.cell_ticket v) (s.stand v) (s.place v) → Helpful c s r v
  hands_on_lem : (n : ℕ) → s.place v ≡ handing n → 0 < r → Helpful c s r v
  takes_along : s.place v ≡ leaving → Occupied (s.stand v) → 0 < r → Helpful c s r v
  eager : Eager c s.queue s.tasks.mail s.tasks.adds s.tasks.creation v → Soon (s.place v)
      → to_idle c.workers (s.place v) ≤ r → Helpful c s r v
  -- a leader that can't miss what is ahead, one that may have missed it in this session, and a worker near a free lock
  leads_to : Leads s v → Sure c s.queue s.ready_list v (s.place v) → to_hand_over c.workers (s.place v) ≤ r → Helpful c s r v
  leads_past : Leads s v → Ahead c s.queue s.ready_list s.tasks.adds → to_hand_over c.workers (s.place v) + (c.workers + 6) ≤ r
      → Helpful c s r v
  near : L.is_free s.lock ≡ true → Ahead c s.queue s.ready_list s.tasks.adds → Near c.workers r (s.place v) → Helpful c s r v
  -- a worker that may run a task of the ready list is on its way to a ticket; and a leader, while such a worker waits for its turn
  seeks : MayRun c s.ready_list v → s.tasks.adds v ≡ [] → Soon (s.place v)
      → to_idle c.workers (s.place v) + (to_turn c.workers + (c.workers + 5)) ≤ r → Helpful c s r v
  leads_before : (u t : ℕ) → MayRun c s.ready_list u → H.Holds (standing s u) t → s.lock.tail ≤ t → Leads s v
      → to_find c.workers t s.lock.tail (s.place v) ≤ r → Helpful c s r v

-- ---- where nobody owns

-- a worker with a ticket has its session before it
begins : (W : ℕ) (p : Place) (t : ℕ) → H.Holds (lock_stand p) t → ((j : ℕ) → FindsQueue j p) × FindsList p × (to_hand_over W p ≤ W + 4)
begins W idle t (inl e) = clash (cc)
begins W idle t (inr e) = clash (cc)
begins W trying t (inl e) = clash (cc)
begins W trying t (inr e) = clash (cc)
begins W (registering u) t h = (λ j. tt, tt, omega arith)
begins W (looking u) t h = (λ j. tt, tt, omega arith)
begins W (draining q k) t (inl e) = clash (cc)
begins W (draining q k) t (inr e) = clash (cc)
begins W (serving n) t (inl e) = clash (cc)
begins W (serving n) t (inr e) = clash (cc)
begins W (handing n) t (inl e) = clash (cc)
begins W (handing n) t (inr e) = clash (cc)
begins W leaving t (inl e) = clash (cc)
begins W leaving t (inr e) = clash (cc)

module _ (c : Setup) (s : State) (i : Locked c s.lock s.place) where
  pub called_helps : Ahead c s.queue s.ready_list s.tasks.adds → (v r : ℕ) → H.Called s.lock (standing s) v → c.workers + 4 ≤ r
      → Helpful c s r v
  called_helps a v r (t, h, k, n) l =
      let (q, f, b) = begins c.workers (s.place v) t h in
      leads_to (inr (t, h, k, n)) (⊎_elim (λ (j, y, z). inl (j, y, z, q j)) (λ (y, z). inr (y v (Promise.holder_below i v t h), f)) a)
      (omega arith)

  -- ---- a worker with a ticket that may run a task of the ready list

  module _ (u t : ℕ) (m : MayRun c s.ready_list u) (h : H.Holds (standing s u) t) where
    -- its turn has come: it finds a task in its cell, or it leads
    pub due_helps : (r : ℕ) → t < s.lock.tail → c.workers + 4 ≤ r → Helpful c s r u
    due_helps r l b = go (Promise.leader i)
      where
        finds : (standing s u ≡ H.waiting t) × (s.lock.cell_ticket u ≡ t) → Helpful c s r u
        finds (p, q) = let at = waits_at (s.place u) t p in prompt (rw at (l, q))

        go : Promise.Leader c.workers s.lock (standing s) → Helpful c s r u
        go (Promise.nobody f) = let (p, y, q) = (Promise.free_lock i f).1 u t h in finds (p, q)
        go (Promise.called w d k) =
            ⊎_elim
            (λ (e : u ≡ w).
            let (q, f, o) = begins c.workers (s.place u) t h in
            leads_to (inr (rw (← e) at k)) (inr (m, f)) (omega arith))
            (λ (n : u ≢ w). finds ((Promise.called_lock i w k).2 u n t h l)) (same u w)
        go (Promise.owner w d o) = finds ((Promise.owned_lock i w o).1 u t h l)

    -- it has not come: somebody leads
    before_helps : (r : ℕ) → s.lock.tail ≤ t → to_turn c.workers + (c.workers + 4) ≤ r → (v : ℕ) × (v < c.workers) × Helpful c s r v
    before_helps r l b =
        let (v, hv, k) = leader_of c s i u t h l in
        let W = c.workers in
        let d = t - s.lock.tail in
        let few : suc (suc d) ≤ W = omega (arith, Promise.ends_near i, Promise.ticket_given i u t h) in (
          v,
          hv,
          leads_before u t m h l k
              (omega (
                arith,
                mul-le-mul_right (per_hand_over W) few,
                suc-mul (suc d) (per_hand_over W),
                suc-mul d (per_hand_over W),
                to_hand_over_le W (s.place v) (omega arith),
              )),
        )

    pub holder_helps : (r : ℕ) → to_turn c.workers + (c.workers + 4) ≤ r → (v : ℕ) × (v < c.workers) × Helpful c s r v
    holder_helps r b =
        ⊎_elim (λ (l : t < s.lock.tail). (u, Promise.holder_below i u t h, due_helps r l (omega arith)))
        (λ (l : s.lock.tail ≤ t). before_helps r l b) (order t s.lock.tail)

  module _ (free : L.is_free s.lock ≡ true) where
    pub free_tail : s.lock.tail ≡ suc s.lock.head
    free_tail = (Promise.free_iff i).0 free

    pub free_unowned : {A : Type 0} (v : ℕ) → H.Owner (standing s v) → A
    free_unowned v o = absurd ((Promise.free_lock i free).0 v o)

    -- whoever holds a ticket of a free lock waits and finds it in its cell
    pub free_served : (v t : ℕ) → H.Holds (standing s v) t
        → (t < s.lock.tail) × (standing s v ≡ H.waiting t) × (s.lock.cell_ticket v ≡ t)
    free_served v t h = let (p, l, q) = (Promise.free_lock i free).1 v t h in (l, p, q)

    pub free_registered : {A : Type 0} (v t : ℕ) → standing s v ≡ H.taken t → A
    free_registered v t e = let (l, z, y) = free_served v t (inl e) in let x : H.taken t ≡ H.waiting t = sym e ∙ z in clash (cc)

    pub free_helps : Ahead c s.queue s.ready_list s.tasks.adds → (v r : ℕ) → c.workers + 6 ≤ r → Helpful c s r v
    free_helps a v r l = go (s.place v) refl
      where
        go : (p : Place) → s.place v ≡ p → Helpful c s r v
        go idle e = near free a (rw e l)
        go trying e = near free a (rw e (omega arith))
        go (registering t) e = free_registered v t (ap lock_stand e)
        go (looking t) e = let (b, z, y) = free_served v t (inr (ap lock_stand e)) in prompt (rw e (b, y))
        go (draining q k) e = free_unowned v (inl (ap lock_stand e))
        go (serving n) e = free_unowned v (inl (ap lock_stand e))
        go (handing n) e = free_unowned v (inr (ap lock_stand e))
        go leaving e = free_unowned v (inl (ap lock_stand e))
