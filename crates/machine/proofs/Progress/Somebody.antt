-- Until the run is finished somebody is helpful, and work is left.
use Rattle.std.specs.Prelude.{ℕ, ◌+◌, ◌*◌, ◌≤◌, ◌<◌, ◌≡◌, refl, ◌⊎◌, true, false, List, [], ◌∷◌, length}
use Rattle.std.proofs.Common.{arith, ap, ◌∙◌, inl, inr, ⊎_elim}
use Rattle.runs.specs.Update.{order, clash}
use Rattle.runs.specs.Sums.{sum, pos_sum, le_sum, sum_zeros}
use Rattle.runs.specs.Counts.{count, count_nil}
use Rattle.lock.specs.History as H
use Rattle.lock.proofs.Promise as Promise
use Rattle.plan.specs.Permits.{any_masked}
use Rattle.tasks.specs.Tasks as T
use Rattle.tasks.specs.Tasks.{Message, Status, ready, held, running, over, Creation, opening, linking, is_ready, is_held, is_running, in_hand, to_add}
use Rattle.tasks.proofs.Playing as P
use Rattle.tasks.specs.Playing.{has_notice}
use Rattle.tasks.proofs.Promise as Tasks
use Rattle.machine.specs.State.{Setup, for_serving, for_adding, Place, idle, trying, registering, looking, draining, serving, handing, leaving, State}
use Rattle.machine.specs.Event.{Event, event}
use Rattle.machine.specs.Step.{finished}
use Rattle.machine.proofs.Unmasked.{all_may}
use Rattle.machine.proofs.View.{does}
use Rattle.machine.specs.Whereabouts.{lock_stand}
use Rattle.machine.specs.Safety.Invariant.{Playable, Inv}
use Rattle.machine.specs.Safety.Device.{Bare, Fits, Device}
use Rattle.machine.proofs.Safety.Device.{held_at}
use Rattle.machine.proofs.Safety.Bounds.{ready_below}
use Rattle.machine.proofs.Progress.Leading.{standing}
use Rattle.machine.proofs.Progress.Waiting.{to_hand_over}
use Rattle.machine.proofs.Progress.Quiet.{work, gain, work_falls, Quiet, quiet_full, quiet_win, quiet_fail, quiet_ticket, quiet_register, quiet_wait, quiet_own, quiet_drain, quiet_none, quiet_hand, quiet_leave, gains_or_quiet}
use Rattle.machine.proofs.Progress.Creating.{Soon, Created, CreatesFirst}
use Rattle.machine.proofs.Progress.Helpful.{Occupied, Prompt, to_idle, FindsList, Uncreated, NoneIn, MayRun, Ahead, to_turn, Helpful, prompt, hands_on_lem, takes_along, eager, leads_to, leads_past, seeks, called_helps, holder_helps, free_helps}

-- ---- tests and lists

nothing : {A : Type 0} (xs : List A) → length xs ≡ 0 → xs ≡ []
nothing [] l = refl
nothing (x ∷ xs) l = absurd (omega arith)

something : (i : ℕ) (xs : List ℕ) → 0 < count i xs → 0 < length xs
something i [] l = absurd (omega (arith, count_nil i))
something i (x ∷ xs) l = omega arith

-- some number below n has something, or none has
search_below : (n : ℕ) (f : ℕ → ℕ) → ((k : ℕ) × (k < n) × (0 < f k)) ⊎ ((k : ℕ) → k < n → f k ≡ 0)
search_below n f = ⊎_elim (λ l. inl (pos_sum n f l)) (λ (z : sum n f ≤ 0). inr (λ k l. omega (arith, le_sum n f k l))) (order 0 (sum n f))

search_lists : {A : Type 0} (n : ℕ) (f : ℕ → List A) → ((k : ℕ) × (k < n) × (0 < length (f k))) ⊎ ((k : ℕ) → k < n → f k ≡ [])
search_lists n f = ⊎_elim inl (λ z. inr (λ k l. nothing (f k) (z k l))) (search_below n (λ k. length (f k)))

-- ---- places

bare : {A : Type 0} {x : T.Stand} {ms : List Message} {js : List ℕ} → Bare x ms js → 0 < length ms + length js → A
bare (x, a, b) l = absurd (omega (arith, ap length a, ap length b))

-- with mail or a task to add a worker waits for nobody
soon : (c : Setup) (p : Place) (x : T.Stand) (ms : List Message) (js : List ℕ) → Fits c p x ms js → 0 < length ms + length js → Soon p
soon c idle x ms js f l = tt
soon c trying x ms js f l = tt
soon c (registering t) x ms js f l = bare f l
soon c (looking t) x ms js f l = bare f l
soon c (draining for_serving k) x ms js f l = bare f.1 l
soon c (draining for_adding k) x ms js f l = tt
soon c (serving n) x ms js f l = bare f.1 l
soon c (handing n) x ms js f l = bare f.1 l
soon c leaving x ms js f l = tt

to_idle_le : (W : ℕ) (p : Place) → to_idle W p ≤ W + 2
to_idle_le W idle = omega arith
to_idle_le W trying = omega arith
to_idle_le W (registering t) = omega arith
to_idle_le W (looking t) = omega arith
to_idle_le W (draining p k) = omega arith
to_idle_le W (serving n) = omega arith
to_idle_le W (handing n) = omega arith
to_idle_le W leaving = omega arith

owner_le : (W : ℕ) (p : Place) → H.Owner (lock_stand p) → to_hand_over W p ≤ W + 2
owner_le W idle o = omega arith
owner_le W trying o = omega arith
owner_le W (registering t) (inl e) = clash (cc)
owner_le W (registering t) (inr e) = clash (cc)
owner_le W (looking t) (inl e) = clash (cc)
owner_le W (looking t) (inr e) = clash (cc)
owner_le W (draining for_serving k) o = omega arith
owner_le W (draining for_adding k) o = omega arith
owner_le W (serving n) o = omega arith
owner_le W (handing n) o = omega arith
owner_le W leaving o = omega arith

serves : (p : Place) → lock_stand p ≡ H.serving → (n : ℕ) × (p ≡ handing n)
serves idle e = clash (cc)
serves trying e = clash (cc)
serves (registering t) e = clash (cc)
serves (looking t) e = clash (cc)
serves (draining p k) e = clash (cc)
serves (serving n) e = clash (cc)
serves (handing n) e = (n, refl)
serves leaving e = clash (cc)

-- a worker that has something in hand makes progress at its next pick, or leaves with it
occupied : (c : Setup) (tail ticket : ℕ) (x : T.Stand) (p : Place) (ms : List Message) (js : List ℕ) → Fits c p x ms js → Occupied x
    → Prompt tail ticket x p ⊎ (p ≡ leaving)
occupied c tail ticket x idle ms js f o = inl o
occupied c tail ticket x trying ms js f o = absurd (rw f.0 at o)
occupied c tail ticket x (registering t) ms js f o = absurd (rw f.0 at o)
occupied c tail ticket x (looking t) ms js f o = absurd (rw f.0 at o)
occupied c tail ticket x (draining for_serving k) ms js f o = absurd (rw f.1.0 at o)
occupied c tail ticket x (draining for_adding k) ms js f o = absurd (rw f.1.0 at o)
occupied c tail ticket x (serving n) ms js f o = absurd (rw f.1.0 at o)
occupied c tail ticket x (handing n) ms js f o = absurd (rw f.1.0 at o)
occupied c tail ticket x leaving ms js f o = inr refl

has_task : (i : ℕ) (x : T.Stand) → 0 < in_hand i x → Occupied x
has_task i T.free l = absurd (omega arith)
has_task i (T.telling a f) l = absurd (omega arith)
has_task i (T.working j n) l = tt

has_notice_lem : (x : T.Stand) → has_notice x ≡ true → Occupied x
has_notice_lem T.free e = clash (cc)
has_notice_lem (T.telling a f) e = tt
has_notice_lem (T.working i n) e = clash (cc)

-- ---- somebody is helpful

-- a worker that has at most r + 1 picks of its own up to progress
abbrev pub Somebody : Setup → State → ℕ → Type 0
Somebody c s r = (v : ℕ) × (v < c.workers) × Helpful c s r v

module _ (c : Setup) (playable : Playable c) (s : State) (i : Inv c s) (r : ℕ) where
  -- whoever owns has something to do: the owner, or who is called, or anybody near a free lock
  leader_helps : 4 * c.workers + 7 ≤ r → Ahead c s.queue s.ready_list s.tasks.adds → Somebody c s r
  leader_helps enough a = go (Promise.leader i.locked)
    where
      go : Promise.Leader c.workers s.lock (standing s) → Somebody c s r
      go (Promise.nobody f) = (0, playable.workers, free_helps c s i.locked f a 0 r (omega (arith, playable.workers)))
      go (Promise.called v b k) = (v, b, called_helps c s i.locked a v r k (omega arith))
      go (Promise.owner v b o) = (v, b, leads_past (inl o) a (omega (arith, owner_le c.workers (s.place v) o, playable.workers)))

  -- worker u may run a task of the ready list: it seeks a ticket, waits for its turn, or leads
  runner_helps : to_turn c.workers + (2 * c.workers + 7) ≤ r → NoneIn c s.tasks.adds → (u : ℕ) → u < c.workers
      → MayRun c s.ready_list u → Somebody c s r
  runner_helps enough unadded u b m = go (s.place u) refl
    where
      comes : (p : Place) → s.place u ≡ p → Soon p → Somebody c s r
      comes p e h = (u, b, seeks m (unadded u b) (rw e h) (omega (arith, to_idle_le c.workers (s.place u))))

      leads : (p : Place) → s.place u ≡ p → H.Owner (lock_stand p) → FindsList p → Somebody c s r
      leads p e o f =
          let owns : H.Owner (standing s u) = rw e o in
          (u, b, leads_to (inl owns) (inr (m, rw e f)) (omega (arith, owner_le c.workers (s.place u) owns, playable.workers)))

      go : (p : Place) → s.place u ≡ p → Somebody c s r
      go idle e = comes idle e tt
      go trying e = comes trying e tt
      go (registering t) e = holder_helps c s i.locked u t m (inl (ap lock_stand e)) r (omega arith)
      go (looking t) e = holder_helps c s i.locked u t m (inr (ap lock_stand e)) r (omega arith)
      go (draining for_serving k) e = leads (draining for_serving k) e (inl refl) tt
      go (draining for_adding k) e = comes (draining for_adding k) e tt
      go (serving n) e = leads (serving n) e (inl refl) tt
      go (handing n) e = (u, b, hands_on_lem n e (omega arith))
      go leaving e = comes leaving e tt

-- with r picks of its own, less one, for a helpful worker; who helps where a task is in the ready list and nothing is to be added is shown apart
module _ (c : Setup) (playable : Playable c) (s : State) (i : Inv c s) (r : ℕ) (enough : 4 * c.workers + 7 ≤ r)
    (list_helps : NoneIn c s.tasks.adds → (j : ℕ) → 0 < count j s.ready_list → Somebody c s r) where
  held_helps : (j : ℕ) → s.tasks.status j ≡ held → Somebody c s r
  held_helps j e =
      let (w, b, t, p, ticket, task) = held_at c s i.device j e in
      ⊎_elim
      (λ (l : t < s.lock.tail). (w, b, prompt (rw p (l, ticket))))
      (λ (l : s.lock.tail ≤ t). let (k, d, z) = Promise.cell_early i.locked w (omega arith) in let (n, h) = serves (s.place k) z in
      (k, d, hands_on_lem n h (omega arith)))
      (order t s.lock.tail)

  occupied_helps : (w : ℕ) → w < c.workers → Occupied (s.stand w) → Somebody c s r
  occupied_helps w b o =
      ⊎_elim (λ h. (w, b, prompt h)) (λ h. (w, b, takes_along h o (omega arith)))
      (occupied c s.lock.tail (s.lock.cell_ticket w) (s.stand w) (s.place w) (s.tasks.mail w) (s.tasks.adds w)
      (i.device.fits w) o)

  running_helps : (j : ℕ) → s.tasks.status j ≡ running → Somebody c s r
  running_helps j e =
      let (w, b, l) = pos_sum c.workers (λ u. in_hand j (s.stand u)) (omega (arith, Tasks.in_hands i.tasked j, ap is_running e)) in
      occupied_helps w b (has_task j (s.stand w) l)

  module _ (empty : NoneIn c s.queue) where
    eager_helps : (v : ℕ) → v < c.workers
        → (0 < length (s.tasks.mail v)) ⊎ (0 < length (s.tasks.adds v)) ⊎ ((v ≡ 0) × Uncreated c s.tasks.creation)
        → Soon (s.place v) → Somebody c s r
    eager_helps v b u h = (v, b, eager (empty, u) h (omega (arith, to_idle_le c.workers (s.place v))))

    -- worker 0 has tasks to create
    creator_helps : CreatesFirst c s → Uncreated c s.tasks.creation → (Created c s.tasks.creation → ⊥) → Somebody c s r
    creator_helps (inl h) u n = eager_helps 0 playable.workers (inr (inr (refl, u))) h
    creator_helps (inr h) u n = absurd (n h)

    module _ (unadded : NoneIn c s.tasks.adds) where
      ready_helps : (j : ℕ) → s.tasks.status j ≡ ready → Somebody c s r
      ready_helps j e =
          let none_to_add : to_add c.workers s.tasks.adds j ≡ 0 =
          sum_zeros c.workers (λ w. count j (s.tasks.adds w)) (λ w l. ap (count j) (unadded w l) ∙ count_nil j) in
          let none_queued : sum c.workers (λ w. count j (s.queue w)) ≡ 0 =
          sum_zeros c.workers (λ w. count j (s.queue w)) (λ w l. ap (count j) (empty w l) ∙ count_nil j) in
          list_helps unadded j (omega (arith, i.device.stored j, Tasks.to_add_or_given i.tasked j, ap is_ready e))

      module _ (unmailed : NoneIn c s.tasks.mail) (unfinished : finished c s ≡ false) where
        -- all tasks are over: a notice is pending
        notice_helps : ((j : ℕ) → j < length c.tasks → s.tasks.status j ≡ over) → Somebody c s r
        notice_helps done =
            let (w, b, z) = P.unfinished_notice c.workers c.tasks s.tasks s.stand unfinished done unmailed in
            occupied_helps w b (has_notice_lem (s.stand w) z)

        -- all tasks are created: one is ready, held or running, or all are over
        task_helps : (n : ℕ) → s.tasks.creation ≡ opening n → length c.tasks ≤ n → Somebody c s r
        task_helps n created all =
            go (search_below (length c.tasks) (λ j. is_ready (s.tasks.status j)))
            (search_below (length c.tasks) (λ j. is_held (s.tasks.status j)))
            (search_below (length c.tasks) (λ j. is_running (s.tasks.status j)))
          where
            Found : (Status → ℕ) → Type 0
            Found f =
                ((j : ℕ) × (j < length c.tasks) × (0 < f (s.tasks.status j)))
                ⊎ ((j : ℕ) → j < length c.tasks → f (s.tasks.status j) ≡ 0)

            go : Found is_ready → Found is_held → Found is_running → Somebody c s r
            go (inl (j, b, l)) h x = ready_helps j (Tasks.is_ready_lem (s.tasks.status j) l)
            go (inr x) (inl (j, b, l)) y = held_helps j (Tasks.is_held_lem (s.tasks.status j) l)
            go (inr x) (inr y) (inl (j, b, l)) = running_helps j (Tasks.is_running_lem (s.tasks.status j) l)
            go (inr x) (inr y) (inr z) =
                notice_helps
                (Tasks.nothing_stuck i.tasked n created all unmailed
                (λ j b. omega (arith, x j b, y j b, z j b)))

  somebody : CreatesFirst c s → finished c s ≡ false → Somebody c s r
  somebody f unfinished = queues (search_lists c.workers s.queue)
    where
      creating : NoneIn c s.queue → NoneIn c s.tasks.adds → NoneIn c s.tasks.mail → (x : Creation) → s.tasks.creation ≡ x
          → Somebody c s r
      creating empty unadded unmailed (opening n) z =
          ⊎_elim
          (λ (l : n < length c.tasks). creator_helps empty f (rw z l) (λ h. let g : length c.tasks ≤ n = rw z at h in omega arith))
          (task_helps empty unadded unmailed unfinished n z) (order n (length c.tasks))
      creating empty unadded unmailed (linking j a) z = creator_helps empty f (rw z tt) (λ h. rw z at h)

      mails : NoneIn c s.queue → NoneIn c s.tasks.adds
          → ((v : ℕ) × (v < c.workers) × (0 < length (s.tasks.mail v))) ⊎ NoneIn c s.tasks.mail → Somebody c s r
      mails empty unadded (inl (v, b, l)) =
          eager_helps empty v b (inl l)
          (soon c (s.place v) (s.stand v) (s.tasks.mail v) (s.tasks.adds v) (i.device.fits v) (omega arith))
      mails empty unadded (inr unmailed) = creating empty unadded unmailed s.tasks.creation refl

      adds : NoneIn c s.queue → ((v : ℕ) × (v < c.workers) × (0 < length (s.tasks.adds v))) ⊎ NoneIn c s.tasks.adds → Somebody c s r
      adds empty (inl (v, b, l)) =
          eager_helps empty v b (inr (inl l))
          (soon c (s.place v) (s.stand v) (s.tasks.mail v) (s.tasks.adds v) (i.device.fits v) (omega arith))
      adds empty (inr unadded) = mails empty unadded (search_lists c.workers s.tasks.mail)

      queues : ((v : ℕ) × (v < c.workers) × (0 < length (s.queue v))) ⊎ NoneIn c s.queue → Somebody c s r
      queues (inl k) = leader_helps c playable s i r enough (inl k)
      queues (inr empty) = adds empty (search_lists c.workers s.tasks.adds)

-- ---- a task of the ready list

module _ (c : Setup) (playable : Playable c) (s : State) (i : Inv c s) where
  -- without M lines any owner may run it
  pub somebody_unmasked : any_masked c.tasks ≡ false → CreatesFirst c s → finished c s ≡ false → Somebody c s (4 * c.workers + 7)
  somebody_unmasked unmasked =
      let r = 4 * c.workers + 7 in
      somebody c playable s i r (omega arith)
      (λ unadded j l. leader_helps c playable s i r (omega arith) (inr (λ v b. (j, l, all_may c unmasked v j), unadded)))

  -- with M lines some worker may
  pub somebody_masked : CreatesFirst c s → finished c s ≡ false → Somebody c s (to_turn c.workers + (5 * c.workers + 7))
  somebody_masked =
      let r = to_turn c.workers + (5 * c.workers + 7) in
      somebody c playable s i r (omega arith)
      (λ unadded j l.
      let (u, b, e) = playable.runnable j (ready_below c playable s i j l) in
      runner_helps c playable s i r (omega arith) unadded u b (j, l, e))

-- ---- no work left

-- a worker whose pick is quiet has no mail and no notice to give
quiet_still : (c : Setup) (s : State) → Device c s → (w : ℕ) {e : Event} → Quiet c s w e
    → (s.tasks.mail w ≡ []) × (has_notice (s.stand w) ≡ false)
quiet_still c s h w (quiet_full j js r a l) = (r.mail, ap has_notice r.stand)
quiet_still c s h w (quiet_win p f) = let (x, m, a) = rw p at (h.fits w) in (m, ap has_notice x)
quiet_still c s h w (quiet_fail p f) = let (x, m, a) = rw p at (h.fits w) in (m, ap has_notice x)
quiet_still c s h w (quiet_ticket r d z) = (r.mail, ap has_notice r.stand)
quiet_still c s h w (quiet_register t p) = let (x, m, a) = rw p at (h.fits w) in (m, ap has_notice x)
quiet_still c s h w (quiet_wait t p l) = let (x, m, a) = rw p at (h.fits w) in (m, ap has_notice x)
quiet_still c s h w (quiet_own t p l) = let (x, m, a) = rw p at (h.fits w) in (m, ap has_notice x)
quiet_still c s h w (quiet_drain for_serving k p z) = let (k, (x, m, a)) = rw p at (h.fits w) in (m, ap has_notice x)
quiet_still c s h w (quiet_drain for_adding k p z) = let (k, (x, m, a)) = rw p at (h.fits w) in (m, ap has_notice x)
quiet_still c s h w (quiet_none n p z) = let (k, (x, m, a)) = rw p at (h.fits w) in (m, ap has_notice x)
quiet_still c s h w (quiet_hand n p) = let (k, (x, m, a)) = rw p at (h.fits w) in (m, ap has_notice x)
quiet_still c s h w (quiet_leave p) = rw p at (h.fits w)

module _ (c : Setup) (playable : Playable c) (s : State) (i : Inv c s) (z : work c s ≡ 0) where
  no_mail : (w : ℕ) → w < c.workers → (s.tasks.mail w ≡ []) × (has_notice (s.stand w) ≡ false)
  no_mail w b =
      ⊎_elim (λ (g : 0 < gain s (event c s w)). absurd (omega (arith, work_falls c playable s i w b (does c s w))))
      (λ (q : Quiet c s w (event c s w)). quiet_still c s i.device w q) (gains_or_quiet c s w (does c s w))

  pub nothing_left : finished c s ≡ true
  nothing_left =
      P.finished_if c.workers c.tasks s.tasks s.stand
      (Tasks.no_work_over c.workers c.tasks s.tasks s.stand (omega arith)) no_mail
