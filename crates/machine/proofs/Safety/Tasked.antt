-- The machine keeps the tasks' promise, and the device keeps what it was given: each event is one operation of the
-- tasks that its worker may do, or leaves them alone.
use Rattle.std.specs.Prelude.{ℕ, suc, ◌+◌, ◌-◌, ◌<◌, ◌≡◌, refl, ◌≢◌, Bool, true, false, List, [], ◌∷◌, ◌++◌, ltb}
use Rattle.std.proofs.Common.{arith, ap, ap₂, ◌∙◌, ltb-true}
use Rattle.std.proofs.Math.Option.{Option, some}
use Rattle.runs.specs.Update.{upd, upd_same, upd_other, upd_all, clash}
use Rattle.runs.specs.Sums.{sum, sum_at, sum_upd, sum_two}
use Rattle.runs.specs.Counts.{is, count, count_nil, count_cons, count_append}
use Rattle.lock.specs.Lock as L
use Rattle.lock.specs.History as LH
use Rattle.lock.proofs.Promise as Lock
use Rattle.tasks.specs.Tasks as T
use Rattle.tasks.specs.Tasks.{Message}
use Rattle.tasks.specs.History as H
use Rattle.tasks.specs.Playing as P
use Rattle.tasks.proofs.Playing as PLaws
use Rattle.tasks.specs.Playing.{by, has_notice}
use Rattle.tasks.proofs.Promise as Promise
use Rattle.machine.specs.State.{Setup, Purpose, for_serving, for_adding, Place, idle, trying, registering, looking, draining, serving, handing, leaving, State}
use Rattle.machine.specs.Event.{Event, tries_and_owns, takes_ticket, registers, receives, owns, hands_over, leaves, fills, handed_by}
use Rattle.machine.proofs.Ready.{chosen_listed, chosen_count, arrive_count}
use Rattle.machine.specs.Step.{apply, lock_op, task_op, effect, after_draining, next_drain}
use Rattle.machine.specs.Trace.{by_lock}
use Rattle.machine.specs.View as view
use Rattle.machine.specs.View.{Does}
use Rattle.machine.specs.Whereabouts.{lock_stand, in_cell, stored, boxes}
use Rattle.machine.specs.Safety.Locked.{Locked}
use Rattle.machine.proofs.Safety.Locked.{waits_at}
use Rattle.machine.proofs.Safety.Ends.{cells_kept}
use Rattle.machine.specs.Safety.Device.{Tasked, Fits, Device}
use Rattle.machine.proofs.Safety.Device.{boxed_same, boxed_other, listed_given, celled, drains_below}

-- after a drain the owner goes on, or its way ends, with what it has
drain_fits : (c : Setup) (p : Purpose) (k : ℕ) (x : T.Stand) (ms : List Message) (js : List ℕ) → Fits c (draining p k) x ms js
    → Fits c (next_drain c p k) x ms js
unfolding next_drain
drain_fits c p k x ms js = go p (ltb (suc k) c.workers) refl
  where
    go : (p : Purpose) (b : Bool) → ltb (suc k) c.workers ≡ b → Fits c (draining p k) x ms js
        → Fits c (elim b [ true ↦ draining p (suc k) | false ↦ after_draining c p ]) x ms js
    go for_serving true e f = (ltb-true _ _ e, f.1)
    go for_serving false e f = (omega arith, f.1)
    go for_adding true e f = (ltb-true _ _ e, f.1)
    go for_adding false e f = (f.1.1, ap has_notice f.1.0)

drain_empty : (c : Setup) (p : Purpose) (k i t x : ℕ) → in_cell i (lock_stand (next_drain c p k)) t x ≡ 0
unfolding next_drain
drain_empty c p k i t x = go p (ltb (suc k) c.workers)
  where
    go : (p : Purpose) (b : Bool) → in_cell i (lock_stand (elim b [ true ↦ draining p (suc k) | false ↦ after_draining c p ])) t x ≡ 0
    go for_serving true = refl
    go for_serving false = refl
    go for_adding true = refl
    go for_adding false = refl

module _ (c : Setup) (s : State) (locked : Locked c s.lock s.place) (v : Tasked c s.tasks s.stand) (h : Device c s) (w : ℕ)
    (hw : w < c.workers) where
  -- ---- what each event is to the tasks

  -- what the lock says of the looker's cell
  received : (t j : ℕ) → s.place w ≡ looking t → L.look c.slots s.lock t w ≡ L.receives j
      → (s.lock.cell_ticket w ≡ t) × (s.lock.cell_task w ≡ j)
  received t j p q = let (a, b, d) = (Lock.look_served locked w t (ap lock_stand p) j).0 q in (b, d)

  pub task_may : {e : Event} → Does c s w e → P.May c.workers c.tasks s.tasks (s.stand w) w (task_op e)
  task_may (view.does_mind d p can) = H.can_mind can
  task_may (view.does_push j js r d l) = H.can_give j js d
  task_may (view.does_find_full j js r d l) = tt
  task_may (view.does_win p f) = tt
  task_may (view.does_fail p f) = tt
  task_may (view.does_take_ticket r d z) = tt
  task_may (view.does_register t p) = tt
  task_may (view.does_wait t p q) = tt
  task_may (view.does_receive t j p q) =
      let (x, ms, js) = rw p at (h.fits w) in
      let (a, b) = received t j p q in
      H.can_receive j x ms (celled c s h w t j hw p a b)
  task_may (view.does_own t p q) = tt
  task_may (view.does_drain u k p) = tt
  task_may (view.does_fill n u j js p q f l) = H.can_hold j (listed_given c s h v j (chosen_listed q))
  task_may (view.does_take n j js p q) =
      let (k, (x, ms, is)) = rw p at (h.fits w) in H.can_take j x ms (listed_given c s h v j (chosen_listed q))
  task_may (view.does_take_none n p q) = tt
  task_may (view.does_hand_over n p) = tt
  task_may (view.does_leave p) = tt

  -- ---- the queues and the ready list

  stored_after_lem : {e : Event} → Does c s w e → (i : ℕ)
      → stored c (apply c s w e) i + by (H.took i) (task_op e) ≡ stored c s i + by (H.gave i) (task_op e)
  stored_after_lem (view.does_mind d p can) i = refl
  stored_after_lem (view.does_push j js r d l) i =
      omega (
        arith,
        sum_upd c.workers (count i) s.queue w (s.queue w ++ j ∷ []) hw,
        count_append i (s.queue w) (j ∷ []),
        count_cons i j [],
        count_nil i,
      )
  stored_after_lem (view.does_find_full j js r d l) i = refl
  stored_after_lem (view.does_win p f) i = refl
  stored_after_lem (view.does_fail p f) i = refl
  stored_after_lem (view.does_take_ticket r d z) i = refl
  stored_after_lem (view.does_register t p) i = refl
  stored_after_lem (view.does_wait t p q) i = refl
  stored_after_lem (view.does_receive t j p q) i = refl
  stored_after_lem (view.does_own t p q) i = refl
  stored_after_lem (view.does_drain u k p) i =
      omega (
        arith,
        sum_upd c.workers (count i) s.queue k [] (drains_below c s h w u k p),
        arrive_count i s.ready_list (s.queue k),
        count_nil i,
      )
  stored_after_lem (view.does_fill n u j js p q f l) i = omega (arith, chosen_count q i)
  stored_after_lem (view.does_take n j js p q) i = omega (arith, chosen_count q i)
  stored_after_lem (view.does_take_none n p q) i = refl
  stored_after_lem (view.does_hand_over n p) i = refl
  stored_after_lem (view.does_leave p) i = refl

  -- ---- the cells

  abbrev cell : ℕ → LH.Stand → ℕ
  cell i x = in_cell i x (s.lock.cell_ticket w) (s.lock.cell_task w)

  abbrev boxes_at : ℕ → Place → ℕ
  boxes_at i q = sum c.workers (λ u. in_cell i (lock_stand (upd s.place w q u)) (s.lock.cell_ticket u) (s.lock.cell_task u))

  -- worker w goes from p to q, and no cell changes
  box : (i : ℕ) (p q : Place) → s.place w ≡ p → boxes_at i q + cell i (lock_stand p) ≡ boxes c s i + cell i (lock_stand q)
  box i p q e =
      omega (
        arith,
        sum_at c.workers (λ u. in_cell i (lock_stand (s.place u)) (s.lock.cell_ticket u) (s.lock.cell_task u))
            (λ u. in_cell i (lock_stand (upd s.place w q u)) (s.lock.cell_ticket u) (s.lock.cell_task u)) w hw (λ u l n. rw upd_other),
        ap (λ x. cell i (lock_stand x)) e,
        ap (λ x. cell i (lock_stand x)) (upd_same s.place w q),
      )

  -- an event that fills no cell
  same_cells : (e : Event) → by_lock LH.fills (lock_op e) ≡ 0 → (i : ℕ) → boxes c (apply c s w e) i ≡ boxes_at i (effect c s w e).place
  same_cells e n i =
      let (a, b) = cells_kept c s w e n in
      ap₂ (λ (x y : ℕ → ℕ). sum c.workers (λ u. in_cell i (lock_stand (upd s.place w (effect c s w e).place u)) (x u) (y u))) a b

  -- the owner w fills the cell of the front waiter, which stands elsewhere
  fills_box : (n u j : ℕ) (js : List ℕ) → s.place w ≡ serving n
      → (u < c.workers) × (s.place u ≡ looking s.lock.tail) × (s.lock.cell_ticket u ≢ s.lock.tail)
      → (i : ℕ) → boxes c (apply c s w (fills n u j js)) i ≡ boxes c s i + is j i
  fills_box n u j js p (hu, e, un) i =
      let other : u ≢ w = λ z. let y : s.place u ≡ s.place w = ap s.place z in clash (cc) in
      let t = s.lock.tail in
      let before : ℕ → ℕ = λ x. in_cell i (lock_stand (s.place x)) (s.lock.cell_ticket x) (s.lock.cell_task x) in
      let after : ℕ → ℕ =
      λ x. in_cell i (lock_stand (upd s.place w (handing n) x)) (upd s.lock.cell_ticket u t x) (upd s.lock.cell_task u j x) in
      let before_u : before u ≡ 0 = rw e (boxed_other i t _ _ un) in
      let after_u : after u ≡ is j i = simp (upd_other, upd_same, e) (boxed_same i t t j refl) in
      let before_w : before w ≡ 0 = rw p in
      let after_w : after w ≡ 0 = simp upd_same in
      let (a, b) = Lock.fill_after c.slots s.lock w u j in
      let filled : boxes c (apply c s w (fills n u j js)) i ≡ sum c.workers after =
      ap₂ (λ (x y : ℕ → ℕ). sum c.workers (λ k. in_cell i (lock_stand (upd s.place w (handing n) k)) (x k) (y k))) a b in
      omega (arith, filled, sum_two c.workers before after u w hu hw other (λ x l a b. simp upd_other))

  -- the front waiter that an owner finds waits with the tail, and its cell does not hold that ticket yet
  front_unfilled : (n u : ℕ) → s.place w ≡ serving n → L.front c.slots s.lock ≡ some u
      → (u < c.workers) × (s.place u ≡ looking s.lock.tail) × (s.lock.cell_ticket u ≢ s.lock.tail)
  front_unfilled n u p f =
      let (k, e) = (Lock.front_iff locked u).0 f in
      (k, waits_at (s.place u) s.lock.tail e, λ z. omega (arith, Lock.owning_cells locked w (ap lock_stand p) u))

  boxes_after : {e : Event} → Does c s w e → (i : ℕ)
      → boxes c (apply c s w e) i + by (H.fetched i) (task_op e) ≡ boxes c s i + by (H.held_out i) (task_op e)
  boxes_after (view.does_mind d p can) i = omega (arith, box i idle idle p)
  boxes_after (view.does_push j js r d l) i = omega (arith, box i idle idle r.place)
  boxes_after (view.does_find_full j js r d l) i = omega (arith, box i idle trying r.place)
  boxes_after (view.does_win p f) i = omega (arith, same_cells tries_and_owns refl i, box i trying (draining for_adding 0) p)
  boxes_after (view.does_fail p f) i = omega (arith, box i trying idle p)
  boxes_after (view.does_take_ticket r d z) i =
      omega (arith, same_cells takes_ticket refl i, box i idle (registering s.lock.head) r.place)
  boxes_after (view.does_register t p) i =
      omega (
        arith,
        same_cells (registers t) refl i,
        box i (registering t) (looking t) p,
        boxed_other i t (s.lock.cell_ticket w) (s.lock.cell_task w) (λ z. omega (arith, Lock.ticket_new locked w t (ap lock_stand p))),
      )
  boxes_after (view.does_wait t p q) i = omega (arith, box i (s.place w) (s.place w) refl)
  boxes_after (view.does_receive t j p q) i =
      let (a, b) = received t j p q in
      omega (
        arith,
        same_cells (receives t j) refl i,
        box i (looking t) idle p,
        boxed_same i t (s.lock.cell_ticket w) (s.lock.cell_task w) a,
        ap (λ x. is x i) b,
      )
  boxes_after (view.does_own t p q) i =
      omega (
        arith,
        same_cells (owns t) refl i,
        box i (looking t) (draining for_serving 0) p,
        boxed_other i t (s.lock.cell_ticket w) (s.lock.cell_task w) ((Lock.look_called locked w t (ap lock_stand p)).0 q).1,
      )
  boxes_after (view.does_drain u k p) i =
      omega (arith, box i (draining u k) (next_drain c u k) p, drain_empty c u k i (s.lock.cell_ticket w) (s.lock.cell_task w))
  boxes_after (view.does_fill n u j js p q f l) i = omega (arith, fills_box n u j js p (front_unfilled n u p f) i)
  boxes_after (view.does_take n j js p q) i = omega (arith, box i (serving n) leaving p)
  boxes_after (view.does_take_none n p q) i = omega (arith, box i (serving n) leaving p)
  boxes_after (view.does_hand_over n p) i =
      omega (arith, same_cells (hands_over n (handed_by c s w)) refl i, box i (handing n) (serving (suc n)) p)
  boxes_after (view.does_leave p) i = omega (arith, same_cells (leaves (handed_by c s w)) refl i, box i leaving idle p)

  -- ---- what a worker has at each place

  -- what w has in its mailbox, to add and in hand after an operation
  abbrev FitsAfter : Place → Option H.Op → Type 0
  FitsAfter p o =
      Fits c p (P.stands_after c.tasks s.stand w o w) ((P.tasks_after c.tasks s.picks s.tasks w o).mail w)
      ((P.tasks_after c.tasks s.picks s.tasks w o).adds w)

  held_fits : (n j : ℕ) → n < c.workers - 1 → Fits c (serving n) (s.stand w) (s.tasks.mail w) (s.tasks.adds w)
      → FitsAfter (handing n) (some (H.holds j))
  held_fits n j l (k, (x, ms, js)) =
      let (a, b) = Promise.own c.tasks s.picks s.tasks w (H.holds j) refl in
      (l, (upd_same s.stand w _ ∙ x, a ∙ ms, b ∙ js))

  taken_fits : (n j : ℕ) → Fits c (serving n) (s.stand w) (s.tasks.mail w) (s.tasks.adds w) → FitsAfter leaving (some (H.takes j))
  taken_fits n j (k, (x, ms, js)) =
      let (a, b) = Promise.own c.tasks s.picks s.tasks w (H.takes j) refl in
      (a ∙ ms, ap has_notice (upd_same s.stand w _))

  fits_own : {e : Event} → Does c s w e → FitsAfter (effect c s w e).place (task_op e)
  fits_own (view.does_mind d p can) = tt
  fits_own (view.does_push j js r d l) = tt
  fits_own (view.does_find_full j js r d l) = (r.stand, r.mail, rw d (omega arith))
  fits_own (view.does_win p f) = (omega arith, rw p at (h.fits w))
  fits_own (view.does_fail p f) = tt
  fits_own (view.does_take_ticket r d z) = (r.stand, r.mail, d)
  fits_own (view.does_register t p) = rw p at (h.fits w)
  fits_own (view.does_wait t p q) = h.fits w
  fits_own (view.does_receive t j p q) = tt
  fits_own (view.does_own t p q) = (omega arith, rw p at (h.fits w))
  fits_own (view.does_drain u k p) = drain_fits c u k _ _ _ (rw p at (h.fits w))
  fits_own (view.does_fill n u j js p q f l) = held_fits n j l (rw p at (h.fits w))
  fits_own (view.does_take n j js p q) = taken_fits n j (rw p at (h.fits w))
  fits_own (view.does_take_none n p q) = let (k, (x, ms, js)) = rw p at (h.fits w) in (ms, ap has_notice x)
  fits_own (view.does_hand_over n p) = let (k, b) = rw p at (h.fits w) in (omega arith, b)
  fits_own (view.does_leave p) = tt

  keeps_fits : {e : Event} → Does c s w e → (u : ℕ)
      → Fits c ((apply c s w e).place u) ((apply c s w e).stand u) ((apply c s w e).tasks.mail u) ((apply c s w e).tasks.adds u)
  keeps_fits {e} d =
      upd_all (λ u x. Fits c x ((apply c s w e).stand u) ((apply c s w e).tasks.mail u) ((apply c s w e).tasks.adds u)) s.place w
      (effect c s w e).place (fits_own d)
      (λ u n. let (a, b) = PLaws.others_by c.tasks s.picks s.tasks w (task_op e) u n in
      rw (a, b, PLaws.stands_others c.tasks s.stand w (task_op e) u n) (h.fits u))

  -- ---- the theorems

  module _ {e : Event} (d : Does c s w e) where
    pub tasked_keep : Tasked c (apply c s w e).tasks (apply c s w e).stand
    tasked_keep = PLaws.kept_by v w hw s.picks (task_op e) (task_may d)

    pub device_keep : Device c (apply c s w e)
    device_keep =
        record {
          stored = λ i. omega (arith, h.stored i, stored_after_lem d i, PLaws.given_by v w hw s.picks (task_op e) (task_may d) i);
          boxes = λ i. omega (arith, h.boxes i, boxes_after d i, PLaws.held_by v w hw s.picks (task_op e) (task_may d) i);
          fits = keeps_fits d;
        }
