-- What the device keeps: exactly the tasks that it was given, in its queues and its ready list; in
-- the cells, exactly those that it holds out.
use Rattle.std.specs.Prelude.{ℕ, ◌<◌, ◌≡◌, refl, ◌⊎◌, ◌≢◌, eqb}
use Rattle.std.proofs.Common.{arith, ap, ◌∙◌, inl, inr, ⊎_elim, eq-eqb, ne_eqb}
use Rattle.runs.specs.Update.{same}
use Rattle.runs.specs.Sums.{sum_const, le_sum, two_sum, pos_sum}
use Rattle.runs.specs.Counts.{one_le, is, is_same, is_other, count, count_nil}
use Rattle.lock.specs.History as LH
use Rattle.tasks.specs.Tasks.{held, stage, is_held, given}
use Rattle.tasks.proofs.Promise as Promise
use Rattle.machine.specs.State.{Setup, Purpose, for_serving, for_adding, looking, draining, State, start}
use Rattle.machine.specs.Whereabouts.{lock_stand, boxed, in_cell}
use Rattle.machine.proofs.Safety.Locked.{waits_at}
use Rattle.machine.specs.Safety.Device.{Tasked, Device}

-- ---- cells

pub boxed_same : (i t ticket task : ℕ) → ticket ≡ t → boxed i t ticket task ≡ is task i
unfolding boxed
boxed_same i t ticket task e = rw (eq-eqb ticket t e, boxed)

pub boxed_other : (i t ticket task : ℕ) → ticket ≢ t → boxed i t ticket task ≡ 0
unfolding boxed
boxed_other i t ticket task e = rw (ne_eqb ticket t e, boxed)

-- a task in the cell of a worker, with the ticket with which it waits
in_cell_lem : (i : ℕ) (x : LH.Stand) (ticket task : ℕ) → 0 < in_cell i x ticket task → (t : ℕ) × (x ≡ LH.waiting t) × (ticket ≡ t) × (task ≡ i)
in_cell_lem i LH.out ticket task l = absurd (omega arith)
in_cell_lem i (LH.taken t) ticket task l = absurd (omega arith)
in_cell_lem i (LH.waiting t) ticket task l = (t, refl, ticket_is (same ticket t), task_is (same ticket t) (same task i))
  where
    ticket_is : (ticket ≡ t) ⊎ (ticket ≢ t) → ticket ≡ t
    ticket_is (inl e) = e
    ticket_is (inr n) = absurd (omega (arith, boxed_other i t ticket task n))

    task_is : (ticket ≡ t) ⊎ (ticket ≢ t) → (task ≡ i) ⊎ (task ≢ i) → task ≡ i
    task_is (inl e) (inl q) = q
    task_is (inl e) (inr n) = absurd (omega (arith, boxed_same i t ticket task e, is_other task i n))
    task_is (inr n) q = absurd (omega (arith, boxed_other i t ticket task n))
in_cell_lem i LH.owning ticket task l = absurd (omega arith)
in_cell_lem i LH.serving ticket task l = absurd (omega arith)

-- ---- the start

pub device_start : (c : Setup) → Device c (start c)
unfolding start
device_start c =
    record {
      stored = λ i. rw count_nil (omega (arith, sum_const c.workers 0, Promise.start_given c.workers i));
      boxes = λ i. omega (arith, sum_const c.workers 0, ap is_held (Promise.start_status i));
      fits = λ w. tt;
    }

-- ---- what a task's place says of it

module _ (c : Setup) (s : State) (h : Device c s) where
  -- a task in the ready list was given to the device
  pub listed_given : Tasked c s.tasks s.stand → (j : ℕ) → 0 < count j s.ready_list → given c.workers s.tasks j ≡ 1
  listed_given v j l = omega (arith, h.stored j, Promise.given_le v j)

  -- a task in the cell of a worker that waits with the ticket beside it counts there
  counts_at : (w t j : ℕ) → s.place w ≡ looking t → s.lock.cell_ticket w ≡ t → s.lock.cell_task w ≡ j
      → in_cell j (lock_stand (s.place w)) (s.lock.cell_ticket w) (s.lock.cell_task w) ≡ 1
  counts_at w t j p e d =
      ap (λ x. in_cell j (lock_stand x) (s.lock.cell_ticket w) (s.lock.cell_task w)) p
      ∙ boxed_same j t (s.lock.cell_ticket w) (s.lock.cell_task w) e ∙ is_same (s.lock.cell_task w) j d

  -- it is held
  pub celled : (w t j : ℕ) → w < c.workers → s.place w ≡ looking t → s.lock.cell_ticket w ≡ t → s.lock.cell_task w ≡ j
      → s.tasks.status j ≡ held
  celled w t j l p e d =
      let cell : ℕ → ℕ = λ v. in_cell j (lock_stand (s.place v)) (s.lock.cell_ticket v) (s.lock.cell_task v) in
      Promise.is_held_lem (s.tasks.status j) (omega (arith, h.boxes j, le_sum c.workers cell w l, counts_at w t j p e d))

  -- and in no other cell
  pub celled_once : (u v t r j : ℕ) → u < c.workers → v < c.workers
      → s.place u ≡ looking t → s.lock.cell_ticket u ≡ t → s.lock.cell_task u ≡ j
      → s.place v ≡ looking r → s.lock.cell_ticket v ≡ r → s.lock.cell_task v ≡ j → u ≡ v
  celled_once u v t r j a b p e d q f g =
      let cell : ℕ → ℕ = λ x. in_cell j (lock_stand (s.place x)) (s.lock.cell_ticket x) (s.lock.cell_task x) in
      ⊎_elim
      (λ (z : u ≡ v). z)
      (λ n. absurd (omega (
        arith,
        h.boxes j,
        one_le (eqb (stage (s.tasks.status j)) (stage held)),
        two_sum c.workers cell u v a b n,
        counts_at u t j p e d,
        counts_at v r j q f g,
      )))
      (same u v)

  pub held_at : (i : ℕ) → s.tasks.status i ≡ held
      → (w : ℕ) × (w < c.workers) × (t : ℕ) × (s.place w ≡ looking t) × (s.lock.cell_ticket w ≡ t) × (s.lock.cell_task w ≡ i)
  held_at i e =
      let cell : ℕ → ℕ = λ v. in_cell i (lock_stand (s.place v)) (s.lock.cell_ticket v) (s.lock.cell_task v) in
      let (w, l, z) = pos_sum c.workers cell (omega (arith, h.boxes i, ap is_held e)) in
      let (t, p, q, r) = in_cell_lem i (lock_stand (s.place w)) (s.lock.cell_ticket w) (s.lock.cell_task w) z in
      (w, l, t, waits_at (s.place w) t p, q, r)

  -- who drains, drains a worker's queue
  pub drains_below : (v : ℕ) (p : Purpose) (k : ℕ) → s.place v ≡ draining p k → k < c.workers
  drains_below v for_serving k e = (rw e at (h.fits v)).0
  drains_below v for_adding k e = (rw e at (h.fits v)).0
