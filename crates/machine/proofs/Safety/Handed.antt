-- What a hand-over gives, by the lock's promise: the task in the cell of the worker that it lets in.
use Rattle.std.specs.Prelude.{ℕ, ◌≤◌, ◌<◌, ◌≡◌, length}
use Rattle.std.proofs.Common.{arith, sym, ap, ◌∙◌}
use Rattle.std.proofs.Math.Path.{refl}
use Rattle.std.proofs.Math.Logic.{⊎_elim}
use Rattle.std.proofs.Math.Option.{Option, none, some}
use Rattle.runs.specs.Update.{order, upd, clash}
use Rattle.lock.specs.Lock as L
use Rattle.lock.specs.History as LH
use Rattle.lock.proofs.Promise as Lock
use Rattle.tasks.specs.Tasks as T
use Rattle.tasks.proofs.Promise as Promise
use Rattle.machine.specs.State.{Setup, State}
use Rattle.machine.specs.Event.{Handed, found, handed, handed_by}
use Rattle.machine.specs.Whereabouts.{lock_stand}
use Rattle.machine.specs.Safety.Locked.{Locked, lock_stands}
use Rattle.machine.proofs.Safety.Locked.{waits_at}
use Rattle.machine.specs.Safety.Device.{Tasked, Device}
use Rattle.machine.proofs.Safety.Device.{celled}

-- task i lies in the cell of worker v, who waits with the tail, under that ticket
abbrev pub Fronts : State → ℕ → ℕ → Type 0
Fronts s v i = LH.InCell s.lock (lock_stands s.place) v s.lock.tail i

module _ (c : Setup) (s : State) (locked : Locked c s.lock s.place) (w : ℕ) where
  abbrev let_in_lem : Option ℕ
  let_in_lem = (L.tells c.slots s.lock w).let_in

  -- a hand-over leaves the cells as they are
  cells : ((L.hand_over c.slots s.lock).cell_ticket ≡ s.lock.cell_ticket)
      × ((L.hand_over c.slots s.lock).cell_task ≡ s.lock.cell_task)
  cells = rw (← Lock.after_pass c.slots s.lock w) (Lock.cells_after c.slots s.lock w LH.pass refl)

  -- what is handed over lies in the cell of the worker let in
  finds : (v : ℕ) → let_in_lem ≡ some v → (x : L.Look) → L.look c.slots (L.hand_over c.slots s.lock) s.lock.tail v ≡ x
      → (h : Handed) → found w v x ≡ some h → (h.by ≡ w) × (h.to < c.workers) × Fronts s h.to h.task
  finds v e L.not_yet q h f = clash (cc)
  finds v e L.owns q h f = clash (cc)
  finds v e (L.receives i) q h f =
      let (below, waits) = (Lock.told_iff locked w v).0 e in
      let (a, b) = Lock.look_received c.slots (L.hand_over c.slots s.lock) s.lock.tail v i q in
      let to : h.to ≡ v = cc in
      let task : h.task ≡ i = cc in (
        cc,
        rw to below,
        (rw to waits, rw to (sym (ap (λ f. f v) cells.0) ∙ a), rw (to, task) (sym (ap (λ f. f v) cells.1) ∙ b)),
      )

  pub handed_is : (h : Handed) → handed_by c s w ≡ some h → (h.by ≡ w) × (h.to < c.workers) × Fronts s h.to h.task
  unfolding handed
  handed_is h e = go let_in_lem refl e
    where
      go : (o : Option ℕ) → let_in_lem ≡ o
          → elim o [
            | none ↦ none
            | some v ↦ found (L.tells c.slots s.lock w).by v
                (L.look c.slots (L.hand_over c.slots s.lock) s.lock.tail v)
          ] ≡ some h
          → (h.by ≡ w) × (h.to < c.workers) × Fronts s h.to h.task
      go none q f = clash (cc)
      go (some v) q f = finds v q _ refl h (rw (Lock.told_by c.slots s.lock w) at f)

  -- and what lies there is handed over by the owner
  pub handed_if : w < c.workers → (op : LH.Op) → LH.Can c.slots s.lock (lock_stand (s.place w)) w op → LH.hands_over op ≡ 1
      → LH.after c.slots s.lock w op ≡ L.hand_over c.slots s.lock
      → (v i : ℕ) → v < c.workers → Fronts s v i → handed_by c s w ≡ some (record { by = w; to = v; task = i })
  unfolding handed
  handed_if hw op can hands is v i below at =
      let told : let_in_lem ≡ some v = (Lock.told_iff locked w v).1 (below, at.0) in
      rw (told, Lock.told_by c.slots s.lock w, sees) refl
    where
      inside : LH.InCell (LH.after c.slots s.lock w op) (upd (lock_stands s.place) w (LH.stand_after s.lock op)) v
          s.lock.tail i
      inside =
          ⊎_elim
          (λ (same, received). let none_handed : LH.hands_over op ≡ 0 = rw received refl in absurd (omega arith))
          (λ k. k)
          (Lock.cell_stays locked w v s.lock.tail i at op can)

      sees : L.look c.slots (L.hand_over c.slots s.lock) s.lock.tail v ≡ L.receives i
      sees =
          rw (← is)
          ((Lock.cell_look (Lock.kept_after locked w hw op can) v s.lock.tail i inside).0
          (omega (arith, Lock.tail_after c.slots s.lock w op)))

-- so it is a task of the plan
pub handed_below : (c : Setup) (s : State) → Locked c s.lock s.place → Tasked c s.tasks s.stand → Device c s
    → (w : ℕ) (h : Handed) → handed_by c s w ≡ some h → h.task < length c.tasks
handed_below c s locked tasked device w h e =
    let (by, below, at) = handed_is c s locked w h e in
    held_below (celled c s device h.to s.lock.tail h.task below (waits_at (s.place h.to) s.lock.tail at.0) at.1 at.2)
  where
    opened_le : (x : T.Creation) → T.Made c.tasks x → T.opened x ≤ length c.tasks
    opened_le (T.opening i) m = m
    opened_le (T.linking i a) m = omega (arith, m.0)

    held_below : s.tasks.status h.task ≡ T.held → h.task < length c.tasks
    held_below is =
        ⊎_elim
        (λ (l : h.task < T.opened s.tasks.creation). omega (arith, opened_le s.tasks.creation (Promise.made tasked)))
        (λ (l : T.opened s.tasks.creation ≤ h.task). clash (let z = Promise.uncreated tasked h.task l in cc))
        (order h.task (T.opened s.tasks.creation))
