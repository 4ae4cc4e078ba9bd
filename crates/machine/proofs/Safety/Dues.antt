-- Who is due, by the lock's promise: at most one worker, while nobody owns and the lock isn't free; and it stays so whatever others do.
use Rattle.std.specs.Prelude.{ℕ, suc, ◌≤◌, ◌<◌, ◌≡◌, refl, ◌⊎◌, ◌↔◌, ◌≢◌, true}
use Rattle.std.proofs.Common.{arith, sym, ap, ◌∙◌, inl, inr, ⊎_elim}
use Rattle.runs.specs.Update.{upd, upd_other, same, clash}
use Rattle.lock.specs.Lock as L
use Rattle.lock.specs.History as LH
use Rattle.lock.proofs.Promise as Lock
use Rattle.lock.proofs.Promise.{Kept, Leader, nobody, called, owner}
use Rattle.machine.specs.Whereabouts.{wins, is_due}
use Rattle.machine.specs.Safety.Dues.{DueWith}

wins_owns : (x : L.Look) → wins x ≡ true → x ≡ L.owns
wins_owns L.not_yet e = clash (cc)
wins_owns (L.receives i) e = clash (cc)
wins_owns L.owns e = refl

-- who is due is who holds such a ticket
pub due_is : (N : ℕ) (l : L.Lock) (w : ℕ) (x : LH.Stand) → (is_due N l w x ≡ true) ↔ ((t : ℕ) × DueWith N l w x t)
due_is N l w x = (
  shown x,
  λ (t, (h, turn, cell)).
      ⊎_elim (λ (e : x ≡ LH.taken t). rw e (won t turn cell)) (λ (e : x ≡ LH.waiting t). rw e (won t turn cell)) h,
)
  where
    won : (t : ℕ) → L.turn N l t ≡ true → l.cell_ticket w ≢ t → wins (L.look N l t w) ≡ true
    won t turn cell = ap wins ((Lock.look_wins N l t w).1 (turn, cell))

    shown : (y : LH.Stand) → is_due N l w y ≡ true → (t : ℕ) × DueWith N l w y t
    shown LH.out e = clash (cc)
    shown (LH.taken t) e = let (turn, cell) = (Lock.look_wins N l t w).0 (wins_owns _ e) in (t, (inl refl, turn, cell))
    shown (LH.waiting t) e = let (turn, cell) = (Lock.look_wins N l t w).0 (wins_owns _ e) in (t, (inr refl, turn, cell))
    shown LH.owning e = clash (cc)
    shown LH.serving e = clash (cc)

module _ {W N : ℕ} {l : L.Lock} {st : ℕ → LH.Stand} (k : Kept W N l st) where
  -- by the lock's words
  due_below : (w t : ℕ) → DueWith N l w (st w) t → t < l.tail
  due_below w t (h, turn, cell) = (Lock.turn_below k t (Lock.ticket_given k w t h).0).0 turn

  -- who is due is the one that the lock calls
  due_called : (w t : ℕ) → DueWith N l w (st w) t → LH.Called l st w
  due_called w t d = go (Lock.leader k)
    where
      served : LH.Served l st w → ⊥
      served s = d.2 (s t d.0 (due_below w t d)).1

      go : Leader W l st → LH.Called l st w
      go (nobody free) = absurd (d.2 ((Lock.free_lock k free).1 w t d.0).2)
      go (called v b is) = ⊎_elim (λ (e : w ≡ v). rw e is) (λ (n : w ≢ v). absurd (served ((Lock.called_lock k v is).2 w n))) (same w v)
      go (owner v b o) = absurd (served ((Lock.owned_lock k v o).1 w))

  -- nobody owns then, and the lock isn't free
  pub due_lock : (w t : ℕ) → DueWith N l w (st w) t → (l.tail ≤ l.head) × ((v : ℕ) → LH.Owner (st v) → ⊥)
  due_lock w t d = let (busy, none_owns, _) = Lock.called_lock k w (due_called w t d) in (busy, none_owns)

  -- nobody else is
  pub due_one : (v w s t : ℕ) → DueWith N l v (st v) s → DueWith N l w (st w) t → v ≡ w
  due_one v w s t d e =
      let (busy, none_owns) = due_lock w t e in
      let (u, _, _, only) = Lock.one_due k ((Lock.busy_iff k).1 busy) none_owns in
      only v (s, d.0, due_below v s d, d.2) ∙ sym (only w (t, e.0, due_below w t e, e.2))

  -- a worker owns the lock; or nobody does, and a worker is due; or the lock is free
  abbrev Cases : Type 0
  Cases =
      ((w : ℕ) × (w < W) × LH.Owner (st w))
      ⊎ (((v : ℕ) → LH.Owner (st v) → ⊥) × ((w : ℕ) × (w < W) × ((t : ℕ) × DueWith N l w (st w) t)))
      ⊎ (l.tail ≡ suc l.head)

  pub cases : Cases
  cases = go (Lock.leader k)
    where
      go : Leader W l st → Cases
      go (owner w b o) = inl (w, b, o)
      go (called w b (t, h, newest, cell)) =
          let turn = (Lock.turn_below k t (Lock.ticket_given k w t h).0).1 (omega arith) in
          inr (inl ((Lock.called_lock k w (t, h, newest, cell)).1, (w, b, (t, (h, turn, cell)))))
      go (nobody free) = inr (inr ((Lock.free_iff k).0 free))

  -- an operation of another worker leaves it due, with its ticket
  pub due_stays : (w t : ℕ) → DueWith N l w (st w) t → (v : ℕ) → v ≢ w → (op : LH.Op) → LH.Can N l (st v) v op
      → DueWith N (LH.after N l v op) w (upd st v (LH.stand_after l op) w) t
  due_stays w t d v n op can = (
    rw (upd_other st v (LH.stand_after l op) w (λ e. n (sym e))) d.0,
    (Lock.turn_after k v op t (Lock.ticket_given k w t d.0).0).1 (omega (arith, due_below w t d)),
    cell (Lock.cell_after N l v op w),
  )
    where
      -- only an owner fills a cell
      filler : {x : LH.Op} {j : ℕ} → LH.Can N l (st v) v x → x ≡ LH.fill w j → LH.Owner (st v)
      filler (LH.can_take e) q = clash (cc)
      filler (LH.can_register u e) q = clash (cc)
      filler (LH.can_own u e f) q = clash (cc)
      filler (LH.can_receive u i e f) q = clash (cc)
      filler (LH.can_fill u i e f) q = inl e
      filler (LH.can_pass e) q = clash (cc)
      filler (LH.can_leave e) q = clash (cc)
      filler (LH.can_try e f) q = clash (cc)

      cell : ((j : ℕ) × (op ≡ LH.fill w j))
          ⊎ (((LH.after N l v op).cell_ticket w ≡ l.cell_ticket w) × ((LH.after N l v op).cell_task w ≡ l.cell_task w))
          → (LH.after N l v op).cell_ticket w ≢ t
      cell (inl (j, e)) = absurd ((due_lock w t d).1 v (filler can e))
      cell (inr (e, f)) = λ q. d.2 (sym e ∙ q)

  -- and so does its own registration
  pub due_registered : (w t : ℕ) → DueWith N l w (LH.taken t) t → st w ≡ LH.taken t
      → DueWith N (LH.after N l w (LH.register t)) w (LH.waiting t) t
  due_registered w t (h, turn, cell) e =
      let given = (Lock.ticket_given k w t (inl e)).0 in (
        inr refl,
        (Lock.turn_after k w (LH.register t) t given).1 (omega (arith, (Lock.turn_below k t given).0 turn)),
        λ q. cell (sym (ap (λ (f : ℕ → ℕ). f w) (Lock.cells_after N l w (LH.register t) refl).0) ∙ q),
      )
