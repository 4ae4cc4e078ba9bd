-- What one operation changes: of any lock, and of one that was kept.
use Rattle.std.specs.Prelude.{◌≡◌, refl, ◌⊎◌, ◌≢◌, ◌↔◌, true, false, ℕ, suc, ◌+◌, ◌≤◌, ◌<◌}
use Rattle.std.proofs.Math.Path.{sym, ap}
use Rattle.std.proofs.Common.{◌∙◌, arith}
use Rattle.std.proofs.Math.Logic.{inl, inr, ⊎_elim}
use Rattle.std.proofs.Math.Option.{some}
use Rattle.runs.specs.Update.{same, upd, upd_same, upd_other, clash}
use Rattle.lock.specs.Lock as lock
use Rattle.lock.specs.Lock.{Lock, turn, front}
use Rattle.lock.specs.History.{Stand, out, taken, waiting, owning, serving, Op, take, register, own, receive, fill, pass, leave, try}
use Rattle.lock.specs.History.{Can, can_take, can_register, can_own, can_receive, can_fill, can_pass, can_leave, can_try, after}
use Rattle.lock.specs.History.{stand_after}
use Rattle.lock.specs.History.{hands_over, takes, registers, fills, Owner, InCell}
use Rattle.lock.specs.Inside.Ring.{Slots}
use Rattle.lock.proofs.Inside.Ring.{slots_handed}
use Rattle.lock.specs.Inside.Invariant.{Inv}
use Rattle.lock.proofs.Inside.Facts.{no_ticket, front_waits, waits_front}
use Rattle.lock.proofs.Inside.Keeps.{keeps}
use Rattle.lock.proofs.Inside.Laws.{turn_slot, turn_early, ticket_given, ticket_one, look_served, look_called, owning_cells}

-- ---- of any lock

pub ends_after : (N : ℕ) (l : Lock) (w : ℕ) (op : Op)
    → ((after N l w op).head ≡ l.head + takes op) × ((after N l w op).tail ≡ l.tail + hands_over op)
unfolding after lock.take_ticket lock.register lock.fill lock.hand_over
ends_after N l w take = (omega arith, omega arith)
ends_after N l w (register t) = (omega arith, omega arith)
ends_after N l w (own t) = (omega arith, omega arith)
ends_after N l w (receive t j) = (omega arith, omega arith)
ends_after N l w (fill v j) = (omega arith, omega arith)
ends_after N l w pass = (omega arith, omega arith)
ends_after N l w leave = (omega arith, omega arith)
ends_after N l w try = (omega arith, omega arith)

pub at_most_one : (op : Op) → takes op + hands_over op ≤ 1
at_most_one take = omega arith
at_most_one (register t) = omega arith
at_most_one (own t) = omega arith
at_most_one (receive t j) = omega arith
at_most_one (fill v j) = omega arith
at_most_one pass = omega arith
at_most_one leave = omega arith
at_most_one try = omega arith

pub fill_after : (N : ℕ) (l : Lock) (w v j : ℕ)
    → ((after N l w (fill v j)).cell_ticket ≡ upd l.cell_ticket v l.tail)
    × ((after N l w (fill v j)).cell_task ≡ upd l.cell_task v j)
unfolding after lock.fill
fill_after N l w v j = (refl, refl)

-- an operation fills a cell, or leaves all of them as they were
abbrev SameCells : Lock → Lock → Type 0
SameCells l now = (now.cell_ticket ≡ l.cell_ticket) × (now.cell_task ≡ l.cell_task)

cells_of : (N : ℕ) (l : Lock) (w : ℕ) (op : Op) → ((v j : ℕ) × (op ≡ fill v j)) ⊎ SameCells l (after N l w op)
unfolding after lock.take_ticket lock.register lock.hand_over
cells_of N l w take = inr (refl, refl)
cells_of N l w (register t) = inr (refl, refl)
cells_of N l w (own t) = inr (refl, refl)
cells_of N l w (receive t j) = inr (refl, refl)
cells_of N l w (fill v j) = inl (v, j, refl)
cells_of N l w pass = inr (refl, refl)
cells_of N l w leave = inr (refl, refl)
cells_of N l w try = inr (refl, refl)

pub cells_after : (N : ℕ) (l : Lock) (w : ℕ) (op : Op) → fills op ≡ 0
    → ((after N l w op).cell_ticket ≡ l.cell_ticket) × ((after N l w op).cell_task ≡ l.cell_task)
cells_after N l w op none =
    ⊎_elim (λ (v, j, e). absurd (omega (arith, none, ap fills e))) (λ same. same) (cells_of N l w op)

pub cell_after : (N : ℕ) (l : Lock) (w : ℕ) (op : Op) (v : ℕ)
    → ((j : ℕ) × (op ≡ fill v j)) ⊎ (((after N l w op).cell_ticket v ≡ l.cell_ticket v) × ((after N l w op).cell_task v ≡ l.cell_task v))
cell_after N l w op v = go (cells_of N l w op)
  where
    go : ((u j : ℕ) × (op ≡ fill u j)) ⊎ SameCells l (after N l w op)
        → ((j : ℕ) × (op ≡ fill v j))
        ⊎ (((after N l w op).cell_ticket v ≡ l.cell_ticket v) × ((after N l w op).cell_task v ≡ l.cell_task v))
    go (inl (u, j, e)) =
        ⊎_elim (λ (z : v ≡ u). inl (j, rw z e))
        (λ (n : v ≢ u).
        let (a, b) = fill_after N l w u j in
        inr (rw (e, a) (upd_other l.cell_ticket u l.tail v n), rw (e, b) (upd_other l.cell_task u j v n)))
        (same v u)
    go (inr (a, b)) = inr (ap (λ (f : ℕ → ℕ). f v) a, ap (λ (f : ℕ → ℕ). f v) b)

pub front_kept : (N : ℕ) (l : Lock) (w : ℕ) (op : Op) → hands_over op ≡ 0 → registers op ≡ 0 → front N (after N l w op) ≡ front N l
unfolding after lock.take_ticket lock.fill front
front_kept N l w take h r = refl
front_kept N l w (register t) h r = absurd (omega arith)
front_kept N l w (own t) h r = refl
front_kept N l w (receive t j) h r = refl
front_kept N l w (fill v j) h r = refl
front_kept N l w pass h r = absurd (omega arith)
front_kept N l w leave h r = absurd (omega arith)
front_kept N l w try h r = refl

slots_after : (N : ℕ) (l : Lock) (w : ℕ) (op : Op) → Slots N l.tail l.wait → Slots N (after N l w op).tail (after N l w op).wait
unfolding after lock.take_ticket lock.register lock.fill lock.hand_over
slots_after N l w take s = s
slots_after N l w (register t) s = s
slots_after N l w (own t) s = s
slots_after N l w (receive t j) s = s
slots_after N l w (fill v j) s = s
slots_after N l w pass s = slots_handed N l.tail l.wait s
slots_after N l w leave s = slots_handed N l.tail l.wait s
slots_after N l w try s = s

-- who comes to wait has registered
registers_with : (l : Lock) (x : ℕ) (o : Op) → stand_after l o ≡ waiting x → o ≡ register x
registers_with l x take e = clash (cc)
registers_with l x (register t) e = cc
registers_with l x (own t) e = clash (cc)
registers_with l x (receive t j) e = clash (cc)
registers_with l x (fill u j) e = clash (cc)
registers_with l x pass e = clash (cc)
registers_with l x leave e = clash (cc)
registers_with l x try e = clash (cc)

-- who hands over owns, and waits with no ticket after it
pub hands_stand : {N : ℕ} {l : Lock} {x : Stand} {w : ℕ} {op : Op} → Can N l x w op → hands_over op ≡ 1
    → Owner x × ((t : ℕ) → stand_after l op ≢ waiting t)
hands_stand (can_take e) h = absurd (omega arith)
hands_stand (can_register u e) h = absurd (omega arith)
hands_stand (can_own u e q) h = absurd (omega arith)
hands_stand (can_receive u j e q) h = absurd (omega arith)
hands_stand (can_fill u j e f) h = absurd (omega arith)
hands_stand (can_pass e) h = (inr e, λ t z. clash (cc))
hands_stand (can_leave e) h = (inl e, λ t z. clash (cc))
hands_stand (can_try e f) h = absurd (omega arith)

-- ---- of a lock that was kept

module _ {W N : ℕ} {l : Lock} {st : ℕ → Stand} (i : Inv W N l st) where
  pub turn_after : (w : ℕ) (op : Op) (t : ℕ) → N ≤ t → (turn N (after N l w op) t ≡ true) ↔ (t < l.tail + hands_over op)
  turn_after w op t h =
      rw (← (ends_after N l w op).1) (turn_slot N (after N l w op) (slots_after N l w op i.slots) t h)

  -- the front waiter is the worker whose turn comes by a hand-over
  pub front_turn : (w : ℕ) (op : Op) → hands_over op ≡ 1 → (v : ℕ)
      → (front N l ≡ some v)
      ↔ ((v < W) × (t : ℕ) × (st v ≡ waiting t) × (turn N l t ≡ false) × (turn N (after N l w op) t ≡ true))
  front_turn w op one v = (
    λ f.
        let (h, e) = front_waits i v f in
        let given = (ticket_given i v l.tail (inr e)).0 in
        (h, l.tail, e, (turn_early i l.tail given).1 (omega arith), (turn_after w op l.tail given).1 (omega arith)),
    λ (h, t, e, early, comes).
        let given = (ticket_given i v t (inr e)).0 in
        let z : t ≡ l.tail = omega (arith, (turn_early i t given).0 early, (turn_after w op t given).0 comes) in
        waits_front i v (e ∙ ap waiting z),
  )

  -- the front waiter can do nothing but look
  waiter_still : (v : ℕ) → st v ≡ waiting l.tail → {op : Op} → Can N l (st v) v op → ⊥
  waiter_still v q (can_take e) = clash (cc)
  waiter_still v q (can_register t e) = clash (cc)
  waiter_still v q (can_own t e look) = let z : t ≡ l.tail = cc in omega (arith, (look_called i v t e).0 look)
  waiter_still v q (can_receive t j e look) = let z : t ≡ l.tail = cc in omega (arith, (look_served i v t e j).0 look)
  waiter_still v q (can_fill u j e f) = clash (cc)
  waiter_still v q (can_pass e) = clash (cc)
  waiter_still v q (can_leave e) = clash (cc)
  waiter_still v q (can_try e f) = clash (cc)

  pub front_still : (v : ℕ) → front N l ≡ some v → (op : Op) → Can N l (st v) v op → ⊥
  front_still v f op can = waiter_still v (front_waits i v f).1 can

  module _ (w : ℕ) (hw : w < W) {op : Op} (can : Can N l (st w) w op) where
    next : Inv W N (after N l w op) (upd st w (stand_after l op))
    next = keeps i w hw can

    pub front_stays : hands_over op ≡ 0 → (v : ℕ) → front N l ≡ some v → front N (after N l w op) ≡ some v
    front_stays none v f =
        let q : st v ≡ waiting l.tail = (front_waits i v f).1 in
        let n : v ≢ w = λ z. waiter_still w (ap st (sym z) ∙ q) can in
        waits_front next v (upd_other st w (stand_after l op) v n ∙ q ∙ ap waiting (omega (arith, none, (ends_after N l w op).1)))

    pub front_comes : hands_over op ≡ 0 → (v : ℕ) → front N (after N l w op) ≡ some v
        → (front N l ≡ some v) ⊎ ((v ≡ w) × (op ≡ register l.tail))
    front_comes none v f =
        let tail : (after N l w op).tail ≡ l.tail = omega (arith, none, (ends_after N l w op).1) in
        let q : upd st w (stand_after l op) v ≡ waiting l.tail = (front_waits next v f).1 ∙ ap waiting tail in
        let then = upd st w (stand_after l op) in
        ⊎_elim (λ (z : v ≡ w). inr (z, registers_with l l.tail op (sym (upd_same st w (stand_after l op)) ∙ ap then (sym z) ∙ q)))
        (λ (n : v ≢ w). inl (waits_front i v (sym (upd_other st w (stand_after l op) v n) ∙ q)))
        (same v w)

    pub front_handed : hands_over op ≡ 1 → (v : ℕ) → (front N (after N l w op) ≡ some v) ↔ ((v < W) × (st v ≡ waiting (suc l.tail)))
    front_handed one v =
        let tail : (after N l w op).tail ≡ suc l.tail = omega (arith, one, (ends_after N l w op).1) in
        let (owner, now) = hands_stand can one in
        let still : v ≢ w → upd st w (stand_after l op) v ≡ st v = upd_other st w (stand_after l op) v in
        let there : upd st w (stand_after l op) v ≡ waiting (suc l.tail) → v ≢ w =
        λ q z. now (suc l.tail) (sym (upd_same st w (stand_after l op)) ∙ ap (upd st w (stand_after l op)) (sym z) ∙ q) in (
          λ f. let (h, q) = front_waits next v f in let e = q ∙ ap waiting tail in (h, sym (still (there e)) ∙ e),
          λ (h, q). waits_front next v (still (λ z. no_ticket owner (inr (ap st (sym z) ∙ q))) ∙ q ∙ ap waiting (sym tail)),
        )

  pub front_registered : (w : ℕ) → w < W → st w ≡ taken l.tail → front N (after N l w (register l.tail)) ≡ some w
  front_registered w h e =
      let tail : (after N l w (register l.tail)).tail ≡ l.tail = omega (arith, (ends_after N l w (register l.tail)).1) in
      waits_front (keeps i w h (can_register l.tail e)) w (upd_same st w (waiting l.tail) ∙ ap waiting (sym tail))

  pub cell_filled : (w v j : ℕ) → st w ≡ owning → front N l ≡ some v → InCell (after N l w (fill v j)) (upd st w serving) v l.tail j
  unfolding after lock.fill
  cell_filled w v j e f =
      let q : st v ≡ waiting l.tail = (front_waits i v f).1 in
      let n : v ≢ w = λ z. let y : st v ≡ st w = ap st z in clash (cc) in
      (upd_other st w serving v n ∙ q, upd_same l.cell_ticket v l.tail, upd_same l.cell_task v j)

  -- what lies in a waiting worker's cell stays there until that worker receives it
  module _ (w : ℕ) (v t j : ℕ) (inside : InCell l st v t j) where
    stays : (x : Stand) → v ≢ w → InCell l (upd st w x) v t j
    stays x n = let (e, c, d) = inside in (upd_other st w x v n ∙ e, c, d)

    elsewhere : st w ≢ waiting t → v ≢ w
    elsewhere n z = n (ap st (sym z) ∙ inside.0)

    pub cell_stays : {op : Op} → Can N l (st w) w op
        → ((w ≡ v) × (op ≡ receive t j)) ⊎ InCell (after N l w op) (upd st w (stand_after l op)) v t j
    unfolding after lock.take_ticket lock.register lock.fill lock.hand_over
    cell_stays (can_take e) = inr (stays (taken l.head) (elsewhere (λ z. clash (cc))))
    cell_stays (can_register u e) = inr (stays (waiting u) (elsewhere (λ z. clash (cc))))
    cell_stays (can_own u e q) =
        inr (stays owning (elsewhere (λ z. let y : u ≡ t = cc in absurd (((look_called i w u e).0 q).1 (mine y)))))
      where
        mine : u ≡ t → l.cell_ticket w ≡ u
        mine y = ap l.cell_ticket (ticket_one i w v t (inr (rw y at e)) (inr inside.0)) ∙ inside.1 ∙ sym y
    cell_stays (can_receive u k e q) = ⊎_elim (λ (z : v ≡ w). inl (sym z, mine z)) (λ (n : v ≢ w). inr (stays out n)) (same v w)
      where
        mine : v ≡ w → receive u k ≡ receive t j
        mine z =
            let (a, c, d) = (look_served i w u e k).0 q in
            let y : st v ≡ st w = ap st z in
            let p : st v ≡ waiting t = inside.0 in
            let r : l.cell_task v ≡ j = inside.2 in
            let s : l.cell_task v ≡ l.cell_task w = ap l.cell_task z in
            cc
    cell_stays (can_fill u k e f) =
        let n : v ≢ w = elsewhere (λ z. clash (cc)) in
        let ticket = upd_other l.cell_ticket u l.tail v unserved ∙ inside.1 in
        let task = upd_other l.cell_task u k v unserved ∙ inside.2 in
        inr (upd_other st w serving v n ∙ inside.0, ticket, task)
      where
        unserved : v ≢ u
        unserved z =
            let q : st u ≡ waiting l.tail = (front_waits i u f).1 in
            let p : st v ≡ waiting t = inside.0 in
            let r : st v ≡ st u = ap st z in
            let y : t ≡ l.tail = cc in
            omega (arith, owning_cells i w e v, inside.1)
    cell_stays (can_pass e) = inr (stays owning (elsewhere (λ z. clash (cc))))
    cell_stays (can_leave e) = inr (stays out (elsewhere (λ z. clash (cc))))
    cell_stays (can_try e f) = inr (stays owning (elsewhere (λ z. clash (cc))))
