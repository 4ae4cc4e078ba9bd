-- Where a worker stands with the lock, what it may do there, and histories of such operations.
use Rattle.std.specs.Prelude.{ℕ, suc, ◌+◌, ◌<◌, ◌≡◌, ◌⊎◌, ◌≢◌, true, List, [], ◌∷◌}
use Rattle.std.proofs.Math.Option.{some}
use Rattle.runs.specs.Update.{upd}
use Rattle.lock.specs.Lock as lock
use Rattle.lock.specs.Lock.{Lock, start, front, look, is_free}

pub data Stand : Type 0 where
  out : Stand
  -- it has a ticket, and isn't registered
  taken : ℕ → Stand
  waiting : ℕ → Stand
  owning : Stand
  -- an owner that has filled the front waiter's cell and not yet handed over
  serving : Stand

pub data Op : Type 0 where
  take : Op
  register : (ticket : ℕ) → Op
  own : (ticket : ℕ) → Op
  receive : (ticket task : ℕ) → Op
  fill : (worker task : ℕ) → Op
  -- hand over, and stay owner
  pass : Op
  -- hand over, and leave
  leave : Op
  -- take a ticket of a free lock, and own it
  try : Op

-- what worker w may do where it stands
pub data Can (N : ℕ) (l : Lock) (x : Stand) (w : ℕ) : Op → Type 0 where
  can_take : x ≡ out → Can N l x w take
  can_register : (t : ℕ) → x ≡ taken t → Can N l x w (register t)
  can_own : (t : ℕ) → x ≡ waiting t → look N l t w ≡ lock.owns → Can N l x w (own t)
  can_receive : (t i : ℕ) → x ≡ waiting t → look N l t w ≡ lock.receives i → Can N l x w (receive t i)
  can_fill : (v i : ℕ) → x ≡ owning → front N l ≡ some v → Can N l x w (fill v i)
  can_pass : x ≡ serving → Can N l x w pass
  can_leave : x ≡ owning → Can N l x w leave
  can_try : x ≡ out → is_free l ≡ true → Can N l x w try

unfoldable pub after : ℕ → Lock → ℕ → Op → Lock
after N l w take = lock.take_ticket l
after N l w (register t) = lock.register N l t w
after N l w (own t) = l
after N l w (receive t i) = l
after N l w (fill v i) = lock.fill l v i
after N l w pass = lock.hand_over N l
after N l w leave = lock.hand_over N l
after N l w try = lock.take_ticket l

abbrev pub stand_after : Lock → Op → Stand
stand_after l take = taken l.head
stand_after l (register t) = waiting t
stand_after l (own t) = owning
stand_after l (receive t i) = out
stand_after l (fill v i) = serving
stand_after l pass = owning
stand_after l leave = out
stand_after l try = owning

-- what an operation changes: the head, a registration, a cell, the tail, or nothing but where its worker stands
pub data Part : Type 0 where
  of_head : Part
  of_registration : Part
  of_cell : Part
  of_tail : Part
  of_nothing : Part

abbrev pub changes : Op → Part
changes take = of_head
changes (register t) = of_registration
changes (own t) = of_nothing
changes (receive t i) = of_nothing
changes (fill v i) = of_cell
changes pass = of_tail
changes leave = of_tail
changes try = of_head

-- 1 for an operation that hands over, takes a ticket, registers, fills a cell
abbrev pub hands_over : Op → ℕ
hands_over op = elim (changes op) [ of_head ↦ 0 | of_registration ↦ 0 | of_cell ↦ 0 | of_tail ↦ 1 | of_nothing ↦ 0 ]

abbrev pub takes : Op → ℕ
takes op = elim (changes op) [ of_head ↦ 1 | of_registration ↦ 0 | of_cell ↦ 0 | of_tail ↦ 0 | of_nothing ↦ 0 ]

abbrev pub registers : Op → ℕ
registers op = elim (changes op) [ of_head ↦ 0 | of_registration ↦ 1 | of_cell ↦ 0 | of_tail ↦ 0 | of_nothing ↦ 0 ]

abbrev pub fills : Op → ℕ
fills op = elim (changes op) [ of_head ↦ 0 | of_registration ↦ 0 | of_cell ↦ 1 | of_tail ↦ 0 | of_nothing ↦ 0 ]

pub record Move : Type 0 where
  pub by : ℕ
  pub op : Op

unfoldable pub hand_overs : List Move → ℕ
hand_overs [] = 0
hand_overs (m ∷ ms) = hands_over m.op + hand_overs ms

-- moves of workers below W, the latest first, each one allowed where it comes
pub data Run (W N : ℕ) (l : Lock) (st : ℕ → Stand) : List Move → Lock → (ℕ → Stand) → Type 0 where
  still : Run W N l st [] l st
  then : {ms : List Move} {now : Lock} {at : ℕ → Stand} → Run W N l st ms now at → (w : ℕ) → w < W → (op : Op) → Can N now (at w) w op
      → Run W N l st (record { by = w; op = op } ∷ ms) (after N now w op) (upd at w (stand_after now op))

-- from the start values, with nobody near the lock
abbrev pub History : ℕ → ℕ → List Move → Lock → (ℕ → Stand) → Type 0
History W N = Run W N (start N) (λ _. out)

-- a worker holds a ticket, registered or not
abbrev pub Holds : Stand → ℕ → Type 0
Holds x t = (x ≡ taken t) ⊎ (x ≡ waiting t)

abbrev pub Owner : Stand → Type 0
Owner x = (x ≡ owning) ⊎ (x ≡ serving)

-- if worker v has a ticket below the tail, it waits with it and finds it in its cell
abbrev pub Served : Lock → (ℕ → Stand) → ℕ → Type 0
Served l st v = (t : ℕ) → Holds (st v) t → t < l.tail → (st v ≡ waiting t) × (l.cell_ticket v ≡ t)

-- worker v has a ticket below the tail and doesn't find it in its cell
abbrev pub Due : Lock → (ℕ → Stand) → ℕ → Type 0
Due l st v = (t : ℕ) × Holds (st v) t × (t < l.tail) × (l.cell_ticket v ≢ t)

-- and that ticket is the newest below the tail: this worker is the next to own
abbrev pub Called : Lock → (ℕ → Stand) → ℕ → Type 0
Called l st v = (t : ℕ) × Holds (st v) t × (suc t ≡ l.tail) × (l.cell_ticket v ≢ t)

-- task j lies in the cell of worker v, who waits with ticket t, under that ticket
abbrev pub InCell : Lock → (ℕ → Stand) → ℕ → ℕ → ℕ → Type 0
InCell l st v t j = (st v ≡ waiting t) × (l.cell_ticket v ≡ t) × (l.cell_task v ≡ j)
