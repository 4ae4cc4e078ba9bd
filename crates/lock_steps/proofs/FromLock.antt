-- What the lock's functions promise, as operations on the lock of the state.
use Prim.Native.Nat.{ℕ, ◌+◌, ◌%◌, ◌^◌, ◌<◌}
use native.Mathlib.Omega.{arith}
use mathlib.Core.Path.{◌≡◌, refl, sym, ap, ◌∙◌}
use mathlib.Core.Bool.{Bool}
use mathlib.Core.List.{List}
use mathlib.Core.Option.{none}
use Rattle.std.specs.Prelude.{Option, None, Some}
use lib.ListN.{set}
use Rattle.lock.specs.Lock as L
use Rattle.lock.specs.History as LH
use Rattle.lock.proofs.Promise as Promise
use Rattle.lock.specs.Arrays.{lock_of}
use Rattle.lock.specs.Answers.{seen, waiter, told}
use Rattle.lock.specs.declared.Ends.{Ends}
use Rattle.lock.specs.declared.Taken.{Taken}
use Rattle.lock.specs.declared.Looked.{Looked}
use Rattle.lock.specs.declared.Looked.TheVariants.{NotYet, Receives, Owns}
use Rattle.lock.specs.declared.HandedOver.{HandedOver}
use Rattle.lock.specs.declared.Worker.{Worker}
use Rattle.machine.specs.Event.{found, handed}
use Rattle.steps.specs.Memory.{Memory, Able}
use Rattle.lock_steps.specs.Lent.{lock_in, handed_in}

-- what each function ensures
abbrev pub Took : Ends → Taken → Type 0
Took ends r =
    ((r.ticket.0 ≡ ends.head.0) × (r.ends.head.0 ≡ ends.head.0 + 1) × (r.ends.tail.0 ≡ ends.tail.0))
    × ((slots : ℕ) (wait registrations tickets cells : List ℕ)
    → lock_in slots r.ends wait registrations tickets cells ≡ L.take_ticket (lock_in slots ends wait registrations tickets cells))

abbrev pub Registered : (slots ticket worker : ℕ) → (before after : List ℕ) → Type 0
Registered slots ticket worker before after =
    (after ≡ set before (ticket % slots) (L.join ticket worker))
    × ((head tail : ℕ) (wait tickets cells : List ℕ)
    → lock_of slots head tail wait after tickets cells ≡ L.register slots (lock_of slots head tail wait before tickets cells) ticket worker)

pub record HandsOver (slots : ℕ) (ends : Ends) (before after registrations : List ℕ) (w : ℕ) (r : HandedOver) : Type 0 where
  pub raised : (r.ends.head.0 ≡ ends.head.0) × (r.ends.tail.0 ≡ ends.tail.0 + 1)
  pub waits : after ≡ set before (ends.tail.0 % slots) ends.tail.0
  pub locks : (tickets cells : List ℕ)
      → lock_in slots r.ends after registrations tickets cells ≡ L.hand_over slots (lock_in slots ends before registrations tickets cells)
  pub tells : (tickets cells : List ℕ) → told r ≡ L.tells slots (lock_in slots ends before registrations tickets cells) w

abbrev pub Filled : Ends → (worker task : ℕ) → (tickets stamped cells filled : List ℕ) → Type 0
Filled ends worker task tickets stamped cells filled =
    (stamped ≡ set tickets worker ends.tail.0)
    × ((filled ≡ set cells worker task)
    × ((slots : ℕ) (wait registrations : List ℕ)
    → lock_in slots ends wait registrations stamped filled ≡ L.fill (lock_in slots ends wait registrations tickets cells) worker task))

abbrev pub Sees : ℕ → (wait tickets cells : List ℕ) → (ticket worker : ℕ) → Looked → Type 0
Sees slots wait tickets cells ticket worker r =
    (head tail : ℕ) (registrations : List ℕ) → seen r ≡ L.look slots (lock_of slots head tail wait registrations tickets cells) ticket worker

-- the same by who has its ticket's slot in hand
abbrev pub SeesAt : ℕ → (wait tickets cells : List ℕ) → (ticket worker : ℕ) → Looked → Type 0
SeesAt at wait tickets cells ticket worker r = (slots : ℕ) → at ≡ ticket % slots → Sees slots wait tickets cells ticket worker r

abbrev pub Fronts : ℕ → Ends → List ℕ → Option Worker → Type 0
Fronts slots ends registrations r =
    (wait tickets cells : List ℕ) → waiter r ≡ L.front slots (lock_of slots ends.head.0 ends.tail.0 wait registrations tickets cells)

abbrev pub Frees : Ends → Bool → Type 0
Frees ends r =
    (slots : ℕ) (wait registrations tickets cells : List ℕ)
    → r ≡ L.is_free (lock_of slots ends.head.0 ends.tail.0 wait registrations tickets cells)

-- ---- what a hand-over gives, by its answer

module _ {slots : ℕ} {ends : Ends} {before after registrations : List ℕ} {w : ℕ} {r : HandedOver}
    (k : HandsOver slots ends before after registrations w r) (tickets cells : List ℕ) where
  abbrev lock : L.Lock
  lock = lock_in slots ends before registrations tickets cells

  let_in_lem : {x : Option Worker} → r.let_in ≡ x → (L.tells slots lock w).let_in ≡ waiter x
  let_in_lem e = sym (ap (λ (t : L.Told). t.let_in) (k.tells tickets cells)) ∙ ap waiter e

  pub told_front : {x : Option Worker} → r.let_in ≡ x → L.front slots lock ≡ waiter x
  told_front e = sym (Promise.told_front slots lock w) ∙ let_in_lem e

  pub told_by : r.by.0 ≡ w
  told_by = ap (λ (t : L.Told). t.by) (k.tells tickets cells) ∙ Promise.told_by slots lock w

  pub hands_nobody : r.let_in ≡ None → handed_in slots lock w ≡ none
  unfolding handed
  hands_nobody e = rw (let_in_lem e) refl

  -- what the worker let in finds, by what it sees
  pub hands_found : (v : Worker) → r.let_in ≡ Some v → (x : Looked) → Sees slots after tickets cells ends.tail.0 v.0 x
      → handed_in slots lock w ≡ found w v.0 (seen x)
  unfolding handed
  hands_found v e x sees =
      rw (
        let_in_lem e,
        Promise.told_by slots lock w,
        ← k.locks tickets cells,
        sees r.ends.head.0 r.ends.tail.0 registrations,
      )
      refl

-- who sees no task finds none
pub finds_none : (w v : ℕ) (x : Looked) → ((i : ℕ) → x ≡ Receives i → ⊥) → found w v (seen x) ≡ none
finds_none w v NotYet none_seen = refl
finds_none w v (Receives i) none_seen = absurd (none_seen i refl)
finds_none w v Owns none_seen = refl

module _ {m : Memory} {own : List ℕ} {w : ℕ} (a : Able m own w) where
  -- ---- its numbers

  pub slots_are : m.counts.slots ≡ a.c.slots
  slots_are = a.holds.device.slots

  head_is : m.counts.ends.head.0 ≡ a.s.lock.head
  head_is = ap (λ (l : L.Lock). l.head) a.holds.lock

  pub head_fits : m.counts.ends.head.0 + 1 < 2 ^ 64
  head_fits = omega (arith, a.fit.head, head_is)

  pub tail_fits : m.counts.ends.tail.0 + 1 < 2 ^ 64
  tail_fits = omega (arith, a.fit.tail, ap (λ (l : L.Lock). l.tail) a.holds.lock)

  pub ticket_is : {r : Taken} → Took m.counts.ends r → r.ticket.0 ≡ a.s.lock.head
  ticket_is k = k.0.0 ∙ head_is

  -- ---- answers

  pub sees : (t : ℕ) {r x : Looked} → Sees m.counts.slots m.wait m.tickets m.cells t w r → r ≡ x
      → L.look a.c.slots a.s.lock t w ≡ seen x
  sees t says e =
      rw (← a.holds.lock, ← slots_are, ← e) (sym (says m.counts.ends.head.0 m.counts.ends.tail.0 m.registrations))

  pub fronts : {r x : Option Worker} → Fronts m.counts.slots m.counts.ends m.registrations r → r ≡ x
      → L.front a.c.slots a.s.lock ≡ waiter x
  fronts says e = rw (← a.holds.lock, ← slots_are, ← e) (sym (says m.wait m.tickets m.cells))

  pub frees : {r x : Bool} → Frees m.counts.ends r → r ≡ x → L.is_free a.s.lock ≡ x
  frees says e = rw (← a.holds.lock, ← e) (sym (says a.c.slots m.wait m.registrations m.tickets m.cells))

  -- ---- operations

  -- the lock in memory with other ends and arrays
  abbrev pub lock_with : Ends → (wait registrations tickets cells : List ℕ) → L.Lock
  lock_with ends wait registrations tickets cells = lock_in a.c.slots ends wait registrations tickets cells

  abbrev after : LH.Op → L.Lock
  after op = LH.after a.c.slots a.s.lock w op

  pub after_take : {r : Taken} → Took m.counts.ends r
      → lock_with r.ends m.wait m.registrations m.tickets m.cells ≡ after LH.take
  after_take k =
      rw (Promise.after_take a.c.slots a.s.lock w, ← a.holds.lock)
      (k.1 a.c.slots m.wait m.registrations m.tickets m.cells)

  pub after_try : {r : Taken} → Took m.counts.ends r
      → lock_with r.ends m.wait m.registrations m.tickets m.cells ≡ after LH.try
  after_try k =
      rw (Promise.after_try a.c.slots a.s.lock w, ← a.holds.lock)
      (k.1 a.c.slots m.wait m.registrations m.tickets m.cells)

  pub after_register : (t : ℕ) {written : List ℕ} → Registered m.counts.slots t w m.registrations written
      → lock_with m.counts.ends m.wait written m.tickets m.cells ≡ after (LH.register t)
  after_register t k =
      rw (Promise.after_register a.c.slots a.s.lock w t, ← a.holds.lock, ← slots_are)
      (k.1 m.counts.ends.head.0 m.counts.ends.tail.0 m.wait m.tickets m.cells)

  pub after_own : (t : ℕ) → lock_with m.counts.ends m.wait m.registrations m.tickets m.cells ≡ after (LH.own t)
  after_own t = a.holds.lock ∙ sym (Promise.after_own a.c.slots a.s.lock w t)

  pub after_receive : (t i : ℕ) → lock_with m.counts.ends m.wait m.registrations m.tickets m.cells ≡ after (LH.receive t i)
  after_receive t i = a.holds.lock ∙ sym (Promise.after_receive a.c.slots a.s.lock w t i)

  pub after_fill : (v i : ℕ) {stamped filled : List ℕ} → Filled m.counts.ends v i m.tickets stamped m.cells filled
      → lock_with m.counts.ends m.wait m.registrations stamped filled ≡ after (LH.fill v i)
  after_fill v i k =
      rw (Promise.after_fill a.c.slots a.s.lock w v i, ← a.holds.lock) (k.1.1 a.c.slots m.wait m.registrations)

  -- the lock after a hand-over
  module _ (next : Ends) (written : List ℕ)
      (k : lock_in m.counts.slots next written m.registrations m.tickets m.cells
      ≡ L.hand_over m.counts.slots
      (lock_in m.counts.slots m.counts.ends m.wait m.registrations m.tickets m.cells)) where
    pub after_pass : lock_with next written m.registrations m.tickets m.cells ≡ after LH.pass
    after_pass = rw (Promise.after_pass a.c.slots a.s.lock w, ← a.holds.lock, ← slots_are) k

    pub after_leave : lock_with next written m.registrations m.tickets m.cells ≡ after LH.leave
    after_leave = rw (Promise.after_leave a.c.slots a.s.lock w, ← a.holds.lock, ← slots_are) k
