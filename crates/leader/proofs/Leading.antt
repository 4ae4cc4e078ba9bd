-- The owner of the lock and the worker that is due are those whose places say so.
use Prim.Native.Nat.{ℕ, ◌+◌, ◌*◌, ◌≤◌, ◌<◌}
use native.Mathlib.Omega.{arith}
use mathlib.Core.Path.{◌≡◌, refl, sym, ap, ◌∙◌}
use mathlib.Core.Logic.{◌⊎◌, inl, inr}
use mathlib.Core.Bool.{true, false}
use mathlib.Core.List.{List}
use lib.ListN.{get_or}
use lib.Dec.{leb}
use borrow.Author.Tests.{le-leb, lt-leb}
use Rattle.runs.specs.Searches.{last_below, last_same}
use Rattle.lock.specs.Lock as L
use Rattle.lock.specs.Arrays.{lock_of}
use Rattle.lock.specs.Answers.{seen}
use Rattle.lock.specs.declared.Looked.{Looked}
use Rattle.lock.specs.declared.Looked.TheVariants.{Owns}
use Rattle.machine.specs.State.{Setup, State, for_serving, for_adding}
use Rattle.machine.specs.State.{Place, idle, trying, registering, looking, draining, serving, handing, leaving}
use Rattle.machine.specs.declared.Leader.{Leader}
use Rattle.machine.specs.Whereabouts.{lock_stand, is_owner, wins, is_due, owner, due, leads, leader}
use Rattle.steps.specs.Layout.{share_size, place_at, number_at, REGISTERING, LOOKING, SERVING}
use Rattle.steps.specs.Codes.{Coded}
use Rattle.steps.specs.Memory.{share, station, Memory, Holds}
use Rattle.steps.specs.declared.Counts.{Counts}
use Rattle.lock_steps.specs.Lent.{with_seen}
use Rattle.steps.proofs.Parts.{share_at, station_at}
use Rattle.leader.specs.Numbers.{place_in, number_in, owns_in, due_at, due_in}

owns : (k a : ℕ) (p : Place) → Coded k a p → leb SERVING k ≡ is_owner (lock_stand p)
owns k a idle h = rw h
owns k a trying h = rw h
owns k a (registering t) h = rw h.0
owns k a (looking t) h = rw h.0
owns k a (draining for_serving x) h = rw h.0
owns k a (draining for_adding x) h = rw h.0
owns k a (serving n) h = rw h.0
owns k a (handing n) h = rw h.0
owns k a leaving h = rw h

is_due_lem : (slots : ℕ) (l : L.Lock) (w k a : ℕ) (p : Place) → Coded k a p → due_at slots l k a w ≡ is_due slots l w (lock_stand p)
is_due_lem slots l w k a idle h = rw h
is_due_lem slots l w k a trying h = rw h
is_due_lem slots l w k a (registering t) h = rw (h.0, h.1) refl
is_due_lem slots l w k a (looking t) h = rw (h.0, h.1) refl
is_due_lem slots l w k a (draining for_serving x) h = rw h.0
is_due_lem slots l w k a (draining for_adding x) h = rw h.0
is_due_lem slots l w k a (serving n) h = rw h.0
is_due_lem slots l w k a (handing n) h = rw h.0
is_due_lem slots l w k a leaving h = rw h

module _ (store : List ℕ) (workers : ℕ) (c : Setup) (m : Memory) (s : State) (h : Holds c m (share store) s) (e : workers ≡ c.workers)
  where
    coded : (w : ℕ) → w < c.workers → Coded (place_in store w) (number_in store w) (s.place w)
    coded w l =
        let at : (k : ℕ) → k < 8 → get_or (station (share store w)) k 0 ≡ get_or store (w * share_size + k) 0 = λ k b.
        station_at (share store w) k (omega arith) ∙ share_at store w k (omega arith) in
        rw (at place_at (omega arith), at number_at (omega arith)) at (h.device.stationed w l).place

    pub owner_is : last_below (owns_in store) workers ≡ owner c s
    unfolding owner
    owner_is =
        rw e (last_same (owns_in store) (λ w. is_owner (lock_stand (s.place w))) c.workers
        (λ w l. owns (place_in store w) (number_in store w) (s.place w) (coded w l)))

    pub due_is : last_below (due_in c.slots s.lock store) workers ≡ due c s
    unfolding due
    due_is =
        rw e (last_same (due_in c.slots s.lock store) (λ w. is_due c.slots s.lock w (lock_stand (s.place w))) c.workers
        (λ w l. is_due_lem c.slots s.lock w (place_in store w) (number_in store w) (s.place w) (coded w l)))

-- ---- one worker

module _ (slots : ℕ) (l : L.Lock) (place ticket w : ℕ) where
  -- it is at another place than those with a ticket
  pub due_nowhere : (place < REGISTERING) ⊎ ((REGISTERING ≤ place) × (LOOKING < place)) → false ≡ due_at slots l place ticket w
  due_nowhere (inl h) = rw (lt-leb REGISTERING place h) refl
  due_nowhere (inr h) = rw (le-leb REGISTERING place h.0, lt-leb place LOOKING h.1) refl

  -- it has one, and its look wins
  pub due_owns : REGISTERING ≤ place → place ≤ LOOKING → (r : Looked) → seen r ≡ L.look slots l ticket w → r ≡ Owns
      → true ≡ due_at slots l place ticket w
  due_owns g h r sees e = rw (le-leb REGISTERING place g, le-leb place LOOKING h) (ap wins (ap seen (sym e) ∙ sees))

-- ---- who leads, by what was found

module _ (n : Counts) (store wait tickets cells : List ℕ) where
  -- what is told by the numbers is so of the state that they hold, whatever the numbers that a look doesn't compare
  pub told : (r : Leader)
      → ((head tail : ℕ) (registrations : List ℕ)
      → r
      ≡ leads (last_below (owns_in store) n.workers)
      (last_below (due_in n.slots (lock_of n.slots head tail wait registrations tickets cells) store) n.workers))
      → (m : Memory) (c : Setup) (s : State) → Holds c (with_seen m n wait tickets cells m.rows) (share store) s → r ≡ leader c s
  told r is m c s h =
      let lock : lock_of n.slots n.ends.head.0 n.ends.tail.0 wait m.registrations tickets cells ≡ s.lock =
      rw h.device.slots h.lock in
      let its_owner = owner_is store n.workers c _ s h h.device.workers in
      let its_due = due_is store n.workers c _ s h h.device.workers in
      rw (lock, h.device.slots, its_owner, its_due) at (is n.ends.head.0 n.ends.tail.0 m.registrations)
