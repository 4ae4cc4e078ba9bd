-- What the code compares in the arrays is what the definitions of a look and of the front waiter ask.
use mathlib.Core.Path.{◌≡◌, ap, ◌∙◌}
use mathlib.Core.Logic.{◌≢◌}
use mathlib.Core.List.{List}
use mathlib.Core.Option.{none, some}
use Prim.Native.Nat.{ℕ, ◌%◌, ◌≤◌, ◌<◌}
use native.Mathlib.Omega.{arith}
use lib.ListN.{length, get_or}
use borrow.Author.Tests.{le-leb, lt-leb, eq-eqb, ne_eqb}
use Rattle.std.proofs.lemmas.List.{get_or_default}
use Rattle.lock.specs.Lock.{turn, worker_in, front, not_yet, receives, owns, look}
use Rattle.lock.specs.Arrays.{lock_of}

module _ (N head tail : ℕ) (wait registrations tickets tasks : List ℕ) where
  module _ (t w at : ℕ) (slot : at ≡ t % N) (below : at < length wait) where
    slot_read : get_or wait at 0 ≡ get_or wait (t % N) N
    slot_read = get_or_default wait at 0 N below ∙ ap (λ (k : ℕ). get_or wait k N) slot

    pub looks_early : get_or wait at 0 < t → not_yet ≡ look N (lock_of N head tail wait registrations tickets tasks) t w
    unfolding look turn
    looks_early h = rw (lt-leb t (get_or wait (t % N) N) (omega (arith, slot_read)), look)

    module _ (come : t ≤ get_or wait at 0) where
      pub looks_served : get_or tickets w 0 ≡ t → receives (get_or tasks w 0) ≡ look N (lock_of N head tail wait registrations tickets tasks) t w
      unfolding look turn
      looks_served e = rw (le-leb t (get_or wait (t % N) N) (omega (arith, slot_read)), eq-eqb, look)

      pub looks_first : get_or tickets w 0 ≢ t → owns ≡ look N (lock_of N head tail wait registrations tickets tasks) t w
      unfolding look turn
      looks_first e = rw (le-leb t (get_or wait (t % N) N) (omega (arith, slot_read)), ne_eqb, look)

  module _ (at : ℕ) (slot : at ≡ tail % N) where
    pub front_none : get_or registrations at 0 < tail → none ≡ front N (lock_of N head tail wait registrations tickets tasks)
    unfolding front
    front_none h = let k : get_or registrations (tail % N) 0 < tail = rw slot at h in rw (lt-leb, front)

    pub front_some : tail ≤ get_or registrations at 0
        → some (worker_in (get_or registrations at 0) tail) ≡ front N (lock_of N head tail wait registrations tickets tasks)
    unfolding front
    front_some h = let k : tail ≤ get_or registrations (tail % N) 0 = rw slot at h in rw (slot, le-leb, front)
