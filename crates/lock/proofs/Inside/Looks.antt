-- What a look and the search for a front waiter come to, by the numbers that they compare.
use Rattle.std.specs.Prelude.{◌≡◌, refl, ◌⊎◌, ◌≢◌, ℕ, ◌+◌, ◌%◌, ◌≤◌, ◌<◌}
use Rattle.std.proofs.Common.{inl, inr, ⊎_elim, arith}
use Rattle.std.proofs.Math.Option.{Option, none, some}
use borrow.Author.Tests.{le-leb, lt-leb, eq-eqb, ne_eqb}
use Rattle.runs.specs.Update.{same, order}
use Rattle.runs.specs.Near.{near_mod}
use Rattle.lock.specs.Lock.{Lock, turn, join, worker_in, front, Look, not_yet, receives, owns, look}

module _ (N : ℕ) (l : Lock) (t w : ℕ) where
  pub looks_early : l.wait (t % N) < t → look N l t w ≡ not_yet
  unfolding look turn
  looks_early h = rw (lt-leb, look)

  pub looks_served : t ≤ l.wait (t % N) → l.cell_ticket w ≡ t → look N l t w ≡ receives (l.cell_task w)
  unfolding look turn
  looks_served h e = rw (le-leb, eq-eqb, look)

  pub looks_first : t ≤ l.wait (t % N) → l.cell_ticket w ≢ t → look N l t w ≡ owns
  unfolding look turn
  looks_first h e = rw (le-leb, ne_eqb, look)

  -- what is known where a look was answered so
  abbrev pub Seen : Look → Type 0
  Seen not_yet = l.wait (t % N) < t
  Seen (receives i) = (t ≤ l.wait (t % N)) × (l.cell_ticket w ≡ t) × (l.cell_task w ≡ i)
  Seen owns = (t ≤ l.wait (t % N)) × (l.cell_ticket w ≢ t)

  pub seen : Seen (look N l t w)
  seen = go (order (l.wait (t % N)) t) (same (l.cell_ticket w) t)
    where
      go : (l.wait (t % N) < t) ⊎ (t ≤ l.wait (t % N)) → (l.cell_ticket w ≡ t) ⊎ (l.cell_ticket w ≢ t) → Seen (look N l t w)
      go (inl a) e = rw (looks_early a) a
      go (inr a) (inl e) = rw (looks_served a e) (a, e, refl)
      go (inr a) (inr e) = rw (looks_first a e) (a, e)

module _ (N : ℕ) (l : Lock) where
  pub front_none : l.registration (l.tail % N) < l.tail → front N l ≡ none
  unfolding front
  front_none h = rw (lt-leb, front)

  pub front_some : l.tail ≤ l.registration (l.tail % N) → front N l ≡ some (worker_in (l.registration (l.tail % N)) l.tail)
  unfolding front
  front_some h = rw (le-leb, front)

  -- a registration of an earlier lap is below the tail
  pub front_lap : (t v : ℕ) → t < l.tail → t % N ≡ l.tail % N → v < N → l.registration (l.tail % N) ≡ join t v → front N l ≡ none
  unfolding join
  front_lap t v old slot below e =
      front_none
      (⊎_elim (λ (h : l.tail < t + N). absurd (omega (arith, near_mod N t l.tail slot (omega arith) h)))
      (λ (h : t + N ≤ l.tail). omega arith)
      (order l.tail (t + N)))

  abbrev pub Fronted : Option ℕ → Type 0
  Fronted none = l.registration (l.tail % N) < l.tail
  Fronted (some v) = l.registration (l.tail % N) ≡ join l.tail v

  pub fronted : Fronted (front N l)
  unfolding join worker_in
  fronted = go (order (l.registration (l.tail % N)) l.tail)
    where
      go : (l.registration (l.tail % N) < l.tail) ⊎ (l.tail ≤ l.registration (l.tail % N)) → Fronted (front N l)
      go (inl a) = rw (front_none a) a
      go (inr a) = rw (front_some a) (omega arith)
