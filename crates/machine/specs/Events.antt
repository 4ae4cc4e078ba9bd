-- The event of a worker from what is known of the state: for each case of `Does`, that it is the event.
use Rattle.std.specs.Prelude.{ℕ, ◌≤◌, ◌<◌, ◌≡◌, ◌≢◌, Bool, List, [], ◌∷◌, length, ltb}
use Rattle.std.proofs.Math.Path.{refl}
use Rattle.std.proofs.Math.Bool.{true, false}
use Rattle.std.proofs.Math.Option.{Option, none, some}
use borrow.Author.Tests.{eq-eqb, ne_eqb, lt-ltb, le-ltb}
use Rattle.lock.specs.Lock as L
use Rattle.tasks.specs.History.{Duty}
use Rattle.tasks.specs.Duties.{duty, creating}
use Rattle.machine.specs.State.{Setup, Purpose, idle, trying, registering, looking, draining, serving, handing, leaving, State}
use Rattle.machine.specs.Event.{minds, pushes, finds_full, tries_and_owns, tries_in_vain, takes_ticket, registers, waits, receives, owns, drains, fills, hands_over, leaves, most_served, handed_by, idling, choice, taking, serving_with, serving_or_taking, standing_at, event}
use Rattle.machine.specs.Ready.{nothing, chosen}

module _ (c : Setup) (s : State) (w : ℕ) where
  -- an idle worker that has a duty does it
  pub event_mind : {d : Duty} → s.place w ≡ idle → duty (s.stand w) (s.tasks.mail w) ≡ some d → event c s w ≡ minds d
  unfolding standing_at idling
  event_mind p q = rw (p, standing_at, q)

  module _ (p : s.place w ≡ idle) (q : duty (s.stand w) (s.tasks.mail w) ≡ none) where
    pub event_push : {i : ℕ} {is : List ℕ} → s.tasks.adds w ≡ i ∷ is → length (s.queue w) < c.capacity → event c s w ≡ pushes i is
    unfolding standing_at idling
    event_push d l = rw (p, standing_at, q, d, idling, lt-ltb (length (s.queue w)) c.capacity l)

    pub event_find_full : {i : ℕ} {is : List ℕ} → s.tasks.adds w ≡ i ∷ is → c.capacity ≤ length (s.queue w) → event c s w ≡ finds_full
    unfolding standing_at idling
    event_find_full d l = rw (p, standing_at, q, d, idling, le-ltb (length (s.queue w)) c.capacity l)

    pub event_create : {d : Duty} → s.tasks.adds w ≡ [] → w ≡ 0 → creating c.tasks s.tasks.creation ≡ some d
        → event c s w ≡ minds d
    unfolding standing_at idling
    event_create a z e = rw (p, standing_at, q, a, idling, eq-eqb w 0 z, e)

    pub event_take_ticket_other : s.tasks.adds w ≡ [] → w ≢ 0 → event c s w ≡ takes_ticket
    unfolding standing_at idling
    event_take_ticket_other a n = rw (p, standing_at, q, a, idling, ne_eqb w 0 n)

    pub event_take_ticket_last : s.tasks.adds w ≡ [] → w ≡ 0 → creating c.tasks s.tasks.creation ≡ none → event c s w ≡ takes_ticket
    unfolding standing_at idling
    event_take_ticket_last a z e = rw (p, standing_at, q, a, idling, eq-eqb w 0 z, e)

  pub event_win : s.place w ≡ trying → L.is_free s.lock ≡ true → event c s w ≡ tries_and_owns
  unfolding standing_at
  event_win p q = rw (p, standing_at, q)

  pub event_fail : s.place w ≡ trying → L.is_free s.lock ≡ false → event c s w ≡ tries_in_vain
  unfolding standing_at
  event_fail p q = rw (p, standing_at, q)

  pub event_register : {t : ℕ} → s.place w ≡ registering t → event c s w ≡ registers t
  unfolding standing_at
  event_register p = rw p

  pub event_wait : {t : ℕ} → s.place w ≡ looking t → L.look c.slots s.lock t w ≡ L.not_yet → event c s w ≡ waits
  unfolding standing_at
  event_wait p q = rw (p, standing_at, q)

  pub event_receive : {t i : ℕ} → s.place w ≡ looking t → L.look c.slots s.lock t w ≡ L.receives i → event c s w ≡ receives t i
  unfolding standing_at
  event_receive p q = rw (p, standing_at, q)

  pub event_own : {t : ℕ} → s.place w ≡ looking t → L.look c.slots s.lock t w ≡ L.owns → event c s w ≡ owns t
  unfolding standing_at
  event_own p q = rw (p, standing_at, q)

  pub event_drain : {p : Purpose} {k : ℕ} → s.place w ≡ draining p k → event c s w ≡ drains p k
  unfolding standing_at
  event_drain e = rw e

  module _ {n : ℕ} (p : s.place w ≡ serving n) where
    pub event_fill : {v i : ℕ} {is : List ℕ} → L.front c.slots s.lock ≡ some v → n < most_served c
        → choice c s v ≡ chosen i is → event c s w ≡ fills n v i is
    unfolding standing_at serving_or_taking
    event_fill f l q = rw (p, standing_at, f, serving_or_taking, lt-ltb n (most_served c) l, q)

    -- an owner takes where nobody waits at the front, where enough were served, and where the front waiter may run nothing that is ready
    pub event_take_alone : L.front c.slots s.lock ≡ none → event c s w ≡ taking c s (choice c s w)
    unfolding standing_at serving_or_taking
    event_take_alone f = rw (p, standing_at, f)

    pub event_take_served : most_served c ≤ n → event c s w ≡ taking c s (choice c s w)
    unfolding standing_at serving_or_taking
    event_take_served l = rw (p, standing_at) (go (L.front c.slots s.lock))
      where
        go : (o : Option ℕ) → serving_or_taking c s w n o ≡ taking c s (choice c s w)
        go none = refl
        go (some v) = rw (serving_or_taking, le-ltb n (most_served c) l)

    pub event_stop : {v : ℕ} → L.front c.slots s.lock ≡ some v → choice c s v ≡ nothing
        → event c s w ≡ taking c s (choice c s w)
    unfolding standing_at serving_or_taking
    event_stop {v} f q = rw (p, standing_at, f) (go (ltb n (most_served c)))
      where
        go : (b : Bool) → elim b [ true ↦ serving_with c s w n v (choice c s v) | false ↦ taking c s (choice c s w) ] ≡ taking c s (choice c s w)
        go true = rw q refl
        go false = refl

  pub event_hand_over : {n : ℕ} → s.place w ≡ handing n → event c s w ≡ hands_over n (handed_by c s w)
  unfolding standing_at
  event_hand_over p = rw p

  pub event_leave : s.place w ≡ leaving → event c s w ≡ leaves (handed_by c s w)
  unfolding standing_at
  event_leave p = rw p
