-- What is known of the state at each event. Proofs about steps go by these cases and take no place or test apart again.
use Rattle.std.specs.Prelude.{ℕ, ◌<◌, ◌≡◌, Bool, true, false, List, [], ◌∷◌, length, eqb, ltb}
use Rattle.std.proofs.Math.Path.{refl}
use Rattle.std.proofs.Common.{inl, inr, ltb-true, ltb-false}
use Rattle.std.proofs.Math.Option.{Option, none, some}
use Rattle.std.proofs.lemmas.Bool.{eqb-false}
use Rattle.lock.specs.Lock as L
use Rattle.tasks.specs.History.{Duty}
use Rattle.tasks.specs.Duties.{duty, creating, Duties, at_rest, has_duty, Creates, created, creates, duties, creating_goes}
use Rattle.machine.specs.State.{Setup, Place, idle, trying, registering, looking, draining, serving, handing, leaving, State, picked}
use Rattle.machine.specs.Event.{Event, pushes, finds_full, tries_and_owns, tries_in_vain, takes_ticket, most_served, creating_first, idling, choice, taking, serving_with, serving_or_taking, seeing, standing_at, event}
use Rattle.machine.specs.Ready.{Choice, nothing, chosen}
use Rattle.machine.specs.View.{AtRest, does_wait, does_take, does_take_none, does_mind, does_leave, does_register, does_push}
use Rattle.machine.specs.View.{does_fail, Does, does_own, does_hand_over, does_take_ticket, does_drain, does_find_full}
use Rattle.machine.specs.View.{does_receive, does_win, does_fill}

module _ (c : Setup) (s : State) (w : ℕ) where
  does_creating : AtRest s w → s.tasks.adds w ≡ [] → (o : Option Duty) → Creates c.workers c.tasks s.tasks (s.stand w) w o
      → Does c s w (creating_first o)
  does_creating r d none (created n e l) = does_take_ticket r d (inr (n, e, l))
  does_creating r d (some a) (creates can) = does_mind a r.place can

  does_idling : s.place w ≡ idle → (o : Option Duty) → Duties c.workers c.tasks s.tasks (s.stand w) w o
      → (is : List ℕ) → s.tasks.adds w ≡ is → Does c s w (idling c s w o is)
  unfolding idling
  does_idling p (some a) (has_duty can) is d = does_mind a p can
  does_idling p none (at_rest x m) (i ∷ is) d = go (ltb (length (s.queue w)) c.capacity) refl
    where
      rest : AtRest s w
      rest = record { place = p; stand = x; mail = m }

      go : (b : Bool) → ltb (length (s.queue w)) c.capacity ≡ b → Does c s w (elim b [ true ↦ pushes i is | false ↦ finds_full ])
      go true q = does_push i is rest d (ltb-true _ _ q)
      go false q = does_find_full i is rest d (ltb-false _ _ q)
  does_idling p none (at_rest x m) [] d = go (eqb w 0) refl
    where
      rest : AtRest s w
      rest = record { place = p; stand = x; mail = m }

      next : Option Duty
      next = creating c.tasks s.tasks.creation

      go : (b : Bool) → eqb w 0 ≡ b → Does c s w (elim b [ true ↦ creating_first next | false ↦ takes_ticket ])
      go true q = does_creating rest d next (creating_goes c.workers c.tasks s.tasks (s.stand w) w x m s.tasks.creation refl)
      go false q = does_take_ticket rest d (inl (eqb-false _ _ q))

  does_trying : s.place w ≡ trying → (b : Bool) → L.is_free s.lock ≡ b
      → Does c s w (elim b [ true ↦ tries_and_owns | false ↦ tries_in_vain ])
  does_trying p true e = does_win p e
  does_trying p false e = does_fail p e

  does_looking : (t : ℕ) → s.place w ≡ looking t → (x : L.Look) → L.look c.slots s.lock t w ≡ x → Does c s w (seeing c s t x)
  does_looking t p L.not_yet e = does_wait t p e
  does_looking t p (L.receives i) e = does_receive t i p e
  does_looking t p L.owns e = does_own t p e

  does_taking : (n : ℕ) → s.place w ≡ serving n → (x : Choice) → choice c s w ≡ x → Does c s w (taking c s x)
  does_taking n p nothing e = does_take_none n p e
  does_taking n p (chosen i is) e = does_take n i is p (record { found = e })

  does_serving : (n : ℕ) → s.place w ≡ serving n → (o : Option ℕ) → L.front c.slots s.lock ≡ o
      → Does c s w (serving_or_taking c s w n o)
  unfolding serving_or_taking
  does_serving n p none f = does_taking n p (choice c s w) refl
  does_serving n p (some v) f = go (ltb n (most_served c)) refl
    where
      with_choice : n < most_served c → (x : Choice) → choice c s v ≡ x → Does c s w (serving_with c s w n v x)
      with_choice l nothing e = does_taking n p (choice c s w) refl
      with_choice l (chosen i is) e = does_fill n v i is p (record { found = e }) f l

      go : (b : Bool) → ltb n (most_served c) ≡ b
          → Does c s w (elim b [ true ↦ serving_with c s w n v (choice c s v) | false ↦ taking c s (choice c s w) ])
      go true q = with_choice (ltb-true _ _ q) (choice c s v) refl
      go false q = does_taking n p (choice c s w) refl

  does_at : (p : Place) → s.place w ≡ p → Does c s w (standing_at c s w p)
  unfolding standing_at
  does_at idle e =
      does_idling e (duty (s.stand w) (s.tasks.mail w))
      (duties c.workers c.tasks s.tasks (s.stand w) w (s.stand w) refl (s.tasks.mail w) refl) (s.tasks.adds w) refl
  does_at trying e = does_trying e (L.is_free s.lock) refl
  does_at (registering t) e = does_register t e
  does_at (looking t) e = does_looking t e (L.look c.slots s.lock t w) refl
  does_at (draining p k) e = does_drain p k e
  does_at (serving n) e = does_serving n e (L.front c.slots s.lock) refl
  does_at (handing n) e = does_hand_over n e
  does_at leaving e = does_leave e

  -- the event of worker w is one of these, with what is known at it
  pub does : Does c s w (event c s w)
  does = does_at (s.place w) refl

  -- counting the pick changes none of it
  rest_picked : AtRest s w → AtRest (picked s) w
  rest_picked r = record { place = r.place; stand = r.stand; mail = r.mail }

  does_picked : {e : Event} → Does c s w e → Does c (picked s) w e
  does_picked (does_mind d p can) = does_mind d p can
  does_picked (does_push i is r d l) = does_push i is (rest_picked r) d l
  does_picked (does_find_full i is r d l) = does_find_full i is (rest_picked r) d l
  does_picked (does_win p q) = does_win p q
  does_picked (does_fail p q) = does_fail p q
  does_picked (does_take_ticket r d h) = does_take_ticket (rest_picked r) d h
  does_picked (does_register t p) = does_register t p
  does_picked (does_wait t p q) = does_wait t p q
  does_picked (does_receive t i p q) = does_receive t i p q
  does_picked (does_own t p q) = does_own t p q
  does_picked (does_drain u k p) = does_drain u k p
  does_picked (does_fill n v i is p q f l) = does_fill n v i is p q f l
  does_picked (does_take n i is p q) = does_take n i is p q
  does_picked (does_take_none n p q) = does_take_none n p q
  does_picked (does_hand_over n p) = does_hand_over n p
  does_picked (does_leave p) = does_leave p

  pub does_step : Does c (picked s) w (event c s w)
  does_step = does_picked does
