-- Which numbers a pick meets in the state, and what room it needs: all that a layout in arrays of 64-bit numbers rests on.
use Rattle.std.specs.Prelude.{ℕ, ◌^◌, ◌≤◌, ◌<◌, Bool, length, ltb}
use Rattle.std.proofs.Common.{arith, sym, subst, inl, inr}
use Rattle.std.proofs.Math.Path.{◌≡◌, refl, ap}
use Rattle.std.proofs.Math.Bool.{true, false}
use mathlib.Core.List.{List, [], ◌∷◌}
use Rattle.std.proofs.Math.Option.{Option, none, some}
use Rattle.lock.specs.Lock as L
use Rattle.lock.proofs.Promise as Lock
use Rattle.tasks.specs.History.{Duty}
use Rattle.tasks.proofs.Promise as Tasks
use Rattle.machine.specs.State.{Setup, Place, idle, trying, registering, looking, draining, serving, handing, leaving, State, start, picked}
use Rattle.machine.specs.Event.{Event, most_served, idling, choice, taking, serving_with, serving_or_taking, standing_at, event}
use Rattle.machine.specs.Ready.{Choice, nothing, chosen}
use Rattle.machine.specs.Step.{apply, step}
use Rattle.machine.proofs.View.{does}
use Rattle.machine.specs.Whereabouts.{lock_stand}
use Rattle.machine.proofs.Safety.Device.{drains_below}
use Rattle.machine.proofs.Safety.Handed.{handed_below}
use Rattle.machine.proofs.Safety.Bounds.{roomy_start, roomy_step, mails_step, ready_length, ready_below}
use Rattle.machine.specs.Safety.Invariant.{Playable}
use Rattle.machine.proofs.Safety.Invariant.{may_do, inv_start, inv_step, inv_picked}
pub use Rattle.machine.proofs.Safety.Bounds.{small_start, small_step}
use Rattle.machine.specs.Ranges.{Sized, Within, acted, Fit, Going}

-- ---- counting the pick changes no event

module _ (c : Setup) (s : State) (w : ℕ) where
  idling_picked : (o : Option Duty) (is : List ℕ) → idling c (picked s) w o is ≡ idling c s w o is
  unfolding idling
  idling_picked (some d) is = refl
  idling_picked none (i ∷ is) = refl
  idling_picked none [] = refl

  taking_picked : (x : Choice) → taking c (picked s) x ≡ taking c s x
  taking_picked nothing = refl
  taking_picked (chosen i is) = refl

  with_picked : (n v : ℕ) (x : Choice) → serving_with c (picked s) w n v x ≡ serving_with c s w n v x
  with_picked n v nothing = taking_picked (choice c s w)
  with_picked n v (chosen i is) = refl

  serving_picked : (n : ℕ) (o : Option ℕ) → serving_or_taking c (picked s) w n o ≡ serving_or_taking c s w n o
  unfolding serving_or_taking
  serving_picked n none = taking_picked (choice c s w)
  serving_picked n (some v) = go (ltb n (most_served c))
    where
      go : (b : Bool)
          → ◌≡◌ {A = Event}
          (elim b [ true ↦ serving_with c (picked s) w n v (choice c s v) | false ↦ taking c (picked s) (choice c s w) ])
          (elim b [ true ↦ serving_with c s w n v (choice c s v) | false ↦ taking c s (choice c s w) ])
      go true = with_picked n v (choice c s v)
      go false = taking_picked (choice c s w)

  standing_picked : (p : Place) → standing_at c (picked s) w p ≡ standing_at c s w p
  unfolding standing_at
  standing_picked idle = idling_picked _ (s.tasks.adds w)
  standing_picked trying = refl
  standing_picked (registering t) = refl
  standing_picked (looking t) = refl
  standing_picked (draining p k) = refl
  standing_picked (serving n) = serving_picked n (L.front c.slots s.lock)
  standing_picked (handing n) = refl
  standing_picked leaving = refl

  pub event_picked : event c (picked s) w ≡ event c s w
  event_picked = standing_picked (s.place w)

  -- so a step is: count the pick, then act
  pub acted_step : acted c (picked s) w ≡ step c s w
  unfolding step
  acted_step = ap (apply c (picked s) w) event_picked

-- ---- every state that picks lead to fits

module _ (c : Setup) (playable : Playable c) (sized : Sized c) where
  pub going_start : Going c (start c)
  unfolding start
  going_start =
      record {
        inv = inv_start c playable;
        bounds = roomy_start c;
        mails = λ u. rw (Tasks.start_lists u).0 (omega arith);
        small = small_start c;
      }

  pub going_step : (s : State) → Going c s → (w : ℕ) → w < c.workers → Going c (step c s w)
  going_step s g w l =
      record {
        inv = inv_step c playable s w l g.inv;
        bounds = roomy_step c s w g.bounds;
        mails = mails_step c playable 4 (omega arith) sized.accesses s g.inv w l g.mails;
        small = small_step c s w g.small;
      }

  module _ (s : State) (g : Going c s) (few : s.picks < 2 ^ 42) (w : ℕ) (l : w < c.workers) where
    head_within : s.lock.head < 2 ^ 43
    head_within = omega (arith, sized.slots, g.small)

    place_within : (p : Place) → s.place w ≡ p → Within c p
    place_within idle e = tt
    place_within trying e = tt
    place_within (registering t) e = omega (arith, Lock.ticket_given g.inv.locked w t (inl (ap lock_stand e)), head_within)
    place_within (looking t) e = omega (arith, Lock.ticket_given g.inv.locked w t (inr (ap lock_stand e)), head_within)
    place_within (draining p k) e = drains_below c s g.inv.device w p k e
    place_within (serving n) e = omega (arith, (rw e at (g.inv.device.fits w)).0, playable.workers)
    place_within (handing n) e = omega (arith, (rw e at (g.inv.device.fits w)).0)
    place_within leaving e = tt

    pub going_fit : Fit c (picked s) w
    going_fit =
        record {
          sized = sized;
          worker = l;
          kept = g.inv.tasked;
          may = may_do c (picked s) (inv_picked c playable s g.inv) w l (does c (picked s) w);
          mails = g.mails;
          picks = omega arith;
          head = head_within;
          tail = omega (arith, head_within, Lock.ends g.inv.locked);
          place = place_within (s.place w) refl;
          ready = ready_below c playable s g.inv;
          ready_few = omega (arith, ready_length c playable s g.inv, sized.tasks);
          front = λ v f. ((Lock.front_iff g.inv.locked v).0 f).0;
          handed = handed_below c s g.inv.locked g.inv.tasked g.inv.device w;
          queues = g.bounds;
          room_ready = subst (λ (u : State). length u.ready_list ≤ 128) (sym (acted_step c s w))
              (omega (arith, ready_length c playable (step c s w) (inv_step c playable s w l g.inv), sized.tasks));
        }
