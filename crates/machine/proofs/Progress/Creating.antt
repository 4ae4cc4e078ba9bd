-- Until all tasks are created worker 0 takes no ticket: it comes back to being idle by its own picks alone.
use Rattle.std.specs.Prelude.{ℕ, suc, ◌<◌, ◌≡◌, ◌⊎◌, ◌≢◌, Bool, true, false, ltb}
use Rattle.std.proofs.Common.{sym, inl, inr, ⊎_elim}
use Rattle.runs.specs.Update.{same, upd, upd_same}
use Rattle.tasks.specs.Tasks.{Creation}
use Rattle.tasks.proofs.Playing as P
use Rattle.tasks.proofs.Promise as Promise
use Rattle.machine.specs.State.{Setup, for_serving, for_adding, Place, idle, trying, registering, looking, draining, serving, handing, leaving, State, start}
use Rattle.machine.specs.Event.{Event}
use Rattle.machine.specs.Step.{task_op, after_draining, next_drain, apply}
use Rattle.machine.specs.View.{Does, does_mind, does_push, does_find_full, does_win, does_fail, does_take_ticket, does_register, does_wait, does_receive, does_own, does_drain, does_fill, does_take, does_take_none, does_hand_over, does_leave}
use Rattle.machine.specs.Safety.Invariant.{Playable, Inv}
use Rattle.machine.proofs.Safety.Invariant.{may_do}
use Rattle.machine.proofs.Progress.Leading.{place_other}

-- where a worker waits for nobody: it comes back to being idle by its own picks alone
abbrev pub Soon : Place → Type 0
Soon idle = Unit {0}
Soon trying = Unit {0}
Soon (registering t) = ⊥
Soon (looking t) = ⊥
Soon (draining for_serving k) = ⊥
Soon (draining for_adding k) = Unit {0}
Soon (serving n) = ⊥
Soon (handing n) = ⊥
Soon leaving = Unit {0}

abbrev pub Created : Setup → Creation → Type 0
Created c x = Promise.Created c.tasks x

abbrev pub CreatesFirst : Setup → State → Type 0
CreatesFirst c s = Soon (s.place 0) ⊎ Created c s.tasks.creation

pub creates_start : (c : Setup) → CreatesFirst c (start c)
unfolding start
creates_start c = inl tt

pub drain_soon : (c : Setup) (k : ℕ) → Soon (next_drain c for_adding k)
unfolding next_drain
drain_soon c k = go (ltb (suc k) c.workers)
  where
    go : (b : Bool) → Soon (elim b [ true ↦ draining for_adding (suc k) | false ↦ after_draining c for_adding ])
    go true = tt
    go false = tt

module _ (c : Setup) (playable : Playable c) (s : State) (v : Inv c s) (w : ℕ) (hw : w < c.workers) where
  still_created : {e : Event} → Does c s w e → Created c s.tasks.creation → Created c (apply c s w e).tasks.creation
  still_created {e} d = P.created_by v.tasked w hw s.picks (task_op e) (may_do c s v w hw d)

  goes : (q : Place) → Soon q → Soon (upd s.place w q w)
  goes q h = rw (upd_same s.place w q) h

  still_soon : {e : Event} → Does c s w e → w ≡ 0 → Soon (s.place w) → Soon ((apply c s w e).place w) ⊎ Created c s.tasks.creation
  still_soon (does_mind d p can) z h = inl (goes idle tt)
  still_soon (does_push i js r d l) z h = inl (goes idle tt)
  still_soon (does_find_full i js r d l) z h = inl (goes trying tt)
  still_soon (does_win p q) z h = inl (goes (draining for_adding 0) tt)
  still_soon (does_fail p q) z h = inl (goes idle tt)
  still_soon (does_take_ticket r d (inl n)) z h = absurd (n z)
  still_soon (does_take_ticket r d (inr (i, e, l))) z h = inr (rw e l)
  still_soon (does_register t p) z h = absurd (rw p at h)
  still_soon (does_wait t p q) z h = inl (goes (s.place w) h)
  still_soon (does_receive t i p q) z h = absurd (rw p at h)
  still_soon (does_own t p q) z h = absurd (rw p at h)
  still_soon (does_drain for_serving k p) z h = absurd (rw p at h)
  still_soon (does_drain for_adding k p) z h = inl (goes (next_drain c for_adding k) (drain_soon c k))
  still_soon (does_fill n v i js p q f l) z h = absurd (rw p at h)
  still_soon (does_take n i js p q) z h = absurd (rw p at h)
  still_soon (does_take_none n p q) z h = absurd (rw p at h)
  still_soon (does_hand_over n p) z h = absurd (rw p at h)
  still_soon (does_leave p) z h = inl (goes idle tt)

  pub creates_keep : {e : Event} → Does c s w e → CreatesFirst c s → CreatesFirst c (apply c s w e)
  creates_keep {e} d (inr h) = inr (still_created d h)
  creates_keep {e} d (inl h) =
      ⊎_elim
      (λ (z : 0 ≡ w).
      ⊎_elim (λ (k : Soon ((apply c s w e).place w)). inl (rw z k)) (λ k. inr (still_created d k)) (still_soon d (sym z) (rw z at h)))
      (λ (n : 0 ≢ w). inl (rw (place_other c s w e 0 n) h))
      (same 0 w)
