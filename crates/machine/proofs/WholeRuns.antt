-- Demand 3, one claim about whole lists of picks: every list of workers below W from a fresh start, the empty one too.
use Rattle.std.specs.Prelude.{ℕ, ◌+◌, ◌≤◌, ◌<◌, ◌≡◌, ◌⊎◌, ◌↔◌, true, List, ◌∷◌, ◌++◌, length, drop, take}
use Rattle.std.proofs.Common.{arith, sym, subst, ◌∙◌}
use Rattle.std.proofs.Math.Path.{ap}
use Rattle.std.proofs.Math.Seq.{drop-append-add, take-append_seam}
use Rattle.runs.specs.Update.{upd_same}
use Rattle.runs.specs.Picks.{Picks, Regular, picks_take, picks_drop, regular_drop, run, run_append, Within}
use Rattle.lock.specs.Lock as L
use Rattle.tasks.proofs.Playing as P
use Rattle.machine.specs.State.{Setup, looking, start}
use Rattle.machine.specs.Step.{step, finished, pick, after}
use Rattle.machine.specs.Figures.{waiting_figure}
use Rattle.machine.specs.Trace.{trace, tally, is_hand_over}
use Rattle.machine.proofs.Safety as S
use Rattle.machine.proofs.Safety.Device.{drains_below}
use Rattle.machine.specs.Safety.Invariant.{Playable, Inv}
use Rattle.machine.proofs.Safety.Invariant.{inv_step, inv_after}
use Rattle.machine.proofs.Safety.Traces.{pick_open, run_finished}
use Rattle.machine.proofs.Safety.Turns as T
use Rattle.machine.proofs.Progress.Finishing.{finishing_figure_lem, finishing_picks, finished_at_once}
use Rattle.machine.specs.Progress.Waiting.{OutOfWait}
use Rattle.machine.proofs.Progress.Waiting.{waiting_figure_lem}
use Rattle.machine.specs.WholeRuns.{Registers, registered, distance_of, WholeRun}

module _ (c : Setup) (playable : Playable c) (ws : List ℕ) (p : Picks c.workers ws) where
  module _ (w t : ℕ) (r : Registers c ws w t) where
    cut : (n : ℕ) → drop (length r.before + n) ws ≡ drop n (w ∷ r.since)
    cut n = ap (drop (length r.before + n)) (sym r.whole) ∙ drop-append-add r.before (w ∷ r.since) n

    picks_before : Picks c.workers r.before
    picks_before =
        subst (Picks c.workers) (ap (take (length r.before)) (sym r.whole) ∙ take-append_seam r.before (w ∷ r.since))
        (picks_take c.workers (length r.before) ws p)

    picks_from_lem : Picks c.workers (w ∷ r.since)
    picks_from_lem = subst (Picks c.workers) (cut 0) (picks_drop c.workers (length r.before + 0) ws p)

    picks_since : Picks c.workers r.since
    picks_since = picks_drop c.workers 1 (w ∷ r.since) picks_from_lem

    worker : w < c.workers
    worker = picks_from_lem 0 (omega arith)

    reached : after c ws ≡ run (pick c) (registered r) r.since
    unfolding after
    reached =
        ap (run (pick c) (start c)) (sym r.whole) ∙ run_append (pick c) (start c) r.before (w ∷ r.since)
        ∙ ap (λ s. run (pick c) s r.since) (pick_open c (after c r.before) w r.taken)

    turn_of : (L.turn c.slots (after c ws).lock t ≡ true) ↔ (distance_of r ≤ tally is_hand_over (trace c (registered r) r.since))
    turn_of =
        let (come, due) =
        T.turn_exactly c playable.workers playable.ring r.before picks_before w t worker r.registering r.since picks_since in
        rw reached (λ e. omega (arith, come e), λ l. due (omega arith))

    waits : (registered r).place w ≡ looking t
    unfolding step
    waits = rw r.registering (upd_same (after c r.before).place w (looking t))

    waiting_of : (B : ℕ) → Regular c.workers B ws
        → Within (pick c) (λ s. (finished c s ≡ true) ⊎ OutOfWait c w s) (waiting_figure c B (distance_of r)) r.since (registered r)
        ⊎ (length r.since < waiting_figure c B (distance_of r))
    waiting_of B g =
        waiting_figure_lem c playable.workers (Inv c) (λ s v. v.locked) (λ s v. drains_below c s v.device) (inv_step c playable)
        w t worker (registered r)
        (inv_step c playable (after c r.before) w worker (inv_after c playable r.before picks_before))
        waits B r.since picks_since
        (subst (Regular c.workers B) (cut 1) (regular_drop c.workers B (length r.before + 1) ws g))

  rest : (us vs : List ℕ) → us ++ vs ≡ ws
      → (after c ws ≡ run (pick c) (after c us) vs) × (finished c (after c us) ≡ true → after c ws ≡ after c us)
  unfolding after
  rest us vs e =
      let on : after c ws ≡ run (pick c) (after c us) vs = ap (after c) (sym e) ∙ run_append (pick c) (start c) us vs in
      (on, λ f. on ∙ run_finished c (after c us) f vs)

  -- every list of picks from a fresh start is such a run
  pub whole_runs : WholeRun c ws
  whole_runs =
      record {
        rest_untaken = rest;
        none_lost = S.none_lost c playable ws p;
        received_once = S.received_once c playable ws p;
        same_worker = S.same_worker c playable ws p;
        may_receive = S.may_receive c playable ws p;
        may_run = S.may_run c playable ws p;
        in_order = S.in_order c playable ws p;
        turn = turn_of;
        waiting = λ B g w t r. waiting_of w t r B g;
        -- the premise gives each worker below W among every B picks
        finishing = λ B g l.
            let each : Regular c.workers B ws = λ i w k b. g i w k (omega arith) in
            let e = finishing_figure_lem c playable B ws p each l in (
              e,
              finishing_picks c playable B ws p each l,
              λ i b. S.run_by_one c playable ws p i (P.all_over c.workers c.tasks (after c ws).tasks (after c ws).stand e i b),
            );
        at_once = finished_at_once c;
      }
