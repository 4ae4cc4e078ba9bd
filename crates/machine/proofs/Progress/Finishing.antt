-- The finishing figure: how many picks a run needs at the most, where every B picks in a row include each worker.
use Rattle.std.specs.Prelude.{ℕ, suc, ◌+◌, ◌*◌, ◌≤◌, ◌<◌, ◌≡◌, ◌⊎◌, Bool, List, ◌++◌, length, take, drop}
use native.Mathlib.Omega.{arith}
use Rattle.std.proofs.Common.{mul_comm, mul-add, mul_left_comm, mul-le-mul_right, sym, ap, ◌∙◌, inl, inr, ⊎_elim}
use Rattle.std.proofs.Math.Path.{refl}
use Rattle.std.proofs.Math.Bool.{true, false}
use Rattle.std.proofs.Math.ListN.{length-take}
use Rattle.runs.specs.Picks.{Picks, Regular, picks_take, run, run_append, run_drop, run_keeps, Within}
use Rattle.runs.specs.Fair.{Turn, reaches, fair}
use Rattle.runs.specs.Rounds.{rounds}
use Rattle.plan.specs.Permits.{any_masked}
use Rattle.machine.specs.State.{Setup, State, start, picked}
use Rattle.machine.specs.Event.{event}
use Rattle.machine.specs.Step.{step, finished, pick, after}
use Rattle.machine.proofs.View.{does_step}
use Rattle.machine.specs.Figures.{factor, per_progress, finishing_figure}
use Rattle.machine.specs.Safety.Invariant.{Playable, Inv}
use Rattle.machine.proofs.Safety.Invariant.{inv_start, inv_step, inv_picked}
use Rattle.machine.proofs.Safety.Traces.{pick_finished, pick_open, pick_keeps, run_finished, picks_taken, taken_within}
use Rattle.tasks.specs.Tasks as T
use Rattle.tasks.proofs.Promise as Tasks
use Rattle.tasks.proofs.Promise.{total, total_cost}
use Rattle.tasks.proofs.Playing as P
use Rattle.machine.proofs.Progress.Quiet.{work, gain, work_start, work_falls, gains_or_quiet}
use Rattle.machine.proofs.Progress.Creating.{CreatesFirst, creates_start, creates_keep}
use Rattle.machine.proofs.Progress.Helpful.{to_turn, Helpful, prompt, hands_on_lem, takes_along, eager, leads_to, leads_past, near, seeks, leads_before}
use Rattle.machine.proofs.Progress.Nearing.{quiet_turn}
use Rattle.machine.proofs.Progress.Somebody.{Somebody, somebody_unmasked, somebody_masked, nothing_left}

-- counting the pick changes none of it
helpful_picked : (c : Setup) (s : State) (r v : ℕ) → Helpful c s r v → Helpful c (picked s) r v
helpful_picked c s r v (prompt h) = prompt h
helpful_picked c s r v (hands_on_lem n h l) = hands_on_lem n h l
helpful_picked c s r v (takes_along h o l) = takes_along h o l
helpful_picked c s r v (eager g h l) = eager g h l
helpful_picked c s r v (leads_to k h l) = leads_to k h l
helpful_picked c s r v (leads_past k a l) = leads_past k a l
helpful_picked c s r v (near f a h) = near f a h
helpful_picked c s r v (seeks m z h l) = seeks m z h l
helpful_picked c s r v (leads_before u t m h l k b) = leads_before u t m h l k b

-- no tasks: finished at once
pub finished_at_once : (c : Setup) → length c.tasks ≡ 0 → finished c (start c) ≡ true
unfolding start
finished_at_once c z =
    P.finished_if c.workers c.tasks T.start (λ _. T.free) (λ i l. absurd (omega arith)) (λ w l. ((Tasks.start_lists w).0, refl))

module _ (c : Setup) (playable : Playable c) where
  -- what holds of every state that picks lead to
  abbrev Lawful : State → Type 0
  Lawful s = Inv c s × CreatesFirst c s

  lawful_step : (s : State) (x : ℕ) → x < c.workers → Lawful s → Lawful (step c s x)
  unfolding step
  lawful_step s x hx (i, f) =
      (inv_step c playable s x hx i, creates_keep c playable (picked s) (inv_picked c playable s i) x hx (does_step c s x) f)

  work_step : (s : State) (x : ℕ) → x < c.workers → Inv c s → work c (step c s x) + gain (picked s) (event c s x) ≤ work c s
  unfolding step
  work_step s x hx i = work_falls c playable (picked s) (inv_picked c playable s i) x hx (does_step c s x)

  -- ---- from one progress step to the next

  module _ (m : ℕ) where
    abbrev Goal : State → Type 0
    Goal u = (finished c u ≡ true) ⊎ (work c u < m)

    abbrev AtMost : State → Type 0
    AtMost s = Lawful s × (work c s ≤ m)

    at_most_pick : (s : State) (x : ℕ) → x < c.workers → AtMost s → AtMost (pick c s x)
    at_most_pick = pick_keeps c AtMost (λ s x hx (k, l). (lawful_step s x hx k, omega (arith, work_step s x hx k.0)))

    turn : (s : State) (r v x : ℕ) → v < c.workers → x < c.workers → AtMost s → Helpful c s r v
        → Turn Goal (λ r v s. Helpful c s r v) c.workers r v x (pick c s x)
    unfolding step
    turn s r v x hv hx ((i, f), l) h = go (finished c s) refl
      where
        go : (b : Bool) → finished c s ≡ b → Turn Goal (λ r v s. Helpful c s r v) c.workers r v x (pick c s x)
        go true e = rw (pick_finished c s x e) (reaches (inl e))
        go false e =
            rw (pick_open c s x e)
            (⊎_elim (λ (g : 0 < gain (picked s) (event c s x)). reaches (inr (omega (arith, work_step s x hx i))))
            (λ q. quiet_turn c playable Goal (picked s) (inv_picked c playable s i) x hx (does_step c s x) q r v (helpful_picked c s r v h))
            (gains_or_quiet c (picked s) x (does_step c s x)))

  -- picks of its own that are enough for a helpful worker, and one fewer
  enough : (most : ℕ) × (suc most ≡ per_progress c) × ((s : State) → Lawful s → finished c s ≡ false → Somebody c s most)
  enough = go (any_masked c.tasks) refl
    where
      go : (b : Bool) → any_masked c.tasks ≡ b
          → (most : ℕ) × (suc most ≡ factor c b) × ((s : State) → Lawful s → finished c s ≡ false → Somebody c s most)
      go false e = (4 * c.workers + 7, omega arith, λ s k. somebody_unmasked c playable s k.0 e k.1)
      go true e = (
        to_turn c.workers + (5 * c.workers + 7),
        omega (arith, mul-add c.workers (3 * c.workers) 2, mul_left_comm c.workers 3 c.workers),
        λ s k. somebody_masked c playable s k.0 k.1,
      )

  abbrev most : ℕ
  most = enough.0

  round : (B : ℕ) (ws : List ℕ) → Picks c.workers ws → Regular c.workers B ws → (s : State) → Lawful s → suc most * B ≤ length ws
      → Within (pick c) (λ u. (finished c u ≡ true) ⊎ (work c u < work c s)) (suc most * B) ws s
  round B ws p q s k l = go (finished c s) refl
    where
      go : (b : Bool) → finished c s ≡ b → Within (pick c) (λ u. (finished c u ≡ true) ⊎ (work c u < work c s)) (suc most * B) ws s
      go true e = (0, omega arith, omega arith, inl e)
      go false e =
          let (v, hv, h) = enough.2 s k e in
          fair (pick c) (AtMost (work c s)) (Goal (work c s)) (λ r v s. Helpful c s r v) c.workers B (at_most_pick (work c s))
          (turn (work c s)) ws p q s (k, omega arith) most v hv h l

  -- ---- the figure

  -- B F (7T + 7A + C) for T tasks with A accesses and the total cost C, where F is `per_progress`
  abbrev figure : ℕ → ℕ
  figure B = B * per_progress c * (7 * length c.tasks + 7 * total c.tasks + total_cost c.tasks)

  in_rounds : (B : ℕ) → work c (start c) * (suc most * B) ≡ figure B
  in_rounds B =
      let each : suc most * B ≡ B * per_progress c = mul_comm (suc most) B ∙ ap (λ n. B * n) enough.1 in
      ap (λ n. work c (start c) * n) each
      ∙ mul_comm (work c (start c)) (B * per_progress c)
      ∙ ap (λ n. B * per_progress c * n) (work_start c playable)

  at_start_lem : AtMost (work c (start c)) (start c)
  at_start_lem = ((inv_start c playable, creates_start c), omega arith)

  -- from any state that picks lead to: no more work is left there than at the start
  finishes_from : (B : ℕ) (ws : List ℕ) → Picks c.workers ws → Regular c.workers B ws
      → (s : State) → AtMost (work c (start c)) s → figure B ≤ length ws
      → Within (pick c) (λ u. finished c u ≡ true) (work c s * (suc most * B)) ws s
  finishes_from B ws p q s (k, less) long =
      rounds (pick c) Lawful (λ u. finished c u ≡ true) (work c) c.workers B (suc most * B)
      (pick_keeps c Lawful lawful_step) (λ u h z. nothing_left c playable u h.0 z) (round B) ws p q s k
      (omega (arith, mul-le-mul_right (suc most * B) less, in_rounds B))

  -- whatever was picked before, a list in which every B picks in a row include each worker, and that has at least so many picks, finishes
  -- the run: nothing gets stuck
  pub finishes_after : (us : List ℕ) → Picks c.workers us → (B : ℕ) (ws : List ℕ) → Picks c.workers ws → Regular c.workers B ws
      → finishing_figure c B ≤ length ws → finished c (after c (us ++ ws)) ≡ true
  unfolding after
  finishes_after us h B ws p q long =
      let s = run (pick c) (start c) us in
      let kept = run_keeps (pick c) c.workers (AtMost (work c (start c))) (at_most_pick (work c (start c))) us h (start c) at_start_lem in
      let (n, a, b, e) = finishes_from B ws p q s kept long in
      rw (run_append (pick c) (start c) us ws, run_drop (pick c) s n ws, run_finished c (run (pick c) s (take n ws)) e (drop n ws)) e

  module _ (B : ℕ) (ws : List ℕ) (p : Picks c.workers ws) (q : Regular c.workers B ws)
      (long : B * per_progress c * (7 * length c.tasks + 7 * total c.tasks + total_cost c.tasks) ≤ length ws) where
    pub finishes_within : Within (pick c) (λ s. finished c s ≡ true)
        (B * per_progress c * (7 * length c.tasks + 7 * total c.tasks + total_cost c.tasks)) ws (start c)
    finishes_within = rw (sym (in_rounds B)) (finishes_from B ws p q (start c) at_start_lem long)

    -- the state after the list is the one in which the run was finished first
    settled : (n : ℕ) × (n ≤ figure B) × (n ≤ length ws) × (finished c (run (pick c) (start c) (take n ws)) ≡ true)
        × (after c ws ≡ run (pick c) (start c) (take n ws))
    unfolding after
    settled =
        let (n, a, b, e) = finishes_within in
        (n, a, b, e, run_drop (pick c) (start c) n ws ∙ run_finished c (run (pick c) (start c) (take n ws)) e (drop n ws))

    -- every list of workers in which each B picks in a row include each worker, and that has at least so many picks, finishes the run
    pub finishing_figure_lem : finished c (after c ws) ≡ true
    finishing_figure_lem = let (n, a, b, e, z) = settled in rw z e

    -- with no more picks taken than that
    pub finishing_picks :
        (after c ws).picks ≤ B * per_progress c * (7 * length c.tasks + 7 * total c.tasks + total_cost c.tasks)
    unfolding start
    finishing_picks =
        let (n, a, b, e, z) = settled in
        rw z
        (omega (
          arith,
          picks_taken c (take n ws) (picks_take c.workers n ws p) (start c),
          taken_within c (take n ws) (start c),
          length-take n ws,
        ))
