-- Proofs along a list of picks: what every taken pick adds, from the first state to the last.
use Rattle.std.specs.Prelude.{ℕ, zero, suc, ◌+◌, ◌≤◌, ◌<◌, ◌≡◌, ◌⊎◌, true, false, length}
use native.Mathlib.Omega.{arith}
use Rattle.std.proofs.Math.Path.{refl}
use Rattle.std.proofs.Common.{ap}
use mathlib.Core.List.{List, [], ◌∷◌, ◌++◌}
use Rattle.std.proofs.Math.Option.{some}
use Rattle.std.proofs.Math.ListN.{get_elem?}
use Rattle.runs.specs.Update.{clash}
use Rattle.runs.specs.Picks.{Picks, run}
use Rattle.runs.specs.Traces as Traces
use Rattle.runs.proofs.Traces as TracesLaws
use Rattle.machine.specs.State.{Setup, State}
use Rattle.machine.specs.Event.{Event, event}
use Rattle.machine.specs.Step.{step, finished, pick}
use Rattle.machine.specs.Trace.{Happening, trace, tally}

-- ---- a list of what happened with one more at its end

abbrev pub more : List Happening → ℕ → Event → List Happening
more hs w e = hs ++ record { by = w; what = e } ∷ []

module _ (w : ℕ) (e : Event) where
  pub tally_more : (f : Event → ℕ) (hs : List Happening) → tally f (more hs w e) ≡ tally f hs + f e
  unfolding Traces.tally
  tally_more f [] = omega arith
  tally_more f (h ∷ hs) = omega (arith, tally_more f hs)

  pub length_more : (hs : List Happening) → length (more hs w e) ≡ suc (length hs)
  length_more [] = refl
  length_more (h ∷ hs) = ap suc (length_more hs)

  -- what is there stays in its place, and the new one has the last
  pub at_more : (hs : List Happening) (k : ℕ) (x : Happening) → get_elem? hs k ≡ some x → get_elem? (more hs w e) k ≡ some x
  at_more [] k x q = clash (cc)
  at_more (h ∷ hs) zero x q = q
  at_more (h ∷ hs) (suc k) x q = at_more hs k x q

  pub at_last : (hs : List Happening) → get_elem? (more hs w e) (length hs) ≡ some (record { by = w; what = e })
  at_last [] = refl
  at_last (h ∷ hs) = at_last hs

-- ---- along a list of picks

module _ (c : Setup) where
  pub pick_finished : (s : State) (w : ℕ) → finished c s ≡ true → pick c s w ≡ s
  pick_finished = TracesLaws.pick_finished (finished c) (step c)

  pub pick_open : (s : State) (w : ℕ) → finished c s ≡ false → pick c s w ≡ step c s w
  pick_open = TracesLaws.pick_open (finished c) (step c)

  pub run_finished : (s : State) → finished c s ≡ true → (ws : List ℕ) → run (pick c) s ws ≡ s
  run_finished = TracesLaws.run_finished (finished c) (step c)

  pub run_inv : (Inv : State → Type 0) → ((s : State) (w : ℕ) → w < c.workers → Inv s → Inv (step c s w))
      → (ws : List ℕ) → Picks c.workers ws → (s : State) → Inv s → Inv (run (pick c) s ws)
  run_inv = TracesLaws.run_inv (finished c) (step c) (event c) c.workers

  pub pick_keeps : (Inv : State → Type 0) → ((s : State) (w : ℕ) → w < c.workers → Inv s → Inv (step c s w)) → (s : State) (w : ℕ)
      → w < c.workers → Inv s → Inv (pick c s w)
  pick_keeps = TracesLaws.pick_keeps (finished c) (step c) c.workers

  pub tallied : (f : Event → ℕ) (m : State → ℕ) → ((s : State) (w : ℕ) → m (step c s w) ≡ m s + f (event c s w))
      → (ws : List ℕ) → Picks c.workers ws → (s : State) → m (run (pick c) s ws) ≡ m s + tally f (trace c s ws)
  tallied = TracesLaws.tallied (finished c) (step c) (event c) c.workers

  pub step_picks : (s : State) (w : ℕ) → (step c s w).picks ≡ suc s.picks
  unfolding step
  step_picks s w = refl

  -- the picks counted are those taken
  pub picks_taken : (ws : List ℕ) → Picks c.workers ws → (s : State) → (run (pick c) s ws).picks ≡ length (trace c s ws) + s.picks
  picks_taken ws p s =
      TracesLaws.along (finished c) (step c) (event c) c.workers (λ s. Unit {0}) (λ s hs t. t.picks ≡ length hs + s.picks) (λ s w l v. tt)
      (λ s v. omega arith) (λ s t w hs l v r. omega (arith, step_picks s w)) ws p s tt

  pub taken_within : (ws : List ℕ) (s : State) → length (trace c s ws) ≤ length ws
  taken_within = TracesLaws.taken_within (finished c) (step c) (event c)

  -- all of the list, or until the state is finished
  pub taken_all : (ws : List ℕ) (s : State) → (length (trace c s ws) ≡ length ws) ⊎ (finished c (run (pick c) s ws) ≡ true)
  taken_all = TracesLaws.taken_all (finished c) (step c) (event c)
