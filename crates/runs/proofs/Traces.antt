-- What happens in a list of picks: the events of the picks that are taken, in their order; none is taken once the state is finished.
-- Proofs along such a list.
use Prim.Native.Nat.{ℕ, suc, ◌+◌, ◌≤◌, ◌<◌}
use native.Mathlib.Omega.{arith}
use Rattle.std.specs.Prelude.{◌≡◌, ◌⊎◌, take, eqb}
use Rattle.std.proofs.Math.Path.{refl}
use Rattle.std.proofs.Common.{ap}
use Rattle.std.proofs.Math.Bool.{Bool, true, false}
use mathlib.Core.List.{List, [], ◌∷◌}
use Rattle.std.proofs.Math.Logic.{inl, inr, ⊎_elim}
use Rattle.std.proofs.Math.Option.{some}
use Rattle.std.proofs.Math.ListN.{length, get_elem?}
use Rattle.runs.specs.Update.{order}
use Rattle.runs.specs.Picks.{Picks, picks_drop, run}
use Rattle.runs.specs.Traces.{Happening, workers_of, tally, pick, trace}

module _ {E : Type 0} where
  -- what is counted is somewhere in the list
  pub tally_at : (f : E → ℕ) (hs : List (Happening E)) → 0 < tally f hs
      → (k : ℕ) × (h : Happening E) × (get_elem? hs k ≡ some h) × (0 < f h.what)
  unfolding tally
  tally_at f [] l = absurd (omega arith)
  tally_at f (h ∷ hs) l =
      ⊎_elim
      (λ (a : 0 < f h.what). (0, h, refl, a))
      (λ (a : f h.what ≤ 0). let (k, g, e, b) = tally_at f hs (omega arith) in (suc k, g, e, b))
      (order 0 (f h.what))

module _ {S : Type 0} (finished : S → Bool) (step : S → ℕ → S) where
  pub pick_finished : (s : S) (w : ℕ) → finished s ≡ true → pick finished step s w ≡ s
  unfolding pick
  pick_finished s w e = rw (e, pick)

  pub pick_open : (s : S) (w : ℕ) → finished s ≡ false → pick finished step s w ≡ step s w
  unfolding pick
  pick_open s w e = rw (e, pick)

  -- once finished, for ever
  pub run_finished : (s : S) → finished s ≡ true → (ws : List ℕ) → run (pick finished step) s ws ≡ s
  run_finished s e [] = refl
  run_finished s e (w ∷ ws) = rw (pick_finished s w e) (run_finished s e ws)

  pub pick_keeps : (W : ℕ) (Inv : S → Type 0) → ((s : S) (w : ℕ) → w < W → Inv s → Inv (step s w)) → (s : S) (w : ℕ) → w < W → Inv s
      → Inv (pick finished step s w)
  pick_keeps W Inv keep s w h v = go (finished s) refl
    where
      go : (b : Bool) → finished s ≡ b → Inv (pick finished step s w)
      go true e = rw (pick_finished s w e) v
      go false e = rw (pick_open s w e) (keep s w h v)

  module _ {E : Type 0} (event : S → ℕ → E) where
    -- what happens is by the workers of the list, as far as its picks are taken
    pub trace_workers : (ws : List ℕ) (s : S) → workers_of (trace finished step event s ws) ≡ take (length (trace finished step event s ws)) ws
    unfolding trace
    trace_workers [] s = refl
    trace_workers (w ∷ ws) s = go (finished s) (trace_workers ws (step s w))
      where
        taken : Bool → List (Happening E)
        taken b = elim b [ true ↦ [] | false ↦ record { by = w; what = event s w } ∷ trace finished step event (step s w) ws ]

        go : (b : Bool) → workers_of (trace finished step event (step s w) ws) ≡ take (length (trace finished step event (step s w) ws)) ws
            → workers_of (taken b) ≡ take (length (taken b)) (w ∷ ws)
        go true e = refl
        go false e = ap {B = List ℕ} (λ r. w ∷ r) e

    -- R ties a first state, what happens, and a last state
    pub along : (W : ℕ) (Inv : S → Type 0) (R : S → List (Happening E) → S → Type 0)
        → ((s : S) (w : ℕ) → w < W → Inv s → Inv (step s w))
        → ((s : S) → Inv s → R s [] s)
        → ((s t : S) (w : ℕ) (hs : List (Happening E)) → w < W → Inv s → R (step s w) hs t
        → R s (record { by = w; what = event s w } ∷ hs) t)
        → (ws : List ℕ) → Picks W ws → (s : S) → Inv s → R s (trace finished step event s ws) (run (pick finished step) s ws)
    unfolding trace pick
    along W Inv R keep empty more [] p s v = empty s v
    along W Inv R keep empty more (w ∷ ws) p s v =
        go (finished s) refl (along W Inv R keep empty more ws (picks_drop W 1 (w ∷ ws) p) (step s w) (keep s w (p 0 (omega arith)) v))
      where
        go : (b : Bool) → finished s ≡ b → R (step s w) (trace finished step event (step s w) ws) (run (pick finished step) (step s w) ws)
            → R s (elim b [ true ↦ [] | false ↦ record { by = w; what = event s w } ∷ trace finished step event (step s w) ws ])
            (run (pick finished step) (elim b [ true ↦ s | false ↦ step s w ]) ws)
        go true e r = rw (run_finished s e ws) (empty s v)
        go false e r = more s (run (pick finished step) (step s w) ws) w (trace finished step event (step s w) ws) (p 0 (omega arith)) v r

    -- what every step keeps, every list of picks keeps
    pub run_inv : (W : ℕ) (Inv : S → Type 0) → ((s : S) (w : ℕ) → w < W → Inv s → Inv (step s w)) → (ws : List ℕ) → Picks W ws → (s : S)
        → Inv s → Inv (run (pick finished step) s ws)
    run_inv W Inv keep = along W Inv (λ s hs t. Inv t) keep (λ s v. v) (λ s t w hs l v r. r)

    -- a number that each step raises by what its event counts for
    pub tallied : (W : ℕ) (f : E → ℕ) (m : S → ℕ) → ((s : S) (w : ℕ) → m (step s w) ≡ m s + f (event s w))
        → (ws : List ℕ) → Picks W ws → (s : S) → m (run (pick finished step) s ws) ≡ m s + tally f (trace finished step event s ws)
    unfolding tally
    tallied W f m each ws p s =
        along W (λ s. Unit {0}) (λ s hs t. m t ≡ m s + tally f hs) (λ s w l v. tt) (λ s v. omega arith)
        (λ s t w hs l v r. omega (arith, r, each s w)) ws p s tt

    -- no more is taken than the list has
    pub taken_within : (ws : List ℕ) (s : S) → length (trace finished step event s ws) ≤ length ws
    unfolding trace
    taken_within [] s = omega arith
    taken_within (w ∷ ws) s = go (finished s) (taken_within ws (step s w))
      where
        go : (b : Bool) → length (trace finished step event (step s w) ws) ≤ length ws
            → length {A = Happening E} (elim b [ true ↦ [] | false ↦ record { by = w; what = event s w } ∷ trace finished step event (step s w) ws ]) ≤ suc
            (length ws)
        go true l = omega arith
        go false l = omega arith

    -- all picks of the list are taken, or the state is finished
    pub taken_all : (ws : List ℕ) (s : S) → (length (trace finished step event s ws) ≡ length ws) ⊎ (finished (run (pick finished step) s ws) ≡ true)
    unfolding trace
    taken_all [] s = inl refl
    taken_all (w ∷ ws) s = go (finished s) refl (taken_all ws (step s w))
      where
        go : (b : Bool) → finished s ≡ b → (length (trace finished step event (step s w) ws) ≡ length ws) ⊎ (finished (run (pick finished step) (step s w) ws) ≡ true)
            → (length {A = Happening E} (elim b [ true ↦ [] | false ↦ record { by = w; what = event s w } ∷ trace finished step event (step s w) ws ])
            ≡ suc (length ws))
            ⊎ (finished (run (pick finished step) (pick finished step s w) ws) ≡ true)
        go true e r = inr (rw (pick_finished s w e, run_finished s e ws) e)
        go false e r = rw (pick_open s w e) (⊎_elim (λ l. inl (omega arith)) inr r)

-- computed: where each pick adds 1 and 2 is finished, the third pick is not taken
pub third_untaken : run (pick (eqb 2) (λ s w. suc s)) 0 (0 ∷ 0 ∷ 0 ∷ []) ≡ 2
unfolding pick
third_untaken = refl
