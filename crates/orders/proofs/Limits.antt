-- Picks up to a limit, list after list; picks of a source, one at a time.
use Prim.Native.Nat.{ℕ, zero, suc, ◌+◌, ◌-◌, ◌≤◌, ◌<◌}
use native.Mathlib.Omega.{arith}
use mathlib.Core.Path.{◌≡◌, refl, sym, ap, ◌∙◌}
use mathlib.Core.Logic.{◌⊎◌, inl, inr}
use mathlib.Core.Bool.{Bool, true, false}
use mathlib.Core.List.{List, [], ◌∷◌, ◌++◌}
use lib.ListN.{length, take, length-take}
use Rattle.runs.specs.Update.{order}
use Rattle.runs.specs.Picks.{Picks, picks_take, run}
use Rattle.picks.specs.declared.Source.{Source}
use Rattle.picks.specs.declared.Drawn.{Drawn}
use Rattle.picks.specs.Sources.{picks_from, Draws}
use Rattle.picks.specs.SourceLaws.{from_none}
use Rattle.machine.specs.State.{Setup, State, picked}
use Rattle.machine.specs.Step.{step, finished, pick}
use Rattle.machine.specs.Ranges.{Sized, Fit, Going}
use Rattle.machine.proofs.Ranges.{going_step, going_fit}
use Rattle.machine.specs.Safety.Invariant.{Playable}
use Rattle.machine.proofs.Safety.Traces.{pick_open, run_finished, run_inv, step_picks, picks_taken, taken_within}
use Rattle.orders.specs.Limited.{limited, drawn_to, Under}

module _ (c : Setup) (limit : ℕ) where
  pub limited_none : (s : State) → limited c limit s [] ≡ s
  limited_none s = go (limit - s.picks)
    where
      go : (n : ℕ) → run (pick c) s (take n []) ≡ s
      go zero = refl
      go (suc n) = refl

  pub limited_full : (s : State) (ws : List ℕ) → s.picks ≡ limit → limited c limit s ws ≡ s
  limited_full s ws e = let none_allowed : limit - s.picks ≡ 0 = omega arith in ap (λ n. run (pick c) s (take n ws)) none_allowed

  pub limited_finished : (s : State) (ws : List ℕ) → finished c s ≡ true → limited c limit s ws ≡ s
  limited_finished s ws e = run_finished c s e (take (limit - s.picks) ws)

  limited_pick : (s : State) (w : ℕ) (ws : List ℕ) → s.picks < limit → finished c s ≡ false
      → limited c limit s (w ∷ ws) ≡ limited c limit (step c s w) ws
  limited_pick s w ws l e =
      let one_less : limit - s.picks ≡ suc (limit - (step c s w).picks) = omega (arith, step_picks c s w) in
      ap (λ k. run (pick c) s (take k (w ∷ ws))) one_less
      ∙ ap (λ t. run (pick c) t (take (limit - (step c s w).picks) ws)) (pick_open c s w e)

  -- where no pick is taken from s, it makes no difference that there are two lists
  limited_still : (s : State) → ((ws : List ℕ) → limited c limit s ws ≡ s) → (xs ys : List ℕ)
      → limited c limit s (xs ++ ys) ≡ limited c limit (limited c limit s xs) ys
  limited_still s still xs ys = still (xs ++ ys) ∙ sym (ap (λ t. limited c limit t ys) (still xs) ∙ still ys)

  pub limited_append : (xs ys : List ℕ) (s : State) → s.picks ≤ limit
      → limited c limit s (xs ++ ys) ≡ limited c limit (limited c limit s xs) ys
  limited_append [] ys s l = ap (λ t. limited c limit t ys) (sym (limited_none s))
  limited_append (x ∷ xs) ys s l =
      go (order s.picks limit) (finished c s) refl (λ m. limited_append xs ys (step c s x) (omega (arith, step_picks c s x)))
    where
      go : (s.picks < limit) ⊎ (limit ≤ s.picks) → (b : Bool) → finished c s ≡ b
          → (s.picks < limit → limited c limit (step c s x) (xs ++ ys) ≡ limited c limit (limited c limit (step c s x) xs) ys)
          → limited c limit s (x ∷ (xs ++ ys)) ≡ limited c limit (limited c limit s (x ∷ xs)) ys
      go (inr m) b e h = limited_still s (λ ws. limited_full s ws (omega arith)) (x ∷ xs) ys
      go (inl m) true e h = limited_still s (λ ws. limited_finished s ws e) (x ∷ xs) ys
      go (inl m) false e h = limited_pick s x (xs ++ ys) m e ∙ h m ∙ sym (ap (λ t. limited c limit t ys) (limited_pick s x xs m e))

  module _ (s : State) (ws : List ℕ) (own : Picks c.workers ws) where
    abbrev allowed : List ℕ
    allowed = take (limit - s.picks) ws

    allowed_own : Picks c.workers allowed
    allowed_own = picks_take c.workers (limit - s.picks) ws own

    pub limited_picks : s.picks ≤ limit
        → ((limited c limit s ws).picks ≤ limit) × ((limited c limit s ws).picks ≤ s.picks + length ws)
    limited_picks l =
        let taken = picks_taken c allowed allowed_own s in
        let within = taken_within c allowed s in
        let few = length-take (limit - s.picks) ws in
        (omega arith, omega arith)

    pub limited_going : Playable c → Sized c → Going c s → Going c (limited c limit s ws)
    limited_going playable sized going =
        run_inv c (Going c) (λ t w l h. going_step c playable sized t h w l) allowed allowed_own s going

-- ---- picks of a source

module _ (c : Setup) (end : ℕ) (s : State) (source : Source) where
  -- no pick is taken where there are enough, or where the state is finished
  pub drawn_full : end ≤ s.picks → drawn_to c end s source ≡ s
  drawn_full l =
      let none_left : end - s.picks ≡ 0 = omega arith in
      ap (λ n. run (pick c) s (picks_from c.workers source n)) none_left ∙ ap (run (pick c) s) (from_none c.workers source)

  pub drawn_finished : finished c s ≡ true → drawn_to c end s source ≡ s
  drawn_finished e = run_finished c s e (picks_from c.workers source (end - s.picks))

  -- one pick more
  module _ (u : Under c s end source) (below : s.picks < end) (drawn : Drawn) (d : Draws c.workers source drawn) where
    pub pick_fits : Fit c (picked s) drawn.worker
    pick_fits = going_fit c u.playable u.sized s u.going (omega (arith, u.few)) drawn.worker d.low

    pub under_pick : Under c (step c s drawn.worker) end drawn.source
    under_pick =
        record {
          playable = u.playable;
          sized = u.sized;
          going = going_step c u.playable u.sized s u.going drawn.worker d.low;
          few = u.few;
          formed = d.formed;
        }

    pub drawn_pick : finished c s ≡ false → drawn_to c end (step c s drawn.worker) drawn.source ≡ drawn_to c end s source
    drawn_pick e =
        let rest = end - (step c s drawn.worker).picks in
        let one_less : end - s.picks ≡ suc rest = omega (arith, step_picks c s drawn.worker) in
        sym
        (ap (λ n. run (pick c) s (picks_from c.workers source n)) one_less
        ∙ ap (run (pick c) s) (d.picks rest)
        ∙ ap (λ t. run (pick c) t (picks_from c.workers drawn.source rest)) (pick_open c s drawn.worker e))
