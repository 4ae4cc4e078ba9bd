-- Laws of what sources give. Assumes nothing.
use Rattle.std.specs.Prelude.{ℕ, zero, suc, ◌+◌, ◌*◌, ◌/◌, ◌%◌, ◌^◌, ◌≤◌, ◌<◌, ◌≡◌, refl, length, take, replicate}
use Rattle.std.proofs.Common.{sym, ◌∙◌, ⊎_elim, arith, suc-mul, mod-lt}
use Rattle.std.proofs.Math.Path.{ap}
use mathlib.Core.List.{List, [], ◌∷◌, ◌++◌}
use borrow.Author.Tests.{lt-ltb, le-ltb}
use Rattle.runs.specs.Update.{order}
use Rattle.plan.specs.Orders.{numbers_from, times, next_state, seeded_picks}
use Rattle.picks.specs.declared.Source.{Source}
use Rattle.picks.specs.declared.Source.TheVariants.{Same, InTurn, Seeded}
use Rattle.picks.specs.Sources.{next_in_turn, turns, picks_from, Draws}

-- ---- how many picks there are, and the first of them

pub turns_length : (W k n : ℕ) → length (turns W k n) ≡ n
unfolding turns
turns_length W k zero = refl
turns_length W k (suc n) = ap suc (turns_length W (next_in_turn W k) n)

pub seeded_length : (W x n : ℕ) → length (seeded_picks W x n) ≡ n
unfolding seeded_picks
seeded_length W x zero = refl
seeded_length W x (suc n) = ap suc (seeded_length W (next_state x) n)

same_take : (w k n : ℕ) → k ≤ n → take k (replicate n w) ≡ replicate k w
same_take w zero n l = refl
same_take w (suc k) zero l = absurd (omega arith)
same_take w (suc k) (suc n) l = ap {B = List ℕ} (λ r. w ∷ r) (same_take w k n (omega arith))

turns_take : (W w k n : ℕ) → k ≤ n → take k (turns W w n) ≡ turns W w k
unfolding turns
turns_take W w zero n l = refl
turns_take W w (suc k) zero l = absurd (omega arith)
turns_take W w (suc k) (suc n) l = ap {B = List ℕ} (λ r. w ∷ r) (turns_take W (next_in_turn W w) k n (omega arith))

seeded_take : (W x k n : ℕ) → k ≤ n → take k (seeded_picks W x n) ≡ seeded_picks W x k
unfolding seeded_picks
seeded_take W x zero n l = refl
seeded_take W x (suc k) zero l = absurd (omega arith)
seeded_take W x (suc k) (suc n) l =
    ap {B = List ℕ} (λ r. (next_state x / 2 ^ 32 % W) ∷ r) (seeded_take W (next_state x) k n (omega arith))

-- fewer picks are the first of more
pub from_take : (W : ℕ) (s : Source) (k n : ℕ) → k ≤ n → take k (picks_from W s n) ≡ picks_from W s k
from_take W (Same w) k n l = same_take w k n l
from_take W (InTurn w) k n l = turns_take W w k n l
from_take W (Seeded x) k n l = seeded_take W x k n l

pub from_none : (W : ℕ) (s : Source) → picks_from W s 0 ≡ []
from_none W s = sym (from_take W s 0 0 (omega arith))

-- ---- the next in turn

pub turn_on : (W k : ℕ) → suc k < W → next_in_turn W k ≡ suc k
turn_on W k h = rw (lt-ltb (suc k) W h, next_in_turn)

pub turn_back : (W k : ℕ) → W ≤ suc k → next_in_turn W k ≡ 0
turn_back W k h = rw (le-ltb (suc k) W h, next_in_turn)

next_low : (W k : ℕ) → k < W → next_in_turn W k < W
next_low W k h = ⊎_elim (λ l. rw (turn_on W k l) l) (λ l. rw (turn_back W k l) (omega arith)) (order (suc k) W)

-- ---- the first pick and the rest

module _ (W : ℕ) where
  pub draws_same : (w : ℕ) → w < W → Draws W (Same w) (record { worker = w; source = Same w })
  draws_same w low = record { picks = λ n. refl; low = low; formed = low }

  pub draws_turn : (w : ℕ) → w < W → Draws W (InTurn w) (record { worker = w; source = InTurn (next_in_turn W w) })
  unfolding turns
  draws_turn w low = record { picks = λ n. refl; low = low; formed = next_low W w low }

  pub draws_seeded : (x : ℕ) → 0 < W
      → Draws W (Seeded x) (record { worker = next_state x / 2 ^ 32 % W; source = Seeded (next_state x) })
  unfolding seeded_picks
  draws_seeded x some = record { picks = λ n. refl; low = mod-lt (next_state x / 2 ^ 32) some; formed = some }

-- ---- rounds are workers in turn from the first

-- the rest of a round, from worker k, and m picks more
rest_of_round : (W k n m t : ℕ) → k + suc n ≡ W → t ≡ n + m → numbers_from k (suc n) ++ turns W 0 m ≡ turns W k (suc t)
unfolding numbers_from turns
rest_of_round W k zero m t e f = let g : t ≡ m = omega arith in rw (g, turn_back W k (omega arith))
rest_of_round W k (suc n) m zero e f = absurd (omega arith)
rest_of_round W k (suc n) m (suc t) e f =
    rw (turn_on W k (omega arith)) (ap {B = List ℕ} (λ r. k ∷ r) (rest_of_round W (suc k) n m t (omega arith) (omega arith)))

pub rounds_in_turn : (W n : ℕ) → 0 < W → times n (numbers_from 0 W) ≡ turns W 0 (n * W)
unfolding times turns
rounds_in_turn zero n h = absurd (omega arith)
rounds_in_turn (suc W) zero h = let z : 0 * suc W ≡ 0 = omega arith in rw z
rounds_in_turn (suc W) (suc n) h =
    let z : suc (W + n * suc W) ≡ suc n * suc W = omega (arith, suc-mul n (suc W)) in
    ap (λ r. numbers_from 0 (suc W) ++ r) (rounds_in_turn (suc W) n h)
    ∙ rest_of_round (suc W) 0 W (n * suc W) (W + n * suc W) (omega arith) refl
    ∙ ap (turns (suc W) 0) z
