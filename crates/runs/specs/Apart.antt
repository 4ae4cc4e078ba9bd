-- Lists of picks in which each worker's lie so many apart, as they do where the workers are picked in turn.
use Rattle.std.specs.Prelude.{◌≡◌, List, ◌++◌, ℕ, ◌+◌, ◌*◌, ◌-◌, ◌%◌, ◌≤◌, ◌<◌, length, take}
use Rattle.std.proofs.Common.{sym, ap, ◌∙◌, ⊎_elim, arith, length-take, length-append, get_or-take, get_or-append-add}
use Rattle.std.proofs.Math.Nat.{mul-add-mod_self_right}
use Rattle.std.proofs.Math.ListN.{get_or-append}
use Rattle.runs.specs.Update.{order}
use Rattle.runs.specs.Picks.{pick}
use Rattle.runs.specs.Near.{near_mod}

-- two picks of one worker are at least M apart
abbrev pub Apart : ℕ → List ℕ → Type 0
Apart M xs = (i j : ℕ) → i < j → j < length xs → pick xs i ≡ pick xs j → i + M ≤ j

-- each pick is the next of W workers in turn, from worker 0
abbrev pub InTurn : ℕ → List ℕ → Type 0
InTurn W xs = (i : ℕ) → i < length xs → pick xs i ≡ i % W

-- in every list they are one apart
pub apart_one : (xs : List ℕ) → Apart 1 xs
apart_one xs i j l b e = omega arith

pub apart_take : (M n : ℕ) (xs : List ℕ) → Apart M xs → Apart M (take n xs)
apart_take M n xs a i j l b e =
    a i j l (omega (arith, length-take n xs))
    (sym (get_or-take n xs i 0 (omega (arith, length-take n xs))) ∙ e ∙ get_or-take n xs j 0 (omega (arith, length-take n xs)))

-- in turn they are as many apart as there are workers
pub in_turn_apart : (W : ℕ) (xs : List ℕ) → InTurn W xs → Apart W xs
in_turn_apart W xs t i j l b e =
    ⊎_elim
    (λ (near : j < i + W). absurd (omega (arith, near_mod W i j (sym (t i (omega arith)) ∙ e ∙ t j b) (omega arith) near)))
    (λ (far : i + W ≤ j). far)
    (order j (i + W))

pub in_turn_take : (W n : ℕ) (xs : List ℕ) → InTurn W xs → InTurn W (take n xs)
in_turn_take W n xs t i l = rw (get_or-take n xs i 0 (omega (arith, length-take n xs))) (t i (omega (arith, length-take n xs)))

-- after n whole rounds the turn is worker 0's again
pub in_turn_append : (W n : ℕ) (xs ys : List ℕ) → length xs ≡ n * W → InTurn W xs → InTurn W ys → InTurn W (xs ++ ys)
in_turn_append W n xs ys whole t u i l =
    ⊎_elim
    (λ (front : i < length xs). get_or-append xs ys 0 i front ∙ t i front)
    (λ (back : length xs ≤ i).
    let k : ℕ = i - length xs in
    let place : i ≡ length xs + k = omega arith in
    let turn : n * W + k ≡ i = omega arith in
    ap (pick (xs ++ ys)) place
    ∙ get_or-append-add xs ys k 0
    ∙ u k (omega (arith, length-append xs ys))
    ∙ sym (mul-add-mod_self_right n W k)
    ∙ ap (λ (m : ℕ). m % W) turn)
    (order i (length xs))
