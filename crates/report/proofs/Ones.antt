-- The ones of the first masks of a list, added one after the other, and how many they are at most. Assumes nothing.
use Rattle.std.specs.Prelude.{ℕ, ◌+◌, ◌*◌, ◌^◌, ◌≤◌, ◌<◌, ◌≡◌, List, length, take, get_or}
use Rattle.std.proofs.Common.{arith, add-one, ap}
use Rattle.std.proofs.lemmas.List.{get_or-take, length-take-le}
use Rattle.std.specs.Int.Count.{ones}
use lib.Count.{ones-le}
use Rattle.runs.specs.Sums.{sum, sum_le, sum_const}
use Rattle.report.specs.Totals.{ones_of}

-- masks of 32 bits have at most 32 ones each
pub few_ones : (masks : List ℕ) (n : ℕ) → ((i : ℕ) → i < n → get_or masks i 0 < 2 ^ 32) → ones_of masks n ≤ n * 32
few_ones masks n h =
    omega (arith, sum_le n (λ i. ones (get_or masks i 0)) (λ i. 32) (λ i l. ones-le 32 (get_or masks i 0) (h i l)), sum_const n 32)

pub ones_more : (masks : List ℕ) (i : ℕ) → ones_of masks (i + 1) ≡ ones_of masks i + ones (get_or masks i 0)
unfolding sum
ones_more masks i = ap (ones_of masks) (add-one i)

-- a place among the first n masks
pub first_masks : (masks : List ℕ) (n i : ℕ) → n ≤ length masks → i < length (take n masks) → (i < n) × (get_or (take n masks) i 0 ≡ get_or masks i 0)
first_masks masks n i h l =
    let low : i < n = omega (arith, length-take-le n masks h) in
    (low, get_or-take n masks i 0 low)
