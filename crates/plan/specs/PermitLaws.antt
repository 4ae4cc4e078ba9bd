-- A mask and the workers that it names.
use Rattle.std.specs.Prelude.{◌≡◌, ℕ, zero, suc, ◌+◌, ◌-◌, ◌/◌, ◌%◌, ◌^◌, ◌<◌, ◌≤◌, Bool, true, ◌⊎◌, ◌==◌, count_ones, nat_eq, refl}
use Rattle.std.proofs.Common.{arith, pow-suc, mul_comm, sym, ap, ◌∙◌, inl, inr, ⊎_elim, eq-eqb, ne_eqb}
use Rattle.std.proofs.Math.Nat.{div-div-eq-div-mul}
use Rattle.std.proofs.Math.Option.{Option, none, some}
use Rattle.std.specs.Int.Count.{ones_step, ones-ones}
use Rattle.std.proofs.lemmas.Nat.{ones-le}
use Rattle.runs.specs.Counts.{one, one_le, one_true}
use Rattle.runs.specs.Update.{order, upd, upd_all}
use Rattle.runs.specs.Sums.{sum, sum_same, sum_le, sum_const, sum_ones, sum_upd}
use Rattle.plan.specs.Plan.{Task}
use Rattle.plan.specs.Permits.{is_set, permits, permitted}
use Rattle.plan.specs.Accepted.{MaskFormed}

-- ---- the bits of a number

-- a bit as a number
one_set : (n k : ℕ) → one (is_set n k) ≡ n / 2 ^ k % 2
unfolding is_set
one_set n k = go (order 1 (n / 2 ^ k % 2))
  where
    go : (1 < n / 2 ^ k % 2) ⊎ (n / 2 ^ k % 2 ≤ 1) → one (n / 2 ^ k % 2 == 1) ≡ n / 2 ^ k % 2
    go (inl l) = absurd (omega arith)
    go (inr l) =
        ⊎_elim
        (λ (z : n / 2 ^ k % 2 < 1). rw (ne_eqb (n / 2 ^ k % 2) 1 (omega arith)) (omega arith))
        (λ (z : 1 ≤ n / 2 ^ k % 2). rw (eq-eqb (n / 2 ^ k % 2) 1 (omega arith)) (omega arith))
        (order (n / 2 ^ k % 2) 1)

-- the bits above the lowest are those of the half
set_half : (n k : ℕ) → is_set n (suc k) ≡ is_set (n / 2) k
unfolding is_set
set_half n k = ap (λ (x : ℕ). nat_eq (x % 2) 1) (ap (λ (x : ℕ). n / x) (pow-suc 2 k ∙ mul_comm (2 ^ k) 2) ∙ sym (div-div-eq-div-mul n 2 (2 ^ k)))

-- a sum by its first term
sum_first : (n : ℕ) (f : ℕ → ℕ) → sum (suc n) f ≡ f 0 + sum n (λ k. f (suc k))
unfolding sum
sum_first zero f = omega arith
sum_first (suc n) f = omega (arith, sum_first n f)

-- the ones of a number that has no bit at W or above
pub ones_set : (W n : ℕ) → n < 2 ^ W → count_ones n ≡ sum W (λ k. one (is_set n k))
unfolding sum
ones_set zero n l = omega (arith, ones-le 0 n l)
ones_set (suc W) n l =
    omega (
      arith,
      ones_step n,
      ones_set W (n / 2) (omega (arith, pow-suc 2 W)),
      sum_first W (λ k. one (is_set n k)),
      sum_same W (λ k. one (is_set n (suc k))) (λ k. one (is_set (n / 2) k)) (λ k b. ap one (set_half n k)),
      one_set n 0,
    )

-- a number above 0 has a bit
pub some_set : (W n : ℕ) → 0 < n → n < 2 ^ W → (k : ℕ) × (k < W) × (is_set n k ≡ true)
some_set zero n pos l = absurd (omega arith)
some_set (suc W) n pos l =
    ⊎_elim
    (λ (z : 0 < n % 2). (0, omega arith, one_true (is_set n 0) (omega (arith, one_set n 0))))
    (λ (z : n % 2 ≤ 0).
    let (k, b, e) = some_set W (n / 2) (omega arith) (omega (arith, pow-suc 2 W)) in
    (suc k, omega arith, set_half n k ∙ e))
    (order 0 (n % 2))

pub positive : (n : ℕ) → 0 < 2 ^ n
positive zero = omega arith
positive (suc n) = omega (arith, pow-suc 2 n, positive n)

-- in the number of W ones each of the W lowest bits is set
pub all_set : (W k : ℕ) → k < W → is_set (2 ^ W - 1) k ≡ true
all_set W k l =
    ⊎_elim
    (λ (z : 0 < one (bit k)). one_true (bit k) z)
    (λ (z : one (bit k) ≤ 0).
    absurd (omega (
      arith,
      ones-ones W,
      ones_set W (2 ^ W - 1) (omega (arith, positive W)),
      sum_le W (λ j. one (bit j)) (upd (λ j. 1) k 0) (upd_all (λ j x. j < W → one (bit j) ≤ x) (λ j. 1) k 0 (λ b. z) (λ j n b. one_le (bit j))),
      sum_upd W (λ x. x) (λ j. 1) k 0 l,
      sum_const W 1,
    )))
    (order 0 (one (bit k)))
  where
    bit : ℕ → Bool
    bit = is_set (2 ^ W - 1)

-- ---- masks

-- the mask of a task, that of all W workers where it has no M line
abbrev pub mask_of : ℕ → Option ℕ → ℕ
mask_of W none = 2 ^ W - 1
mask_of W (some m) = m

pub permits_mask : (W : ℕ) (t : Task) (w : ℕ) → w < W → permits t w ≡ is_set (mask_of W t.mask) w
unfolding permits
permits_mask W t w l = go t.mask
  where
    go : (o : Option ℕ) → elim o [ none ↦ true | some m ↦ is_set m w ] ≡ is_set (mask_of W o) w
    go none = sym (all_set W w l)
    go (some m) = refl

pub mask_low : (W : ℕ) (o : Option ℕ) → MaskFormed W o → mask_of W o < 2 ^ W
mask_low W none f = omega (arith, positive W)
mask_low W (some m) f = f.1

-- as many workers are permitted as the mask has ones
pub permitted_ones : (W : ℕ) (t : Task) → MaskFormed W t.mask → permitted W t ≡ count_ones (mask_of W t.mask)
permitted_ones W t f =
    sum_same W (λ w. one (permits t w)) (λ w. one (is_set (mask_of W t.mask) w)) (λ w l. ap one (permits_mask W t w l))
    ∙ sym (ones_set W (mask_of W t.mask) (mask_low W t.mask f))

-- without an M line all W workers are
pub all_permitted : (W : ℕ) (t : Task) → t.mask ≡ none → permitted W t ≡ W
unfolding permits
all_permitted W t e = sum_ones W (λ w. one (permits t w)) (λ w l. rw (permits, e))

-- some worker is permitted
pub some_permitted : (W : ℕ) (t : Task) → 0 < W → MaskFormed W t.mask → (w : ℕ) × (w < W) × (permits t w ≡ true)
unfolding permits
some_permitted W t pos f = go t.mask f
  where
    go : (o : Option ℕ) → MaskFormed W o → (w : ℕ) × (w < W) × (elim o [ none ↦ true | some m ↦ is_set m w ] ≡ true)
    go none f = (0, pos, refl)
    go (some m) (a, b) = some_set W m a b
