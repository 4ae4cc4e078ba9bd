-- How much a chain of a plan costs at the most, and how long its line is: 409 bytes at the most.
use Rattle.std.specs.Prelude.{ℕ, zero, suc, ◌+◌, ◌*◌, ◌≤◌, ◌<◌, ◌≡◌, refl, length}
use native.Mathlib.Omega.{arith}
use Rattle.std.proofs.Math.Logic.{⊎_elim}
use mathlib.Core.List.{List, [], ◌∷◌, map}
use Rattle.std.proofs.Common.{length-append}
use Rattle.runs.specs.Update.{order, clash}
use Rattle.runs.specs.Sums.{sum}
use Rattle.text.specs.Text.{digits_before, decimal, line}
use Rattle.text.specs.Decimals.{decimal_short}
use Rattle.plan.specs.Plan.{Task}
use Rattle.plan.specs.Chains.{no_task, task_at, Follow, Chain, chain_cost}
use Rattle.plan.specs.Reading.{Reading, accepted, refused, reading}
use Rattle.plan.proofs.Accepted.{accepted_well_formed}
use Rattle.tools.specs.Result.{result, of_plan}
use Rattle.chain.specs.Longest.{longest, chain_line, chain_of}
use Rattle.chain.proofs.Ordered.{longest_or_none}
use Rattle.chain.specs.Short.{line_size}

-- the bytes of a number, with the one after it
abbrev number_bytes : ℕ → ℕ
number_bytes i = length (decimal i) + 1

unfoldable numbers_bytes : List ℕ → ℕ
numbers_bytes [] = 0
numbers_bytes (i ∷ is) = number_bytes i + numbers_bytes is

line_bytes : (f : List ℕ) (xs : List ℕ) → length (line (f ∷ map decimal xs)) ≡ length f + 1 + numbers_bytes xs
unfolding line numbers_bytes
line_bytes f [] = omega (arith, length-append f (10 ∷ []))
line_bytes f (x ∷ xs) = omega (arith, length-append f (9 ∷ line (decimal x ∷ map decimal xs)), line_bytes (decimal x) xs)

-- those of all numbers below n
abbrev below : ℕ → ℕ
below n = sum n number_bytes

below_more : (i j : ℕ) → i ≤ j → below i ≤ below j
unfolding sum
below_more i zero l = let z : i ≡ 0 = omega arith in rw z (omega arith)
below_more i (suc j) l =
    ⊎_elim
    (λ (h : j < i). let e : i ≡ suc j = omega arith in rw e (omega arith))
    (λ (h : i ≤ j). omega (arith, below_more i j h))
    (order j i)

below_128 : below 128 ≡ 402
unfolding sum decimal digits_before
below_128 = refl

module _ (ts : List Task) where
  -- the numbers of a chain rise
  follow_bytes : (i : ℕ) (xs : List ℕ) → i < length ts → Follow ts i xs → numbers_bytes xs + below (suc i) ≤ below (length ts)
  unfolding numbers_bytes sum
  follow_bytes i [] l f = omega (arith, below_more (suc i) (length ts) l)
  follow_bytes i (j ∷ js) l (a, b, e, f) = omega (arith, follow_bytes j js b f, below_more (suc i) j a)

  module _ (cheap : (k : ℕ) → k < length ts → (task_at ts k).cost ≤ 1000) where
    -- where no task costs more than 1,000
    pub follow_cheap : (i : ℕ) → i < length ts → (xs : List ℕ) → Follow ts i xs → chain_cost ts xs + 1000 * suc i ≤ 1000 * length ts
    unfolding chain_cost
    follow_cheap i l [] f = omega arith
    follow_cheap i l (j ∷ js) (a, b, e, f) = omega (arith, cheap j b, follow_cheap j b js f)

    pub chain_cheap : (xs : List ℕ) → Chain ts xs → chain_cost ts xs ≤ 1000 * length ts
    unfolding chain_cost
    chain_cheap [] h = elim h [ ]
    chain_cheap (i ∷ is) (l, f) = omega (arith, cheap i l, follow_cheap i l is f)

    chain_bytes : (xs : List ℕ) → Chain ts xs → numbers_bytes xs ≤ below (length ts)
    unfolding numbers_bytes sum
    chain_bytes [] h = elim h [ ]
    chain_bytes (i ∷ is) (l, f) = omega (arith, follow_bytes i is l f)

    -- the longest chain, and none of a plan without tasks
    longest_small : (chain_cost ts (longest ts) ≤ 1000 * length ts) × (numbers_bytes (longest ts) ≤ below (length ts))
    unfolding chain_cost numbers_bytes
    longest_small =
        ⊎_elim (λ h. (chain_cheap (longest ts) h.one, chain_bytes (longest ts) h.one)) (λ e. rw e (omega arith, omega arith))
        (longest_or_none ts)

    line_short : length ts ≤ 128 → length (chain_line ts) ≤ line_size
    unfolding chain_line
    line_short few =
        let (cost, size) = longest_small in
        omega (
          arith,
          line_bytes (decimal (chain_cost ts (longest ts))) (longest ts),
          size,
          below_more (length ts) 128 few,
          below_128,
          decimal_short 5 (chain_cost ts (longest ts)) (omega (arith, cost)),
        )

-- of every text
pub result_short : (text bs : List ℕ) → chain_of text ≡ result bs → length bs ≤ line_size
unfolding chain_of
result_short text bs e = go (reading text) refl e
  where
    go : (y : Reading) → reading text ≡ y → of_plan (λ p. result (chain_line p.tasks)) y ≡ result bs → length bs ≤ line_size
    go (accepted p) q f =
        let formed = accepted_well_formed text p q in
        let w : chain_line p.tasks ≡ bs = cc in
        rw (← w) (line_short p.tasks (λ k l. (formed.tasks k l no_task).cost_low) formed.tasks_few)
    go (refused r n) q f = clash (cc)
