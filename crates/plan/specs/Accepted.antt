-- A text that is accepted means a well-formed plan, with no more order lines than its length has room for.
use Rattle.std.specs.Prelude.{◌≡◌, ℕ, ◌^◌, ◌<◌, ◌≤◌, true, false, List, [], ◌∷◌, length, slice_index_or}
use Rattle.std.proofs.Math.Option.{Option, none, some}
use Rattle.plan.specs.Plan.{Task, Order, picks, rounds, seeded, slots_of, capacity_of, Plan}
use Rattle.plan.specs.Line.{Ask, repeats}

-- each element of a list, by its number
abbrev pub Each : {A : Type 0} → (A → Type 0) → List A → Type 0
Each {A} P xs = (i : ℕ) → i < length xs → (d : A) → P (slice_index_or xs i d)

-- some bit, and none at W or above
abbrev pub MaskFormed : ℕ → Option ℕ → Type 0
MaskFormed W none = Unit {0}
MaskFormed W (some m) = (0 < m) × (m < 2 ^ W)

pub record TaskFormed (W : ℕ) (t : Task) : Type 0 where
  pub label_some : 1 ≤ length t.label
  pub label_short : length t.label ≤ 16
  pub cost_low : t.cost ≤ 1000
  pub accesses_few : length t.accesses ≤ 4
  pub addresses_low : Each (λ a. a.address ≤ 65535) t.accesses
  pub addresses_once : repeats t.accesses ≡ false
  pub mask_formed : MaskFormed W t.mask

abbrev pub OrderFormed : ℕ → Order → Type 0
OrderFormed W (picks worker n) = (worker < W) × (1 ≤ n) × (n ≤ 4096)
OrderFormed W (rounds n) = (1 ≤ n) × (n ≤ 1000000)
OrderFormed W (seeded n seed) = (seed < 2 ^ 64) × (1 ≤ n) × (n ≤ 1000000)

pub record WellFormed (p : Plan) : Type 0 where
  pub workers_some : 1 ≤ p.workers
  pub workers_few : p.workers ≤ 32
  pub slots_enough : p.workers ≤ slots_of p.form
  pub slots_few : slots_of p.form ≤ 64
  pub capacity_some : 1 ≤ capacity_of p.form
  pub capacity_few : capacity_of p.form ≤ 16
  pub tasks_few : length p.tasks ≤ 128
  pub tasks : Each (TaskFormed p.workers) p.tasks
  pub orders : Each (OrderFormed p.workers) p.orders

-- ---- what is read so far

-- all that is asked holds, where there is no fault
abbrev pub Granted : List Ask → Type 0
Granted [] = Unit {0}
Granted (a ∷ asks) = (a.holds ≡ true) × Granted asks
