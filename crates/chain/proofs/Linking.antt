-- One task more is linked, by its row. Assumes nothing.
use Rattle.std.specs.Prelude.{ℕ, suc, ◌+◌, ◌^◌, ◌-◌, ◌<◌, ◌≡◌, List, length, get_or, set}
use Rattle.std.proofs.Common.{arith}
use Rattle.runs.specs.Stores.{get_d_any}
use Rattle.plan.specs.Plan.{Task}
use Rattle.plan.specs.Chains.{no_task, task_at, Follow}
use Rattle.kept.specs.declared.tasks.Row.{Row}
use Rattle.kept.specs.Tasks.{blank, row_at}
use Rattle.chain.proofs.Short.{follow_cheap}
use Rattle.chain.specs.declared.link.Link.{Link}
use Rattle.chain.specs.Links.{Kept, IsRow, Found, Known}
use Rattle.chain.proofs.Scan.{known_more}

-- the code counts down: what is known from i on is known behind i - 1
pub known_behind : {ts : List Task} {links : List Link} (i : ℕ) → 0 < i → Known ts links i → Known ts links (suc (i - 1))
known_behind i some known j l low = known j (omega arith) low

module _ {rows : List Row} {ts : List Task} (kept : Kept rows ts) (i : ℕ) (below : i < length rows) where
  low : i < length ts
  low = omega (arith, kept.count)

  -- whatever stands for a row that is not there
  row_is : (d : Row) → get_or rows i d ≡ row_at rows i
  row_is d = get_d_any rows i d blank below

  pub its_row : (d : Row) → IsRow (get_or rows i d) (task_at ts i)
  its_row d =
      let it = kept.tasks i low no_task in
      rw (row_is d) record { count = it.count; few = kept.accesses i low; accesses = it.accesses }

  own_cost : (d : Row) → (get_or rows i d).cost ≡ (task_at ts i).cost
  own_cost d = rw (row_is d) (kept.tasks i low no_task).cost

  module _ {links : List Link} {cost next : ℕ} (found : Found ts links (Follow ts i) cost next) where
    pub sum_small : (d : Row) → (get_or rows i d).cost + cost < 2 ^ 64
    sum_small d =
        let rest = follow_cheap ts kept.cheap i low found.whole found.dearest.one in
        omega (arith, own_cost d, kept.cheap i low, kept.few, kept.count, rest, found.sum)

    pub linked : (d : Row) → i < length links → Known ts links (suc i)
        → Known ts (set links i (record { sum = (get_or rows i d).cost + cost; next = next })) i
    linked d a known = rw (own_cost d) (known_more ts links i cost next a known found)
