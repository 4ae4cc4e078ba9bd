-- The accesses of a plan, task by task. Assumes nothing.
use Prim.Native.Nat.{ℕ, ◌+◌, ◌<◌}
use mathlib.Core.Path.{◌≡◌, sym, ◌∙◌}
use mathlib.Core.List.{List}
use native.Mathlib.Omega.{arith}
use native.Mathlib.Numerals.{add-one}
use lib.ListN.{length}
use Rattle.plan.specs.Plan.{Plan, Task}
use Rattle.plan.specs.Reading.{reading, accepted}
use Rattle.tasks.specs.Accesses.{first, total}
use Rattle.tasks.proofs.Promise.{first_zero, first_all}
use Rattle.kept.specs.declared.tasks.Row.{Row}
use Rattle.kept.specs.Tasks.{row_at, HasTasks}
use Rattle.memory.specs.Rows.{no_access}
use Rattle.memory.specs.declared.rows.AccessRow.{AccessRow}
use Rattle.tables.specs.Tables.{access_row_of, LaidRows}
use Rattle.tables.specs.Laid.{Laid, AreAccesses}
use Rattle.tables.proofs.Chains.{laid_none, laid_all}
use Rattle.tables.proofs.Plans.{RowSays, says_row, first_next}

-- those up to task i's, whose first has number `at`
abbrev pub AccessesTo : Plan → List AccessRow → ℕ → ℕ → List AccessRow → Type 0
AccessesTo p before i at rows = (at ≡ first p.tasks i) × Laid p.tasks at before rows

pub accesses_begin : (p : Plan) (rows : List AccessRow) → AccessesTo p rows 0 0 rows
accesses_begin p rows = (sym (first_zero p.tasks), laid_none p.tasks rows)

module _ (text : List ℕ) (p : Plan) (e : reading text ≡ accepted p) (count : ℕ) (size : count ≡ length p.tasks)
    (kept : List Row) (has : HasTasks text kept p.tasks) (before : List AccessRow) where
  -- one task's accesses more
  pub accesses_laid : (i at all : ℕ) (row : Row) (rows rows' : List AccessRow) → i < count → row ≡ row_at kept i → all ≡ total p.tasks
      → ((ts : List Task) (start : List AccessRow) → total ts ≡ all → AreAccesses ts i at row → Laid ts at start rows
      → Laid ts (at + row.count) start rows')
      → AccessesTo p before i at rows → AccessesTo p before (i + 1) (at + row.count) rows'
  accesses_laid i at all row rows rows' l is c lay (b, h) =
      let low : i < length p.tasks = omega (arith, size) in
      let s : RowSays text p e kept has i row = rw is (says_row text p e kept has i low) in
      rw (add-one i) (omega (arith, first_next text p e kept has i row low s), lay p.tasks before (sym c) (s.accesses at b) h)

  pub accesses_end : (i at all : ℕ) (rows : List AccessRow) → i ≡ count → all ≡ total p.tasks → AccessesTo p before i at rows
      → LaidRows no_access all (access_row_of p.tasks) before rows
  accesses_end i at all rows z c (b, h) =
      let last : at ≡ total p.tasks = b ∙ first_all p.tasks i (omega (arith, size)) in
      rw c (laid_all p.tasks before rows (rw last at h))
