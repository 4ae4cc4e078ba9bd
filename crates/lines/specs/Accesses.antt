-- The code's view of a task's accesses.
use Rattle.std.specs.Prelude.{Result, Ok, Err, ℕ, ◌≤◌, ◌≡◌, Bool, cond, not, ◌||◌, List, length, eqb, leb, ltb}
use Rattle.refusals.specs.declared.Refusal.{Refusal}
use Rattle.refusals.specs.declared.Refusal.TheVariants.{OutOfRange, TooMany, AddressTwice}
use Rattle.runs.specs.Every.{every}
use Rattle.plan.specs.declared.access.Access.{Access}
use Rattle.plan.specs.Line.{repeats}
use Rattle.kept.specs.declared.tasks.Row.{Row}
use Rattle.kept.specs.Tasks.{Placed, row_of}
use Rattle.lines.specs.declared.accesses.Accesses.{Accesses}
use Rattle.lines.specs.Lines.{task_of}

-- four are kept, and five are counted
abbrev pub counted : ℕ → ℕ
counted n = cond (leb n 4) n 5

abbrev pub low_addresses : List Access → Bool
low_addresses xs = every (λ a. leb a.address 65535) xs

-- one of these is to the address
abbrev pub touches : List Access → ℕ → Bool
touches xs address = not (every (λ a. not (eqb a.address address)) xs)

abbrev pub with_accesses : Placed → List Access → Placed
with_accesses t xs = record { at = t.at; task = task_of t.task.label t.task.cost xs }

-- xs is read of the accesses of t, whose row is in hand
pub record Reads (t : Placed) (xs : List Access) (a : Accesses) (row : Row) : Type 0 where
  pub count : a.count ≡ counted (length xs)
  pub out : a.out ≡ not (low_addresses xs)
  pub again : length xs ≤ 4 → a.again ≡ repeats xs
  pub kept : length xs ≤ 4 → row ≡ row_of (with_accesses t xs)

-- how they are judged, in a line of which place and cost have no fault: it is task number n
abbrev pub limits_of : Accesses → ℕ → Result (Unit {0}) Refusal
limits_of a n =
    cond a.out (Err OutOfRange) (cond (leb 128 n || ltb 4 a.count) (Err TooMany) (cond a.again (Err AddressTwice) (Ok tt)))
