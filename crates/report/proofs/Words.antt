-- Words by the numbers that stand for them. Assumes nothing.
use Prim.Native.Nat.{ℕ}
use mathlib.Core.Path.{◌≡◌, refl, sym, ap, ◌∙◌}
use mathlib.Core.Bool.{Bool, true, false}
use Rattle.std.specs.Ordering.{partial_le}
use Rattle.memory.specs.contracts.rows.StatusPartialOrd.TheImpl.{partial_cmp-value}
use mathlib.Core.Option.{Option, none, some}
use lib.Dec.{leb}
use native.Mathlib.Omega.{arith}
use Rattle.text.specs.Text.{number_if, number_or_none}
use Rattle.text.specs.Writers.{option_field}
use Rattle.tasks.specs.Tasks.{Status, new, waiting, ready, held, running, over, stage}
use Rattle.std.specs.Prelude.{Option as RustOption}
use Rattle.std.specs.Bool.{then_some}
use Rattle.memory.specs.Codes.{status_of, option_of}
use Rattle.memory.specs.declared.rows.Status.{Status as RustStatus}
use Rattle.memory.specs.declared.rows.Status.TheVariants.{New, Waiting, Ready, Held, Running, Over}
use Rattle.report.specs.Report.{status_name, known_from}

-- ---- statuses

read : RustStatus → Status
read New = new
read Waiting = waiting
read Ready = ready
read Held = held
read Running = running
read Over = over

told : (x : Status) → read (status_of x) ≡ x
unfolding read
told new = refl
told waiting = refl
told ready = refl
told held = refl
told running = refl
told over = refl

pub name_is : (x y : Status) (s : RustStatus) → status_of x ≡ s → s ≡ status_of y → status_name x ≡ status_name y
name_is x y s e q = ap status_name (sym (told x) ∙ ap read (e ∙ q) ∙ told y)

-- ---- numbers that may not be known

-- statuses in their order, as the code compares them
abbrev pub from : RustStatus → RustStatus → Bool
from = partial_le (partial_cmp-value).it

from_stage : (first x : Status) → from (status_of first) (status_of x) ≡ leb (stage first) (stage x)
from_stage first x = grind arith

pub known_from_lem : (first x : Status) (s : RustStatus) → status_of x ≡ s → (k : ℕ)
    → known_from first x k ≡ number_if (from (status_of first) s) k
known_from_lem first x s e k = rw (← e, from_stage first x) refl

shown_if : (b : Bool) (k : ℕ) → number_if b k ≡ option_field (then_some b k)
shown_if true k = refl
shown_if false k = refl

module _ (x : Status) (k : ℕ) {s : RustStatus} (e : status_of x ≡ s) {b : Bool} {n : RustOption ℕ} where
  pub known_running : b ≡ from Running s → n ≡ then_some b k → known_from running x k ≡ option_field n
  known_running h g = rw (g, ← shown_if b k, h) (known_from_lem running x s e k)

  pub known_over : b ≡ from Over s → n ≡ then_some b k → known_from over x k ≡ option_field n
  known_over h g = rw (g, ← shown_if b k, h) (known_from_lem over x s e k)

pub giver_shown : (o : Option ℕ) → number_or_none o ≡ option_field (option_of o)
giver_shown none = refl
giver_shown (some w) = refl
