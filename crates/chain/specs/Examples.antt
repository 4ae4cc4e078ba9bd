-- Longest chains, computed: of some tasks, and of a text.
use Rattle.std.specs.Prelude.{ℕ, ◌≡◌, refl, true, false, List, [], ◌∷◌}
use Rattle.std.proofs.Math.Option.{none}
use Rattle.refusals.specs.declared.Refusal.TheVariants.{AddressTwice}
use Rattle.runs.specs.Every.{every}
use Rattle.text.specs.Text.{bytes, all_of, split, value_after, number_of, digits_before, decimal, line}
use Rattle.plan.specs.Plan.{Task, mask_last}
use Rattle.plan.specs.declared.access.Access.{Access}
use Rattle.plan.specs.Chains.{conflict, chain_cost}
use Rattle.plan.specs.Line.{repeats, ends_unmasked, access_of, line_by, line_of_fields}
use Rattle.plan.specs.Reading.{first_refusal, read_lines, reading}
use Rattle.tools.specs.Result.{Result, result, refusal}
use Rattle.chain.specs.Longest.{following, chains_from, dearest, longest, chain_line, chain_of}

-- with every definition in them opened, so that they are computed where these are unfolded
unfoldable pub computed_longest : List Task → List ℕ
unfolding every conflict chain_cost following chains_from dearest longest
computed_longest ts = longest ts

unfoldable pub computed_chain : List ℕ → Result
unfolding every conflict chain_cost following chains_from dearest longest chain_line chain_of bytes all_of split value_after number_of digits_before
    decimal line access_of line_by line_of_fields repeats mask_last ends_unmasked first_refusal read_lines reading
computed_chain text = chain_of text

abbrev r : ℕ → Access
r a = record { writes = false; address = a }

abbrev w : ℕ → Access
w a = record { writes = true; address = a }

abbrev task : ℕ → List Access → Task
task cost accesses = record { label = []; cost = cost; accesses = accesses; mask = none }

-- no tasks
pub of_none : longest [] ≡ []
unfolding computed_longest
of_none = refl

pub of_one : longest (task 7 [] ∷ []) ≡ 0 ∷ []
unfolding computed_longest
of_one = refl

-- 5 and 2 by task 1, or by task 2: the first
pub first_of_equals : longest (task 5 (w 1 ∷ []) ∷ task 2 (r 1 ∷ []) ∷ task 2 (r 1 ∷ []) ∷ []) ≡ 0 ∷ 1 ∷ []
unfolding computed_longest
first_of_equals = refl

-- readers don't conflict
pub readers_apart : longest (task 5 (r 1 ∷ []) ∷ task 2 (r 1 ∷ []) ∷ []) ≡ 0 ∷ []
unfolding computed_longest
readers_apart = refl

-- a chain comes before its own extensions, so a last task of cost 0 is left off
pub last_zero : longest (task 3 (w 1 ∷ []) ∷ task 0 (w 1 ∷ []) ∷ []) ≡ 0 ∷ []
unfolding computed_longest
last_zero = refl

pub all_zero : longest (task 0 (w 1 ∷ []) ∷ task 0 (w 1 ∷ []) ∷ []) ≡ 0 ∷ []
unfolding computed_longest
all_zero = refl

-- a first one comes earlier in the order
pub first_zero : longest (task 0 (w 1 ∷ []) ∷ task 3 (w 1 ∷ []) ∷ []) ≡ 0 ∷ 1 ∷ []
unfolding computed_longest
first_zero = refl

-- and so does one between two: 0 1 2 comes before 0 2
pub middle_zero : longest (task 3 (w 1 ∷ []) ∷ task 0 (w 1 ∷ []) ∷ task 4 (w 1 ∷ []) ∷ []) ≡ 0 ∷ 1 ∷ 2 ∷ []
unfolding computed_longest
middle_zero = refl

-- the costs decide, and not how many tasks there are
pub by_cost : longest (task 1 (w 1 ∷ []) ∷ task 9 (w 2 ∷ []) ∷ task 1 (w 1 ∷ []) ∷ task 1 (r 1 ∷ r 2 ∷ []) ∷ []) ≡ 1 ∷ 3 ∷ []
unfolding computed_longest
by_cost = refl

-- ---- of texts

abbrev text : List ℕ
text = bytes "W\t2\nT\ta\t5\tw1\nT\tb\t2\tr1\nT\tc\t2\tr1\nR\t1\n"

pub line_written : chain_of text ≡ result (bytes "7\t0\t1\n")
unfolding computed_chain
line_written = refl

pub no_tasks : chain_of (bytes "W\t1\n") ≡ result (bytes "0\n")
unfolding computed_chain
no_tasks = refl

-- the reader's refusal comes first
pub refused_first : chain_of (bytes "W\t1\nT\ta\t0\tr5\tr5\n") ≡ refusal AddressTwice 2
unfolding computed_chain
refused_first = refl
