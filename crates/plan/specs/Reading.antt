-- What a text comes to: the plan that it means, or the first faulty line and its refusal.
use Rattle.std.specs.Prelude.{ℕ, suc, Bool, cond, List, [], ◌∷◌, length, nat_lt}
use Rattle.std.proofs.Math.Option.{Option, none, some}
use Rattle.refusals.specs.declared.Refusal.{Refusal}
use Rattle.refusals.specs.declared.Refusal.TheVariants.{Malformed, Misplaced, TextTooLong}
use Rattle.text.specs.Text.{line_feed, split}
use Rattle.plan.specs.Plan.{Plan, empty_plan}
use Rattle.plan.specs.Line.{Ask, Line, at_start, line_of}

pub data Reading : Type 0 where
  accepted : Plan → Reading
  refused : Refusal → ℕ → Reading

-- the refusal of the first that does not hold
unfoldable pub first_refusal : List Ask → Option Refusal
first_refusal [] = none
first_refusal (a ∷ asks) = cond a.holds (first_refusal asks) (some a.otherwise)

-- line n is l or of no form; the text goes on with `next`
abbrev pub read_line : ℕ → Option Line → (Plan → Reading) → Reading
read_line n none next = refused Malformed n
read_line n (some l) next = elim (first_refusal l.asks) [ none ↦ next l.plan | some r ↦ refused r n ]

-- after the last line feed: nothing, or a line without one; a text with no line has no W line
abbrev pub read_end : Plan → ℕ → List ℕ → Reading
read_end p n [] = cond (at_start p) (refused Misplaced n) (accepted p)
read_end p n (b ∷ bs) = refused Malformed n

-- the parts between line feeds, from line n on (there is always a part, so the first clause is never met)
unfoldable pub read_lines : Plan → ℕ → List (List ℕ) → Reading
read_lines p n [] = refused Malformed n
read_lines p n (part ∷ []) = read_end p n part
read_lines p n (part ∷ next ∷ parts) = read_line n (line_of p part) (λ q. read_lines q (suc n) (next ∷ parts))

abbrev pub is_too_long : List ℕ → Bool
is_too_long text = nat_lt 65536 (length text)

-- the plan that a text means, or its refusal with the line
unfoldable pub reading : List ℕ → Reading
reading text = cond (is_too_long text) (refused TextTooLong 0) (read_lines empty_plan 1 (split line_feed text))
