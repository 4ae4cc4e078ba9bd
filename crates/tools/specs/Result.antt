-- What a tool makes of a plan: a result, which it writes, or a refusal with its line.
use Rattle.std.specs.Prelude as rust
use Rattle.std.specs.Prelude.{ℕ, true, false, cond, List, ◌++◌, length, drop, ltb}
use Rattle.refusals.specs.declared.Refusal.{Refusal}
use Rattle.refusals.specs.declared.Refusal.TheVariants.{TextTooLong, OutputTooShort}
use Rattle.refusals.specs.declared.Refused.{Refused}
use Rattle.refusals.specs.Number.{number}
use Rattle.refusals.specs.Line.{refusal_fields}
use Rattle.text.specs.Text.{line}
use Rattle.plan.specs.Plan.{Plan}
use Rattle.plan.specs.Reading.{Reading, accepted, refused, is_too_long}
use Rattle.reader.specs.Verdict.{refused_at}

pub data Result : Type 0 where
  result : List ℕ → Result
  refusal : Refusal → ℕ → Result

-- what is made of the plan that a text means; the reader's refusals come first
abbrev pub of_plan : (Plan → Result) → Reading → Result
of_plan make (accepted p) = make p
of_plan make (refused r n) = refusal r n

-- a result that is a plan's text itself may be no longer than one
abbrev pub plan_text : List ℕ → Result
plan_text bs = cond (is_too_long bs) (refusal TextTooLong 0) (result bs)

-- a tool's answer: how many bytes the result has that it wrote, or the refusal; and the output as it leaves it
pub record Outcome : Type 0 where
  pub answer : rust.Result ℕ Refused
  pub output : List ℕ

abbrev pub outcome : rust.Result ℕ Refused → List ℕ → Outcome
outcome answer output = record { answer = answer; output = output }

-- a refusal writes no byte; the output's length is tested last, and past the result it keeps its content
unfoldable pub written : List ℕ → Result → Outcome
written output (refusal r n) = outcome (refused_at r n) output
written output (result bs) =
    elim (ltb (length output) (length bs)) [
      | true ↦ outcome (refused_at OutputTooShort 0) output
      | false ↦ outcome (rust.Ok (length bs)) (bs ++ drop (length bs) output)
    ]

-- what the tool's program prints
abbrev pub printed : Result → List ℕ
printed (result bs) = bs
printed (refusal r n) = line (refusal_fields (number r) n)
