-- What a run of an accepted plan writes: its report, or the refusal of an output that is too short for it.
use Rattle.std.specs.Prelude.{Result, Ok, Err, ℕ, true, false, List, ◌++◌, length, drop, ltb}
use Rattle.refusals.specs.declared.Refusal.{Refusal}
use Rattle.refusals.specs.declared.Refusal.TheVariants.{OutputTooShort}
use Rattle.refusals.specs.declared.Refused.{Refused}
use Rattle.plan.specs.Plan.{Plan}
use Rattle.report.specs.Report.{report}
use Rattle.orders.specs.Reached.{setup_of, reached}
use Rattle.play.specs.declared.Ran.{Ran}

abbrev pub report_of : Plan → ℕ → List ℕ
report_of p limit = report (setup_of p) (reached p limit)

-- the picks taken and the report's length, or a refusal and its line
abbrev pub reports : ℕ → ℕ → Result Ran Refused
reports picks length = Ok (record { picks = picks; length = length })

abbrev pub refuses : Refusal → ℕ → Result Ran Refused
refuses r line = Err (record { refusal = r; line = line })

-- the answer of a run, and what it leaves
pub record Outcome : Type 0 where
  pub answer : Result Ran Refused
  pub store : List ℕ
  pub output : List ℕ

-- by the store as it is left, and the output as it was
module _ (left output : List ℕ) where
  abbrev pub refusal : Refusal → ℕ → Outcome
  refusal r n = record { answer = refuses r n; store = left; output = output }

  -- the report is written where the output is long enough
  unfoldable pub written : ℕ → List ℕ → Outcome
  written picks bs =
      elim (ltb (length output) (length bs)) [
        | true ↦ refusal OutputTooShort 0
        | false ↦ record { answer = reports picks (length bs); store = left; output = bs ++ drop (length bs) output }
      ]
