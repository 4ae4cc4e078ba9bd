-- What a run tells, by the paper's number and the values that go with it: `told` of each answer, `told_of` of a text.
use Rattle.std.specs.Prelude.{Result, Ok, Err, ℕ, cond, List, [], ◌∷◌, length}
use Rattle.std.proofs.Math.Dec.{ltb}
use Rattle.refusals.specs.declared.Refused.{Refused}
use Rattle.plan.specs.Reading.{Reading, accepted, refused, reading, is_too_long}
use Rattle.reader.specs.Verdict.{Told, told_refusal}
use Rattle.orders.specs.Reached.{reached}
use Rattle.play.specs.declared.Ran.{Ran}
use Rattle.play.specs.Outcome.{report_of}
use Rattle.bench.specs.Answer.{store_size}

-- 0, the picks taken and the report's length; or a refusal
abbrev pub told : Result Ran Refused → Told
told (Ok ran) = record { number = 0; values = ran.picks ∷ ran.length ∷ [] }
told (Err x) = told_refusal x.refusal x.line

-- a refusal that the caller causes has line 0
abbrev callers : ℕ → Told
callers n = record { number = n; values = 0 ∷ [] }

-- what a run is to tell of a text
module _ (limit : ℕ) (store output : List ℕ) where
  abbrev pub told_report : ℕ → ℕ → Told
  told_report picks size = cond (ltb (length output) size) (callers 8) (record { number = 0; values = picks ∷ size ∷ [] })

  abbrev pub told_played : Reading → Told
  told_played (accepted p) = told_report (reached p limit).picks (length (report_of p limit))
  told_played (refused r n) = told_refusal r n

  unfoldable pub told_of : List ℕ → Told
  told_of text = cond (is_too_long text) (callers 6) (cond (ltb (length store) store_size) (callers 7) (told_played (reading text)))
