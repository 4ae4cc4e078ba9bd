-- What a tool tells, by the paper's number and the values that go with it: `told` of each answer, `told_of` of a result.
use Rattle.std.specs.Prelude as rust
use Rattle.std.specs.Prelude.{ℕ, Ok, Err, ◌≡◌, Bool, cond, List, [], ◌∷◌, length}
use Rattle.std.proofs.Math.Path.{refl}
use Rattle.std.proofs.Common.{ap, ◌∙◌}
use Rattle.std.proofs.Math.Bool.{true, false}
use Rattle.std.proofs.Math.Dec.{ltb}
use Rattle.refusals.specs.declared.Refused.{Refused}
use Rattle.reader.specs.Verdict.{Told, told_refusal}
use Rattle.tools.specs.Result.{Result, result, refusal, Outcome, written}

-- 0 and the result's length; or a refusal
abbrev pub told : rust.Result ℕ Refused → Told
told (Ok length) = record { number = 0; values = length ∷ [] }
told (Err f) = told_refusal f.refusal f.line

-- what is to be told, with this output
module _ (output : List ℕ) where
  abbrev pub told_of : Result → Told
  told_of (refusal r n) = told_refusal r n
  told_of (result bs) =
      cond (ltb (length output) (length bs)) (record { number = 8; values = 0 ∷ [] }) (record { number = 0; values = length bs ∷ [] })

  told_written : (x : Result) → told (written output x).answer ≡ told_of x
  unfolding written
  told_written (refusal r n) = refl
  told_written (result bs) = go (ltb (length output) (length bs)) refl
    where
      go : (b : Bool) → ltb (length output) (length bs) ≡ b → told (written output (result bs)).answer ≡ told_of (result bs)
      go true e = rw (written, e) refl
      go false e = rw (written, e) refl

  pub and_told : (x : Result) (o : Outcome) → o ≡ written output x → (o ≡ written output x) × (told o.answer ≡ told_of x)
  and_told x o e = (e, ap (λ (y : Outcome). told y.answer) e ∙ told_written x)
