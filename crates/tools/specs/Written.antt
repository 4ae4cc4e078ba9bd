-- By the lengths: whether a plan's text is a result, and what is answered and left in an output.
use Rattle.std.specs.Prelude.{ℕ, Ok, ◌≤◌, ◌<◌, ◌≡◌, refl, List, [], ◌∷◌, ◌++◌, length, drop}
use Rattle.std.proofs.Common.{sym, ap, lt-ltb, le-ltb}
use Rattle.refusals.specs.declared.Refusal.{Refusal}
use Rattle.refusals.specs.declared.Refusal.TheVariants.{TextTooLong, OutputTooShort}
use Rattle.plan.specs.Plan.{Plan}
use Rattle.plan.specs.Reading.{Reading, refused}
use Rattle.reader.specs.Verdict.{refused_at}
use Rattle.tools.specs.Result.{Result, result, refusal, of_plan, plan_text, outcome, written}

module _ (bs : List ℕ) where
  pub text_long : 65536 < length bs → plan_text bs ≡ refusal TextTooLong 0
  text_long l = simp (lt-ltb 65536 (length bs) l)

  pub text_whole : length bs ≤ 65536 → plan_text bs ≡ result bs
  text_whole l = simp (le-ltb 65536 (length bs) l)

module _ (output bs : List ℕ) where
  pub written_short : length output < length bs → written output (result bs) ≡ outcome (refused_at OutputTooShort 0) output
  unfolding written
  written_short l = rw (lt-ltb (length output) (length bs) l, written)

  pub written_whole : length bs ≤ length output
      → written output (result bs) ≡ outcome (Ok (length bs)) (bs ++ drop (length bs) output)
  unfolding written
  written_whole l = rw (le-ltb (length output) (length bs) l, written)

-- a plan that the reader refuses
pub written_refused : (output : List ℕ) (make : Plan → Result) (x : Refusal) (n : ℕ) (read : Reading) → read ≡ refused x n
    → outcome (refused_at x n) output ≡ written output (of_plan make read)
unfolding written
written_refused output make x n read e = sym (ap (λ (y : Reading). written output (of_plan make y)) e)

-- computed: a result of one byte, in an output of three bytes and in none
pub one_byte : (written (1 ∷ 2 ∷ 3 ∷ []) (result (7 ∷ [])) ≡ outcome (Ok 1) (7 ∷ 2 ∷ 3 ∷ []))
    × (written [] (result (7 ∷ [])) ≡ outcome (refused_at OutputTooShort 0) [])
unfolding written
one_byte = (refl, refl)
