-- What is printed for a text, by the verdict. Assumes nothing.
use Rattle.std.specs.Prelude.{Ok, Err}
use Prim.Native.Nat.{ℕ}
use mathlib.Core.Path.{◌≡◌, refl}
use mathlib.Core.List.{List}
use Rattle.runs.specs.Update.{clash}
use Rattle.refusals.specs.declared.Refused.{Refused}
use Rattle.refusals.specs.Number.{number}
use Rattle.refusals.specs.Line.{refusal_fields}
use Rattle.text.specs.Text.{line}
use Rattle.plan.specs.Reading.{Reading, accepted, refused, reading}
use Rattle.reader.specs.Verdict.{checked_as, verdict}
use Rattle.tools.specs.Result.{result, of_plan, printed}
use Rattle.bench_check.specs.Checking.{accepted_fields, checking}

module _ (text : List ℕ) where
  abbrev looks : ℕ
  looks = (verdict text).looks

  pub accepted_prints : checked_as (reading text) ≡ Ok tt → line (accepted_fields looks) ≡ printed (checking text)
  accepted_prints = by (reading text)
    where
      by : (x : Reading) → checked_as x ≡ Ok tt
          → line (accepted_fields looks) ≡ printed (of_plan (λ p. result (line (accepted_fields looks))) x)
      by (accepted p) e = refl
      by (refused r n) e = clash (cc)

  pub refused_prints : (f : Refused) → checked_as (reading text) ≡ Err f
      → line (refusal_fields (number f.refusal) f.line) ≡ printed (checking text)
  refused_prints f = by (reading text)
    where
      by : (x : Reading) → checked_as x ≡ Err f
          → line (refusal_fields (number f.refusal) f.line) ≡ printed (of_plan (λ p. result (line (accepted_fields looks))) x)
      by (accepted p) e = clash (cc)
      by (refused q k) e =
          let same : q ≡ f.refusal = cc in
          let here : k ≡ f.line = cc in
          rw (same, here) refl
