-- A text with another W line, written into an output: by its length, and by that of the output. Assumes nothing.
use Rattle.std.specs.Prelude.{Ok}
use Prim.Native.Nat.{ℕ, ◌+◌, ◌-◌, ◌≤◌, ◌<◌}
use mathlib.Core.Path.{◌≡◌, sym, ap, ◌∙◌}
use mathlib.Core.List.{List, ◌++◌}
use native.Mathlib.Omega.{arith}
use lib.ListN.{length, take, drop, length-append}
use lib.Seq.{take_all, drop_at}
use Rattle.refusals.specs.declared.Refusal.TheVariants.{TextTooLong, OutputTooShort}
use Rattle.text.specs.Text.{line}
use Rattle.text.specs.Writing.{plain, fields, Wrote}
use Rattle.text.specs.WritingLaws.{wrote_then, wrote_whole}
use Rattle.plan.specs.declared.form.Form.{Form}
use Rattle.reader.specs.Verdict.{refused_at}
use Rattle.tools.specs.Result.{result, plan_text, outcome, written}
use Rattle.tools.specs.Written.{text_long, text_whole, written_short, written_whole}
use Rattle.convert.specs.Convert.{after_line, workers_fields}

-- the text has its own W line and the rest, which is the part from there on
module _ (text : List ℕ) (workers : ℕ) (own : Form) (e : line (workers_fields workers own) ++ after_line text ≡ text)
    (k : ℕ) (is : k ≡ length (line (workers_fields workers own))) where
  abbrev before : List ℕ
  before = line (workers_fields workers own)

  abbrev rest : List ℕ
  rest = after_line text

  pub own_within : k ≤ length text
  own_within = omega (arith, ap length e, length-append before rest)

  abbrev part : List ℕ
  part = take (length text - k) (drop k text)

  part_is : part ≡ rest
  part_is =
      ap (λ (l : List ℕ). take (length text - k) (drop k l)) (sym e)
      ∙ ap (take (length text - k)) (drop_at before rest k (sym is))
      ∙ take_all (length text - k) rest (omega (arith, ap length e, length-append before rest))

  -- before it comes the W line of the wanted form, of n bytes
  module _ (output : List ℕ) (wanted : Form) (n : ℕ) (size : n ≡ length (line (workers_fields workers wanted))) where
    abbrev fs : List (List ℕ)
    fs = workers_fields workers wanted

    length_is : n + length part ≡ length (line fs ++ rest)
    length_is = omega (arith, ap length part_is, length-append (line fs) rest)

    pub too_long : 65536 < n + length part → outcome (refused_at TextTooLong 0) output ≡ written output (plan_text (line fs ++ rest))
    unfolding written
    too_long l = sym (ap (written output) (text_long (line fs ++ rest) (omega (arith, length_is))))

    module _ (short : n + length part ≤ 65536) where
      is_text : written output (plan_text (line fs ++ rest)) ≡ written output (result (line fs ++ rest))
      is_text = ap (written output) (text_whole (line fs ++ rest) (omega (arith, length_is)))

      pub too_short : length output < n + length part
          → outcome (refused_at OutputTooShort 0) output ≡ written output (plan_text (line fs ++ rest))
      too_short l = sym (is_text ∙ written_short output (line fs ++ rest) (omega (arith, length_is)))

      pub whole : n + length part ≤ length output → {next end : ℕ} {mid after : List ℕ} → Wrote output 0 (fields fs) next mid
          → Wrote mid next (plain part) end after
          → outcome (Ok (n + length part)) after ≡ written output (plan_text (line fs ++ rest))
      whole room {after = after} first later =
          let enough : length (line fs ++ rest) ≤ length output = omega (arith, length_is) in
          let wrote : Wrote output 0 (plain (line fs ++ rest)) _ after =
          wrote_then first (ap (λ (l : List ℕ). line fs ++ l) (sym part_is)) later in
          (λ i. outcome (Ok (length_is i)) (wrote_whole wrote enough i))
          ∙ sym (is_text ∙ written_whole output (line fs ++ rest) enough)
