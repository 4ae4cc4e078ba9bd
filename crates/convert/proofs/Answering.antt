-- The answers of both converters, by what is read of the text. Assumes nothing.
use Rattle.std.specs.Prelude.{Ok, Err}
use Prim.Native.Nat.{ℕ, ◌≤◌}
use mathlib.Core.Path.{◌≡◌, refl, sym, ap, ◌∙◌}
use mathlib.Core.Bool.{true, false}
use mathlib.Core.List.{List, ◌++◌}
use lib.ListN.{length}
use Rattle.runs.specs.Update.{clash}
use Rattle.refusals.specs.declared.Refused.{Refused}
use Rattle.refusals.specs.declared.Refusal.TheVariants.{OtherSizes}
use Rattle.text.specs.Text.{line}
use Rattle.plan.specs.declared.form.Form.{Form}
use Rattle.plan.specs.declared.form.Form.TheVariants.{First}
use Rattle.plan.specs.Plan.{Plan}
use Rattle.plan.specs.Reading.{Reading, accepted, refused, reading}
use Rattle.plan.proofs.Accepted.{accepted_length}
use Rattle.reader.specs.declared.ReadPlan.{ReadPlan}
use Rattle.reader.specs.declared.ReadText.{ReadText}
use Rattle.reader.specs.Verdict.{refused_at, plan_of, outlined}
use Rattle.tools.specs.Result.{plan_text, Outcome, outcome, written}
use Rattle.tools.specs.Written.{written_refused}
use Rattle.convert.specs.Convert.{after_line, workers_fields, spelled_out, has_first_sizes, in_second, in_first, to_second, to_first}
use Rattle.convert.proofs.Reread.{own_line}

module _ (text : List ℕ) (r : ReadText) (is : r ≡ outlined text (reading text)) where
  -- a plan that is refused
  outlined_refused : (f : Refused) → r.plan ≡ Err f → reading text ≡ refused f.refusal f.line
  outlined_refused f e = go (reading text) is
    where
      go : (y : Reading) → r ≡ outlined text y → y ≡ refused f.refusal f.line
      go (accepted p) q = let w : Ok (plan_of p) ≡ Err f = sym (ap (λ (z : ReadText). z.plan) q) ∙ e in clash (cc)
      go (refused y k) q = let w : refused_at y k ≡ Err f = sym (ap (λ (z : ReadText). z.plan) q) ∙ e in cc

  pub second_refuses : (output : List ℕ) (f : Refused) → r.plan ≡ Err f → outcome (Err f) output ≡ written output (to_second text)
  unfolding to_second
  second_refuses output f e = written_refused output (in_second text) f.refusal f.line (reading text) (outlined_refused f e)

  pub first_refuses : (output : List ℕ) (f : Refused) → r.plan ≡ Err f → outcome (Err f) output ≡ written output (to_first text)
  unfolding to_first
  first_refuses output f e = written_refused output (in_first text) f.refusal f.line (reading text) (outlined_refused f e)

  -- one that is accepted
  module _ (plan : ReadPlan) (accepts : r.plan ≡ Ok plan) where
    outlined_accepted : (p : Plan) × (reading text ≡ accepted p) × (plan.workers ≡ p.workers) × (plan.form ≡ p.form)
    outlined_accepted = go (reading text) refl is
      where
        go : (y : Reading) → reading text ≡ y → r ≡ outlined text y
            → (p : Plan) × (reading text ≡ accepted p) × (plan.workers ≡ p.workers) × (plan.form ≡ p.form)
        go (accepted p) e q =
            let w : Ok plan ≡ Ok (plan_of p) = sym accepts ∙ ap (λ (z : ReadText). z.plan) q in
            let same : plan ≡ plan_of p = cc in
            (p, e, ap (λ (z : ReadPlan). z.workers) same, ap (λ (z : ReadPlan). z.form) same)
        go (refused y k) e q =
            let w : refused_at y k ≡ Ok plan = sym (ap (λ (z : ReadText). z.plan) q) ∙ accepts in clash (cc)

    -- what is asked of its text
    pub has_own_line : (length text ≤ 65536) × (line (workers_fields plan.workers plan.form) ++ after_line text ≡ text)
    has_own_line =
        let (p, e, workers, form) = outlined_accepted in
        (accepted_length text p e, (λ i. line (workers_fields (workers i) (form i)) ++ after_line text) ∙ own_line text p e)

    module _ (output : List ℕ) (o : Outcome) where
      abbrev WritesIn : Form → Type 0
      WritesIn form = o ≡ written output (plan_text (line (workers_fields plan.workers form) ++ after_line text))

      pub second_writes : (form : Form) → form ≡ spelled_out plan.form → WritesIn form → o ≡ written output (to_second text)
      unfolding to_second
      second_writes form spelled w =
          let (p, e, workers, own) = outlined_accepted in
          rw (e, ← workers, ← own, ← spelled) w

      pub first_writes : has_first_sizes plan.form ≡ true → WritesIn First → o ≡ written output (to_first text)
      unfolding to_first
      first_writes sizes w =
          let (p, e, workers, own) = outlined_accepted in
          rw (e, ← own, sizes, ← workers) w

    pub other_sizes : (output : List ℕ) → has_first_sizes plan.form ≡ false
        → outcome (refused_at OtherSizes 1) output ≡ written output (to_first text)
    unfolding to_first written
    other_sizes output sizes =
        let (p, e, workers, own) = outlined_accepted in
        sym (rw (e, ← own, sizes) refl)
