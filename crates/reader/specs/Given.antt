-- What the answer of the reading function says of a text.
use Rattle.std.specs.Prelude.{Result, Ok, ℕ, ◌≡◌, refl, List}
use Rattle.std.proofs.Common.{sym, ap, ◌∙◌}
use Rattle.runs.specs.Update.{clash}
use Rattle.refusals.specs.declared.Refusal.{Refusal}
use Rattle.refusals.specs.declared.Refused.{Refused}
use Rattle.plan.specs.Plan.{Plan}
use Rattle.plan.specs.Reading.{Reading, accepted, refused, reading}
use Rattle.reader.specs.declared.ReadPlan.{ReadPlan}
use Rattle.reader.specs.declared.ReadText.{ReadText}
use Rattle.reader.specs.Verdict.{refused_at, plan_of, Lent, Says, Gives}

abbrev Answer : Type 0
Answer = Result ReadPlan Refused

module _ (text : List ℕ) (before after : Lent) (r : ReadText) (g : Gives text before after r (reading text)) where
  -- it is refused
  pub read_refused : (x : Refusal) (n : ℕ) → r.plan ≡ refused_at x n → reading text ≡ refused x n
  read_refused x n e = go (reading text) g
    where
      go : (y : Reading) → Gives text before after r y → y ≡ refused x n
      go (accepted p) h = let q : ◌≡◌ {A = Answer} (Ok (plan_of p)) (refused_at x n) = sym h.accepts ∙ e in clash (cc)
      go (refused y k) h =
          let q : ◌≡◌ {A = Answer} (refused_at y k) (refused_at x n) = sym (ap (λ (z : ReadText). z.plan) h.0) ∙ e in
          let f : ◌≡◌ {A = Refused} (record { refusal = y; line = k }) (record { refusal = x; line = n }) = cc in
          let r : y ≡ x = ap (λ (z : Refused). z.refusal) f in
          let line : k ≡ n = ap (λ (z : Refused). z.line) f in
          cc

  -- or accepted, and its plan is kept
  pub read_accepted : (plan : ReadPlan) → r.plan ≡ Ok plan
      → (p : Plan) × (reading text ≡ accepted p) × (plan ≡ plan_of p) × Says text before after r p
  read_accepted plan e = go (reading text) refl g
    where
      go : (y : Reading) → reading text ≡ y → Gives text before after r y
          → (p : Plan) × (reading text ≡ accepted p) × (plan ≡ plan_of p) × Says text before after r p
      go (accepted p) q h =
          let w : ◌≡◌ {A = Answer} (Ok plan) (Ok (plan_of p)) = sym e ∙ h.accepts in
          let is : plan ≡ plan_of p = cc in
          (p, q, is, h)
      go (refused y k) q h =
          let w : ◌≡◌ {A = Answer} (refused_at y k) (Ok plan) = sym (ap (λ (z : ReadText). z.plan) h.0) ∙ e in clash (cc)
