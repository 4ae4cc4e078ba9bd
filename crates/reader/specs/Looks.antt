-- How many bytes of a text are looked at, in the words in which it was asked for.
use Rattle.std.specs.Prelude.{ℕ, zero, suc, ◌≤◌, ◌≡◌, refl, List, length}
use Rattle.std.proofs.Common.{ap, ⊎_elim, arith, add-one}
use Rattle.refusals.specs.declared.Refusal.TheVariants.{TextTooLong}
use Rattle.text.specs.LineEnds.{lines_size}
use Rattle.text.proofs.LineEnds.{lines_more, lines_within}
use Rattle.plan.specs.Reading.{Reading, accepted, refused, reading}
use Rattle.plan.specs.Refused.{ByAuthor}
use Rattle.plan.proofs.Refused.{refused_by}
use Rattle.reader.specs.Verdict.{looked, verdict}

-- the text's length if accepted, 0 with 6, else (with a refusal that the plan's author causes) at least the bytes before the refused line and
-- at most those up to its end
abbrev pub AsAsked : List ℕ → Reading → ℕ → Type 0
AsAsked text (accepted p) n = n ≡ length text
AsAsked text (refused r zero) n = (r ≡ TextTooLong) × (n ≡ 0)
AsAsked text (refused r (suc before)) n = ByAuthor r × (lines_size before text ≤ n) × (n ≤ lines_size (suc before) text)

more_lines : (n : ℕ) (text : List ℕ) → lines_size n text ≤ lines_size (suc n) text
more_lines n text = omega (arith, ap (λ (k : ℕ). lines_size k text) (add-one n), lines_more n 1 text)

-- never more than the text has
pub looks_within : (text : List ℕ) → (verdict text).looks ≤ length text
looks_within text = by (reading text)
  where
    by : (x : Reading) → looked text x ≤ length text
    by (accepted p) = omega arith
    by (refused r n) = lines_within n text

pub looks_asked : (text : List ℕ) → AsAsked text (reading text) (verdict text).looks
unfolding lines_size
looks_asked text = by (reading text) refl
  where
    by : (x : Reading) → reading text ≡ x → AsAsked text x (looked text x)
    by (accepted p) e = refl
    by (refused r zero) e = (⊎_elim (λ w. w.0) (λ w. absurd (omega (arith, w.1))) (refused_by text r 0 e), refl)
    by (refused r (suc n)) e =
        (⊎_elim (λ w. absurd (omega (arith, w.1))) (λ w. w.0) (refused_by text r (suc n) e), more_lines n text, omega arith)
