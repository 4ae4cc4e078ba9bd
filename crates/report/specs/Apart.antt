-- The last field of the L line tells who leads the lock: no two leaders have the same field.
use Rattle.std.specs.Prelude.{ℕ, ◌≡◌, refl, List, [], ◌∷◌, ◌++◌, get_or}
use Rattle.std.proofs.Common.{sym, ap, ◌∙◌, arith}
use Rattle.std.proofs.Math.Option.{none, some}
use Rattle.runs.specs.Update.{clash}
use Rattle.runs.specs.Every.{every}
use Rattle.text.specs.Text.{bytes, number_of, decimal, unknown}
use Rattle.text.specs.Numerals.{number_decimal}
use Rattle.machine.specs.declared.Leader.{Leader}
use Rattle.machine.specs.declared.Leader.TheVariants.{Nobody, Owner, Due}
use Rattle.report.specs.Report.{leader_field}

decimals_apart : (v w : ℕ) → decimal v ≡ decimal w → v ≡ w
decimals_apart v w e = let same : some v ≡ some w = sym (number_decimal v) ∙ ap number_of e ∙ number_decimal w in cc

-- neither a hyphen nor what begins with `>` is a number
dash_no_number : (w : ℕ) → unknown ≡ decimal w → ⊥
unfolding bytes number_of
dash_no_number w e = let read : number_of unknown ≡ some w = ap number_of e ∙ number_decimal w in clash (cc)

marked_none : (ds : List ℕ) → number_of (bytes ">" ++ ds) ≡ none
unfolding bytes number_of every
marked_none [] = refl
marked_none (d ∷ ds) = refl

marked_no_number : (ds : List ℕ) (w : ℕ) → bytes ">" ++ ds ≡ decimal w → ⊥
marked_no_number ds w e =
    let read : number_of (bytes ">" ++ ds) ≡ some w = ap number_of e ∙ number_decimal w in
    let no = marked_none ds in
    clash (cc)

dash_unmarked : (ds : List ℕ) → unknown ≡ bytes ">" ++ ds → ⊥
unfolding bytes
dash_unmarked ds e = let first : ◌≡◌ {A = ℕ} 45 62 = ap (λ (bs : List ℕ). get_or bs 0 0) e in absurd (omega arith)

unmarked : (ds es : List ℕ) → bytes ">" ++ ds ≡ bytes ">" ++ es → ds ≡ es
unfolding bytes
unmarked ds es e = cc

pub leaders_apart : (x y : Leader) → leader_field x ≡ leader_field y → x ≡ y
leaders_apart Nobody Nobody e = refl
leaders_apart Nobody (Owner w) e = absurd (dash_no_number w e)
leaders_apart Nobody (Due w) e = absurd (dash_unmarked (decimal w) e)
leaders_apart (Owner v) Nobody e = absurd (dash_no_number v (sym e))
leaders_apart (Owner v) (Owner w) e = ap Owner (decimals_apart v w e)
leaders_apart (Owner v) (Due w) e = absurd (marked_no_number (decimal w) v (sym e))
leaders_apart (Due v) Nobody e = absurd (dash_unmarked (decimal v) (sym e))
leaders_apart (Due v) (Owner w) e = absurd (marked_no_number (decimal v) w e)
leaders_apart (Due v) (Due w) e = ap Due (decimals_apart v w (unmarked (decimal v) (decimal w) e))
