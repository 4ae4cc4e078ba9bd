-- A program reads one byte more than a plan may have, and no more: a tool makes of it what it makes of the whole text.
use Rattle.std.specs.Prelude.{ℕ, ◌≤◌, ◌<◌, ◌≡◌, List, length, take}
use Rattle.std.proofs.Common.{sym, ap, ◌∙◌, ⊎_elim, arith, length-take, take_all}
use Rattle.runs.specs.Update.{order}
use Rattle.plan.specs.Plan.{Plan}
use Rattle.plan.specs.Reading.{reading}
use Rattle.plan.specs.Lengths.{reading_long}
use Rattle.tools.specs.Result.{Result, of_plan}

-- how many bytes it reads at the most
abbrev pub read_size : ℕ
read_size = 65537

pub cut_alike : (make : List ℕ → Plan → Result) (text : List ℕ)
    → of_plan (make (take read_size text)) (reading (take read_size text)) ≡ of_plan (make text) (reading text)
cut_alike make text =
    ⊎_elim
    (λ (l : read_size < length text).
    ap (of_plan (make (take read_size text))) (reading_long (take read_size text) (omega (arith, length-take read_size text)))
    ∙ sym (ap (of_plan (make text)) (reading_long text (omega arith))))
    (λ (l : length text ≤ read_size). ap (λ (t : List ℕ). of_plan (make t) (reading t)) (take_all read_size text l))
    (order read_size (length text))
