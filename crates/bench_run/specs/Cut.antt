-- The program reads one byte more than a plan may have, and no more: what it prints is what it would print for the whole text.
use Rattle.std.specs.Prelude.{ℕ, ◌≤◌, ◌<◌, ◌≡◌, List, length, take}
use Rattle.std.proofs.Common.{arith, sym, ap, ◌∙◌, ⊎_elim, length-take, take_all}
use Rattle.runs.specs.Update.{order}
use Rattle.plan.specs.Reading.{reading}
use Rattle.plan.specs.Lengths.{reading_long}
use Rattle.tools.specs.Cut.{read_size}
use Rattle.bench.specs.Answer.{printed_for, printed}

pub cut_alike : (text : List ℕ) → printed (take read_size text) ≡ printed text
cut_alike text =
    ap printed_for
    (⊎_elim
    (λ (l : read_size < length text).
    reading_long (take read_size text) (omega (arith, length-take read_size text)) ∙ sym (reading_long text (omega arith)))
    (λ (l : length text ≤ read_size). ap reading (take_all read_size text l))
    (order read_size (length text)))
