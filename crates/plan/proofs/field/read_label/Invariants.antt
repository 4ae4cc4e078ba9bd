-- `plan::field::read_label` meets its contract: what is answered for the field after the bytes so far is the answer for the whole field. The
-- measure is what is left of the text.
use Rattle.std.proofs.Common.{◌≡◌, ℕ, ◌-◌, ◌≤◌, length}
use Rattle.std.specs.Prelude.{Result}
use Rattle.text.specs.declared.read.Field.{Field}
use Rattle.text.specs.declared.read.Malformed.{Malformed}
use Rattle.plan.specs.PassFields.{ReadLabel}
use Rattle.plan.proofs.Fields.{LateLabel}
use Rattle.plan.proofs.field.read_label.Given as goal

abbrev pub invariant-loop-seen : goal.invariant-loop-seen
invariant-loop-seen l =
    (l.len ≤ l.cursor.at) × (l.cursor.text.now ≡ l.fn.cursor.text.now)
    × ((r : Result (Field ℕ) Malformed) (n : ℕ) → LateLabel l.len l.cursor.text.now l.cursor.at r n
    → ReadLabel l.fn.cursor.text.now l.fn.cursor.at r n)

abbrev pub decreases-loop-seen : goal.decreases-loop-seen
decreases-loop-seen l = length l.cursor.text.now - l.cursor.at
