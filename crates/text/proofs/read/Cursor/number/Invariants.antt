-- `text::read::Cursor::number` meets its contract: the digits so far say a number, and what is answered for the field after them is the
-- answer for the whole field. The measure is what is left of the text.
use Rattle.std.proofs.Common.{◌≡◌, ℕ, ◌-◌, ◌≤◌, length}
use Rattle.std.specs.Prelude.{Result}
use Rattle.text.specs.declared.read.Field.{Field}
use Rattle.text.specs.declared.read.Malformed.{Malformed}
use Rattle.text.specs.declared.read.Number.{Number}
use Rattle.text.specs.Fields.{held, ReadNumber, MoreDigits}
use Rattle.text.proofs.read.Cursor.number.Given as goal

abbrev pub invariant-loop-digit : goal.invariant-loop-digit
invariant-loop-digit l =
    (v : ℕ) × (l.number ≡ held v) × (l.leading ≤ v) × (l.leading ≡ 0 → v ≡ 0) × (l.self.text.now ≡ l.fn.self.text.now)
    × ((r : Result (Field Number) Malformed) (n : ℕ) → MoreDigits v l.self.text.now l.self.at r n
    → ReadNumber l.fn.self.text.now l.fn.self.at r n)

abbrev pub decreases-loop-digit : goal.decreases-loop-digit
decreases-loop-digit l = length l.self.text.now - l.self.at
