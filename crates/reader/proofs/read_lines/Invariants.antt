-- `reader::read_lines` meets its contract. Outer loop: the text from a line on comes to what the whole text does, the lines before are
-- kept, and each byte of them was looked at once; inner loop: what is read of the line is in hand. Assumes nothing.
use Rattle.std.proofs.Common.{◌≡◌, ℕ, ◌-◌, length}
use Rattle.plan.specs.Plan.{Plan}
use Rattle.reader.specs.Verdict.{lent}
use Rattle.reader.proofs.Turns.{InLine, AtLine}
use Rattle.reader.proofs.read_lines.Given as goal

abbrev pub invariant-loop-more : goal.invariant-loop-more
invariant-loop-more l =
    (l.cursor.text.now ≡ l.text)
    × ((begin : ℕ) (p : Plan) → InLine l.text begin p l.line l.initial.cursor.at l.initial.more l.initial.accesses l.initial.row
    → InLine l.text begin p l.line l.cursor.at l.more l.accesses l.row)

abbrev pub decreases-loop-more : goal.decreases-loop-more
decreases-loop-more l = length l.text - l.cursor.at

abbrev pub invariant-lines : goal.invariant-lines
invariant-lines l =
    (l.cursor.text.now ≡ l.text)
    × AtLine l.text (lent l.initial.rows l.initial.orders) l.sofar l.number l.cursor.at (lent l.rows l.orders)

abbrev pub decreases-lines : goal.decreases-lines
decreases-lines l = length l.text - l.cursor.at
