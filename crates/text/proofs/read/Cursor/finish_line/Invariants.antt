-- `text::read::Cursor::finish_line` meets its contract: so far no line feed was seen. The measure is what is left of the text.
use Rattle.std.proofs.Common.{◌≡◌, ◌-◌, true, length}
use Rattle.text.specs.LineEnds.{Reaches}
use Rattle.text.proofs.read.Cursor.finish_line.Given as goal

abbrev pub invariant-loop-byte : goal.invariant-loop-byte
invariant-loop-byte l = (l.self.text.now ≡ l.fn.self.text.now) × Reaches l.fn.self.text.now l.fn.self.at true l.self.at

abbrev pub decreases-loop-byte : goal.decreases-loop-byte
decreases-loop-byte l = length l.self.text.now - l.self.at
