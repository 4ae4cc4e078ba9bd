-- `text::write::Writer::put_bytes` meets its contract: the bytes passed are copied. Assumes nothing.
use Rattle.std.specs.Prelude.{◌≡◌}
use Rattle.text.specs.WritingLaws.{Copied}
use Rattle.text.proofs.write.Writer.put_bytes.Given as goal

abbrev pub invariant-loop-byte : goal.invariant-loop-byte
invariant-loop-byte l =
    Copied l.bytes l.initial.self.out.now l.initial.self.at l.self.out.now l.self.at l.byte-index
    × (l.self.out.ghost_name ≡ l.initial.self.out.ghost_name)
