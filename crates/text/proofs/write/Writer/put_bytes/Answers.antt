-- `text::write::Writer::put_bytes` meets its contract: a byte a turn. Assumes nothing.
use mathlib.Core.Path.{◌≡◌, ◌∙◌}
use native.Mathlib.Omega.{arith}
use lib.ListN.{length}
use lib.Seq.{take-length}
use Rattle.text.specs.WritingLaws.{copied_more}
use Rattle.text.proofs.write.Writer.put_bytes.Goals as goal

pub loop-byte-preserved : goal.loop-byte-preserved
loop-byte-preserved c =
    (copied_more c.loop-byte.invariant.0 c.loop-byte-test.true c.put_byte.ensures.wrote, c.put_byte.ensures.same ∙ c.loop-byte.invariant.1)

pub returns : goal.returns
returns c =
    let all : c.loop-byte.byte-index ≡ length c.args.bytes.now = omega arith in
    record {
      wrote = rw (all, take-length) at c.loop-byte.invariant.0.wrote;
      same = c.loop-byte.invariant.1;
    }
