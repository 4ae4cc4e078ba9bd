use Rattle.std.proofs.Common.{sym, ◌∙◌}
use Rattle.text.proofs.LineEnds.{reaches_on, reaches_feed, reaches_other, end_past, look_past, seen_byte, seen_none}
use Rattle.text.proofs.read.Cursor.finish_line.Goals as goal

pub returns-then-byte-eq10-clause-place : goal.returns-then-byte-eq10-clause-place
returns-then-byte-eq10-clause-place c =
    let l = c.loop-byte in
    let so = l.invariant.1 in
    let text = c.args.self.now.text.now in
    let (here, byte) = seen_byte text l.self.at (rw l.invariant.0 at (sym c.in-Some.ensures.byte)) in
    rw l.invariant.0 at c.in-Some.ensures.counted
    ∙ (reaches_on so (reaches_feed text l.self.at so.within (byte ∙ c.if-byte-eq10.true))).line

pub loop-byte-preserved : goal.loop-byte-preserved
loop-byte-preserved c =
    let l = c.loop-byte in
    let so = l.invariant.1 in
    let text = c.args.self.now.text.now in
    let (here, byte) = seen_byte text l.self.at (rw l.invariant.0 at (sym c.in-Some.ensures.byte)) in (
      c.look.ensures.text ∙ l.invariant.0,
      rw (rw l.invariant.0 at c.in-Some.ensures.counted)
          (reaches_on so (reaches_other text l.self.at so.within (rw (sym byte) at c.if-byte-eq10.false))),
    )

pub returns-clause-place : goal.returns-clause-place
returns-clause-place c =
    let l = c.loop-byte in
    let text = c.args.self.now.text.now in
    let past = seen_none text l.self.at (rw l.invariant.0 at (sym c.look.ensures.byte ∙ c.in_default.is)) in
    rw l.invariant.0 at c.look.ensures.counted ∙ look_past text l.self.at past ∙ sym (end_past text l.self.at past) ∙ l.invariant.1.line
