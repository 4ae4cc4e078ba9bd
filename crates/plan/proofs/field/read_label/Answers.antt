use Rattle.std.proofs.Common.{sym, refl, ◌∙◌, arith}
use Rattle.text.proofs.LineEnds.{look_within}
use Rattle.plan.proofs.Fields.{label_whole, label_end, label_bad, label_on, label_here, size_fits, size_unfit}
use Rattle.plan.proofs.field.read_label.Goals as goal

pub loop-seen-init : goal.loop-seen-init
loop-seen-init c =
    let self = c.args.cursor.now in
    (omega arith, refl, λ r n so. label_whole self.text.now self.at so)

pub returns-then-len-lt1-clause-field : goal.returns-then-len-lt1-clause-field
returns-then-len-lt1-clause-field c =
    let l = c.loop-seen in
    let seen = c.look-seen.ensures in
    rw seen.counted
    (l.invariant.2 _ _
    (label_bad l.len l.cursor.text.now l.cursor.at l.cursor.within
    (rw seen.byte at (sym c.is_label_byte.ensures ∙ c.if-not-is_label_byte.true)) (size_unfit l.len c.then-len-lt1.either)
    (rw seen.byte at c.shown_by.ensures)))

pub returns-then-not-is_label_byte-clause-field : goal.returns-then-not-is_label_byte-clause-field
returns-then-not-is_label_byte-clause-field c =
    let l = c.loop-seen in
    let seen = c.look-seen.ensures in
    rw seen.counted
    (l.invariant.2 _ _
    (label_end l.len l.cursor.text.now l.cursor.at l.cursor.within
    (rw seen.byte at (sym c.is_label_byte.ensures ∙ c.if-not-is_label_byte.true)) (size_fits l.len (omega arith) (omega arith))
    (rw seen.byte at c.ended.ensures)))

pub loop-seen-preserved : goal.loop-seen-preserved
loop-seen-preserved c =
    let l = c.loop-seen in
    let seen = c.look-seen.ensures in
    let byte = rw seen.byte at (sym c.is_label_byte.ensures ∙ c.if-not-is_label_byte.false) in
    let next = seen.counted ∙ look_within l.cursor.text.now l.cursor.at (label_here l.cursor.text.now l.cursor.at byte) in (
      omega (arith, next, l.invariant.0),
      seen.text ∙ l.invariant.1,
      λ r n so.
          l.invariant.2 r n (label_on l.len l.cursor.text.now l.cursor.at l.cursor.within byte (rw (seen.counted, seen.text) at so)),
    )
