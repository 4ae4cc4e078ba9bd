use Rattle.std.proofs.Common.{◌+◌, ◌*◌, ◌^◌, sym, ◌∙◌, arith, lt-ltb}
use Rattle.text.proofs.Reading.{held_more, number_none, number_digit, more_end, more_leading, more_digit}
use Rattle.text.proofs.read.Cursor.number.Goals as goal

pub returns-in_default-clause-field : goal.returns-in_default-clause-field
returns-in_default-clause-field c =
    let self = c.args.self.now in
    let seen = c.look-first.ensures in
    rw seen.counted
    (number_none self.text.now self.at self.within (rw seen.byte at (sym c.digit_of.ensures ∙ c.in_default.is))
    (rw seen.byte at c.shown_by.ensures))

pub loop-digit-init : goal.loop-digit-init
loop-digit-init c =
    let self = c.args.self.now in
    let seen = c.look-first.ensures in
    let d = c.in-Some.leading in
    let digit = rw seen.byte at (sym c.digit_of.ensures ∙ c.in-Some.is) in (
      d,
      simp (lt-ltb d (2 ^ 64) (omega arith)),
      omega arith,
      λ e. e,
      seen.text,
      λ r n so. number_digit self.text.now self.at self.within digit (rw (seen.counted, seen.text) at so),
    )

pub loop-digit-preserved : goal.loop-digit-preserved
loop-digit-preserved c =
    let l = c.loop-digit in
    let i = l.invariant in
    let seen = c.look-seen.ensures in
    let d = c.in-Some-digit_of.digit in
    let digit = rw seen.byte at (sym c.digit_of-in-loop-digit.ensures ∙ c.in-Some-digit_of.is) in (
      i.0 * 10 + d,
      c.with_digit-number.ensures ∙ rw i.1 (held_more i.0 d),
      omega (arith, i.2),
      λ e. absurd (c.if-leading-eq0.false e),
      seen.text ∙ i.4,
      λ r n so.
          i.5 r n
          (more_digit i.0 l.self.text.now l.self.at l.self.within digit (λ z. c.if-leading-eq0.false (omega (arith, i.2, z)))
          (rw (seen.counted, seen.text) at so)),
    )

pub returns-in_default-digit_of-clause-field : goal.returns-in_default-digit_of-clause-field
returns-in_default-digit_of-clause-field c =
    let l = c.loop-digit in
    let i = l.invariant in
    let seen = c.look-seen.ensures in
    rw seen.counted
    (i.5 _ _ (more_end i.0 l.self.text.now l.self.at l.self.within
    (rw seen.byte at (sym c.digit_of-in-loop-digit.ensures ∙ c.in_default-digit_of.is))
    (rw (i.1, seen.byte) at c.ended.ensures)))

pub returns-then-leading-eq0-clause-field : goal.returns-then-leading-eq0-clause-field
returns-then-leading-eq0-clause-field c =
    let l = c.loop-digit in
    let i = l.invariant in
    let seen = c.look-seen.ensures in
    rw seen.counted
    (i.5 _ _ (more_leading i.0 l.self.text.now l.self.at l.self.within
    (rw seen.byte at (sym c.digit_of-in-loop-digit.ensures ∙ c.in-Some-digit_of.is)) (i.3 c.if-leading-eq0.true)))
