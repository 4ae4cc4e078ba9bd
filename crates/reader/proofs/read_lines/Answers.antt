use Rattle.std.proofs.Common.{◌≡◌, sym, ◌∙◌, ◌+◌, ◌<◌, arith, leb-true, leb-false}
use Rattle.reader.specs.Verdict.{lent}
use Rattle.reader.proofs.Turns.{found, access_read, access_wrong, line_wrong, AtLine, in_hand_lem, line_kept}
use Rattle.reader.proofs.Turns.{Ends, ends_whole, ends_malformed, ends_judged, gives_plan, gives_refused}
use Rattle.reader.proofs.read_lines.Goals as goal
use Rattle.reader.proofs.read_lines.Goals.{After-keep_line-sofar, in-Ok-found, in-Err-found+then-fault, in-Err-found+else-fault}
use Rattle.reader.proofs.read_lines.Goals.{then-is_at_end, else-is_at_end+in-Err}
use Rattle.reader.proofs.read_lines.Goals.{else-is_at_end+in-Ok+then-loop-more-test+in-Err-read_access}
use Rattle.reader.proofs.read_lines.Goals.{else-is_at_end+in-Ok+else-loop-more-test+in-Err-judge}

-- the line in hand has ended, has no fault, and is kept
one_line : (c : After-keep_line-sofar)
    → (c.lines.cursor.at < c.loop-more.cursor.at)
    × AtLine c.args.text.now (lent c.args.rows.now c.args.orders.now) c.keep_line-sofar.result (c.lines.number + 1)
    c.loop-more.cursor.at (lent c.keep_line-sofar.new.rows c.keep_line-sofar.new.orders)
one_line c =
    let (same, g) = c.lines.invariant in
    let hand = in_hand_lem g (rw same at c.in-Ok.ensures.line) c.no_accesses-accesses.ensures c.loop-more.invariant.1 in
    line_kept g c.keep_line-sofar.ensures (found hand c.loop-more-test.false) (sym c.judge.ensures ∙ c.in_default.is)

pub loop-more-preserved : goal.loop-more-preserved
loop-more-preserved c =
    let (same, on) = c.loop-more.invariant in (
      c.read_access.ensures.text ∙ same,
      λ begin p hand.
          access_read (found (on begin p hand) c.loop-more-test.true) (rw same at c.in-Ok-read_access.ensures.field)
          c.with_access-accesses.ensures,
    )

pub lines-smaller : goal.lines-smaller
lines-smaller c =
    let (forth, on) = one_line (goal.at.lines-smaller c).After-keep_line-sofar in
    omega (arith, forth, on.inside)

pub lines-preserved : goal.lines-preserved
lines-preserved c =
    (c.loop-more.invariant.0, (one_line (goal.at.lines-preserved c).After-keep_line-sofar).1)

-- where the ways out of both loops meet, all is read, or a line is refused of which the bytes up to a place were looked at
pub returns : goal.returns
returns c =
    let (same, g) = c.lines.invariant in
    let text = c.args.text.now in
    let cursor = c.if-is_at_end.cursor in
    let (kept, ends) : (cursor.text.now ≡ text) × Ends g.p c.lines.number text c.lines.cursor.at c.if-is_at_end.found cursor.at =
    elim c.if-is_at_end.branch [
      | then-is_at_end w ↦
          let end = rw same at (leb-true _ _ (sym w.if-is_at_end.ensures)) in
          rw (w.cursor-is, w.found-is) (same, ends_whole g end w.whole_plan-found.result (w.whole_plan-found.ensures g.p g.sums))
      | else-is_at_end+in-Err w ↦
          let here = rw same at (leb-false _ _ (sym w.if-is_at_end.ensures)) in
          let wrong = line_wrong (rw same at (w.in-Err.ensures.line g.p g.sums)) in
          rw (w.cursor-is, w.found-is) (w.read_line.ensures.text ∙ same, ends_malformed g here w.into.ensures wrong)
      | else-is_at_end+in-Ok+then-loop-more-test+in-Err-read_access w ↦
          let here = rw same at (leb-false _ _ (sym w.if-is_at_end.ensures)) in
          let (still, on) = w.loop-more.invariant in
          let hand = in_hand_lem g (rw same at w.in-Ok.ensures.line) w.no_accesses-accesses.ensures on in
          let wrong = access_wrong (found hand w.loop-more-test.true) (rw still at w.in-Err-read_access.ensures.field) in
          rw (w.cursor-is, w.found-is)
          (w.read_access.ensures.text ∙ still, ends_malformed g here w.into-in-Err-read_access.ensures wrong)
      | else-is_at_end+in-Ok+else-loop-more-test+in-Err-judge w ↦
          let (still, on) = w.loop-more.invariant in
          let hand = in_hand_lem g (rw same at w.in-Ok.ensures.line) w.no_accesses-accesses.ensures on in
          let faulty = sym w.judge.ensures ∙ w.in-Err-judge.is in
          rw (w.cursor-is, w.found-is)
          (still, ends_judged g (found hand w.loop-more-test.false) faulty w.into-in-Err-judge.ensures)
    ] in
    rw c.looks.ensures
    (elim c.match-found.branch [
      | in-Ok-found w ↦ rw (w.cursor-is, w.plan-is) (gives_plan g c.requires (rw w.in-Ok-found.is at ends))
      | in-Err-found+then-fault w ↦
          rw (w.cursor-is, w.plan-is)
          (gives_refused g c.requires (rw w.in-Err-found.is at ends) (rw w.if-fault.true (rw kept at w.finish_line.ensures.place)))
      | in-Err-found+else-fault w ↦
          rw (w.cursor-is, w.plan-is) (gives_refused g c.requires (rw w.in-Err-found.is at ends) (rw w.if-fault.false))
    ])
