-- `lines::line::read_line` meets its contract: by its letter. Assumes nothing.
use Rattle.std.specs.Prelude.{refl}
use Rattle.std.proofs.Common.{sym, ◌∙◌, arith}
use Rattle.plan.specs.Line.{'M', 'P', 'R', 'S', 'W', workers_line, mask_line, picks_line, rounds_line, seeded_line}
use Rattle.plan.specs.Line.{one_number, two_numbers, in_form, line_by}
use Rattle.lines.proofs.Letters.{empty_line, no_tab_seen, tabbed, first_byte, whole_line, task_line_lem, no_letter}
use Rattle.lines.proofs.line.read_line.Goals as goal

pub returns-then-eq-clause-line : goal.returns-then-eq-clause-line
returns-then-eq-clause-line c p sums =
    let seen = c.look-letter.ensures in
    empty_line c.requires.0 seen.byte seen.counted (sym c.eq.ensures ∙ c.if-eq.true)

pub returns-then-ne-clause-line : goal.returns-then-ne-clause-line
returns-then-ne-clause-line c p sums =
    let seen = c.look-letter.ensures in
    let then = c.look-after.ensures in
    no_tab_seen c.requires.0 seen.byte seen.counted seen.text (sym c.eq.ensures ∙ c.if-eq.false) then.byte then.counted then.text
    (sym c.ne.ensures ∙ c.if-ne.true) c.shown_by.ensures

pub returns-in-Some-eq87-clause-line : goal.returns-in-Some-eq87-clause-line
unfolding line_by
returns-in-Some-eq87-clause-line c p sums =
    let seen = c.look-letter.ensures in
    let then = c.look-after.ensures in
    let arm = c.in-Some-eq87 in
    let t =
    tabbed c.requires.0 seen.byte seen.counted seen.text (sym c.eq.ensures ∙ c.if-eq.false) then.byte then.counted then.text
    (sym c.ne.ensures ∙ c.if-ne.false) in
    whole_line t 'W' (first_byte _ _ seen.byte arm.is (sym arm.field-0-is ∙ arm.field-0-test)) (omega arith) (omega arith)
    (in_form (workers_line p)) (λ fs. refl) (c.read_workers.ensures.line p sums)

pub returns-in-Some-eq77-clause-line : goal.returns-in-Some-eq77-clause-line
unfolding line_by
returns-in-Some-eq77-clause-line c p sums =
    let seen = c.look-letter.ensures in
    let then = c.look-after.ensures in
    let arm = c.in-Some-eq77 in
    let t =
    tabbed c.requires.0 seen.byte seen.counted seen.text (sym c.eq.ensures ∙ c.if-eq.false) then.byte then.counted then.text
    (sym c.ne.ensures ∙ c.if-ne.false) in
    whole_line t 'M' (first_byte _ _ seen.byte arm.is (sym arm.field-0-is ∙ arm.field-0-test)) (omega arith) (omega arith)
    (one_number (mask_line p)) (λ fs. refl) (c.read_mask.ensures.line p sums)

pub returns-in-Some-eq80-clause-line : goal.returns-in-Some-eq80-clause-line
unfolding line_by
returns-in-Some-eq80-clause-line c p sums =
    let seen = c.look-letter.ensures in
    let then = c.look-after.ensures in
    let arm = c.in-Some-eq80 in
    let t =
    tabbed c.requires.0 seen.byte seen.counted seen.text (sym c.eq.ensures ∙ c.if-eq.false) then.byte then.counted then.text
    (sym c.ne.ensures ∙ c.if-ne.false) in
    whole_line t 'P' (first_byte _ _ seen.byte arm.is (sym arm.field-0-is ∙ arm.field-0-test)) (omega arith) (omega arith)
    (two_numbers (picks_line p)) (λ fs. refl) (c.read_picks.ensures.line p sums)

pub returns-in-Some-eq82-clause-line : goal.returns-in-Some-eq82-clause-line
unfolding line_by
returns-in-Some-eq82-clause-line c p sums =
    let seen = c.look-letter.ensures in
    let then = c.look-after.ensures in
    let arm = c.in-Some-eq82 in
    let t =
    tabbed c.requires.0 seen.byte seen.counted seen.text (sym c.eq.ensures ∙ c.if-eq.false) then.byte then.counted then.text
    (sym c.ne.ensures ∙ c.if-ne.false) in
    whole_line t 'R' (first_byte _ _ seen.byte arm.is (sym arm.field-0-is ∙ arm.field-0-test)) (omega arith) (omega arith)
    (one_number (rounds_line p)) (λ fs. refl) (c.read_rounds.ensures.line p sums)

pub returns-in-Some-eq83-clause-line : goal.returns-in-Some-eq83-clause-line
unfolding line_by
returns-in-Some-eq83-clause-line c p sums =
    let seen = c.look-letter.ensures in
    let then = c.look-after.ensures in
    let arm = c.in-Some-eq83 in
    let t =
    tabbed c.requires.0 seen.byte seen.counted seen.text (sym c.eq.ensures ∙ c.if-eq.false) then.byte then.counted then.text
    (sym c.ne.ensures ∙ c.if-ne.false) in
    whole_line t 'S' (first_byte _ _ seen.byte arm.is (sym arm.field-0-is ∙ arm.field-0-test)) (omega arith) (omega arith)
    (two_numbers (seeded_line p)) (λ fs. refl) (c.read_seeded.ensures.line p sums)

pub returns-in-Some-eq84-clause-line : goal.returns-in-Some-eq84-clause-line
returns-in-Some-eq84-clause-line c p sums =
    let seen = c.look-letter.ensures in
    let then = c.look-after.ensures in
    let arm = c.in-Some-eq84 in
    let t =
    tabbed c.requires.0 seen.byte seen.counted seen.text (sym c.eq.ensures ∙ c.if-eq.false) then.byte then.counted then.text
    (sym c.ne.ensures ∙ c.if-ne.false) in
    task_line_lem t (first_byte _ _ seen.byte arm.is (sym arm.field-0-is ∙ arm.field-0-test))
    (c.read_task.ensures.line p sums)

pub returns-in_default-clause-line : goal.returns-in_default-clause-line
returns-in_default-clause-line c p sums =
    let seen = c.look-letter.ensures in
    let then = c.look-after.ensures in
    let arm = c.in_default in
    let tests = arm.field-0-test in
    let is = arm.field-0-is in
    let t =
    tabbed c.requires.0 seen.byte seen.counted seen.text (sym c.eq.ensures ∙ c.if-eq.false) then.byte then.counted then.text
    (sym c.ne.ensures ∙ c.if-ne.false) in
    no_letter c.args.cursor.now.text.now c.args.cursor.now.at t.reach arm.field-0 (first_byte _ _ seen.byte arm.is refl) (omega arith) (omega arith)
    (omega arith) (omega arith) (omega arith) (omega arith)
