-- `lines::accesses::with_access` meets its contract: by whether four accesses are there. Assumes nothing.
use Rattle.std.specs.Prelude.{◌≡◌, ◌||◌, ltb}
use Rattle.std.proofs.Common.{◌∙◌}
use Rattle.lines.specs.Accesses.{touches}
use Rattle.lines.proofs.Touches.{reads_fifth, reads_count, reads_row, reads_more}
use Rattle.lines.proofs.accesses.with_access.Goals as goal
use Rattle.lines.proofs.accesses.with_access.Goals.{then-a, else-a, then-a-2, else-a-2}

pub returns-then-a-ge-MOST_TASK_ACCESSES : goal.returns-then-a-ge-MOST_TASK_ACCESSES
returns-then-a-ge-MOST_TASK_ACCESSES c t xs so =
    let out : c.if-a.out ≡ (c.args.a.out || ltb 65535 c.args.access.address) =
    elim c.if-a.branch [ then-a w ↦ w.out-is ∙ simp w.if-a.true | else-a w ↦ w.out-is ∙ simp w.if-a.false ] in
    reads_fifth so c.args.access c.if-a-ge-MOST_TASK_ACCESSES.true out

pub returns : goal.returns
returns c t xs so =
    let access = c.args.access in
    let few = c.if-a-ge-MOST_TASK_ACCESSES.false in
    let out : c.if-a.out ≡ (c.args.a.out || ltb 65535 access.address) =
    elim c.if-a.branch [ then-a w ↦ w.out-is ∙ simp w.if-a.true | else-a w ↦ w.out-is ∙ simp w.if-a.false ] in
    let again : c.if-a-2.again ≡ (c.args.a.again || touches xs access.address) =
    elim c.if-a-2.branch [
      | then-a-2 w ↦ w.again-is ∙ simp w.if-a-2.true
      | else-a-2 w ↦
          let touched : w.is_touched-again.result ≡ touches xs access.address =
          w.is_touched-again.ensures t xs (reads_count so access few) (reads_row so access few) in
          w.again-is ∙ touched ∙ simp w.if-a-2.false
    ] in
    reads_more so access few out again
