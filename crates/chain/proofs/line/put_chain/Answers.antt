use Rattle.std.proofs.Common.{◌∙◌, arith}
use Rattle.chain.proofs.Lines.{going_on, going_done, wrote_first}
use Rattle.chain.proofs.line.put_chain.Goals as goal

pub loop-at-preserved : goal.loop-at-preserved
loop-at-preserved c =
    let put = c.put_number-in-loop-at in
    let turn = c.loop-at in
    let below = c.loop-at-test.true in
    let (same, on, short, going) = turn.invariant in
    let later = c.requires.1 turn.at below in (
      put.ensures.wrote.same ∙ same,
      omega arith,
      omega (arith, short, put.ensures.short),
      λ xs leads. going_on _ _ below (going xs leads) put.ensures.wrote.wrote c.end_before-in-loop-at.ensures,
    )

pub returns : goal.returns
returns c xs leads =
    let turn = c.loop-at in
    let (same, on, short, going) = turn.invariant in
    let put = c.put_number.ensures.wrote in
    let rest = going_done _ _ c.loop-at-test.false (going xs leads) in
    record { wrote = wrote_first _ _ _ put.wrote c.end_before.ensures xs leads rest; same = same ∙ put.same }
