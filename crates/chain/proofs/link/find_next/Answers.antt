use Rattle.std.proofs.Common.{◌≡◌, sym, ◌∙◌, ◌<◌, true, false, length, add-one, arith}
use Rattle.runs.specs.Update.{clash}
use Rattle.plan.specs.Chains.{task_at}
use Rattle.chain.proofs.Linking.{its_row}
use Rattle.chain.proofs.Scan.{Joins, found_link, found_more, found_same, next_none, next_all}
use Rattle.chain.proofs.link.find_next.Goals as goal
use Rattle.chain.proofs.link.find_next.Goals.{then-found-links+then-conflict, else-found-links}
use Rattle.chain.proofs.link.find_next.Goals.{else-found-links-via-then-found-links+else-conflict, else-found-links-via-else-found-links}

pub loop-j-init : goal.loop-j-init
loop-j-init c =
    (omega arith, λ ts kept known. rw (add-one c.args.i, kept.count) (next_none ts c.args.links.now c.args.i))

pub conflict-requires : goal.conflict-requires
conflict-requires c =
    let (ts, kept) = c.requires.2 in
    let i = c.args.i in
    let j = c.loop-j.j in
    ((task_at ts i, its_row kept i c.requires.1 _), (task_at ts j, its_row kept j c.loop-j-test.true _))

pub loop-j-preserved : goal.loop-j-preserved
loop-j-preserved c =
    let i = c.args.i in
    let turn = c.loop-j in
    let j = turn.j in
    let (later, found_below) = turn.invariant in (
      omega (arith, later),
      λ ts kept known.
          let low : j < length ts = omega (arith, kept.count, c.loop-j-test.true) in
          let found = found_below ts kept known in
          let at = known j later low in
          let more = found_more ts (Joins ts i) (Unit {0}) low at found in
          let same = found_same ts (Joins ts i) (Unit {0}) low at found in
          let row = its_row kept i c.requires.1 _ in
          let other = its_row kept j c.loop-j-test.true _ in
          rw (add-one j)
          (elim c.if-found-links.branch [
            | then-found-links+then-conflict w ↦
                let join = sym (w.conflict.ensures (task_at ts i) (task_at ts j) row other) ∙ w.if-conflict.true in
                found_link c.if-found-links.found w.found-is (more (later, low, join) (omega (arith, w.if-found-links.true)))
            | else-found-links w ↦
                found_link c.if-found-links.found w.found-is
                (same
                (elim w.else-found-links.branch [
                  | else-found-links-via-then-found-links+else-conflict w' ↦
                      λ (a, b, e).
                      let no = w'.conflict.ensures (task_at ts i) (task_at ts j) row other in
                      let q : true ≡ false = sym (no ∙ e) ∙ w'.if-conflict.false in
                      clash (cc)
                  | else-found-links-via-else-found-links w' ↦ λ _. w'.if-found-links.false
                ]))
          ]),
    )

pub returns : goal.returns
returns c ts kept known =
    next_all ts c.args.links.now c.args.i (omega (arith, kept.count, c.loop-j-test.false)) (c.loop-j.invariant.1 ts kept known)
