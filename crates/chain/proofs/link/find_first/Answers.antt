use Rattle.std.proofs.Common.{◌≡◌, ◌<◌, ◌≤◌, length, add-one, ⊎_elim, arith}
use Rattle.runs.specs.Update.{order}
use Rattle.chain.proofs.Scan.{There, found_link, found_more, found_same, first_none, first_all, first_nothing}
use Rattle.chain.proofs.link.find_first.Goals as goal
use Rattle.chain.proofs.link.find_first.Goals.{then-j-eq0, then-j-eq0-via-then-j-eq0, then-j-eq0-via-else-j-eq0+then-first-link}
use Rattle.chain.proofs.link.find_first.Goals.{else-j-eq0+else-first-link}

pub loop-j-preserved : goal.loop-j-preserved
loop-j-preserved c =
    let turn = c.loop-j in
    let j = turn.j in
    let test = c.loop-j-test.true in
    record {
      none = λ z. absurd (omega arith);
      found = λ ts e known some.
          let low : j < length ts = omega (arith, test) in
          let at = known j (omega arith) low in
          let found = λ (l : 0 < j). turn.invariant.found ts e known l in
          rw (add-one j)
          (elim c.if-j-eq0.branch [
            | then-j-eq0 w ↦
                found_link c.if-j-eq0.first w.first-is
                (elim w.then-j-eq0.branch [
                  | then-j-eq0-via-then-j-eq0 w' ↦
                      let some : 0 < length ts = omega (arith, low) in
                      rw w'.if-j-eq0.true (first_none ts some (known 0 (omega arith) some))
                  | then-j-eq0-via-else-j-eq0+then-first-link w' ↦
                      found_more ts (There ts) ⊥ low at (found (omega (arith, w'.if-j-eq0.false))) low (omega (arith, w'.if-first-link.true))
                ])
            | else-j-eq0+else-first-link w ↦
                found_link c.if-j-eq0.first w.first-is
                (found_same ts (There ts) ⊥ low at (found (omega (arith, w.if-j-eq0.false))) (λ _. w.if-first-link.false))
          ]);
    }

pub returns : goal.returns
returns c ts e known =
    let turn = c.loop-j in
    ⊎_elim
    (λ (some : 0 < length ts). first_all ts (omega (arith, c.loop-j-test.false)) (turn.invariant.found ts e known (omega (arith, c.loop-j-test.false))))
    (λ (none : length ts ≤ 0).
    let start : turn.j ≡ 0 = omega (arith, turn.auto.j-end) in
    rw (turn.invariant.none start) (first_nothing ts (omega arith)))
    (order 0 (length ts))
