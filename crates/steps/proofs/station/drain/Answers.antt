use mathlib.Core.Path.{◌≡◌, refl, sym, ap, ◌∙◌}
use mathlib.Core.List.{[], ◌++◌, append-nil}
use native.Mathlib.Nat.{add-zero}
use native.Mathlib.Numerals.{add-one}
use native.Mathlib.Omega.{arith}
use lib.ListN.{get_or, set, length-set}
use lib.Seq.{set-get_or}
use borrow.Author.Rules.{rules}
use Rattle.runs.specs.Circular.{entries}
use Rattle.machine.specs.Ready.{arrive}
use Rattle.steps.specs.Layout.{queued_at, queue_slots}
use Rattle.runs.specs.Circular.{entries_none}
use Rattle.steps.specs.Memory.{emptied, drained}
use Rattle.steps.proofs.Stations.{queue_slot, stationed_drained, drain_turn}
use Rattle.steps.proofs.station.drain.Goals as goal

pub returns-then-count-eq0 : goal.returns-then-count-eq0
unfolding drained arrive
returns-then-count-eq0 c =
    let own = c.args.own.now in
    let none : get_or own queued_at 0 ≡ 0 = c.if-count-eq0.true in
    let same : emptied own ≡ own = ap (set own queued_at) (sym none) ∙ set-get_or own queued_at 0 in
    let empty : entries (queue_slot own) queue_slots 0 (get_or own queued_at 0) ≡ [] =
    rw none (entries_none (queue_slot own) queue_slots 0) in
    record {
      numbers = (omega (arith, none), sym same, rw (none, drained));
      station = λ p queue h. rw same at (stationed_drained h);
      ready = λ p queue tasks h e. e ∙ sym (append-nil tasks) ∙ ap (λ q. tasks ++ q) (sym empty ∙ h.queue);
    }

pub loop-i-init : goal.loop-i-init
unfolding drained
loop-i-init c =
    (search rules, refl, refl, refl, rw (entries_none (queue_slot c.args.own.now) queue_slots 0, append-nil, add-zero))

pub loop-i-preserved : goal.loop-i-preserved
unfolding drained
loop-i-preserved c =
    let l = c.loop-i in
    let turn =
    drain_turn c.args.own.now l.ready c.args.ready.now c.args.at c.args.n l.i
    (omega (arith, c.requires)) (omega (arith, c.requires)) (omega (arith, c.requires)) l.invariant.4 in
    (omega arith, l.invariant.1, simp length-set l.invariant.2, rw (add-one l.i, l.invariant.3), turn)

pub returns : goal.returns
unfolding arrive
returns c =
    let l = c.loop-i in
    let all : l.i ≡ get_or c.args.own.now queued_at 0 = omega (arith, l.invariant) in
    record {
      numbers = (omega (arith, l.invariant.1), refl, rw all at l.invariant.3);
      station = λ p queue h. stationed_drained h;
      ready = λ p queue tasks h e. let q = h.queue in cc;
    }
