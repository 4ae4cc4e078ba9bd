-- `mind_step` meets its contract.
use native.Mathlib.Omega.{arith}
use Rattle.memory.specs.Layout as numbers
use Rattle.steps.specs.Memory.{with_tasks, Able}
use Rattle.steps.proofs.Parts.{part_at, part_lent}
use Rattle.steps.proofs.Acting.{own_long, tasks_able}
use Rattle.steps.proofs.Stepping.{mind_acts}
use Rattle.steps.proofs.mind_step.Goals as goal

pub slice_bounds-mind-end : goal.slice_bounds-mind-end
slice_bounds-mind-end c = omega (arith, own_long c.requires.0.1)

pub mind-tally-requires : goal.mind-tally-requires
mind-tally-requires c =
    let ((m, a), at, has) = c.requires in
    let own = c.args.own.now in
    let lent = part_lent own (own_long a) in
    ((c.args.w, tasks_able a lent), rw (← lent, part_at own numbers.stand, part_at own numbers.mail_count) has)

pub returns : goal.returns
returns c m setup s shares lent long h fit =
    let x = c.args in
    let a : Able (with_tasks m x.n x.rows.now x.accesses.now) x.own.now x.w =
    record { c = setup; s = s; shares = shares; lent = lent; long = long; holds = h; fit = fit } in
    let (_, at, has) = c.requires in
    mind_acts a at has _ _ _ _ (c.mind-tally.ensures x.w)
