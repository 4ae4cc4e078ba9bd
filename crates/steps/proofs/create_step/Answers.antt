-- `create_step` meets its contract.
use native.Mathlib.Omega.{arith}
use mathlib.Core.Path.{refl}
use Rattle.memory.specs.Layout as numbers
use Rattle.steps.specs.Memory.{with_tasks, Able}
use Rattle.steps.proofs.Parts.{part_at, part_lent}
use Rattle.steps.proofs.Acting.{own_long, tasks_able}
use Rattle.steps.proofs.Stepping.{create_acts}
use Rattle.steps.proofs.create_step.Goals as goal

pub slice_bounds-create-end : goal.slice_bounds-create-end
slice_bounds-create-end c = omega (arith, own_long c.requires.0.1)

pub create-tally-requires : goal.create-tally-requires
create-tally-requires c =
    let ((m, a), at, stand, mail, adds, more) = c.requires in
    let own = c.args.own.now in
    let lent = part_lent own (own_long a) in
    ((0, tasks_able a lent), rw (← lent, part_at own numbers.adds_count) adds, rw (← lent, part_at own numbers.mail_count) mail, more)

pub returns : goal.returns
returns c m setup s shares lent long h fit =
    let x = c.args in
    let a : Able (with_tasks m x.n x.rows.now x.accesses.now) x.own.now 0 =
    record { c = setup; s = s; shares = shares; lent = lent; long = long; holds = h; fit = fit } in
    let (_, at, stand, mail, adds, more) = c.requires in
    create_acts a at stand mail refl adds more _ _ _ _ (c.create-tally.ensures x.n.picks 0)
