-- `push_step` meets its contract.
use Prim.Native.Nat.{ℕ}
use native.Mathlib.Omega.{arith}
use mathlib.Core.Path.{◌≡◌, sym, ap, ◌∙◌}
use mathlib.Core.List.{List}
use lib.ListN.{length}
use Rattle.memory.specs.Layout as numbers
use Rattle.memory.specs.Memory as T
use Rattle.steps.specs.Layout.{queued_at}
use Rattle.steps.specs.Memory.{Memory, station, with_counts, Able}
use Rattle.steps.proofs.Parts.{station_at, part_at, with_part, part_lent, part_back, station_still}
use Rattle.steps.proofs.Acting.{own_stationed, own_long, capacity_few, tasks_able}
use Rattle.steps.proofs.Stepping.{push_acts}
use borrow.Author.Rules.{rules}
use Rattle.steps.proofs.push_step.Goals as goal

pub slice_bounds-give-end : goal.slice_bounds-give-end
slice_bounds-give-end c = omega (arith, own_long c.requires.0.1)

-- the device's part after the tasks' part is back
same_station : {m : Memory} {own : List ℕ} {w : ℕ} → Able m own w → (y : List ℕ) → station (with_part own y) ≡ station own
same_station {own = own} a y = station_still own (own_long a) y

pub give-task-requires : goal.give-task-requires
give-task-requires c =
    let ((m, a), at, stand, mail, adds, room) = c.requires in
    let own = c.args.own.now in
    let tasks = T.memory c.args.n.tally m.rows m.accesses in
    let lent = part_lent own (own_long a) in
    ((tasks, c.args.w, tasks_able a lent), rw (← lent, part_at own numbers.adds_count) adds)

pub slice_bounds-push-end : goal.slice_bounds-push-end
slice_bounds-push-end c =
    let long = own_long c.requires.0.1 in search rules

pub slice_bounds-push-end-2 : goal.slice_bounds-push-end-2
slice_bounds-push-end-2 c =
    sym (ap length (same_station c.requires.0.1 c.give-task.new.own) ∙ (own_stationed c.requires.0.1).long)

pub push-requires : goal.push-requires
push-requires c =
    let ((m, a), at, stand, mail, adds, room) = c.requires in
    rw (same_station c.requires.0.1 c.give-task.new.own)
    ((own_stationed a).long, rw (station_at c.args.own.now queued_at (omega arith)) (omega (arith, room, capacity_few a)))

pub returns : goal.returns
returns c m setup s shares lent long h fit =
    let x = c.args in
    let own = x.own.now in
    let a : Able (with_counts m x.n) own x.w =
    record { c = setup; s = s; shares = shares; lent = lent; long = long; holds = h; fit = fit } in
    let (_, at, stand, mail, adds, room) = c.requires in
    let y = c.give-task.new.own in
    let z = c.push.new.own in
    let tasks = T.memory x.n.tally m.rows m.accesses in
    rw (part_back own (own_long a) y)
    (push_acts a at stand mail adds room y z _
    (λ i is before. c.give-task.ensures.oldest tasks x.w (tasks_able a (part_lent own (own_long a))) i is before)
    (λ i is. c.give-task.ensures.meaning tasks x.n.picks x.w i is)
    (λ p q k. c.push.ensures.meaning p q (rw (same_station a y) k)))
