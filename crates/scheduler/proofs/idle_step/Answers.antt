-- `idle_step` meets its contract.
use native.Mathlib.Omega.{arith}
use mathlib.Core.Path.{sym, ◌∙◌}
use mathlib.Core.Logic.{inl, inr}
use Rattle.steps.specs.Memory.{with_tasks}
use Rattle.steps.proofs.Acting.{own_long}
use Rattle.scheduler.proofs.idle_step.Goals as goal
use Rattle.scheduler.proofs.idle_step.Goals.{then-own-gt-FREE-via-then-own-gt-FREE, then-own-gt-FREE-via-else-own-gt-FREE+then-own-gt0}
use Rattle.scheduler.proofs.idle_step.Goals.{then-w-eq0+else-is_creating, else-w-eq0}

pub bounds-own : goal.bounds-own
bounds-own c =
    omega (arith, own_long c.requires.0.1)

pub bounds-own-else-own-gt-FREE : goal.bounds-own-else-own-gt-FREE
bounds-own-else-own-gt-FREE c =
    omega (arith, own_long c.requires.0.1)

pub mind_step-requires : goal.mind_step-requires
mind_step-requires c = (
  c.requires.0,
  c.requires.1,
  elim c.then-own-gt-FREE.branch [
    | then-own-gt-FREE-via-then-own-gt-FREE w ↦ inl w.if-own-gt-FREE.true
    | then-own-gt-FREE-via-else-own-gt-FREE+then-own-gt0 w ↦ inr w.if-own-gt0.true
  ],
)

pub bounds-own-2 : goal.bounds-own-2
bounds-own-2 c =
    omega (arith, own_long c.requires.0.1)

pub bounds-own-2-then-own-gt0-2 : goal.bounds-own-2-then-own-gt0-2
bounds-own-2-then-own-gt0-2 c =
    omega (arith, own_long c.requires.0.1)

pub push_step-requires : goal.push_step-requires
push_step-requires c = (
  (with_tasks c.requires.0.0 c.args.n c.args.rows.now c.args.accesses.now, c.requires.0.1),
  c.requires.1,
  omega (arith, c.if-own-gt-FREE.false),
  omega (arith, c.if-own-gt0.false),
  c.if-own-gt0-2.true,
  c.if-own-n.true,
)

pub returns-then-own-n : goal.returns-then-own-n
returns-then-own-n c =
    λ m. c.push_step.ensures (with_tasks m c.args.n c.args.rows.now c.args.accesses.now)

pub full_step-requires : goal.full_step-requires
full_step-requires c = (
  (with_tasks c.requires.0.0 c.args.n c.args.rows.now c.args.accesses.now, c.requires.0.1),
  c.requires.1,
  omega (arith, c.if-own-gt-FREE.false),
  omega (arith, c.if-own-gt0.false),
  c.if-own-gt0-2.true,
  c.if-own-n.false,
)

pub returns-then-own-gt0-2 : goal.returns-then-own-gt0-2
returns-then-own-gt0-2 c =
    λ m. c.full_step.ensures (with_tasks m c.args.n c.args.rows.now c.args.accesses.now)

pub create_step-requires : goal.create_step-requires
create_step-requires c =
    let (m, able) = c.requires.0 in (
      (m, rw c.if-w-eq0.true at able),
      c.requires.1,
      omega (arith, c.if-own-gt-FREE.false),
      omega (arith, c.if-own-gt0.false),
      omega (arith, c.if-own-gt0-2.false),
      sym c.is_creating.ensures ∙ c.if-is_creating.true,
    )

pub returns-then-is_creating : goal.returns-then-is_creating
returns-then-is_creating c =
    λ m. rw c.if-w-eq0.true (c.create_step.ensures m)

pub ticket_step-requires : goal.ticket_step-requires
ticket_step-requires c =
    record {
      place = ((with_tasks c.requires.0.0 c.args.n c.args.rows.now c.args.accesses.now, c.requires.0.1), c.requires.1);
      nothing_due = (
        omega (arith, c.if-own-gt-FREE.false),
        omega (arith, c.if-own-gt0.false),
        omega (arith, c.if-own-gt0-2.false),
        elim c.if-w-eq0.branch [
          | then-w-eq0+else-is_creating w ↦ inr (sym w.is_creating.ensures ∙ w.if-is_creating.false)
          | else-w-eq0 w ↦ inl w.if-w-eq0.false
        ],
      );
    }

pub returns : goal.returns
returns c =
    λ m. c.ticket_step.ensures (with_tasks m c.args.n c.args.rows.now c.args.accesses.now)
