-- `step_own` meets its contract.
use native.Mathlib.Omega.{arith}
use mathlib.Core.Path.{◌∙◌}
use lib.ListN.{get_or}
use Rattle.steps.specs.Layout.{place_at}
use Rattle.steps.proofs.Acting.{own_long}
use Rattle.scheduler.specs.Lent.{memory_of}
use Rattle.scheduler.proofs.Picking.{own_place, leaves_at}
use Rattle.scheduler.proofs.step_own.Goals as goal

pub bounds-own-0 : goal.bounds-own-0
bounds-own-0 c =
    omega (arith, own_long c.requires.able)

pub idle_step-requires : goal.idle_step-requires
idle_step-requires c = ((memory_of c.args.n c.args.arrays.now, c.requires.able), c.in-0.is)

pub try_step-requires : goal.try_step-requires
try_step-requires c = ((memory_of c.args.n c.args.arrays.now, c.requires.able), c.in-1.is)

pub register_step-requires : goal.register_step-requires
register_step-requires c = ((memory_of c.args.n c.args.arrays.now, c.requires.able), c.in-2.is)

pub look_step-requires : goal.look_step-requires
look_step-requires c = ((memory_of c.args.n c.args.arrays.now, c.requires.able), c.in-3.is)

pub serve_step-requires : goal.serve_step-requires
serve_step-requires c = ((memory_of c.args.n c.args.arrays.now, c.requires.able), c.in-4.is)

pub hand_step-requires : goal.hand_step-requires
hand_step-requires c = ((memory_of c.args.n c.args.arrays.now, c.requires.able), c.in-5.is)

-- at none of the places before, and not draining, it leaves
pub leave_step-requires : goal.leave_step-requires
leave_step-requires c = (
  (memory_of c.args.n c.args.arrays.now, c.requires.able),
  leaves_at (get_or c.args.own.now place_at 0) (own_place c.requires.able)
      (λ e. omega arith) (λ e. omega arith) (λ e. omega arith) (λ e. omega arith)
      c.requires.not_draining.0
      c.requires.not_draining.1
      (λ e. omega arith) (λ e. omega arith),
)

pub returns-in-0 : goal.returns-in-0
returns-in-0 c = c.idle_step.ensures (memory_of c.args.n c.args.arrays.now)

pub returns-in-1 : goal.returns-in-1
returns-in-1 c = c.try_step.ensures (memory_of c.args.n c.args.arrays.now)

pub returns-in-2 : goal.returns-in-2
returns-in-2 c = c.register_step.ensures (memory_of c.args.n c.args.arrays.now)

pub returns-in-3 : goal.returns-in-3
returns-in-3 c = c.look_step.ensures (memory_of c.args.n c.args.arrays.now)

pub returns-in-4 : goal.returns-in-4
returns-in-4 c = c.serve_step.ensures.acts (memory_of c.args.n c.args.arrays.now)

pub returns-in-5 : goal.returns-in-5
returns-in-5 c = c.hand_step.ensures (memory_of c.args.n c.args.arrays.now)

pub returns-in_default : goal.returns-in_default
returns-in_default c = c.leave_step.ensures (memory_of c.args.n c.args.arrays.now)

pub invariant_of-arrays-in-4 : goal.invariant_of-arrays-in-4
invariant_of-arrays-in-4 c =
    let serve = c.serve_step in
    let (wait, registrations, tickets, cells, device, rows, accesses) = c.args.arrays.now.long in
    record {
      long = (
        wait,
        registrations,
        serve.auto.tickets ∙ tickets,
        serve.auto.cells ∙ cells,
        serve.ensures.long,
        serve.auto.rows ∙ rows,
        accesses,
      );
    }
