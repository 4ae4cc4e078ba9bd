-- `set_up` meets its contract.
use Prim.Native.Nat.{ℕ}
use native.Mathlib.Omega.{arith}
use mathlib.Core.Path.{◌≡◌, ap, ◌∙◌}
use mathlib.Core.List.{List}
use mathlib.Core.Option.{none}
use lib.ListN.{length}
use Rattle.plan.specs.Plan.{slots_of, capacity_of, Plan}
use Rattle.kept.specs.declared.tasks.Row.{Row}
use Rattle.reader.specs.declared.ReadPlan.{ReadPlan}
use Rattle.plan.proofs.Accepted.{accepted_well_formed}
use Rattle.steps.specs.Memory.{Given}
use Rattle.scheduler.specs.Starting.{starts}
use Rattle.orders.specs.Reached.{setup_of}
use Rattle.play.specs.Loaded.{LoadedTasks}
use Rattle.play.proofs.set_up.Goals as goal

-- what the reader says of its workers, its form and its tasks
workers_of : {text : List ℕ} {plan : List Row} {r : ReadPlan} {p : Plan} → LoadedTasks text plan r p → r.workers ≡ p.workers
workers_of says = ap (λ (r : ReadPlan). r.workers) says.read

form_of : {text : List ℕ} {plan : List Row} {r : ReadPlan} {p : Plan} → LoadedTasks text plan r p → r.form ≡ p.form
form_of says = ap (λ (r : ReadPlan). r.form) says.read

count_of : {text : List ℕ} {plan : List Row} {r : ReadPlan} {p : Plan} → LoadedTasks text plan r p → r.tasks ≡ length p.tasks
count_of says = ap (λ (r : ReadPlan). r.tasks) says.read

pub lay_masks-requires : goal.lay_masks-requires
lay_masks-requires c =
    let (text, p, e, says) = c.requires in record {
      lengths = (
        says.size,
        omega (arith, c.args.arrays.now.long.4.masks),
        omega (arith, (workers_of says), (accepted_well_formed text p e).workers_few),
      );
      readable = (text, p, e, (count_of says), says.tasks);
    }

pub start-ends-requires : goal.start-ends-requires
start-ends-requires c =
    let (text, p, e, says) = c.requires in
    omega (arith, c.slots_of-slots.ensures, ap slots_of (form_of says), (accepted_well_formed text p e).slots_few)

pub invariant_of-arrays : goal.invariant_of-arrays
invariant_of-arrays c =
    let long = c.args.arrays.now.long.4 in
    record {
      long = (
        omega arith,
        omega arith,
        omega arith,
        omega arith,
        record { ready = long.ready; givers = long.givers; masks = c.lay_masks.auto.masks ∙ long.masks },
        omega arith,
        omega arith,
      );
    }

pub returns : goal.returns
returns c text p store e says long zeros ungiven =
    let started = c.start-ends.ensures in
    let laid = c.lay_out.ensures.meaning text p e (count_of says) says.tasks in
    let masked = c.lay_masks.ensures text p e (count_of says) says.tasks (workers_of says) in
    let formed = accepted_well_formed text p e in
    let slots = c.slots_of-slots.ensures ∙ ap slots_of (form_of says) in
    let capacity = c.capacity_of-capacity.ensures ∙ ap capacity_of (form_of says) in
    let givers : Given (length p.tasks) c.args.arrays.now.device.givers (λ _. none) = λ i l. ungiven i (omega (arith, formed.tasks_few)) in
    let masks = (rw (count_of says) at masked).rows in (
      rw (c.fresh.ensures, (workers_of says), slots, capacity, (count_of says))
          (starts (setup_of p) formed.workers_few _ _ _ _ _ _ _ _ store long zeros givers masks (rw slots at started.lock) laid.0 laid.1),
      laid.2,
    )
