-- `run_plan` meets its contract. On the way back from the answer: `held` is the call of play_orders, `made` that of set_up.
use Prim.Native.Nat.{ℕ, ◌≤◌}
use native.Mathlib.Omega.{arith}
use mathlib.Core.Path.{◌≡◌, ap}
use mathlib.Core.List.{List}
use lib.ListN.{length, take, length-take, get_or-replicate}
use Rattle.std.specs.Prelude as rust
use Rattle.plan.specs.Plan.{Plan}
use Rattle.plan.specs.declared.order.Order.{Order}
use Rattle.kept.specs.declared.tasks.Row.{Row}
use Rattle.reader.specs.declared.ReadPlan.{ReadPlan}
use Rattle.orders.specs.Reached.{setup_of, reached}
use Rattle.orders.proofs.AcceptedRuns.{sized}
use Rattle.memory.specs.Layout as layout
use Rattle.play.specs.Loaded.{Loaded}
use Rattle.play.specs.Short.{small}
use Rattle.play.proofs.Keeping.{kept_orders}
use Rattle.play.proofs.run_plan.Goals as goal

-- the order lines that are played
all_lines : {text : List ℕ} {plan : List Row} {lines : List Order} {r : ReadPlan} {p : Plan} → Loaded text plan lines r p
    → take r.orders lines ≡ p.orders
all_lines {lines = lines} {p = p} says =
    rw (ap (λ (r : ReadPlan). r.orders) says.tasks.read) (kept_orders lines p.orders says.orders)

few_lines : {text : List ℕ} {plan : List Row} {lines : List Order} {r : ReadPlan} {p : Plan} → Loaded text plan lines r p
    → r.orders ≤ length lines
few_lines says = omega (arith, ap (λ (r : ReadPlan). r.orders) says.tasks.read, says.orders.room)

pub slice_bounds-play_orders-end : goal.slice_bounds-play_orders-end
slice_bounds-play_orders-end c =
    omega (arith, few_lines c.requires.loaded.2, length-take c.args.read.orders c.args.lines.now)

pub set_up-begin-requires : goal.set_up-begin-requires
set_up-begin-requires c =
    let (p, e, says) = c.requires.loaded in (_, p, e, says.tasks)

pub play_orders-n-requires : goal.play_orders-n-requires
play_orders-n-requires c =
    let (p, e, says) = c.requires.loaded in
    let room = c.requires.room in
    let made = c.set_up-begin.ensures _ p _ e says.tasks room.0 room.1 (λ i l. get_or-replicate layout.most_tasks i rust.None rust.None (omega arith)) in
    record { room = room.0; text = _; p = p; accepts = e; orders = all_lines says; holds = made.0 }

pub answer_of-requires : goal.answer_of-requires
answer_of-requires c =
    let (p, e, says) = c.requires.loaded in
    let room = c.requires.room in
    let limit = c.args.limit in
    let made = c.set_up-begin.ensures _ p _ e says.tasks room.0 room.1 (λ i l. get_or-replicate layout.most_tasks i rust.None rust.None (omega arith)) in
    let held = c.play_orders-n.ensures.held _ p e (all_lines says) made.0 in
    record {
      room = omega (arith, c.play_orders-n.auto.store, room.0);
      sized = (setup_of p, reached p limit, sized _ p e, small _ p e limit, made.1, held);
    }

pub returns : goal.returns
returns c =
    record {
      answer = λ p left e says.
          let room = c.requires.room in
          let limit = c.args.limit in
          let made = c.set_up-begin.ensures _ p _ e says.tasks room.0 room.1 (λ i l. get_or-replicate layout.most_tasks i rust.None rust.None (omega arith)) in
          let held = c.play_orders-n.ensures.held _ p e (all_lines says) made.0 in
          c.answer_of.ensures (setup_of p) (reached p limit) left (sized _ p e) (small _ p e limit) made.1 held;
      later = c.play_orders-n.ensures.later;
    }
