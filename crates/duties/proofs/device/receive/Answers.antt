-- `device::receive` meets its contract.
use Prim.Native.Nat.{◌<◌}
use mathlib.Core.Path.{refl}
use lib.ListN.{length}
use Rattle.tasks.specs.Accesses.{task_at}
use Rattle.tasks.specs.Tasks.{working}
use Rattle.memory.specs.Shares.{Stored}
use Rattle.memory.specs.Memory.{memory, Able}
use Rattle.duties.proofs.Held.{own_stored}
use Rattle.duties.proofs.Working.{cost_at, take_within, receive_within, taken, fetched}
use Rattle.duties.proofs.device.receive.Goals as goal

pub returns-clause-meaning : goal.returns-clause-meaning
returns-clause-meaning c m =
    let x = c.args in
    let i = x.task in
    let stood : (a : Able (memory m.tally x.rows.now m.accesses) x.own.now x.w) → i < length a.ts
    → Stored c.stand.new.own (working i (task_at a.ts i).cost) (a.t.mail x.w) (a.t.adds x.w) =
    λ a l. c.stand.ensures.meaning (a.st x.w) (working i (task_at a.ts i).cost) (a.t.mail x.w) (a.t.adds x.w) (own_stored a)
    (refl, refl, cost_at a i l) in
    (λ a can. taken a i x.time _ (stood a (take_within a i can)) can, λ a can. fetched a i x.time _ (stood a (receive_within a i can)) can)
