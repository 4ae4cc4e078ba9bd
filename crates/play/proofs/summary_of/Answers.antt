-- `summary_of` meets its contract.
use native.Mathlib.Omega.{arith}
use mathlib.Core.Path.{refl}
use Rattle.steps.specs.Memory.{share}
use Rattle.scheduler.specs.Lent.{memory_of}
use Rattle.play.proofs.summary_of.Goals as goal

pub total_permitted-requires : goal.total_permitted-requires
total_permitted-requires c =
    let long = c.args.arrays.now.long.4.masks in
    (c.requires.masks.0, omega (arith, c.requires.masks.0, long), c.requires.masks.1)

pub returns : goal.returns
returns c =
    let x = c.args in
    let seen = memory_of x.n x.arrays.now in
    record {
      picks = refl;
      head = refl;
      tail = refl;
      tasks = refl;
      permitted = c.total_permitted.ensures.numbers;
      found = λ d s h. (c.is_finished.ensures.meaning seen d s (share x.store.now) h, c.find_leader.ensures.meaning seen d s h);
    }
