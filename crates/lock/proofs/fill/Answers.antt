-- `lock::fill` meets its contract.
use mathlib.Core.Path.{refl}
use Rattle.lock.proofs.Arrays.{fill_lock}
use Rattle.lock.proofs.fill.Goals as goal

pub returns : goal.returns
returns c =
    let ends = c.args.ends in record {
      tickets = refl;
      tasks = refl;
      lock = λ slots wait registrations.
          fill_lock slots ends.head.0 ends.tail.0 wait registrations c.args.cell_tickets.now c.args.cell_tasks.now
          c.args.worker.0 c.args.task c.requires.0 c.requires.1;
    }
