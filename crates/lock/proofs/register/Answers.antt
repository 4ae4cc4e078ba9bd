-- `lock::register` meets its contract.
use mathlib.Core.Path.{refl}
use Rattle.lock.proofs.Arrays.{register_lock}
use Rattle.lock.proofs.register.Goals as goal

pub returns : goal.returns
returns c =
    let args = c.args in
    let at = c.slot-at.ensures.0 in
    let sum = c.joined.ensures in record {
      registrations = rw (sum, at) refl;
      lock = λ head tail wait tickets tasks.
          rw (sum, at)
          (register_lock args.slots head tail wait args.registrations.now tickets tasks args.ticket.0 args.worker.0
          c.requires.0
          c.requires.1);
    }
