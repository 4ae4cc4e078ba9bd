-- `lock::hand_over` meets its contract.
use mathlib.Core.Path.{refl}
use Rattle.lock.specs.Lock.{tells}
use Rattle.lock.proofs.Arrays.{hand_over_lock}
use Rattle.lock.proofs.hand_over.Goals as goal

pub returns : goal.returns
unfolding tells
returns c =
    let args = c.args in
    let at = c.slot-at.ensures.0 in record {
      ends = (refl, refl);
      waits = rw at refl;
      lock = λ tickets tasks.
          rw at
          (hand_over_lock args.slots args.ends.head.0 args.ends.tail.0 args.wait.now args.registrations.now
          tickets tasks
          c.requires.0
          c.requires.1);
      tells = λ tickets tasks z.
          record { let_in = c.front_waiter-let_in.ensures args.wait.now tickets tasks z; by = args.owner.0 };
    }
