-- `lock::take_ticket` meets its contract.
use mathlib.Core.Path.{refl}
use Rattle.lock.proofs.Arrays.{take_lock}
use Rattle.lock.proofs.take_ticket.Goals as goal

pub returns : goal.returns
returns c =
    record {
      ends = (refl, refl, refl);
      lock = λ slots wait registrations tickets tasks. take_lock slots _ _ wait registrations tickets tasks;
    }
