-- `is_finished` meets its contract.
use Rattle.memory.specs.Memory as T
use Rattle.steps.specs.Memory.{part}
use Rattle.scheduler.proofs.is_finished.Goals as goal

pub is_finished-requires : goal.is_finished-requires
is_finished-requires c =
    tt

pub returns : goal.returns
returns c =
    record {
      numbers = c.is_finished.ensures.numbers;
      meaning = λ m setup s shares h.
          c.is_finished.ensures.meaning (T.memory c.args.n.tally m.rows m.accesses) setup.workers setup.tasks
          (λ v. part (shares v)) s.tasks s.stand h.tasks;
    }
