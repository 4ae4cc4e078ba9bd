-- `tables::lay_out` meets its contract: the accesses are as many as the tasks say.
-- Assumes nothing.
use Rattle.tables.proofs.Tasks.{new_tasks, new_labels}
use Rattle.tables.proofs.Chains.{new_accesses}
use Rattle.tables.proofs.lay_out.Goals as goal

pub returns : goal.returns
returns c =
    let a = c.args in
    let numbers = c.lay_plan_tasks-total.ensures in
    let others = c.lay_plan_accesses.ensures in record {
      numbers = λ text p e size has.
          let (rows, labels, total) = numbers text p e size has in
          (rows, rw total at (others text p e size has total), labels);
      meaning = λ text p e size has.
          let (rows, labels, total) = numbers text p e size has in (
            new_tasks text p e a.count size a.plan.now has _ _ rows,
            new_accesses p.tasks _ _ (rw total at (others text p e size has total)),
            new_labels text p e a.count size a.plan.now has _ _ labels,
          );
    }
