-- `device::give` meets its contract.
use Rattle.duties.proofs.Held.{own_stored}
use Rattle.duties.proofs.Dealing.{first_add, gave}
use Rattle.duties.proofs.device.give.Goals as goal

pub take_add-requires : goal.take_add-requires
take_add-requires c =
    let ((m, w, a), any) = c.requires in
    ((own_stored a).long, (own_stored a).adds_at_lem, any)

pub returns : goal.returns
returns c =
    let meaning = c.take_add.ensures.meaning in
    record {
      numbers = c.take_add.ensures.numbers;
      meaning = λ m k w i is a can. gave a i is _ (meaning (a.st w) (a.t.mail w) i is (rw (first_add a can) at (own_stored a))).1 k;
      oldest = λ m w a i is e. (meaning (a.st w) (a.t.mail w) i is (rw e at (own_stored a))).0;
    }
