-- `create::is_creating` meets its contract.
use Rattle.memory.specs.Memory.{to_create}
use Rattle.duties.proofs.create.is_creating.Goals as goal

pub returns-in-None : goal.returns-in-None
unfolding to_create
returns-in-None c =
    rw (to_create, c.in-None.is)

pub returns-in-Some : goal.returns-in-Some
unfolding to_create
returns-in-Some c =
    rw (to_create, c.in-Some.is)
