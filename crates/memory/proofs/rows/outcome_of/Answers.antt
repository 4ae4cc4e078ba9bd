-- `rows::outcome_of` meets its contract: each field is read from the row. Assumes nothing.
use mathlib.Core.Path.{refl}
use Rattle.memory.proofs.rows.outcome_of.Goals as goal

pub returns : goal.returns
returns c = refl
