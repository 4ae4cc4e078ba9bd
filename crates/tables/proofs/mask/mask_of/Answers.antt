-- `tables::mask::mask_of` meets its contract. Assumes nothing.
use mathlib.Core.Path.{◌∙◌}
use Rattle.tables.proofs.Masks.{some_shifted, mask_is}
use Rattle.tables.proofs.mask.mask_of.Goals as goal

pub overflow_sub-workers : goal.overflow_sub-workers
overflow_sub-workers c =
    some_shifted c.args.workers c.requires

pub returns : goal.returns
returns c o e =
    c.unwrap_or.ensures ∙ mask_is c.args.workers c.requires o e
