-- `text::write::Writer::put_option` meets its contract: by whether there is a number. Assumes nothing.
use Rattle.text.specs.Text.{bytes}
use Rattle.text.proofs.write.Writer.put_option.Goals as goal

pub returns-in-None-clause-wrote : goal.returns-in-None-clause-wrote
unfolding bytes
returns-in-None-clause-wrote c = rw c.in-None.is c.put_field.ensures
