-- `convert::put_workers` meets its contract: field after field. Assumes nothing.
use mathlib.Core.Path.{refl}
use Rattle.text.specs.Text.{bytes}
use Rattle.text.specs.WriterLaws.{writes_field, writes_last}
use Rattle.convert.proofs.put_workers.Goals as goal

pub returns-in-First-clause-wrote : goal.returns-in-First-clause-wrote
unfolding bytes
returns-in-First-clause-wrote c =
    rw c.in-First.is (writes_field c.put_field.ensures (writes_last c.put_number.ensures.wrote refl))

pub returns-in-Second-clause-wrote : goal.returns-in-Second-clause-wrote
unfolding bytes
returns-in-Second-clause-wrote c =
    rw c.in-Second.is
    (writes_field c.put_field.ensures (writes_field c.put_number-in-Second.ensures.wrote
    (writes_field c.put_number-in-Second-2.ensures.wrote (writes_last c.put_number-in-Second-3.ensures.wrote refl))))
