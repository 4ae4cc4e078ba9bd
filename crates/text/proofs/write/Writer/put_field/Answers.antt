-- `text::write::Writer::put_field` meets its contract: the bytes, then the end. Assumes nothing.
use mathlib.Core.Path.{refl}
use Rattle.text.specs.WriterLaws.{writes_then}
use Rattle.text.proofs.write.Writer.put_field.Goals as goal

pub returns : goal.returns
returns c =
    writes_then c.put_bytes.ensures refl c.put_byte.ensures
