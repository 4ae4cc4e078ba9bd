-- `flags::is_satisfied` meets its contract: a reader by READ, a writer by READ and WRITE.
use mathlib.Core.Path.{ap}
use Rattle.memory.specs.Codes.{reader_number}
use Rattle.duties.proofs.Flagging.{satisfied_reader, satisfied_both, satisfied_not}
use Rattle.duties.proofs.flags.is_satisfied.Goals as goal

pub returns-then-reader : goal.returns-then-reader
returns-then-reader c f once is =
    satisfied_reader f once _ is _ (ap reader_number c.if-reader.true)

pub returns-then-flags-eq-READ_WRITE : goal.returns-then-flags-eq-READ_WRITE
returns-then-flags-eq-READ_WRITE c f once is =
    satisfied_both f once _ is _ (ap reader_number c.if-reader.false) c.if-flags-eq-READ_WRITE.true

pub returns : goal.returns
returns c f once is =
    satisfied_not f once _ is _ (ap reader_number c.if-reader.false) c.if-flags-eq-READ_WRITE.false
