-- `flags::passing` meets its contract: the flag number, looked at one remainder after the other.
use mathlib.Core.Path.{ap}
use Rattle.memory.specs.Codes.{reader_number}
use Rattle.duties.proofs.Flagging.{passing_closed, passing_over, passing_reader, passing_none}
use Rattle.duties.proofs.flags.passing.Goals as goal

pub returns-then-flags-eq0 : goal.returns-then-flags-eq0
returns-then-flags-eq0 c f once is =
    passing_closed f once _ is _ c.if-flags-eq0.true

pub returns-then-flags-eq1 : goal.returns-then-flags-eq1
returns-then-flags-eq1 c f once is =
    passing_over f once _ is _ c.if-flags-eq0.false c.if-flags-eq1.true

pub returns-then-reader : goal.returns-then-reader
returns-then-reader c f once is =
    passing_reader f once _ is _ c.if-flags-eq0.false c.if-flags-eq1.false (ap reader_number c.if-reader.true)

pub returns : goal.returns
returns c f once is =
    passing_none f once _ is _ c.if-flags-eq1.false (ap reader_number c.if-reader.false)
