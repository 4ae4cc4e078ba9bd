-- `reader::read` meets its contract: by the length of the text. Assumes nothing.
use Rattle.std.proofs.Common.{refl}
use Rattle.reader.proofs.Turns.{gives_too_long}
use Rattle.reader.proofs.read.Goals as goal

pub returns-then-text-gt-TEXT_SIZE : goal.returns-then-text-gt-TEXT_SIZE
returns-then-text-gt-TEXT_SIZE c =
    gives_too_long _ _ c.if-text-gt-TEXT_SIZE.true refl
