-- `reader::outline` meets its contract: nothing is lent to `read`. Assumes nothing.
use Rattle.std.proofs.Common.{[]}
use Rattle.plan.specs.Reading.{reading}
use Rattle.reader.specs.Verdict.{lent}
use Rattle.reader.proofs.Turns.{gives_outlined}
use Rattle.reader.proofs.outline.Goals as goal

pub returns : goal.returns
returns c =
    let text = c.args.text.now in
    let read = c.read in
    let after = lent read.new.rows read.new.orders in
    gives_outlined text (lent [] []) after read.result (reading text) read.ensures
