-- `convert::rewrite` meets its contract: by the lengths of text and output. Assumes nothing.
use Rattle.std.proofs.Common.{rules, arith, ap, ◌∙◌}
use Rattle.tools.specs.Result.{outcome}
use Rattle.convert.proofs.Rewriting.{too_long, too_short, whole}
use Rattle.convert.proofs.rewrite.Goals as goal

pub returns-then-length-gt-TEXT_SIZE : goal.returns-then-length-gt-TEXT_SIZE
returns-then-length-gt-TEXT_SIZE c =
    too_long c.args.text.now c.args.workers c.args.own c.requires.1 _ c.workers_size.ensures.0
    c.args.output.now c.args.wanted _ c.workers_size-2.ensures.0 (omega arith)

pub returns-then-output-length : goal.returns-then-output-length
returns-then-output-length c =
    too_short c.args.text.now c.args.workers c.args.own c.requires.1 _ c.workers_size.ensures.0
    c.args.output.now c.args.wanted _ c.workers_size-2.ensures.0 (omega arith) (omega arith)

pub returns : goal.returns
returns c =
    let first = c.put_workers.ensures.wrote in
    let last = c.put_bytes.ensures in
    let same = last.same ∙ first.same in
    ap (outcome _) (search rules)
    ∙ whole c.args.text.now c.args.workers c.args.own c.requires.1 _ c.workers_size.ensures.0
    c.args.output.now c.args.wanted _ c.workers_size-2.ensures.0 (omega arith) (omega arith)
    first.wrote last.wrote
