-- `tell` meets its contract. Assumes nothing.
use Rattle.std.proofs.Common.{◌∙◌, rules}
use Rattle.chain.specs.Longest.{longest}
use Rattle.chain.proofs.Telling.{leads_longest, can_put, told_short, told_whole}
use Rattle.chain.proofs.tell.Goals as goal

pub put_chain-requires : goal.put_chain-requires
put_chain-requires c =
    let (ts, kept) = c.requires in
    can_put kept c.link_tasks.ensures.size (c.link_tasks.ensures.known ts kept)

pub returns-then-output-nowhere : goal.returns-then-output-nowhere
returns-then-output-nowhere c ts kept =
    let count = c.link_tasks.ensures.size ∙ kept.count in
    let starts = c.find_first-first.ensures ts count (c.link_tasks.ensures.known ts kept) in
    let size = c.put_chain.ensures (longest ts) (leads_longest count starts) in
    told_short count starts size.wrote c.args.output.now c.if-output-nowhere.true

pub put_chain-requires-2 : goal.put_chain-requires-2
put_chain-requires-2 c =
    let (ts, kept) = c.requires in
    can_put kept c.link_tasks.ensures.size (c.link_tasks.ensures.known ts kept)

pub returns : goal.returns
returns c ts kept =
    let count = c.link_tasks.ensures.size ∙ kept.count in
    let starts = c.find_first-first.ensures ts count (c.link_tasks.ensures.known ts kept) in
    let leads = leads_longest count starts in
    let size = c.put_chain.ensures (longest ts) leads in
    let line = c.put_chain-2.ensures (longest ts) leads in
    let told = told_whole count starts size.wrote c.args.output.now c.if-output-nowhere.false line.wrote in
    let same = line.same in
    search rules
