-- `longest_chain` meets its contract: by what is read of the text. Assumes nothing.
use Rattle.std.specs.Prelude.{◌≡◌, Err}
use Rattle.std.proofs.Common.{refl, arith, length-take, rules}
use Rattle.reader.specs.Given.{read_refused}
use Rattle.tools.specs.Told.{and_told}
use Rattle.chain.proofs.Telling.{kept_tasks, answer_refused, answer_accepted}
use Rattle.chain.proofs.longest_chain.Goals as goal

pub slice_bounds-rows-end : goal.slice_bounds-rows-end
slice_bounds-rows-end c =
    (kept_tasks _ _ _ _ c.read.ensures refl c.in_ok-plan.plan c.in_ok-plan.was).0

pub slice_bounds-tell-end : goal.slice_bounds-tell-end
slice_bounds-tell-end c =
    let (rows, p, accepted, kept) = kept_tasks _ _ _ _ c.read.ensures refl c.in_ok-plan.plan c.in_ok-plan.was in
    omega (arith, rows, length-take c.in_ok-plan.plan.tasks c.read.new.rows)

pub tell-requires : goal.tell-requires
tell-requires c =
    let (rows, p, accepted, kept) = kept_tasks _ _ _ _ c.read.ensures refl c.in_ok-plan.plan c.in_ok-plan.was in
    (p.tasks, kept)

pub returns-in_err-plan : goal.returns-in_err-plan
returns-in_err-plan c =
    let output = c.args.output.now in
    let f = c.in_err-plan.field-0.0 in
    let is : c.from_residual.result ≡ Err f = search rules in
    let refused = read_refused _ _ _ _ c.read.ensures f.refusal f.line c.in_err-plan.was in
    let (outcome, told) = and_told output _ _ (answer_refused output c.args.text.now _ _ refused) in
    rw is record { outcome = outcome; told = told }

pub returns : goal.returns
returns c =
    let output = c.args.output.now in
    let (rows, p, accepted, kept) = kept_tasks _ _ _ _ c.read.ensures refl c.in_ok-plan.plan c.in_ok-plan.was in
    let (outcome, told) = and_told output _ _ (answer_accepted output c.args.text.now p accepted _ (c.tell.ensures p.tasks kept)) in
    record { outcome = outcome; told = told }
