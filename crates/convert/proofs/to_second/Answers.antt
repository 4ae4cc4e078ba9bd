-- `convert::to_second` meets its contract: by what is read of the text. Assumes nothing.
use Rattle.std.specs.Prelude.{◌≡◌, Err}
use Rattle.std.proofs.Common.{rules, ap, ◌∙◌}
use Rattle.tools.specs.Result.{outcome}
use Rattle.tools.specs.Told.{and_told}
use Rattle.convert.proofs.Answering.{second_refuses, has_own_line, second_writes}
use Rattle.convert.proofs.to_second.Goals as goal

pub rewrite-requires : goal.rewrite-requires
rewrite-requires c =
    has_own_line c.args.text.now c.outline.result c.outline.ensures _ c.in_ok-plan.was

pub returns-in_err-plan : goal.returns-in_err-plan
returns-in_err-plan c =
    let refused = c.in_err-plan.field-0.0 in
    let same : c.from_residual.result ≡ Err refused = search rules in
    let w =
    and_told c.args.output.now _ _ (ap (λ a. outcome a c.args.output.now) same
    ∙ second_refuses c.args.text.now c.outline.result c.outline.ensures c.args.output.now refused c.in_err-plan.was) in
    record { outcome = w.0; told = w.1 }

pub returns : goal.returns
returns c =
    let w =
    and_told c.args.output.now _ _
    (second_writes c.args.text.now c.outline.result c.outline.ensures _ c.in_ok-plan.was
    c.args.output.now _ _ c.spelled_out.ensures c.rewrite.ensures) in
    record { outcome = w.0; told = w.1 }
