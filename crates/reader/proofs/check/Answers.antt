-- `reader::check` meets its contract: what is answered in outline. Assumes nothing.
use Rattle.std.proofs.Common.{◌≡◌, ap, ◌∙◌, rules}
use Rattle.plan.specs.Reading.{reading}
use Rattle.reader.specs.declared.ReadText.{ReadText}
use Rattle.reader.specs.Verdict.{checked_plan, checked_text, told, told_verdict, outlined_verdict}
use Rattle.reader.proofs.check.Goals as goal

pub returns : goal.returns
returns c =
    let text = c.args.text.now in
    let r = c.outline-read.result in
    let checked : c.map.result ≡ checked_plan r.plan = search rules in
    let outlined = ap (λ (r : ReadText). checked_text (checked_plan r.plan) r.looks) c.outline-read.ensures in
    let answer = ap (λ x. checked_text x r.looks) checked ∙ outlined ∙ outlined_verdict text (reading text) in
    record {
      answer = answer;
      told = ap told answer ∙ told_verdict text;
    }
