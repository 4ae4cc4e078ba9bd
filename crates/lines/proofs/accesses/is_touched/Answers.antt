-- `lines::accesses::is_touched` meets its contract: the row's first accesses are the task's. Assumes nothing.
use Rattle.std.specs.Prelude.{ℕ, ◌≡◌, eqb, take}
use Rattle.std.proofs.Common.{rules, sym, ap, ◌∙◌, tests}
use Rattle.std.specs.List.{list_any}
use Rattle.std.proofs.lemmas.Iterator.{YieldsList-from_slice}
use Rattle.std.proofs.lemmas.Iterator.Search.{any_from_yields_List}
use Rattle.kept.specs.declared.tasks.Row.{Row}
use Rattle.kept.specs.Tasks.{spread}
use Rattle.lines.proofs.Touches.{spread_first, any_touches}
use Rattle.lines.proofs.accesses.is_touched.Goals as goal

pub returns : goal.returns
returns c t xs count row =
    let address = c.args.address in
    let first = take c.args.n c.args.row.now.accesses in
    let is : first ≡ xs =
    ap (λ (r : Row). take c.args.n r.accesses) row ∙ ap (λ (k : ℕ). take k (spread xs)) (sym count) ∙ spread_first xs in
    any_from_yields_List (λ a. eqb a.address address) _ _ c.any.result c.any.ensures.ran (YieldsList-from_slice first (cc))
    (λ x b q k. search (rules, tests))
    ∙ ap (list_any (λ a. eqb a.address address)) is ∙ any_touches address xs
