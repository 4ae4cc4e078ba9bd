-- `deliver::set_flags` meets its contract: the change is what passes on, or is satisfied, after and not before.
use native.Mathlib.Omega.{arith}
use mathlib.Core.Path.{◌≡◌, ap₂, ◌∙◌}
use Prim.Native.Nat.{ℕ, ◌+◌, ◌-◌}
use Rattle.memory.specs.Rows.{access_row}
use Rattle.tasks.specs.Flags.{flag_number, with}
use Rattle.duties.proofs.Flagging.{passes_more}
use Rattle.duties.proofs.deliver.set_flags.Goals as goal

pub returns-clause-change : goal.returns-clause-change
returns-clause-change c reader e m once both is before brought =
    let after : (access_row c.args.accesses.now c.args.to).flags + c.args.brought ≡ flag_number (with e m) = omega (arith, before, brought) in
    let passing = c.passing.ensures (with e m) both after in
    let passed = c.passing-2.ensures e once before in
    let now = c.is_satisfied.ensures (with e m) both after in
    let earlier = c.is_satisfied-2.ensures e once before in (
      c.saturating_sub.ensures ∙ rw is at (ap₂ (λ (x y : ℕ). x - y) passing passed) ∙ passes_more reader e m,
      c.saturating_sub-2.ensures ∙ rw is at (ap₂ (λ (x y : ℕ). x - y) now earlier),
    )
