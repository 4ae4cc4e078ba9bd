-- `put_chain` meets its contract. Assumes nothing.
use Rattle.std.proofs.Common.{◌≡◌, ℕ, ◌+◌, ◌*◌, ◌-◌, ◌≤◌, List}
use Rattle.text.specs.Decimals.{number_size}
use Rattle.text.specs.Writing.{Wrote}
use Rattle.chain.specs.Links.{Leads}
use Rattle.chain.proofs.Lines.{left, Going}
use Rattle.chain.proofs.line.put_chain.Given as goal

-- each field has at most `number_size` bytes, and each task is later than the one before it
abbrev pub invariant-loop-at : goal.invariant-loop-at
invariant-loop-at l =
    (l.to.out.ghost_name ≡ l.initial.to.out.ghost_name)
    × (l.initial.at ≤ l.at)
    × (l.to.at + number_size * l.initial.at ≤ l.initial.to.at + number_size * l.at)
    × ((xs : List ℕ) → Leads l.links l.n l.initial.at xs
    → Going l.links l.n (λ after last. Wrote l.initial.to.out.now l.initial.to.at (left xs) last after) l.to.out.now l.at l.to.at)

abbrev pub decreases-loop-at : goal.decreases-loop-at
decreases-loop-at l = l.n - l.at
