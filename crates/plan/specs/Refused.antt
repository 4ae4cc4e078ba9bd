-- The refusals that the reading of a text gives: 6 with line 0, or one that the plan's author causes, with a line from 1.
use Rattle.std.specs.Prelude.{◌≡◌, ◌≤◌, ◌⊎◌}
use Rattle.refusals.specs.declared.Refusal.{Refusal}
use Rattle.refusals.specs.declared.Refusal.TheVariants.{TooFewSlots, EmptyMask}
use Rattle.refusals.specs.Number.{number}

-- the refusals that the plan's author causes: 1 to 5, 9 and 11
abbrev pub ByAuthor : Refusal → Type 0
ByAuthor r = (number r ≤ 5) ⊎ (r ≡ TooFewSlots) ⊎ (r ≡ EmptyMask)
