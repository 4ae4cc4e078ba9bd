-- What the numbers of its share say of a worker that can take a step.
use Prim.Native.Nat.{ℕ, ◌+◌, ◌<◌}
use mathlib.Core.Path.{◌≡◌, ◌∙◌}
use mathlib.Core.Logic.{◌⊎◌}
use mathlib.Core.Bool.{true, false}
use mathlib.Core.List.{List, [], ◌∷◌}
use mathlib.Core.Option.{none, some}
use lib.ListN.{get_or}
use Rattle.tasks.specs.History.{Duty}
use Rattle.tasks.specs.Duties.{duty, creating}
use Rattle.memory.specs.Layout as numbers
use Rattle.memory.specs.Memory.{to_create}
use Rattle.memory.specs.Standing as part
use Rattle.steps.specs.Layout.{station_size}
use Rattle.steps.specs.Memory.{Memory, Able}
use Rattle.steps.proofs.Parts.{part_at}
use Rattle.steps.proofs.Acting.{own_stored}

module _ {m : Memory} {own : List ℕ} {w : ℕ} (a : Able m own w) where
  pub has_duty : (numbers.free < get_or own (station_size + numbers.stand) 0) ⊎ (0 < get_or own (station_size + numbers.mail_count) 0)
      → (d : Duty) × (duty (a.s.stand w) (a.s.tasks.mail w) ≡ some d)
  has_duty has = part.has_duty (own_stored a) (rw (part_at own numbers.stand, part_at own numbers.mail_count) has)

  pub free_of_duty : get_or own (station_size + numbers.stand) 0 ≡ numbers.free → get_or own (station_size + numbers.mail_count) 0 ≡ 0
      → duty (a.s.stand w) (a.s.tasks.mail w) ≡ none
  free_of_duty stand mail =
      part.free_of_duty (own_stored a) (part_at own numbers.stand ∙ stand) (part_at own numbers.mail_count ∙ mail)

  pub nothing_to_add : get_or own (station_size + numbers.adds_count) 0 ≡ 0 → a.s.tasks.adds w ≡ []
  nothing_to_add z = part.nothing_to_add (own_stored a) (part_at own numbers.adds_count ∙ z)

  pub first_to_add : 0 < get_or own (station_size + numbers.adds_count) 0 → (i : ℕ) × (is : List ℕ) × (a.s.tasks.adds w ≡ i ∷ is)
  first_to_add l = part.first_to_add (own_stored a) (rw (part_at own numbers.adds_count) l)

  -- creating
  pub creates : to_create m.counts.tally ≡ true → (d : Duty) × (creating a.c.tasks a.s.tasks.creation ≡ some d)
  creates = part.creates a.c.tasks m.counts.tally a.holds.tasks.tasks a.s.tasks.creation a.holds.tasks.creation

  pub all_created : to_create m.counts.tally ≡ false → creating a.c.tasks a.s.tasks.creation ≡ none
  all_created =
      part.all_created a.c.tasks m.counts.tally a.holds.tasks.tasks a.s.tasks.creation a.holds.tasks.creation
