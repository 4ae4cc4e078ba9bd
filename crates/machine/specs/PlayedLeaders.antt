-- Who leads the lock, computed pick by pick: nobody, who owns, or who is due.
use Rattle.std.specs.Prelude.{ℕ, ◌≡◌, refl, List, [], ◌∷◌, ◌++◌, replicate}
use Rattle.machine.specs.declared.Leader.{Leader}
use Rattle.machine.specs.declared.Leader.TheVariants.{Nobody, Owner, Due}
use Rattle.machine.specs.State.{Setup}
use Rattle.machine.specs.Step.{after}
use Rattle.machine.specs.Whereabouts.{owner, due, leader}
use Rattle.machine.specs.Computing.{computing}
use Rattle.machine.specs.Played.{free, with, two}

-- what is played, the picks up to a moment, and who leads then
pub record Led : Type 0 where
  pub setup : Setup
  pub picks : List ℕ
  pub by : Leader

abbrev pub AllLed : List Led → Type 0
AllLed [] = Unit {0}
AllLed (m ∷ ms) = (leader m.setup (after m.setup m.picks) ≡ m.by) × AllLed ms

abbrev pub one : ℕ → Setup
one workers = with workers (free [] ∷ [])

-- worker 1 owns, worker 0 creates and pushes the task and waits behind it
abbrev pub until_waiting : List ℕ
until_waiting = replicate 3 1 ++ replicate 5 0

abbrev pub leds : List Led
leds =
    -- the first ticket's turn has come from the start: its worker is due before it has registered and after, and owns when it looks
    record { setup = one 2; picks = []; by = Nobody }
    ∷ record { setup = one 2; picks = 1 ∷ []; by = Due 1 }
    ∷ record { setup = one 2; picks = 1 ∷ 1 ∷ []; by = Due 1 }
    ∷ record { setup = one 2; picks = 1 ∷ 1 ∷ 1 ∷ []; by = Owner 1 }
    -- worker 1 serves worker 0 and is owner until it leaves; then the lock is free, though worker 0 has yet to look
    ∷ record { setup = one 2; picks = until_waiting ++ replicate 5 1; by = Owner 1 }
    ∷ record { setup = one 2; picks = until_waiting ++ replicate 6 1; by = Nobody }
    -- worker 2 has the ticket behind worker 0's: it is due, and the served worker is not
    ∷ record { setup = one 3; picks = until_waiting ++ 2 ∷ replicate 7 1; by = Due 2 }
    -- what is left in a worker's cell from an earlier ticket makes it no served one
    ∷ record { setup = two; picks = replicate 3 1 ++ replicate 8 0 ++ replicate 6 1 ++ replicate 3 0; by = Due 0 }
    ∷ []

-- each of them, by computation
pub leaders_played : AllLed leds
unfolding computing owner due
leaders_played = (refl, (refl, (refl, (refl, (refl, (refl, (refl, (refl, tt))))))))
