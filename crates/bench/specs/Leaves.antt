-- What is told and left where the caller's fault comes first, computed.
use Rattle.std.specs.Prelude.{◌≡◌, refl, [], ◌∷◌, take, drop, replicate}
use Rattle.refusals.specs.declared.Refusal.TheVariants.{TextTooLong, StoreTooShort}
use Rattle.play.specs.Outcome.{refuses}
use Rattle.text.specs.Text.{bytes}
use Rattle.bench.specs.Answer.{store_size, cleared, played, run}
use Rattle.bench.specs.Computed.{computed}

-- a store of one number, with a text that is malformed: 7, and the store is untouched
pub store_first : ((run 0 (9 ∷ []) [] (bytes "X")).answer ≡ refuses StoreTooShort 0) × (take 1 (run 0 (9 ∷ []) [] (bytes "X")).store ≡ 9 ∷ [])
unfolding computed run played
store_first = (refl, refl)

-- the same store, with a text of 65,537 bytes: 6, and the store is untouched
pub text_first : run 0 (9 ∷ []) [] (replicate 65537 88) ≡ record { answer = refuses TextTooLong 0; store = 9 ∷ []; output = [] }
unfolding run
text_first = refl

-- a store of 8,193 numbers: the last one is kept
pub last_kept : drop store_size (cleared (replicate 8193 9)) ≡ 9 ∷ []
last_kept = refl
