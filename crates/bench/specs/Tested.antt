-- What a run answers, by the two lengths that are tested before its text is read.
use Rattle.std.specs.Prelude.{ℕ, ◌≤◌, ◌<◌, ◌≡◌, List, length}
use Rattle.std.proofs.Math.Path.{refl}
use borrow.Author.Tests.{lt-ltb, le-ltb}
use Rattle.refusals.specs.declared.Refusal.TheVariants.{TextTooLong, StoreTooShort}
use Rattle.plan.specs.Reading.{reading}
use Rattle.play.specs.Outcome.{refusal}
use Rattle.bench.specs.Answer.{text_size, store_size, played, run}

module _ (limit : ℕ) (store output text : List ℕ) where
  pub run_long : text_size < length text → run limit store output text ≡ refusal store output TextTooLong 0
  unfolding run
  run_long l = rw (run, lt-ltb text_size (length text) l) refl

  module _ (short : length text ≤ text_size) where
    pub run_small : length store < store_size → run limit store output text ≡ refusal store output StoreTooShort 0
    unfolding run
    run_small l = rw (run, le-ltb text_size (length text) short, lt-ltb (length store) store_size l) refl

    pub run_read : store_size ≤ length store → run limit store output text ≡ played limit store output (reading text)
    unfolding run
    run_read room = rw (run, le-ltb text_size (length text) short, le-ltb (length store) store_size room) refl
