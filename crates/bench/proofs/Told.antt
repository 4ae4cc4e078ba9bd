-- What a run tells, by the paper's number and the values that go with it: `told` of each answer, `told_of` of a text.
use Rattle.std.specs.Prelude.{ℕ, ◌≡◌, Bool, List, length}
use Rattle.std.proofs.Math.Path.{refl}
use Rattle.std.proofs.Common.{ap, ◌∙◌}
use Rattle.std.proofs.Math.Bool.{true, false}
use Rattle.std.proofs.Math.Dec.{ltb}
use Rattle.plan.specs.Reading.{Reading, accepted, refused, reading, is_too_long}
use Rattle.orders.specs.Reached.{reached}
use Rattle.play.specs.Outcome.{Outcome, report_of, written}
use Rattle.bench.specs.Answer.{store_size, cleared, played, run}
use Rattle.bench.specs.Told.{told, told_report, told_played, told_of}

-- what a run is to tell of a text
module _ (limit : ℕ) (store output : List ℕ) where
  -- that is what it answers
  told_written : (picks : ℕ) (bs : List ℕ) → told (written (cleared store) output picks bs).answer ≡ told_report limit store output picks (length bs)
  unfolding written
  told_written picks bs = go (ltb (length output) (length bs)) refl
    where
      go : (b : Bool) → ltb (length output) (length bs) ≡ b
          → told (written (cleared store) output picks bs).answer ≡ told_report limit store output picks (length bs)
      go true e = rw (written, e) refl
      go false e = rw (written, e) refl

  told_played_lem : (x : Reading) → told (played limit store output x).answer ≡ told_played limit store output x
  unfolding played
  told_played_lem (accepted p) = told_written (reached p limit).picks (report_of p limit)
  told_played_lem (refused r n) = refl

  pub told_run : (text : List ℕ) → told (run limit store output text).answer ≡ told_of limit store output text
  unfolding run told_of
  told_run text = go (is_too_long text) (ltb (length store) store_size) refl refl
    where
      go : (a b : Bool) → is_too_long text ≡ a → ltb (length store) store_size ≡ b → told (run limit store output text).answer ≡ told_of limit store output text
      go true b d e = rw (run, told_of, d) refl
      go false true d e = rw (run, told_of, d, e) refl
      go false false d e = rw (run, told_of, d, e) (told_played_lem (reading text))

  pub and_told : (text : List ℕ) (o : Outcome) → o ≡ run limit store output text
      → (o ≡ run limit store output text) × (told o.answer ≡ told_of limit store output text)
  and_told text o e = (e, ap (λ (x : Outcome). told x.answer) e ∙ told_run text)
