-- What a run answers and leaves in the output, by whether the output is long enough.
use Rattle.std.specs.Prelude.{ℕ, ◌≤◌, ◌<◌, ◌≡◌, refl, List, [], ◌∷◌, ◌++◌, length, drop}
use Rattle.std.proofs.Common.{lt-ltb, le-ltb}
use Rattle.refusals.specs.declared.Refusal.TheVariants.{OutputTooShort}
use Rattle.play.specs.Outcome.{reports, refuses, refusal, written}

module _ (left output : List ℕ) (picks : ℕ) (bs : List ℕ) where
  pub written_short : length output < length bs → written left output picks bs ≡ refusal left output OutputTooShort 0
  unfolding written
  written_short l = rw (lt-ltb (length output) (length bs) l, written)

  pub written_whole : length bs ≤ length output
      → written left output picks bs ≡ record {
        answer = reports picks (length bs);
        store = left;
        output = bs ++ drop (length bs) output;
      }
  unfolding written
  written_whole l = rw (le-ltb (length output) (length bs) l, written)

-- computed: a report of one byte, in an output of three bytes and in none
pub one_byte : ((written [] (1 ∷ 2 ∷ 3 ∷ []) 9 (7 ∷ [])).output ≡ 7 ∷ 2 ∷ 3 ∷ []) × ((written [] [] 9 (7 ∷ [])).answer ≡ refuses OutputTooShort 0)
unfolding written
one_byte = (refl, refl)
