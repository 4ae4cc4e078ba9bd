-- What the store held before has no effect: stores of one length give the same answer and the same output.
use Rattle.std.specs.Prelude.{ℕ, ◌≡◌, Bool, List, length}
use Rattle.std.proofs.Math.Path.{refl}
use Rattle.std.proofs.Common.{sym, ap, ◌∙◌}
use Rattle.std.proofs.Math.Bool.{true, false}
use Rattle.std.proofs.Math.Dec.{ltb}
use Rattle.plan.specs.Reading.{Reading, accepted, refused, reading, is_too_long}
use Rattle.orders.specs.Reached.{reached}
use Rattle.play.specs.Outcome.{Outcome, report_of, written}
use Rattle.bench.specs.Answer.{store_size, cleared, played, run}

abbrev Alike : Outcome → Outcome → Type 0
Alike a b = (a.answer ≡ b.answer) × (a.output ≡ b.output)

module _ (limit : ℕ) (store other output : List ℕ) where
  written_alike : (picks : ℕ) (bs : List ℕ) → Alike (written (cleared store) output picks bs) (written (cleared other) output picks bs)
  unfolding written
  written_alike picks bs = go (ltb (length output) (length bs)) refl
    where
      go : (b : Bool) → ltb (length output) (length bs) ≡ b
          → Alike (written (cleared store) output picks bs) (written (cleared other) output picks bs)
      go true e = (rw (written, e) refl, rw (written, e) refl)
      go false e = (rw (written, e) refl, rw (written, e) refl)

  played_alike : (x : Reading) → Alike (played limit store output x) (played limit other output x)
  unfolding played
  played_alike (accepted p) = written_alike (reached p limit).picks (report_of p limit)
  played_alike (refused r n) = (refl, refl)

  pub store_unread : (text : List ℕ) → length store ≡ length other → Alike (run limit store output text) (run limit other output text)
  unfolding run
  store_unread text l = go (is_too_long text) (ltb (length store) store_size) refl refl (ap (λ n. ltb n store_size) (sym l))
    where
      go : (a b : Bool) → is_too_long text ≡ a → ltb (length store) store_size ≡ b → ltb (length other) store_size ≡ ltb (length store) store_size
          → Alike (run limit store output text) (run limit other output text)
      go true b d e f = (rw (run, d) refl, rw (run, d) refl)
      go false true d e f = let g = f ∙ e in (rw (run, d, e, g) refl, rw (run, d, e, g) refl)
      go false false d e f = let g = f ∙ e in rw (run, d, e, g) (played_alike (reading text))
