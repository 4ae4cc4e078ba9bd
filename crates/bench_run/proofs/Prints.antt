-- What a run leaves in an output that is long enough is what is to be printed. Assumes nothing.
use Prim.Native.Nat.{ℕ, ◌-◌, ◌^◌, ◌≤◌, ◌<◌}
use mathlib.Core.Path.{◌≡◌, refl, ap, ◌∙◌}
use mathlib.Core.Logic.{⊎_elim}
use mathlib.Core.List.{List, ◌++◌}
use native.Mathlib.Omega.{arith}
use lib.ListN.{length, take, drop}
use lib.Seq.{sets-eq}
use borrow.Author.Tests.{le-ltb}
use Rattle.runs.specs.Update.{order}
use Rattle.std.specs.Prelude.{Result, Ok, Err}
use Rattle.refusals.specs.declared.Refused.{Refused}
use Rattle.text.specs.Text.{line}
use Rattle.plan.specs.Plan.{Plan}
use Rattle.plan.specs.Reading.{Reading, accepted, refused, reading}
use Rattle.plan.specs.Lengths.{reading_long}
use Rattle.refusals.specs.Number.{number}
use Rattle.text.specs.Writing.{fields, Wrote}
use Rattle.refusals.specs.Line.{refusal_fields}
use Rattle.play.specs.declared.Ran.{Ran}
use Rattle.orders.specs.Reached.{reached}
use Rattle.report.specs.Sizes.{longest}
use Rattle.play.specs.Outcome.{Outcome, report_of, written}
use Rattle.tools.proofs.Printing.{front}
use Rattle.bench.specs.Answer.{text_size, store_size, cleared, played, run, printed_for, printed}
use Rattle.bench.specs.Tested.{run_long, run_read}
use Rattle.play.specs.Short.{accepted_short}

abbrev no_limit : ℕ
no_limit = 2 ^ 64 - 1

-- an answer and the output after it, where these bytes are to be printed
abbrev Prints : List ℕ → List ℕ → Result Ran Refused → List ℕ → Type 0
Prints bs output (Ok ran) after = (ran.length ≡ length bs) × (after ≡ bs ++ drop (length bs) output)
Prints bs output (Err x) after = (line (refusal_fields (number x.refusal) x.line) ≡ bs) × (after ≡ output)

abbrev Outputs : List ℕ → List ℕ → Outcome → Type 0
Outputs bs output o = Prints bs output o.answer o.output

module _ (store output text : List ℕ) where
  written_fits : (picks : ℕ) (bs : List ℕ) → length bs ≤ length output → Outputs bs output (written (cleared store) output picks bs)
  unfolding written
  written_fits picks bs h = rw (le-ltb (length output) (length bs) h, written) (refl, refl)

  played_prints : (x : Reading) → ((p : Plan) → x ≡ accepted p → length (report_of p no_limit) ≤ length output)
      → Outputs (printed_for x) output (played no_limit store output x)
  unfolding played printed_for
  played_prints (accepted p) h = written_fits (reached p no_limit).picks (report_of p no_limit) (h p refl)
  played_prints (refused r n) h = (refl, refl)

  run_prints : store_size ≤ length store → longest ≤ length output → Outputs (printed text) output (run no_limit store output text)
  unfolding printed_for
  run_prints h k =
      ⊎_elim
      (λ (l : text_size < length text). rw (run_long no_limit store output text l, reading_long text l) (refl, refl))
      (λ (l : length text ≤ text_size). rw (run_read no_limit store output text l h)
      (played_prints (reading text) (λ p q. omega (arith, accepted_short text p q no_limit))))
      (order text_size (length text))

module _ (store output text : List ℕ) (h : store_size ≤ length store) (k : longest ≤ length output) (a : Result Ran Refused) (left after : List ℕ)
    (e : record { answer = a; store = left; output = after } ≡ run no_limit store output text) where
  ended : Prints (printed text) output a after
  ended = rw (← e) at (run_prints store output text h k)

  -- the store is as the run leaves it; n bytes at the front of the last output are to be printed
  abbrev Answered : ℕ → List ℕ → Type 0
  Answered n last =
      (left ≡ (run no_limit store output text).store)
      × (((n ≤ length last) × (n ≡ length (take n last))) × ((take n last ≡ printed text) × (drop n last ≡ drop n output)))

  answered : (n : ℕ) (last : List ℕ) → n ≡ length (printed text) → last ≡ printed text ++ drop n output → Answered n last
  answered n last p q =
      let f = front n (printed text) output last p (q ∙ ap (λ (k : ℕ). printed text ++ drop k output) p) in
      (ap (λ (o : Outcome). o.store) e, ((f.within, f.whole), (f.bytes, f.later)))

  pub reports : (ran : Ran) → a ≡ Ok ran → Answered ran.length after
  reports ran q =
      let (x, y) : Prints (printed text) output (Ok ran) after = rw q at ended in
      answered ran.length after x (rw x y)

  pub refuses : (x : Refused) → a ≡ Err x → (end : ℕ) (last : List ℕ)
      → Wrote after 0 (fields (refusal_fields (number x.refusal) x.line)) end last
      → end ≤ 26 → Answered end last
  refuses f q end last w short =
      let (x, y) : Prints (printed text) output (Err f) after = rw q at ended in
      let bs = line (refusal_fields (number f.refusal) f.line) in
      let stored = w.stores ∙ sets-eq bs after 0 (omega (arith, w.place, ap length y)) in
      answered end last (omega (arith, w.place, ap length x)) (rw (w.place, ← x, ← y) stored)
