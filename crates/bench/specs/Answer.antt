-- What the bench answers for any text: its check, a run of it, and what both leave in store and output.
use Rattle.std.specs.Prelude.{ℕ, ◌^◌, ◌-◌, true, false, List, [], ◌∷◌, ◌++◌, length, replicate, drop, ltb}
use Rattle.refusals.specs.declared.Refusal.TheVariants.{TextTooLong, StoreTooShort}
use Rattle.text.specs.Text.{bytes, decimal, line}
use Rattle.plan.specs.Reading.{Reading, accepted, refused, reading, is_too_long}
use Rattle.refusals.specs.Number.{number}
use Rattle.reader.specs.declared.CheckedText.{CheckedText}
use Rattle.reader.specs.Verdict.{verdict}
use Rattle.orders.specs.Reached.{reached}
use Rattle.play.specs.Outcome.{Outcome, report_of, refusal, written}

-- the answer of a check
abbrev pub check : List ℕ → CheckedText
check text = verdict text

abbrev pub text_size : ℕ
text_size = 65536

abbrev pub store_size : ℕ
store_size = 8192

-- the store as a run leaves it: its first 8,192 numbers end as 0
abbrev pub cleared : List ℕ → List ℕ
cleared store = replicate store_size 0 ++ drop store_size store

module _ (limit : ℕ) (store output : List ℕ) where
  unfoldable pub played : Reading → Outcome
  played (accepted p) = written (cleared store) output (reached p limit).picks (report_of p limit)
  played (refused r n) = refusal (cleared store) output r n

  -- the whole answer of a run of a text: its length is tested first, the store's second, the output's last
  unfoldable pub run : List ℕ → Outcome
  run text =
      elim (is_too_long text) [
        | true ↦ refusal store output TextTooLong 0
        | false ↦ elim (ltb (length store) store_size) [ true ↦ refusal store output StoreTooShort 0 | false ↦ played (reading text) ]
      ]

-- what the program prints for a text: the report, or one line
unfoldable pub printed_for : Reading → List ℕ
printed_for (accepted p) = report_of p (2 ^ 64 - 1)
printed_for (refused r n) = line (bytes "X" ∷ decimal (number r) ∷ decimal n ∷ [])

abbrev pub printed : List ℕ → List ℕ
printed text = printed_for (reading text)
