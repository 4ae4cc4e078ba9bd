-- From a tool's answer to the bytes that its program prints.
use Rattle.std.specs.Prelude.{ℕ, Result, Ok, Err, ◌≤◌, ◌≡◌, List, length, take, drop}
use Rattle.refusals.specs.declared.Refused.{Refused}
use Rattle.refusals.specs.Number.{number}
use Rattle.refusals.specs.Line.{refusal_fields}
use Rattle.text.specs.Writing.{fields, Wrote}

-- a result stands at the front already, a refusal's line is put there and has at most 26 bytes
abbrev pub Shown : Result ℕ Refused → List ℕ → ℕ → List ℕ → Type 0
Shown (Ok length) before n after = (n ≡ length) × (after ≡ before)
Shown (Err f) before n after = Wrote before 0 (fields (refusal_fields (number f.refusal) f.line)) n after × (n ≤ 26)

-- the first n bytes of an output are bs, and the later ones as they were
pub record Front (n : ℕ) (bs output after : List ℕ) : Type 0 where
  pub within : n ≤ length after
  pub whole : n ≡ length (take n after)
  pub bytes : take n after ≡ bs
  pub later : drop n after ≡ drop n output
