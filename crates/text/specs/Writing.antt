-- Bytes written into an array from a place on, as far as it reaches. The place goes on where the array has ended: what is written into
-- an empty array is only counted.
use Rattle.std.specs.Prelude.{ℕ, ◌+◌, ◌^◌, ◌<◌, ◌≡◌, List, [], ◌∷◌, ◌++◌, length}
use Rattle.std.proofs.lemmas.List.Edits.{sets}
use Rattle.text.specs.Text.{line}

-- what is written: bytes, a field with the tab or the line feed after it, or the fields of a line
pub data Said : Type 0 where
  plain : List ℕ → Said
  field : List ℕ → ℕ → Said
  fields : List (List ℕ) → Said

abbrev pub said : Said → List ℕ
said (plain bs) = bs
said (field f end) = f ++ end ∷ []
said (fields fs) = line fs

-- its end is a place: a number of 64 bits
pub record Ends (at : ℕ) (what : Said) : Type 0 where
  pub short : at + length (said what) < 2 ^ 64

-- it was written from a place on, and nothing else; `next` is the place after it
pub record Wrote (out : List ℕ) (at : ℕ) (what : Said) (next : ℕ) (after : List ℕ) : Type 0 where
  pub place : next ≡ at + length (said what)
  pub stores : after ≡ sets out at (said what)
