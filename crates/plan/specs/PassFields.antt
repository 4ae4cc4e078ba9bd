-- What the readers of a plan's own fields answer.
use Rattle.std.specs.Prelude as rust
use Rattle.std.specs.Prelude.{ℕ, Bool, true, false, cond, ◌==◌, List, length, Result}
use Rattle.std.proofs.Math.Option.{Option, none, some}
use Rattle.text.specs.declared.read.Field.{Field}
use Rattle.text.specs.declared.read.Malformed.{Malformed}
use Rattle.text.specs.Fields.{Answers, clipped}
use Rattle.plan.specs.Plan.{Access}
use Rattle.plan.specs.Line.{'r', 'w', is_label_byte, is_label, access_of}

-- a label's byte is seen
abbrev pub is_label_seen : rust.Option ℕ → Bool
is_label_seen rust.None = false
is_label_seen (rust.Some b) = is_label_byte b

-- the length of a label
abbrev pub label_size : List ℕ → Option ℕ
label_size x = cond (is_label x) (some (length x)) none

abbrev pub ReadLabel : List ℕ → ℕ → Result (Field ℕ) Malformed → ℕ → Type 0
ReadLabel = Answers (λ n. n) label_size

-- the letter before an address is seen: whether it writes
abbrev pub writes_seen : rust.Option ℕ → rust.Option Bool
writes_seen rust.None = rust.None
writes_seen (rust.Some b) = cond (b == 'r') (rust.Some false) (cond (b == 'w') (rust.Some true) rust.None)

-- an access whose address is held in 64 bits
abbrev pub held_access : Access → Access
held_access a = record { writes = a.writes; address = clipped a.address }

abbrev pub ReadAccess : List ℕ → ℕ → Result (Field Access) Malformed → ℕ → Type 0
ReadAccess = Answers held_access access_of
