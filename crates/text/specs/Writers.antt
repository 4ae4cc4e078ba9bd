-- What a writer writes.
use Rattle.std.specs.Prelude as rust
use Rattle.std.specs.Prelude.{ℕ, ◌≡◌, List}
use Rattle.text.specs.declared.write.Writer.{Writer}
use Rattle.text.specs.Text.{decimal, unknown}
use Rattle.text.specs.Writing.{Said, Wrote}

-- it wrote this at its place, into the array that it has from the first
pub record Writes (w : Writer) (what : Said) (v : Writer) : Type 0 where
  pub wrote : Wrote w.out.now w.at what v.at v.out.now
  pub same : v.out.ghost_name ≡ w.out.ghost_name

-- a number that may be none
abbrev pub option_field : rust.Option ℕ → List ℕ
option_field rust.None = unknown
option_field (rust.Some n) = decimal n
