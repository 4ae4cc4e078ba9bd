-- How much a chain of a plan costs at the most, and how long its line is: 409 bytes at the most.
use Rattle.std.specs.Prelude.{ℕ}

-- a sum of six digits, and each of the numbers 0 to 127 once, all with the byte after them
abbrev pub line_size : ℕ
line_size = 409
