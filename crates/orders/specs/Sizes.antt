-- How long a run of an accepted plan can be: so far below 2^64 that no number of it wraps.
use Rattle.std.specs.Prelude.{ℕ}

-- an order line has at most 1,000,000 rounds of 32 workers
abbrev pub most_picks : ℕ
most_picks = 32000000
