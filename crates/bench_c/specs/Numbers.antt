-- The answers of a check and of a run in numbers: 0 for what is accepted, else the paper's number of the refusal.
use Rattle.std.specs.Prelude.{Result, Ok, Err, ℕ}
use Rattle.reader.specs.declared.CheckedText.{CheckedText}
use Rattle.play.specs.declared.Ran.{Ran}
use Rattle.refusals.specs.declared.Refused.{Refused}
use Rattle.refusals.specs.Number.{number}
use Rattle.bench_c.specs.declared.CheckedC.{CheckedC}
use Rattle.bench_c.specs.declared.RanC.{RanC}

abbrev pub verdict_numbers : Result (Unit {0}) Refused → ℕ → CheckedC
verdict_numbers (Ok x) looks = record { number = 0; line = 0; looks = looks }
verdict_numbers (Err x) looks = record { number = number x.refusal; line = x.line; looks = looks }

abbrev pub checked_numbers : CheckedText → CheckedC
checked_numbers r = verdict_numbers r.checked r.looks

abbrev pub ran_numbers : Result Ran Refused → RanC
ran_numbers (Ok ran) = record { number = 0; line = 0; picks = ran.picks; length = ran.length }
ran_numbers (Err x) = record { number = number x.refusal; line = x.line; picks = 0; length = 0 }
