-- A tool's answer in numbers: 0 where there is a result, else the paper's number of the refusal.
use Rattle.std.specs.Prelude.{ℕ, Result, Ok, Err}
use Rattle.refusals.specs.declared.Refused.{Refused}
use Rattle.refusals.specs.Number.{number}
use Rattle.tools.specs.declared.AnswerC.{AnswerC}

abbrev pub numbers : Result ℕ Refused → AnswerC
numbers (Ok length) = record { number = 0; line = 0; length = length }
numbers (Err f) = record { number = number f.refusal; line = f.line; length = 0 }
