-- The code's view of a line that has ended: how it is judged.
use Rattle.std.specs.Prelude.{ℕ, Result, Ok, Err}
use Rattle.refusals.specs.declared.Refusal.{Refusal}
use Rattle.lines.specs.declared.accesses.Accesses.{Accesses}
use Rattle.lines.specs.declared.line.Kind.{Kind}
use Rattle.lines.specs.declared.line.Kind.TheVariants as kinds
use Rattle.lines.specs.declared.line.Line.{Line}
use Rattle.lines.specs.Accesses.{limits_of}

-- a line whose place and numbers have no fault, by its kind: a task's is task number n
abbrev pub judged_kind : Kind → Accesses → ℕ → Result (Unit {0}) Refusal
judged_kind (kinds.Workers workers form) a n = Ok tt
judged_kind kinds.Task a n = limits_of a n
judged_kind (kinds.Mask m) a n = Ok tt
judged_kind (kinds.Order o) a n = Ok tt

abbrev pub judged_after : Result (Unit {0}) Refusal → Kind → Accesses → ℕ → Result (Unit {0}) Refusal
judged_after (Err r) kind a n = Err r
judged_after (Ok x) kind a n = judged_kind kind a n

abbrev pub judged : Line → Accesses → ℕ → Result (Unit {0}) Refusal
judged line a n = judged_after line.judged line.kind a n
