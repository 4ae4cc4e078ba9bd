-- The paper's number of a refusal.
use Rattle.std.specs.Prelude.{ℕ}
use Rattle.refusals.specs.declared.Refusal.{Refusal}
use Rattle.refusals.specs.declared.Refusal.TheVariants.{Malformed, OutOfRange, Misplaced, TooMany, AddressTwice, TextTooLong, StoreTooShort, OutputTooShort, TooFewSlots, OtherSizes, EmptyMask}

abbrev pub number : Refusal → ℕ
number Malformed = 1
number OutOfRange = 2
number Misplaced = 3
number TooMany = 4
number AddressTwice = 5
number TextTooLong = 6
number StoreTooShort = 7
number OutputTooShort = 8
number TooFewSlots = 9
number OtherSizes = 10
number EmptyMask = 11
