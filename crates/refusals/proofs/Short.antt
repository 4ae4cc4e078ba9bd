-- A refusal's number has one digit or two. Assumes nothing.
use Prim.Native.Nat.{◌≤◌, ◌<◌, ◌^◌}
use native.Mathlib.Omega.{arith}
use lib.ListN.{length}
use Rattle.refusals.specs.declared.Refusal.{Refusal}
use Rattle.refusals.specs.declared.Refusal.TheVariants.{Malformed, OutOfRange, Misplaced, TooMany, AddressTwice, TextTooLong, StoreTooShort, OutputTooShort, TooFewSlots, OtherSizes, EmptyMask}
use Rattle.text.specs.Text.{decimal}
use Rattle.refusals.specs.Number.{number}
use Rattle.text.specs.Decimals.{decimal_short}

two_digits : (r : Refusal) → number r < 10 ^ 2
two_digits Malformed = omega arith
two_digits OutOfRange = omega arith
two_digits Misplaced = omega arith
two_digits TooMany = omega arith
two_digits AddressTwice = omega arith
two_digits TextTooLong = omega arith
two_digits StoreTooShort = omega arith
two_digits OutputTooShort = omega arith
two_digits TooFewSlots = omega arith
two_digits OtherSizes = omega arith
two_digits EmptyMask = omega arith

pub number_short : (r : Refusal) → length (decimal (number r)) ≤ 2
number_short r = decimal_short 1 (number r) (two_digits r)
