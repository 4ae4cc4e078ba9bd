-- `refusals::Refused::put` meets its contract: field after field. Assumes nothing.
use mathlib.Core.Path.{refl, sym, ap}
use native.Mathlib.Omega.{arith}
use Rattle.text.specs.Text.{bytes, decimal}
use Rattle.text.specs.WriterLaws.{writes_field, writes_last, writes_next, writes_same}
use Rattle.refusals.proofs.Short.{number_short}
use Rattle.refusals.proofs.Refused.put.Goals as goal

pub put_number-requires-2 : goal.put_number-requires-2
put_number-requires-2 c =
    let wrote = writes_same c.put_number.ensures.wrote (ap decimal (sym c.into.ensures)) in
    let at1 = writes_next 1 (omega arith) c.put_field.ensures in
    let at2 = writes_next 2 (number_short c.args.self.refusal) wrote in
    omega (arith, at1, at2, c.requires)

pub returns-clause-short : goal.returns-clause-short
returns-clause-short c =
    let wrote = writes_same c.put_number.ensures.wrote (ap decimal (sym c.into.ensures)) in
    let at1 = writes_next 1 (omega arith) c.put_field.ensures in
    let at2 = writes_next 2 (number_short c.args.self.refusal) wrote in
    omega (arith, at1, at2, c.put_number-2.ensures.short)

pub returns-clause-wrote : goal.returns-clause-wrote
unfolding bytes
returns-clause-wrote c =
    let wrote = writes_same c.put_number.ensures.wrote (ap decimal (sym c.into.ensures)) in
    writes_field c.put_field.ensures (writes_field wrote (writes_last c.put_number-2.ensures.wrote refl))
