-- `bench_check::answer::put_accepted` meets its contract: field after field. Assumes nothing.
use Rattle.std.proofs.Common.{rules, arith, refl}
use Rattle.text.specs.Text.{bytes}
use Rattle.text.specs.WriterLaws.{writes_field, writes_last, writes_next}
use Rattle.bench_check.proofs.answer.put_accepted.Goals as goal

pub returns : goal.returns
unfolding bytes
returns c =
    let line = writes_field c.put_field.ensures (writes_last c.put_number.ensures.wrote refl) in
    let letter = writes_next 1 (omega arith) c.put_field.ensures in
    (let wrote = line.wrote in let same = line.same in search rules, omega (arith, letter, c.put_number.ensures.short))
