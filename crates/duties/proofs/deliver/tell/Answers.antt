-- `deliver::tell` meets its contract.
use native.Mathlib.Omega.{arith}
use mathlib.Core.Path.{refl}
use Rattle.tasks.specs.Tasks.{free}
use Rattle.duties.proofs.Held.{own_stored}
use Rattle.duties.proofs.Telling.{noticing, told}
use Rattle.duties.proofs.deliver.tell.Goals as goal

pub bounds-own-1 : goal.bounds-own-1
bounds-own-1 c =
    omega (arith, noticing c.requires)

pub offset_bounds-accesses-own : goal.offset_bounds-accesses-own
offset_bounds-accesses-own c =
    omega (arith, noticing c.requires)

pub bounds-accesses-own : goal.bounds-accesses-own
bounds-accesses-own c =
    (noticing c.requires).access

pub bounds-own-2 : goal.bounds-own-2
bounds-own-2 c =
    omega (arith, noticing c.requires)

pub overflow_mul-row : goal.overflow_mul-row
overflow_mul-row c =
    omega (arith, noticing c.requires)

pub overflow_add-row : goal.overflow_add-row
overflow_add-row c =
    omega (arith, noticing c.requires)

pub stand-requires : goal.stand-requires
stand-requires c =
    (noticing c.requires).long

pub overflow_sub-result : goal.overflow_sub-result
overflow_sub-result c =
    (noticing c.requires).pending

pub returns : goal.returns
returns c m k w a op is =
    let stood = c.stand.ensures.meaning (a.st w) free (a.t.mail w) (a.t.adds w) (own_stored a) refl in
    told a c.requires.1 _ stood k op is
