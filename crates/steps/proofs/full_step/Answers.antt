-- `full_step` meets its contract.
use native.Mathlib.Omega.{arith}
use mathlib.Core.Path.{refl, sym}
use Rattle.machine.specs.State.{trying}
use Rattle.steps.specs.Memory.{with_counts, Able}
use Rattle.steps.proofs.Acting.{own_stationed, own_long}
use Rattle.steps.proofs.Stepping.{full_acts}
use Rattle.steps.proofs.full_step.Goals as goal

pub slice_bounds-go-end : goal.slice_bounds-go-end
slice_bounds-go-end c =
    omega (arith, own_long c.requires.0.1)

pub slice_bounds-go-end-2 : goal.slice_bounds-go-end-2
slice_bounds-go-end-2 c =
    sym (own_stationed c.requires.0.1).long

pub go-requires : goal.go-requires
go-requires c =
    (own_stationed c.requires.0.1).long

pub returns : goal.returns
returns c m setup s shares lent long h fit =
    let x = c.args in
    let a : Able (with_counts m x.n) x.own.now x.w =
    record { c = setup; s = s; shares = shares; lent = lent; long = long; holds = h; fit = fit } in
    let (_, at, stand, mail, adds, full) = c.requires in
    full_acts a at stand mail adds full c.go.new.own (λ p q k. c.go.ensures.meaning p trying q k refl)
