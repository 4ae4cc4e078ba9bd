-- `go_to` meets its contract.
use mathlib.Core.Path.{sym}
use Rattle.steps.proofs.Parts.{station_long}
use Rattle.lock_steps.proofs.Places.{gone}
use Rattle.lock_steps.proofs.go_to.Goals as goal

pub slice_bounds-go-end-2 : goal.slice_bounds-go-end-2
slice_bounds-go-end-2 c =
    sym (station_long c.args.own.now c.requires)

pub returns : goal.returns
returns c =
    gone c.args.own.now c.go.new.own c.args.place c.args.number c.requires c.go.auto.own
    c.go.ensures.meaning
