-- `wait_at` meets its contract.
use mathlib.Core.Path.{sym}
use Rattle.steps.specs.Layout.{LOOKING}
use Rattle.steps.proofs.Parts.{station_long}
use Rattle.lock_steps.proofs.Places.{gone, noted}
use Rattle.lock_steps.proofs.wait_at.Goals as goal

pub slice_bounds-wait_with-end-2 : goal.slice_bounds-wait_with-end-2
slice_bounds-wait_with-end-2 c =
    sym (station_long c.args.own.now c.requires)

pub returns : goal.returns
returns c =
    let own = c.args.own.now in
    let waits = c.wait_with in
    record {
      gone = gone own waits.new.own LOOKING c.args.ticket c.requires waits.auto.own waits.ensures.meaning;
      slot = noted own waits.new.own LOOKING c.args.ticket c.args.slot c.requires waits.ensures.numbers;
    }
