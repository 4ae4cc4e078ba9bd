-- `draw` meets its contract: by the kind of the source.
use Rattle.picks.specs.SourceLaws.{draws_turn, draws_seeded}
use Rattle.picks.proofs.draw.Goals as goal

pub returns-in-InTurn : goal.returns-in-InTurn
returns-in-InTurn c =
    let low = rw c.in-InTurn.is at c.requires in
    rw (c.in-InTurn.is, c.next_in_turn.ensures) (draws_turn c.args.workers _ low)

pub returns-in-Seeded : goal.returns-in-Seeded
returns-in-Seeded c =
    let some = rw c.in-Seeded.is at c.requires in
    rw (c.in-Seeded.is, c.seeded_worker.ensures, c.next_state-state.ensures) (draws_seeded c.args.workers _ some)
