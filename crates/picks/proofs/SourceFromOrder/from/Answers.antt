-- The source of an order line begins with its picks.
use Rattle.picks.specs.LineLaws.{opens_rounds, opens_seeded}
use Rattle.picks.proofs.SourceFromOrder.from.Goals as goal

pub returns-in-Rounds : goal.returns-in-Rounds
returns-in-Rounds c W some formed = rw c.in-Rounds.is (opens_rounds W c.in-Rounds.count some)

pub returns-in-Seeded : goal.returns-in-Seeded
returns-in-Seeded c W some formed = rw c.in-Seeded.is (opens_seeded W c.in-Seeded.seed c.in-Seeded.count some)
