-- `count_of` meets its contract.
use mathlib.Core.Path.{sym}
use Rattle.plan.specs.declared.order.Order.TheVariants.{Rounds as rounds, Seeded as seeded}
use Rattle.picks.specs.LineLaws.{count_picks}
use Rattle.picks.proofs.count_of.Goals as goal

pub returns-in-Rounds : goal.returns-in-Rounds
returns-in-Rounds c = rw (c.in-Rounds.is, c.from-in-Rounds.ensures) (sym (count_picks c.args.workers (rounds c.in-Rounds.count) c.requires.0))

pub returns-in-Seeded : goal.returns-in-Seeded
returns-in-Seeded c =
    rw (c.in-Seeded.is, c.from-in-Seeded.ensures) (sym (count_picks c.args.workers (seeded c.in-Seeded.count c.in-Seeded.seed) c.requires.0))
