-- `lines::accesses::no_accesses` meets its contract: nothing is read. Assumes nothing.
use Rattle.std.specs.Prelude.{refl}
use Rattle.runs.specs.Every.{every}
use Rattle.plan.specs.Line.{repeats}
use Rattle.lines.proofs.accesses.no_accesses.Goals as goal

pub returns : goal.returns
unfolding every repeats
returns c t =
    record { count = refl; out = refl; again = λ l. refl; kept = λ l. refl }
