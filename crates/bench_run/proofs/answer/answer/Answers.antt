-- `bench_run::answer::answer` meets its contract: by the two answers of a run. Assumes nothing.
use Rattle.bench_run.proofs.Prints.{reports, refuses}
use Rattle.bench_run.proofs.answer.answer.Goals as goal

pub returns-in-Ok : goal.returns-in-Ok
returns-in-Ok c =
    let whole = reports c.args.store.now c.args.output.now c.args.text.now c.requires.0 c.requires.1 _ _ _
    c.run-ran.ensures.outcome _ c.in-Ok.is in
    record { store = whole.0; length = whole.1.0; bytes = whole.1.1.0; later = whole.1.1.1 }

pub returns-in-Err : goal.returns-in-Err
returns-in-Err c =
    let whole = refuses c.args.store.now c.args.output.now c.args.text.now c.requires.0 c.requires.1 _ _ _
    c.run-ran.ensures.outcome _ c.in-Err.is _ _ c.show.ensures.0 c.show.ensures.1 in
    record { store = whole.0; length = whole.1.0; bytes = whole.1.1.0; later = whole.1.1.1 }
