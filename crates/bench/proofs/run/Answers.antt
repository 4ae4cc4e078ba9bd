-- `run` meets its contract.
use native.Mathlib.Omega.{arith}
use mathlib.Core.Path.{sym, ◌∙◌}
use Rattle.bench.proofs.Told.{and_told}
use Rattle.bench.specs.Tested.{run_long, run_small, run_read}
use Rattle.bench.proofs.run.Goals as goal

pub returns-then-text-gt-TEXT_SIZE : goal.returns-then-text-gt-TEXT_SIZE
returns-then-text-gt-TEXT_SIZE c =
    let x = c.args in
    let both = and_told x.limit x.store.now x.output.now x.text.now _
    (sym (run_long x.limit x.store.now x.output.now x.text.now (omega arith))) in
    record { outcome = both.0; told = both.1 }

pub returns-then-store-lt-STORE_SIZE : goal.returns-then-store-lt-STORE_SIZE
returns-then-store-lt-STORE_SIZE c =
    let x = c.args in
    let both = and_told x.limit x.store.now x.output.now x.text.now _
    (sym (run_small x.limit x.store.now x.output.now x.text.now (omega arith) (omega arith))) in
    record { outcome = both.0; told = both.1 }

pub returns-then-text-le-SHORT_TEXT : goal.returns-then-text-le-SHORT_TEXT
returns-then-text-le-SHORT_TEXT c =
    let x = c.args in
    let both = and_told x.limit x.store.now x.output.now x.text.now _
    (c.run_with.ensures ∙ sym (run_read x.limit x.store.now x.output.now x.text.now (omega arith) (omega arith))) in
    record { outcome = both.0; told = both.1 }

pub returns : goal.returns
returns c =
    let x = c.args in
    let both = and_told x.limit x.store.now x.output.now x.text.now _
    (c.run_with-2.ensures ∙ sym (run_read x.limit x.store.now x.output.now x.text.now (omega arith) (omega arith))) in
    record { outcome = both.0; told = both.1 }
