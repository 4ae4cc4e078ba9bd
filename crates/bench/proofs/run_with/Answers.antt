-- `run_with` meets its contract.
use native.Mathlib.Omega.{arith}
use mathlib.Core.Path.{◌≡◌, refl}
use borrow.Author.Rules.{rules}
use Rattle.std.specs.Prelude.{Result, Err}
use Rattle.refusals.specs.declared.Refused.{Refused}
use Rattle.play.specs.declared.Ran.{Ran}
use Rattle.reader.specs.Given.{read_refused}
use Rattle.bench.proofs.Running.{read_loaded, played_refused, played_accepted, cleared_again, cleared_zeros}
use Rattle.bench.proofs.run_with.Goals as goal

pub run_plan-answer-requires : goal.run_plan-answer-requires
run_plan-answer-requires c =
    record {
      room = (omega (arith, c.clear.auto.store, c.requires.2), cleared_zeros c.args.store.now _ c.clear.ensures);
      loaded = read_loaded _ _ _ _ _ c.read.ensures c.in_ok-read.was refl c.requires.1;
    }

pub returns-in_err-read : goal.returns-in_err-read
returns-in_err-read c =
    let x = c.in_err-read.field-0.0 in
    let same : c.from_residual.result ≡ Err x = search rules in
    rw same (played_refused _ _ _ _ _ c.clear.ensures x.refusal x.line (read_refused _ _ _ _ c.read.ensures x.refusal x.line c.in_err-read.was))

pub returns : goal.returns
returns c =
    let args = c.args in
    let (p, e, loaded) = read_loaded _ _ _ _ _ c.read.ensures c.in_ok-read.was refl c.requires.1 in
    let ran = c.run_plan-answer.ensures in
    played_accepted args.limit args.store.now args.output.now args.text.now _
    (cleared_again args.store.now _ c.run_plan-answer.new.store _ c.requires.2 c.clear.ensures ran.later c.clear-2.ensures)
    p _ _ e (ran.answer p _ e loaded)
