-- A run of an accepted text that takes no pick reports the start: a plan without order lines, or a limit of 0.
use Rattle.std.specs.Prelude.{ℕ, ◌≤◌, ◌≡◌, refl, List, [], ◌++◌, length}
use Rattle.std.proofs.Math.Path.{ap}
use Rattle.std.proofs.Common.{◌∙◌, append_assoc}
use Rattle.std.proofs.Math.Seq.{take-nil}
use Rattle.text.specs.Text.{line}
use Rattle.plan.specs.Plan.{Plan}
use Rattle.plan.specs.Reading.{accepted, reading}
use Rattle.plan.specs.Orders.{picks_of_all, picks_up_to}
use Rattle.machine.specs.State.{start}
use Rattle.machine.specs.Step.{finished, after}
use Rattle.report.specs.Report.{outcome_fields, total_permitted, outcome_line, task_lines, lock_line, report}
use Rattle.orders.specs.Reached.{setup_of, reached}
use Rattle.play.specs.Written.{written_whole}
use Rattle.bench.specs.Answer.{store_size, cleared, run}
use Rattle.bench.specs.OwnAnswer.{Begins}
use Rattle.bench.proofs.OwnAnswer.{answers}
use Rattle.bench.specs.NoPicks.{start_report, reports_start}

-- its first line says that none was taken
pub start_line : (p : Plan)
    → Begins (line (outcome_fields (finished (setup_of p) (start (setup_of p))) 0 (total_permitted (setup_of p)))) (start_report p)
unfolding start report
start_line p =
    let c = setup_of p in
    let ts = task_lines c (start c) 0 p.tasks in
    let l = lock_line c (start c) in
    (ts ++ l, append_assoc (outcome_line c (start c)) ts l)

module _ (text : List ℕ) (p : Plan) (e : reading text ≡ accepted p) (store output : List ℕ) (room : store_size ≤ length store)
    (long : length (start_report p) ≤ length output) where
  none_taken : (limit : ℕ) → picks_up_to limit p ≡ [] → run limit store output text ≡ reports_start limit store output p
  unfolding start after
  none_taken limit q =
      let reached_start : reached p limit ≡ start (setup_of p) = ap (after (setup_of p)) q in
      answers text p e limit store output room ∙ rw reached_start (written_whole (cleared store) output 0 (start_report p) long)

  pub no_orders_lem : (limit : ℕ) → p.orders ≡ [] → run limit store output text ≡ reports_start limit store output p
  unfolding picks_of_all
  no_orders_lem limit q = none_taken limit (rw q (take-nil limit))

  pub limit_0 : run 0 store output text ≡ reports_start 0 store output p
  limit_0 = none_taken 0 refl
