-- What the run of an accepted text itself answers: its report, and `finished` where the finishing figure applies.
use Rattle.std.specs.Prelude.{ℕ, ◌≤◌, ◌≡◌, refl, true, List, [], ◌∷◌, ◌++◌, length, drop}
use Rattle.std.proofs.Math.Path.{ap}
use Rattle.std.proofs.Common.{◌∙◌, append_assoc}
use Rattle.runs.specs.Picks.{Regular}
use Rattle.text.specs.Text.{bytes, decimal, line}
use Rattle.plan.specs.Plan.{Plan}
use Rattle.plan.specs.Reading.{accepted, reading}
use Rattle.plan.proofs.Accepted.{accepted_length}
use Rattle.plan.specs.Orders.{picks_up_to}
use Rattle.machine.specs.Step.{finished}
use Rattle.machine.specs.Figures.{finishing_figure}
use Rattle.report.specs.Report.{total_permitted, outcome_line, task_lines, lock_line, report}
use Rattle.orders.specs.Reached.{setup_of, reached}
use Rattle.orders.proofs.AcceptedRuns.{own_finish}
use Rattle.play.specs.Outcome.{report_of, reports, written}
use Rattle.play.specs.Written.{written_whole}
use Rattle.bench.specs.Answer.{store_size, cleared, played, run}
use Rattle.bench.specs.Tested.{run_read}
use Rattle.bench.specs.OwnAnswer.{Begins}

regroup : (a b c d : List ℕ) → (a ++ b ++ c) ++ d ≡ a ++ (b ++ (c ++ d))
regroup a b c d = simp append_assoc

report_begins : (p : Plan) (limit : ℕ) (bs xs : List ℕ) → outcome_line (setup_of p) (reached p limit) ≡ bs → Begins (report_of p limit) xs
    → Begins bs xs
unfolding report
report_begins p limit bs xs e (rest, f) =
    let c = setup_of p in
    let s = reached p limit in
    let ls = task_lines c s 0 p.tasks ++ (lock_line c s ++ rest) in
    (ls, f ∙ regroup (outcome_line c s) (task_lines c s 0 p.tasks) (lock_line c s) rest ∙ ap (λ (l : List ℕ). l ++ ls) e)

-- the first line of the report of a finished run
outcome_finished : (p : Plan) (limit : ℕ) → finished (setup_of p) (reached p limit) ≡ true
    → outcome_line (setup_of p) (reached p limit)
    ≡ line (bytes "E" ∷ bytes "finished" ∷ decimal (reached p limit).picks ∷ decimal (total_permitted (setup_of p)) ∷ [])
outcome_finished p limit e = rw e refl

-- ---- the answer of a run of an accepted text, with a store that is long enough
module _ (text : List ℕ) (p : Plan) (e : reading text ≡ accepted p) (limit : ℕ) (store output : List ℕ)
    (room : store_size ≤ length store) where
  -- the report of the state that the plan's own picks reach, where the output is long enough for it, and else a refusal
  pub answers : run limit store output text ≡ written (cleared store) output (reached p limit).picks (report_of p limit)
  unfolding played
  answers = run_read limit store output text (accepted_length text p e) room ∙ ap (played limit store output) e

  module _ (long : length (report_of p limit) ≤ length output) where
    -- the answer says how many picks were taken and how long the report is; the output begins with the report
    pub own_answer : ((run limit store output text).answer ≡ reports (reached p limit).picks (length (report_of p limit)))
        × Begins (report_of p limit) (run limit store output text).output
    own_answer =
        let w = answers ∙ written_whole (cleared store) output (reached p limit).picks (report_of p limit) long in
        (ap (λ o. o.answer) w, (drop (length (report_of p limit)) output, ap (λ o. o.output) w))

    -- where the run is finished the output begins with the line that says so
    pub own_answer_finished : finished (setup_of p) (reached p limit) ≡ true
        → Begins (line (bytes "E" ∷ bytes "finished" ∷ decimal (reached p limit).picks ∷ decimal (total_permitted (setup_of p)) ∷ []))
        (run limit store output text).output
    own_answer_finished f = report_begins p limit _ _ (outcome_finished p limit f) own_answer.1

    -- if every B picks in a row include each worker, and there are as many as the finishing figure, the output begins with the line
    -- that says `finished`, with no more picks taken than that
    pub own_answer_finishes : (B : ℕ) → Regular p.workers B (picks_up_to limit p)
        → finishing_figure (setup_of p) B ≤ length (picks_up_to limit p)
        → (picks : ℕ) × (n : ℕ)
        × ((run limit store output text).answer ≡ reports picks n)
        × (picks ≤ finishing_figure (setup_of p) B)
        × Begins (line (bytes "E" ∷ bytes "finished" ∷ decimal picks ∷ decimal (total_permitted (setup_of p)) ∷ []))
        (run limit store output text).output
    own_answer_finishes B regular enough =
        let (f, k) = own_finish text p e limit B regular enough in
        ((reached p limit).picks, length (report_of p limit), own_answer.0, k, own_answer_finished f)
