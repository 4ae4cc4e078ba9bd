-- What the longest chain of a plan says of the plan's own run, and of what `run` answers: how many picks were taken at the least.
use Rattle.std.specs.Prelude.{ℕ, ◌+◌, ◌*◌, ◌≤◌, ◌≡◌, true, List, [], ◌∷◌, map, length}
use Rattle.std.proofs.Common.{arith, sym, ◌∙◌}
use Rattle.std.proofs.Math.Path.{ap}
use Rattle.std.proofs.Math.Logic.{⊎_elim}
use Rattle.text.specs.Text.{bytes, decimal, line}
use Rattle.plan.specs.Plan.{Plan}
use Rattle.plan.specs.Chains.{Chain, chain_cost, last_of, last_below_lem}
use Rattle.plan.specs.Orders.{OnlyRounds}
use Rattle.plan.specs.Reading.{Reading, accepted, reading}
use Rattle.tasks.specs.Tasks.{over}
use Rattle.tasks.proofs.Playing.{all_over}
use Rattle.machine.specs.Step.{finished}
use Rattle.report.specs.Report.{total_permitted}
use Rattle.tools.specs.Result.{result, of_plan}
use Rattle.chain.specs.Longest.{longest, chain_line, chain_of}
use Rattle.chain.proofs.Ordered.{longest_or_none}
use Rattle.orders.specs.Reached.{setup_of, reached}
use Rattle.orders.proofs.AcceptedRuns.{own_chains, own_at_least}
use Rattle.play.specs.Outcome.{report_of, reports}
use Rattle.bench.specs.Answer.{store_size, run}
use Rattle.bench.specs.OwnAnswer.{Begins}
use Rattle.bench.proofs.OwnAnswer.{own_answer, own_answer_finished}
use Rattle.bench.specs.OwnChain.{longest_sum}

module _ (text : List ℕ) (p : Plan) (e : reading text ≡ accepted p) where
  -- what the tool makes of the text: the sum and the numbers of the longest chain
  pub own_line : chain_of text ≡ result (line (decimal (longest_sum p) ∷ map decimal (longest p.tasks)))
  unfolding chain_of chain_line
  own_line = ap (λ (y : Reading). of_plan (λ q. result (chain_line q.tasks)) y) e

  module _ (limit : ℕ) (done : finished (setup_of p) (reached p limit) ≡ true) where
    -- whatever the order: from the receipt of its first task to the ending of its last there were at least as many picks as its sum, and
    -- one for each of its tasks
    pub own_span : (i : ℕ) (is : List ℕ) → longest p.tasks ≡ i ∷ is
        → (reached p limit).tasks.receipt i + (longest_sum p + length (i ∷ is)) ≤ (reached p limit).tasks.ending (last_of i is)
    own_span i is q =
        let ended : (reached p limit).tasks.status (last_of i is) ≡ over =
        all_over p.workers p.tasks (reached p limit).tasks (reached p limit).stand done (last_of i is)
        (last_below_lem p.tasks i is chain) in
        rw q ((own_chains text p e limit).span i is chain ended)
      where
        chain : Chain p.tasks (i ∷ is)
        chain = ⊎_elim (λ h. rw q at h.one) (λ z. absurd (omega (arith, ap length (sym z ∙ q)))) (longest_or_none p.tasks)

    -- under an order of R lines alone a finished run took at least W times the sum, and W more for each task of the chain
    pub own_longest : OnlyRounds p.orders → p.workers * (longest_sum p + length (longest p.tasks)) ≤ (reached p limit).picks
    unfolding chain_cost
    own_longest only =
        ⊎_elim (λ h. own_at_least text p e only limit done (longest p.tasks) h.one) (λ z. rw z (omega arith))
        (longest_or_none p.tasks)

    -- so for what `run` answers and writes, beside what the tool writes
    pub own_answer_chain : OnlyRounds p.orders → (store output : List ℕ) → store_size ≤ length store
        → length (report_of p limit) ≤ length output
        → (picks : ℕ) × (n : ℕ) × (sum : ℕ) × (numbers : List ℕ)
        × ((run limit store output text).answer ≡ reports picks n)
        × Begins (line (bytes "E" ∷ bytes "finished" ∷ decimal picks ∷ decimal (total_permitted (setup_of p)) ∷ []))
        (run limit store output text).output
        × (chain_of text ≡ result (line (decimal sum ∷ map decimal numbers)))
        × (p.workers * sum ≤ picks)
    own_answer_chain only store output room long = (
      (reached p limit).picks,
      length (report_of p limit),
      longest_sum p,
      longest p.tasks,
      (own_answer text p e limit store output room long).0,
      own_answer_finished text p e limit store output room long done,
      own_line,
      omega (arith, own_longest only),
    )
