-- No report of an accepted plan is longer than 14,439 bytes.
use Rattle.std.specs.Prelude.{ℕ, ◌^◌, ◌≤◌, ◌<◌, ◌≡◌, refl, List, length}
use Rattle.std.proofs.Common.{arith}
use Rattle.runs.specs.Counts.{one, one_le}
use Rattle.runs.specs.Sums.{sum_le, sum_const}
use Rattle.plan.specs.Plan.{Plan}
use Rattle.plan.specs.Permits.{permits, permitted}
use Rattle.plan.specs.Reading.{accepted, reading}
use Rattle.plan.specs.Orders.{picks_up_to}
use Rattle.plan.proofs.Accepted.{accepted_well_formed}
use Rattle.tasks.specs.Accesses.{task_at}
use Rattle.machine.proofs.Safety.{noted}
use Rattle.machine.specs.declared.Leader.{Leader}
use Rattle.machine.specs.declared.Leader.TheVariants.{Nobody, Owner, Due}
use Rattle.machine.specs.Whereabouts.{leader}
use Rattle.report.specs.Report.{total_permitted}
use Rattle.report.specs.Sizes.{longest, LeaderBelow, Small}
use Rattle.report.proofs.Sizes.{report_short}
use Rattle.orders.specs.Reached.{setup_of, reached}
use Rattle.orders.proofs.AcceptedRuns.{playable, own_picks, own_givers, own_leaders, numbers_small}
use Rattle.play.specs.Outcome.{report_of}

module _ (text : List ℕ) (p : Plan) (e : reading text ≡ accepted p) (limit : ℕ) where
  -- 32 workers for each of 128 tasks
  total_few : total_permitted (setup_of p) < 10 ^ 4
  total_few =
      let formed = accepted_well_formed text p e in
      let each : (i : ℕ) → permitted p.workers (task_at p.tasks i) ≤ 32 = λ i.
      omega (
        arith,
        sum_le p.workers (λ w. one (permits (task_at p.tasks i) w)) (λ w. 1) (λ w l. one_le (permits (task_at p.tasks i) w)),
        sum_const p.workers 1,
        formed.workers_few,
      ) in
      omega (
        arith,
        sum_le (length p.tasks) (λ i. permitted p.workers (task_at p.tasks i)) (λ i. 32) (λ i l. each i),
        sum_const (length p.tasks) 32,
        formed.tasks_few,
      )

  -- who leads is a worker
  leader_below : (x : Leader) → leader (setup_of p) (reached p limit) ≡ x → LeaderBelow (2 ^ 64) x
  leader_below Nobody h = tt
  leader_below (Owner w) h =
      omega (arith, (((own_leaders text p e limit).owner w).0 h).0, (accepted_well_formed text p e).workers_few)
  leader_below (Due w) h = omega (arith, (((own_leaders text p e limit).due w).0 h).0, (accepted_well_formed text p e).workers_few)

  pub small : Small (setup_of p) (reached p limit)
  small =
      let formed = accepted_well_formed text p e in
      let notes = noted (setup_of p) (playable text p e) (picks_up_to limit p) (own_picks text p e limit) in
      let (k, h, t) = numbers_small text p e limit in
      let few = formed.workers_few in
      record {
        tasks = formed.tasks_few;
        labels = λ i l. (formed.tasks i l _).label_short;
        picks = omega arith;
        permitted = total_few;
        head = omega arith;
        tail = omega arith;
        leader = leader_below (leader (setup_of p) (reached p limit)) refl;
        runner = λ i l. omega (arith, (notes i).0);
        receipt = λ i l. omega (arith, (notes i).1);
        ending = λ i l. omega (arith, (notes i).2);
        giver = λ i g l h. omega (arith, (own_givers text p e limit i).worker g h);
      }

  pub accepted_short : length (report_of p limit) ≤ longest
  accepted_short = report_short (setup_of p) (reached p limit) small
