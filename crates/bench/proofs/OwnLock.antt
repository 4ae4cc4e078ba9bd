-- What the last line of a run's own report says of the lock: its last field, byte for byte, is one of three, each exactly in its case.
use Rattle.std.specs.Prelude.{ℕ, suc, ◌<◌, ◌≡◌, refl, ◌↔◌, List, ◌++◌}
use Rattle.std.proofs.Common.{ap}
use Rattle.text.specs.Text.{bytes, decimal, line}
use Rattle.plan.specs.Plan.{Plan}
use Rattle.plan.specs.Reading.{accepted, reading}
use Rattle.machine.specs.declared.Leader.{Leader}
use Rattle.machine.specs.declared.Leader.TheVariants.{Nobody, Owner, Due}
use Rattle.machine.specs.State.{Setup, State}
use Rattle.machine.specs.Whereabouts.{leader}
use Rattle.machine.specs.Leaders.{Owns, IsDue}
use Rattle.report.specs.Report.{leader_field, lock_fields, outcome_line, task_lines, report}
use Rattle.report.specs.Apart.{leaders_apart}
use Rattle.orders.specs.Reached.{setup_of, reached}
use Rattle.orders.proofs.AcceptedRuns.{own_leaders}
use Rattle.play.specs.Outcome.{report_of}
use Rattle.bench.specs.OwnLock.{last_field}

module _ (text : List ℕ) (p : Plan) (e : reading text ≡ accepted p) (limit : ℕ) where
  -- what is played, and the state that is reached
  abbrev setup : Setup
  setup = setup_of p

  abbrev state : State
  state = reached p limit

  pub last_line : (before : List ℕ)
      × (report_of p limit ≡ before ++ line (lock_fields state.lock.head state.lock.tail (leader setup state)))
  unfolding report
  last_line = (outcome_line setup state ++ task_lines setup state 0 p.tasks, refl)

  is : (x : Leader) → (last_field p limit ≡ leader_field x) ↔ (leader setup state ≡ x)
  is x = (leaders_apart (leader setup state) x, ap leader_field)

  -- `-` exactly where tail = head + 1
  pub free_field : (last_field p limit ≡ bytes "-") ↔ (state.lock.tail ≡ suc state.lock.head)
  free_field =
      let (to, from) = (own_leaders text p e limit).free in
      (λ f. to ((is Nobody).0 f), λ h. (is Nobody).1 (from h))

  -- a worker's number exactly while it owns
  pub owner_field : (w : ℕ) → (last_field p limit ≡ decimal w) ↔ ((w < p.workers) × Owns setup state w)
  owner_field w =
      let (to, from) = (own_leaders text p e limit).owner w in
      (λ f. to ((is (Owner w)).0 f), λ h. (is (Owner w)).1 (from h))

  -- `>` and its number exactly while its turn has come and it hasn't looked, registered or not
  pub due_field : (w : ℕ) → (last_field p limit ≡ bytes ">" ++ decimal w) ↔ ((w < p.workers) × IsDue setup state w)
  due_field w =
      let (to, from) = (own_leaders text p e limit).due w in
      (λ f. to ((is (Due w)).0 f), λ h. (is (Due w)).1 (from h))
