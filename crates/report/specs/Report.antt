-- The report of a state, byte for byte.
use Rattle.std.specs.Prelude.{ℕ, suc, ◌≡◌, refl, Bool, cond, List, [], ◌∷◌, ◌++◌, length, leb}
use Rattle.std.proofs.Math.Option.{Option, none, some}
use Rattle.runs.specs.Sums.{sum}
use Rattle.text.specs.Text.{bytes, digits_before, decimal, unknown, number_if, number_or_none, line}
use Rattle.plan.specs.Plan.{Task}
use Rattle.plan.specs.Permits.{permitted}
use Rattle.tasks.specs.Accesses.{task_at}
use Rattle.tasks.specs.Tasks.{Status, new, waiting, ready, held, running, over, stage}
use Rattle.machine.specs.State.{Setup, State}
use Rattle.machine.specs.Step.{finished}
use Rattle.machine.specs.declared.Leader.{Leader}
use Rattle.machine.specs.declared.Leader.TheVariants.{Nobody, Owner, Due}
use Rattle.machine.specs.Whereabouts.{leader}

abbrev pub outcome_name : Bool → List ℕ
outcome_name finished = cond finished (bytes "finished") (bytes "open")

abbrev pub status_name : Status → List ℕ
status_name new = bytes "new"
status_name waiting = bytes "waiting"
status_name ready = bytes "ready"
status_name held = bytes "held"
status_name running = bytes "run"
status_name over = bytes "over"

-- a number that is known from a status on
abbrev pub known_from : Status → Status → ℕ → List ℕ
known_from first status n = number_if (leb (stage first) (stage status)) n

-- ---- the fields of the lines

-- the outcome, the picks taken, and the total of permitted workers over all tasks
abbrev pub outcome_fields : Bool → ℕ → ℕ → List (List ℕ)
outcome_fields finished picks total = bytes "E" ∷ outcome_name finished ∷ decimal picks ∷ decimal total ∷ []

-- worker and receipt appear from run on, the ending when the task is over; the giver from the hand-over on that lets the taker in, so
-- while the task is still held, or from the taking on
abbrev pub task_fields : ℕ → List ℕ → Status → ℕ → ℕ → ℕ → Option ℕ → List (List ℕ)
task_fields i label status runner receipt ending giver =
    bytes "T" ∷ decimal i ∷ label ∷ status_name status
    ∷ known_from running status runner ∷ known_from running status receipt ∷ known_from over status ending ∷ number_or_none giver ∷ []

-- computed: a task that worker 1 gives to worker 0, held before the hand-over and after it, and over
pub given_shown : (line (task_fields 0 (bytes "a") held 0 0 0 none) ≡ bytes "T\t0\ta\theld\t-\t-\t-\t-\n")
    × (line (task_fields 0 (bytes "a") held 0 0 0 (some 1)) ≡ bytes "T\t0\ta\theld\t-\t-\t-\t1\n")
    × (line (task_fields 0 (bytes "a") over 0 13 14 (some 1)) ≡ bytes "T\t0\ta\tover\t0\t13\t14\t1\n")
unfolding bytes digits_before decimal line
given_shown = (refl, refl, refl)

-- who leads the lock: the owner's number, `>` and the number of the worker that is due, or `-` where the lock is free
abbrev pub leader_field : Leader → List ℕ
leader_field Nobody = unknown
leader_field (Owner w) = decimal w
leader_field (Due w) = bytes ">" ++ decimal w

abbrev pub lock_fields : ℕ → ℕ → Leader → List (List ℕ)
lock_fields head tail leader = bytes "L" ∷ decimal head ∷ decimal tail ∷ leader_field leader ∷ []

-- computed: a lock that is free, one that worker 1 owns, and one that is spoken for by worker 12
pub leader_shown : (line (lock_fields 64 65 Nobody) ≡ bytes "L\t64\t65\t-\n")
    × (line (lock_fields 66 66 (Owner 1)) ≡ bytes "L\t66\t66\t1\n")
    × (line (lock_fields 70 68 (Due 12)) ≡ bytes "L\t70\t68\t>12\n")
unfolding bytes digits_before decimal line
leader_shown = (refl, refl, refl)

-- ---- the lines

abbrev pub total_permitted : Setup → ℕ
total_permitted c = sum (length c.tasks) (λ i. permitted c.workers (task_at c.tasks i))

module _ (c : Setup) (s : State) where
  abbrev pub outcome_line : List ℕ
  outcome_line = line (outcome_fields (finished c s) s.picks (total_permitted c))

  abbrev pub task_line : ℕ → Task → List ℕ
  task_line i t =
      let now = s.tasks in
      line (task_fields i t.label (now.status i) (now.runner i) (now.receipt i) (now.ending i) (s.giver i))

  -- the lines of the tasks from number i on
  unfoldable pub task_lines : ℕ → List Task → List ℕ
  task_lines i [] = []
  task_lines i (t ∷ ts) = task_line i t ++ task_lines (suc i) ts

  abbrev pub lock_line : List ℕ
  lock_line = line (lock_fields s.lock.head s.lock.tail (leader c s))

  unfoldable pub report : List ℕ
  report = outcome_line ++ task_lines 0 c.tasks ++ lock_line
