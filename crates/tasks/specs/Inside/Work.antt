-- The work that is left, and that every operation takes at least 1 of it: 7 for each access (its link, four flags, two SENT flags),
-- 6 for each task (open, close, give, hold, receipt, ending), and the tasks' cost.
use Rattle.std.specs.Prelude.{ℕ, ◌+◌, ◌*◌, ◌-◌, ◌≡◌}
use mathlib.Core.List.{List}
use Rattle.std.proofs.Math.ListN.{length}
use Rattle.runs.specs.Sums.{sum}
use Rattle.plan.specs.Plan.{Task}
use Rattle.tasks.specs.Tasks.{Stand, free, telling, working, Status, new, waiting, ready, held, running, over}
use Rattle.tasks.specs.Tasks.{Creation, opening, linking, Tasks, start, linked}
use Rattle.tasks.specs.Accesses.{task_at, total, total_cost}
use Rattle.tasks.specs.Flags.{Flags}

-- ---- of the accesses

-- a flag summed over all accesses
abbrev pub flagged : List Task → (Flags → ℕ) → (ℕ → Flags) → ℕ
flagged ts f flags = sum (total ts) (λ a. f (flags a))

abbrev pub done_of : List Task → (ℕ → Flags) → Creation → ℕ
done_of ts flags creation =
    linked ts creation
    + flagged ts (λ f. f.read) flags
    + flagged ts (λ f. f.write) flags
    + flagged ts (λ f. f.done) flags
    + flagged ts (λ f. f.next) flags
    + flagged ts (λ f. f.sent_read) flags
    + flagged ts (λ f. f.sent_write) flags

-- ---- of the tasks

-- a task by its status, but for the step that gives it to the device and the steps of work that are left of it
abbrev pub unmade : ℕ → Status → ℕ
unmade cost new = 6 + cost
unmade cost waiting = 4 + cost
unmade cost ready = 3 + cost
unmade cost held = 2 + cost
unmade cost running = 1
unmade cost over = 0

abbrev pub steps_left : Stand → ℕ
steps_left free = 0
steps_left (telling a f) = 0
steps_left (working i n) = n

-- the task that is open has its close to come
abbrev pub unclosed : Creation → ℕ
unclosed (opening i) = 0
unclosed (linking i a) = 1

-- the statuses of the tasks, weighed
abbrev pub weighed : List Task → (ℕ → Status → ℕ) → (ℕ → Status) → ℕ
weighed ts weight status = sum (length ts) (λ i. weight i (status i))

-- the tasks in the lists of those to add
abbrev pub listed : ℕ → (ℕ → List ℕ) → ℕ
listed W adds = sum W (λ w. length (adds w))

abbrev pub unmade_at : List Task → ℕ → Status → ℕ
unmade_at ts i = unmade (task_at ts i).cost

abbrev pub to_do : ℕ → List Task → Tasks → (ℕ → Stand) → ℕ
to_do W ts t st = weighed ts (unmade_at ts) t.status + unclosed t.creation + listed W t.adds + sum W (λ w. steps_left (st w))

-- all of it
unfoldable pub work_left : ℕ → List Task → Tasks → (ℕ → Stand) → ℕ
work_left W ts t st = to_do W ts t st + (7 * total ts - done_of ts t.flags t.creation)

-- how much that is at the start
abbrev pub WorkAtStart : ℕ → List Task → Type 0
WorkAtStart W ts = work_left W ts start (λ _. free) ≡ 7 * total ts + 6 * length ts + total_cost ts
