-- What happens in a list of picks: the events of the picks that are taken, in their order.
use Rattle.std.specs.Prelude.{ℕ, List}
use Rattle.std.proofs.Math.Option.{Option, none, some}
use Rattle.runs.specs.Traces as Traces
use Rattle.lock.specs.History as LH
use Rattle.runs.specs.Counts.{is}
use Rattle.tasks.specs.Flags.{Flags}
use Rattle.tasks.specs.History as Th
use Rattle.tasks.specs.Playing as P
use Rattle.machine.specs.State.{Setup, State}
use Rattle.machine.specs.Event.{Handed, Event, minds, pushes, finds_full, tries_and_owns, tries_in_vain, takes_ticket, registers, waits, receives, owns, drains, fills, takes, takes_none, hands_over, leaves, event}
use Rattle.machine.specs.Step.{lock_op, task_op, step, finished}

abbrev pub Happening : Type 0
Happening = Traces.Happening Event

abbrev pub trace : Setup → State → List ℕ → List Happening
trace c = Traces.trace (finished c) (step c) (event c)

-- how often something happens: the sum of what each event counts for
abbrev pub tally : (Event → ℕ) → List Happening → ℕ
tally = Traces.tally

-- 1 for a receipt of task i, an ending of task i, a hand-over
abbrev pub is_receipt : ℕ → Event → ℕ
is_receipt = P.is_receipt task_op

abbrev pub is_ending : ℕ → Event → ℕ
is_ending = P.is_ending task_op

-- and for a step of work on it
abbrev pub is_work : ℕ → Event → ℕ
is_work = P.is_work task_op

-- of a flag, what comes to access a by a delivery or a notice
abbrev pub brings : (Flags → ℕ) → ℕ → Event → ℕ
brings = P.brings task_op

abbrev pub by_lock : (LH.Op → ℕ) → Option LH.Op → ℕ
by_lock f none = 0
by_lock f (some op) = f op

abbrev pub is_hand_over : Event → ℕ
is_hand_over e = by_lock LH.hands_over (lock_op e)

-- 1 for a receipt of task i that is a taking from the ready list
abbrev taking_of : ℕ → Th.Op → ℕ
taking_of i (Th.minds d) = 0
taking_of i (Th.gives j js) = 0
taking_of i (Th.holds j) = 0
taking_of i (Th.takes j) = is j i
taking_of i (Th.receives j) = 0

abbrev pub is_taking : ℕ → Event → ℕ
is_taking i e = P.by (taking_of i) (task_op e)

-- the task that is handed over to its taker with an event, if any
abbrev pub handed_with : Event → Option Handed
handed_with (minds d) = none
handed_with (pushes i is) = none
handed_with finds_full = none
handed_with tries_and_owns = none
handed_with tries_in_vain = none
handed_with takes_ticket = none
handed_with (registers t) = none
handed_with waits = none
handed_with (receives t i) = none
handed_with (owns t) = none
handed_with (drains p k) = none
handed_with (fills n v i is) = none
handed_with (takes i is) = none
handed_with takes_none = none
handed_with (hands_over n o) = o
handed_with (leaves o) = o

-- 1 for a hand-over of task i to its taker
abbrev handing_of : ℕ → Option Handed → ℕ
handing_of i none = 0
handing_of i (some h) = is h.task i

abbrev pub is_handing : ℕ → Event → ℕ
is_handing i e = handing_of i (handed_with e)
