-- What stands in the code for stands, statuses, messages and the creation of tasks.
use Rattle.std.specs.Prelude.{ℕ, zero, suc, ◌+◌, ◌*◌, ◌≡◌, Bool, cond, Some, None}
use Rattle.std.specs.Prelude.{Option as RustOption}
use Rattle.std.proofs.Math.Option.{Option, none, some}
use Rattle.tasks.specs.Flags.{flag_number}
use Rattle.tasks.specs.Tasks.{Message, Stand, free, telling, working, Status, new, waiting, ready, held, running, over, Creation, opening, linking}
use Rattle.memory.specs.Layout as layout
use Rattle.memory.specs.declared.share.Letter.{Letter}
use Rattle.memory.specs.declared.rows.Status.{Status as RustStatus}
use Rattle.memory.specs.declared.rows.Status.TheVariants.{New, Waiting, Ready, Held, Running, Over}

-- a stand as a number and what it is about and what is left of it; a notice has READ 1 and WRITE 2 left
abbrev pub Coded : ℕ → ℕ → ℕ → Stand → Type 0
Coded stand about left free = stand ≡ layout.free
Coded stand about left (telling a f) = (stand ≡ layout.telling) × (about ≡ a) × (left ≡ f.read + 2 * f.write)
Coded stand about left (working i n) = (stand ≡ layout.working) × (about ≡ i) × (left ≡ n)

-- a status as the code has it
abbrev pub status_of : Status → RustStatus
status_of new = New
status_of waiting = Waiting
status_of ready = Ready
status_of held = Held
status_of running = Running
status_of over = Over

-- a number and 1 more, or 0 for none
abbrev pub option_code : Option ℕ → ℕ
option_code none = 0
option_code (some n) = suc n

-- 1 for a reader, by whether it is one
abbrev pub reader_number : Bool → ℕ
reader_number reader = cond reader 1 0

-- an option as the code has it; there with its number, and from it
abbrev pub option_of : Option ℕ → RustOption ℕ
option_of none = None
option_of (some n) = Some n

abbrev pub code_of : RustOption ℕ → ℕ
code_of None = 0
code_of (Some n) = suc n

abbrev pub coded_by : ℕ → RustOption ℕ
coded_by zero = None
coded_by (suc n) = Some n

-- a message as the code has it
abbrev pub letter : Message → Letter
letter m = record { to = m.to; flags = flag_number m.flags; sender = option_of m.sender }

-- creation by the task, and where it is open by its next access
abbrev pub Making : ℕ → RustOption ℕ → Creation → Type 0
Making task access (opening i) = (task ≡ i) × (access ≡ None)
Making task access (linking i a) = (task ≡ i) × (access ≡ Some a)
