-- The memory with what a step lends: the numbers, and the content of the arrays that it names.
use Rattle.std.specs.Prelude.{ℕ, List}
use Rattle.std.specs.Prelude as rust
use Rattle.std.proofs.Math.Option.{Option}
use Rattle.lock.specs.Lock as L
use Rattle.lock.specs.Arrays.{lock_of}
use Rattle.lock.specs.declared.Ends.{Ends}
use Rattle.machine.specs.Event.{Handed, handed}
use Rattle.memory.specs.declared.rows.TaskRow.{TaskRow}
use Rattle.steps.specs.Memory.{Memory}
use Rattle.steps.specs.declared.Counts.{Counts}
use Rattle.steps.specs.declared.device.Device.{Device}

-- the lock in what is lent, and what worker w's hand-over of a lock gives
abbrev pub lock_in : ℕ → Ends → (wait registrations tickets cells : List ℕ) → L.Lock
lock_in slots ends wait registrations tickets cells = lock_of slots ends.head.0 ends.tail.0 wait registrations tickets cells

abbrev pub handed_in : ℕ → L.Lock → ℕ → Option Handed
handed_in slots l w = handed slots l (L.tells slots l w)

-- what an owner needs that hands over
abbrev pub with_handed : Memory → Counts → (wait registrations tickets cells : List ℕ) → (givers : List (rust.Option ℕ)) → Memory
with_handed m n wait registrations tickets cells givers =
    record {
      counts = n;
      wait = wait;
      registrations = registrations;
      tickets = tickets;
      cells = cells;
      device = record { ready = m.device.ready; givers = givers; masks = m.device.masks };
      rows = m.rows;
      accesses = m.accesses;
    }

abbrev pub with_registrations : Memory → Counts → List ℕ → Memory
with_registrations m n registrations =
    record {
      counts = n;
      wait = m.wait;
      registrations = registrations;
      tickets = m.tickets;
      cells = m.cells;
      device = m.device;
      rows = m.rows;
      accesses = m.accesses;
    }

-- what a worker sees that looks, and the tasks' rows
abbrev pub with_seen : Memory → Counts → (wait tickets cells : List ℕ) → (rows : List TaskRow) → Memory
with_seen m n wait tickets cells rows =
    record {
      counts = n;
      wait = wait;
      registrations = m.registrations;
      tickets = tickets;
      cells = cells;
      device = m.device;
      rows = rows;
      accesses = m.accesses;
    }

-- what an owner needs that serves
abbrev pub with_served : Memory → Counts → (registrations tickets cells : List ℕ) → (device : Device) → (rows : List TaskRow) → Memory
with_served m n registrations tickets cells device rows =
    record {
      counts = n;
      wait = m.wait;
      registrations = registrations;
      tickets = tickets;
      cells = cells;
      device = device;
      rows = rows;
      accesses = m.accesses;
    }
