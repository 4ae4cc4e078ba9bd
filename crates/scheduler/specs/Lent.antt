-- The memory of what is lent.
use Rattle.std.specs.Prelude.{ℕ, List}
use Rattle.memory.specs.declared.rows.TaskRow.{TaskRow}
use Rattle.memory.specs.declared.rows.AccessRow.{AccessRow}
use Rattle.steps.specs.Memory.{Memory, Long}
use Rattle.steps.specs.declared.Counts.{Counts}
use Rattle.steps.specs.declared.device.Device.{Device}
use Rattle.scheduler.specs.declared.arrays.Arrays.{Arrays}

abbrev pub memory : Counts → (wait registrations tickets cells : List ℕ) → (device : Device) → (rows : List TaskRow) → (accesses : List AccessRow) → Memory
memory n wait registrations tickets cells device rows accesses =
    record {
      counts = n;
      wait = wait;
      registrations = registrations;
      tickets = tickets;
      cells = cells;
      device = device;
      rows = rows;
      accesses = accesses;
    }

-- the numbers and the arrays of a run
abbrev pub memory_of : Counts → Arrays → Memory
memory_of n a = memory n a.wait a.registrations a.tickets a.cells a.device a.rows a.accesses

-- the arrays have their lengths
pub long_arrays : (n : Counts) (a : Arrays) → Long (memory_of n a)
long_arrays n a =
    let (wait, registrations, tickets, cells, device, rows, accesses) = a.long in
    record {
      wait = wait;
      registrations = registrations;
      tickets = tickets;
      cells = cells;
      device = device;
      tasks = record { rows = rows; accesses = accesses };
    }
