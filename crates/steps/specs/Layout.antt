-- Where the device's numbers lie: the names of offsets and codes. `src/layout.rt` has the same.
use Rattle.std.specs.Prelude.{ℕ, ◌*◌}
use Rattle.memory.specs.Layout as layout

-- a worker's share: the device's part, then the tasks'
abbrev pub share_size : ℕ
share_size = layout.share

abbrev pub station_size : ℕ
station_size = layout.station

abbrev pub part_size : ℕ
part_size = layout.part

-- the device's part: the place, what it speaks of, how many are queued, the slot of a ticket that is waited with; the queue's slots
abbrev pub place_at : ℕ
place_at = 0

abbrev pub number_at : ℕ
number_at = 1

abbrev pub queued_at : ℕ
queued_at = 2

abbrev pub slot_at : ℕ
slot_at = 3

abbrev pub queue_from : ℕ
queue_from = 8

abbrev pub queue_slots : ℕ
queue_slots = 16

-- the places: an owner's are from SERVING on, and those that drain are the last
abbrev pub IDLE : ℕ
IDLE = 0

abbrev pub TRYING : ℕ
TRYING = 1

abbrev pub REGISTERING : ℕ
REGISTERING = 2

abbrev pub LOOKING : ℕ
LOOKING = 3

abbrev pub SERVING : ℕ
SERVING = 4

abbrev pub HANDING : ℕ
HANDING = 5

abbrev pub LEAVING : ℕ
LEAVING = 6

abbrev pub DRAINING_TO_SERVE : ℕ
DRAINING_TO_SERVE = 7

abbrev pub DRAINING_TO_ADD : ℕ
DRAINING_TO_ADD = 8

-- the most slots of a ring; the slots of the ready list
abbrev pub most_slots : ℕ
most_slots = 64

abbrev pub READY : ℕ
READY = 128

-- the workers, and the shares of all of them
abbrev pub most_workers : ℕ
most_workers = layout.most_workers

abbrev pub shares_size : ℕ
shares_size = most_workers * share_size
