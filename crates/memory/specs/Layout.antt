-- How many tasks and accesses there is room for, and where a worker's share lies in numbers: the names of `src/layout.rt`.
use Rattle.std.specs.Prelude.{ℕ, ◌*◌, ◌-◌}

-- What there is room for.
abbrev pub most_workers : ℕ
most_workers = 32

abbrev pub most_tasks : ℕ
most_tasks = 128

abbrev pub most_task_accesses : ℕ
most_task_accesses = 4

abbrev pub most_accesses : ℕ
most_accesses = most_tasks * most_task_accesses

-- A label has so many bytes at the most.
abbrev pub most_label : ℕ
most_label = 16

-- A worker's share: the device's part, and behind it the tasks'.
abbrev pub share : ℕ
share = 256

abbrev pub station : ℕ
station = 96

abbrev pub part : ℕ
part = share - station

-- The numbers of the tasks' part: the stand, what it is about and what is left of it; of the tasks to add and of the mail, the slot of the
-- oldest and how many there are.
abbrev pub stand : ℕ
stand = 0

abbrev pub about : ℕ
about = 1

abbrev pub left : ℕ
left = 2

abbrev pub adds_at : ℕ
adds_at = 4

abbrev pub adds_count : ℕ
adds_count = 5

abbrev pub mail_at : ℕ
mail_at = 6

abbrev pub mail_count : ℕ
mail_count = 7

-- The slots: where they begin, how many numbers each has, and how many there are.
abbrev pub mail_slots : ℕ
mail_slots = 16

abbrev pub mail_slot : ℕ
mail_slot = 4

abbrev pub mail_room : ℕ
mail_room = 4

abbrev pub mail_to : ℕ
mail_to = 0

abbrev pub mail_flags : ℕ
mail_flags = 1

abbrev pub mail_sender : ℕ
mail_sender = 2

abbrev pub add_slots : ℕ
add_slots = 32

abbrev pub add_room : ℕ
add_room = 128

-- Stands.
abbrev pub free : ℕ
free = 0

abbrev pub telling : ℕ
telling = 1

abbrev pub working : ℕ
working = 2
