-- A worker in the tasks' part of its share: where it stands, its mailbox and its tasks to add.
use Rattle.std.specs.Prelude.{ℕ, ◌+◌, ◌-◌, ◌*◌, ◌%◌, ◌<◌, ◌≡◌, List, map, length, get_or, set, Option}
use Rattle.runs.specs.Circular.{entries}
use Rattle.tasks.specs.Tasks.{Message, Stand}
use Rattle.memory.specs.Layout as layout
use Rattle.memory.specs.Codes.{Coded, code_of, coded_by, letter}
use Rattle.memory.specs.declared.share.Letter.{Letter}

module _ (own : List ℕ) where
  abbrev pub mail_slot : ℕ → Letter
  mail_slot k =
      let at = layout.mail_slots + layout.mail_slot * k in
      record {
        to = get_or own (at + layout.mail_to) 0;
        flags = get_or own (at + layout.mail_flags) 0;
        sender = coded_by (get_or own (at + layout.mail_sender) 0);
      }

  abbrev pub add_slot : ℕ → ℕ
  add_slot k = get_or own (layout.add_slots + k) 0

  pub record Stored (x : Stand) (ms : List Message) (js : List ℕ) : Type 0 where
    pub long : length own ≡ layout.part
    pub stand : Coded (get_or own layout.stand 0) (get_or own layout.about 0) (get_or own layout.left 0) x
    pub adds_at_lem : get_or own layout.adds_at 0 < layout.add_room
    pub adds : entries add_slot layout.add_room (get_or own layout.adds_at 0) (get_or own layout.adds_count 0) ≡ js
    pub mail_at_lem : get_or own layout.mail_at 0 < layout.mail_room
    pub mail : entries mail_slot layout.mail_room (get_or own layout.mail_at 0) (get_or own layout.mail_count 0) ≡ map letter ms

  -- ---- the part with a change

  -- with other numbers of the stand
  abbrev pub standing : ℕ → ℕ → ℕ → List ℕ
  standing stand about left = set (set (set own layout.stand stand) layout.about about) layout.left left

  -- with one more task to add, in the slot behind the last
  abbrev pub added : ℕ → List ℕ
  added task =
      let slot = (get_or own layout.adds_at 0 + get_or own layout.adds_count 0) % layout.add_room in
      set (set own (layout.add_slots + slot) task) layout.adds_count (get_or own layout.adds_count 0 + 1)

  -- the oldest task to add, and the part without it
  abbrev pub oldest_add : ℕ
  oldest_add = add_slot (get_or own layout.adds_at 0)

  abbrev pub without_add : List ℕ
  without_add =
      set (set own layout.adds_at ((get_or own layout.adds_at 0 + 1) % layout.add_room)) layout.adds_count (get_or own layout.adds_count 0 - 1)

  -- with one more message, in the slot behind the last
  abbrev pub posted : ℕ → ℕ → Option ℕ → List ℕ
  posted to flags sender =
      let at = layout.mail_slots + layout.mail_slot * ((get_or own layout.mail_at 0 + get_or own layout.mail_count 0) % layout.mail_room) in
      set (set (set (set own (at + layout.mail_to) to) (at + layout.mail_flags) flags) (at + layout.mail_sender) (code_of sender)) layout.mail_count
      (get_or own layout.mail_count 0 + 1)

  -- the oldest message, and the part without it
  abbrev pub oldest_mail : Letter
  oldest_mail = mail_slot (get_or own layout.mail_at 0)

  abbrev pub without_mail : List ℕ
  without_mail =
      set (set own layout.mail_at ((get_or own layout.mail_at 0 + 1) % layout.mail_room)) layout.mail_count (get_or own layout.mail_count 0 - 1)
