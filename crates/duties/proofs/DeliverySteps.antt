-- A delivery as the code takes it, one call after the other: each call's contract leads to what the next one asks.
use Prim.Native.Nat.{ℕ, ◌+◌, ◌-◌, ◌*◌, ◌≤◌, ◌<◌}
use native.Mathlib.Omega.{arith}
use mathlib.Core.Path.{◌≡◌, sym, ap}
use mathlib.Core.List.{List, ◌∷◌, ◌++◌}
use mathlib.Core.Option.{some}
use Rattle.std.specs.Prelude.{Option as RustOption}
use lib.ListN.{length, get_or, length-append}
use Rattle.plan.specs.Plan.{Task}
use Rattle.tasks.specs.Accesses as Accesses
use Rattle.tasks.specs.Flags.{Flags, flag_number, with, passes_read, passes_write, satisfied, Once}
use Rattle.tasks.specs.Tasks.{Tasks, Message, Stand, free}
use Rattle.tasks.specs.History.{Op, passed, lowered, notice_of}
use Rattle.memory.specs.Layout as layout
use Rattle.memory.specs.Codes.{letter, reader_number, option_of}
use Rattle.memory.specs.Rows.{task_row, access_row, TaskRows, flagged_rows}
use Rattle.memory.specs.declared.rows.TaskRow.{TaskRow}
use Rattle.memory.specs.declared.rows.AccessRow.{AccessRow}
use Rattle.memory.specs.Shares.{Stored}
use Rattle.memory.specs.Memory.{TaskMemory, memory, notices, Able, HeldAfter, its_duty}
use Rattle.memory.specs.declared.share.Letter.{Letter}
use Rattle.duties.proofs.Given.{notices_one, row_fits, most_pending, pending_few}
use Rattle.duties.proofs.Telling.{with_pending}
use Rattle.duties.proofs.Delivery as D

-- the contracts
abbrev pub Takes : List ℕ → List ℕ → Letter → Type 0
Takes own share taken =
    (p : Stand) (m : Message) (mail : List Message) (adds : List ℕ) → Stored own p (m ∷ mail) adds
    → (letter m ≡ taken) × Stored share p mail adds

abbrev pub Changes : List AccessRow → ℕ → ℕ → ℕ → ℕ → Type 0
Changes accesses to flags passes by =
    (reader : ℕ) (e m : Flags) → Once e → Once (with e m) → reader_number (access_row accesses to).reader ≡ reader
    → (access_row accesses to).flags ≡ flag_number e → flags ≡ flag_number m
    → (passes ≡ passes_read reader (with e m) - passes_read reader e + 2 * (passes_write (with e m) - passes_write e))
    × (by ≡ satisfied reader (with e m) - satisfied reader e)

abbrev pub Passes : List ℕ → List ℕ → ℕ → ℕ → ℕ → ℕ → Type 0
Passes own share to passes sender posted =
    (ts : List Task) (e f : Flags) (reader : ℕ) (p : Stand) (mail : List Message) (adds : List ℕ)
    → Stored own p mail adds → to ≡ Accesses.next ts sender → reader ≡ Accesses.reader ts sender
    → passes ≡ passes_read reader f - passes_read reader e + 2 * (passes_write f - passes_write e)
    → Stored share p (mail ++ passed ts sender e f) adds × (posted ≡ length (passed ts sender e f))

abbrev pub Gives : List ℕ → List ℕ → RustOption ℕ → ℕ → ℕ → Type 0
Gives own share sender flags noticed =
    (m : Message) (mail : List Message) (adds : List ℕ)
    → Stored own free mail adds → Once m.flags → flags ≡ flag_number m.flags → sender ≡ option_of m.sender
    → Stored share (notice_of m m.sender) mail adds × (noticed ≡ notices (notice_of m m.sender))

abbrev pub Lowers : List TaskRow → List ℕ → List TaskRow → List ℕ → ℕ → ℕ → Type 0
Lowers tasks own rows share task by =
    (ts : List Task) (s : Tasks) (w : ℕ) (p : Stand) (mail : List Message)
    → task < length ts → TaskRows ts tasks s.count s.status s.runner s.receipt s.ending → Stored own p mail (s.adds w)
    → TaskRows ts rows (lowered s w task by).count (lowered s w task by).status s.runner s.receipt s.ending
    × Stored share p mail ((lowered s w task by).adds w)

module _ {m : TaskMemory} {own : List ℕ} {w : ℕ} (able : Able m own w) (at : get_or own layout.stand 0 ≡ layout.free)
    (has : 0 < get_or own layout.mail_count 0) where
  abbrev d : D.Delivery able.t (able.st w) w
  d = D.delivery able at has

  abbrev before : Flags
  before = D.before able d

  abbrev after : Flags
  after = D.after able d

  abbrev kind : ℕ
  kind = D.kind able d

  opened : Stored own free (d.message ∷ d.rest) (able.t.adds w)
  opened = D.opened able d

  pub take_fits : (length own ≡ layout.part) × (get_or own layout.mail_at 0 < layout.mail_room) × (0 < get_or own layout.mail_count 0)
  take_fits = (opened.long, opened.mail_at_lem, has)

  pub pending_fits : (1 ≤ m.tally.pending) × (m.tally.pending ≤ most_pending)
  pending_fits = (D.mail_pending able d, pending_few able)

  module _ {one : List ℕ} {taken : Letter} (take : Takes own one taken) where
    abbrev to : ℕ
    to = taken.to

    abbrev flags : ℕ
    flags = taken.flags

    abbrev sender : RustOption ℕ
    sender = taken.sender

    is : letter d.message ≡ taken
    is = (take free d.message d.rest (able.t.adds w) opened).0

    left : Stored one free d.rest (able.t.adds w)
    left = (take free d.message d.rest (able.t.adds w) opened).1

    is_to : to ≡ d.message.to
    is_to = D.is_to able d taken is

    pub flags_fit : (to < length m.accesses) × ((access_row m.accesses to).flags < 64) × (flags < 64)
    flags_fit = D.flags_fit able d taken is

    pub access_fits : to < layout.most_accesses
    access_fits = omega (arith, flags_fit, able.long.accesses)

    module _ {rows : List AccessRow} {passes by : ℕ} (stored : rows ≡ flagged_rows m.accesses to ((access_row m.accesses to).flags + flags))
        (change : Changes m.accesses to flags passes by) where
      changed : (passes ≡ passes_read kind after - passes_read kind before + 2 * (passes_write after - passes_write before))
          × (by ≡ satisfied kind after - satisfied kind before)
      changed =
          change kind before d.message.flags (D.once_before able d) (D.both able d) (D.is_reader able d taken is) (D.is_before able d taken is) (D.is_flags able d taken is)

      pub pass_fits : (length one ≡ layout.part) × (get_or one layout.mail_at 0 < layout.mail_room)
          × (0 < passes → get_or one layout.mail_count 0 < layout.mail_room) × (to < layout.most_accesses)
      pass_fits = (left.long, left.mail_at_lem, D.post_room able d one passes left changed.0, access_fits)

      module _ {two : List ℕ} {posted : ℕ} (pass : Passes one two (access_row rows to).next passes to posted) where
        -- what is passed on, by the access that the message goes to
        mail_now : Stored two free (D.mailed able d) (able.t.adds w) × (posted ≡ length (passed able.ts d.message.to before after))
        mail_now =
            rw is_to
            at (pass able.ts before after kind free d.rest (able.t.adds w) left (D.is_next able d taken is rows stored)
            (ap (Accesses.reader able.ts) (sym is_to)) changed.0)

        pub give_fits : length two ≡ layout.part
        give_fits = mail_now.0.long

        module _ {three : List ℕ} {noticed : ℕ} (give : Gives two three sender flags noticed) where
          place_now : Stored three (D.stands able d) (D.mailed able d) (able.t.adds w) × (noticed ≡ notices (D.stands able d))
          place_now =
              give d.message (D.mailed able d) (able.t.adds w) mail_now.0 (D.once able d)
              (D.is_flags able d taken is) (D.is_sender able d taken is)

          is_task : (access_row rows to).task ≡ D.task able d
          is_task = D.is_task able d taken is rows stored

          pub counts_fit : (posted ≤ layout.mail_room) × (noticed ≤ 1)
          counts_fit = (
            omega (arith, mail_now.1, D.mail_room_lem able d, length-append d.rest (passed able.ts d.message.to before after)),
            rw place_now.1 (notices_one (D.stands able d)),
          )

          pub lower_fits : (((access_row rows to).task < length m.rows) × (length three ≡ layout.part)
              × (get_or three layout.adds_at 0 < layout.add_room))
              × (0 < (task_row m.rows (access_row rows to).task).count → (task_row m.rows (access_row rows to).task).count ≤ by → get_or three layout.adds_count 0 < layout.add_room)
          lower_fits =
              rw (is_task, changed.1) (
                (row_fits able.fit able.long (D.task able d) (D.task_below able d), place_now.0.long, place_now.0.adds_at_lem),
                D.add_room_lem able d three (D.stands able d) (D.mailed able d) place_now.0,
              )

          module _ {tasks : List TaskRow} {four : List ℕ} (lower : Lowers m.rows three tasks four (access_row rows to).task by) where
            pub delivered : (k : ℕ) (op : Op) → its_duty able.ts able.t (able.st w) w ≡ some op
                → HeldAfter able k op (memory (with_pending m.tally (m.tally.pending - 1 + posted + noticed)) tasks rows) four
            delivered =
                let (held, new) = rw (is_task, changed.1)
                at (lower able.ts (D.brought able d) w (D.stands able d) (D.mailed able d)
                (rw is_task (D.task_below able d)) able.holds.task_rows_lem place_now.0) in
                D.delivered able d rows tasks four posted noticed mail_now.1 place_now.1 (D.rows_after able d taken is rows stored)
                held new
