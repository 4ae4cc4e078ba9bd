-- The flags of an access, each 0 or 1, when READ and WRITE pass on to its successor, and when it is satisfied.
use Rattle.std.specs.Prelude.{ℕ, ◌+◌, ◌*◌, ◌≤◌, min, max, ◌≡◌}

pub record Flags : Type 0 where
  pub read : ℕ
  pub write : ℕ
  pub done : ℕ
  pub next : ℕ
  pub sent_read : ℕ
  pub sent_write : ℕ

-- the number that stands for them: READ 1, WRITE 2, DONE 4, NEXT 8, SENT_READ 16, SENT_WRITE 32
abbrev pub flag_number : Flags → ℕ
flag_number f = f.read + 2 * f.write + 4 * f.done + 8 * f.next + 16 * f.sent_read + 32 * f.sent_write

-- what READ and WRITE as given set
abbrev pub granting : ℕ → ℕ → Flags
granting read write = record { read = read; write = write; done = 0; next = 0; sent_read = 0; sent_write = 0 }

abbrev pub no_flag : Flags
no_flag = granting 0 0

abbrev pub DONE : Flags
DONE = record { read = 0; write = 0; done = 1; next = 0; sent_read = 0; sent_write = 0 }

abbrev pub NEXT : Flags
NEXT = record { read = 0; write = 0; done = 0; next = 1; sent_read = 0; sent_write = 0 }

-- the flags that are so many of each
abbrev pub each : ((Flags → ℕ) → ℕ) → Flags
each many =
    record {
      read = many (λ f. f.read);
      write = many (λ f. f.write);
      done = many (λ f. f.done);
      next = many (λ f. f.next);
      sent_read = many (λ f. f.sent_read);
      sent_write = many (λ f. f.sent_write);
    }

-- the SENT flags of the flags that were passed
abbrev pub sent : Flags → Flags
sent f = record { read = 0; write = 0; done = 0; next = 0; sent_read = f.read; sent_write = f.write }

-- flags with those of a message; no message repeats a flag, so each stays 0 or 1
abbrev pub with : Flags → Flags → Flags
with f m =
    record {
      read = f.read + m.read;
      write = f.write + m.write;
      done = f.done + m.done;
      next = f.next + m.next;
      sent_read = f.sent_read + m.sent_read;
      sent_write = f.sent_write + m.sent_write;
    }

-- 1 where READ passes on: NEXT, READ and (a reader, or DONE)
unfoldable pub passes_read : ℕ → Flags → ℕ
passes_read reader f = min (min f.next f.read) (max reader f.done)

-- 1 where WRITE passes on: NEXT, WRITE and DONE
unfoldable pub passes_write : Flags → ℕ
passes_write f = min (min f.next f.write) f.done

-- 1 where the access is satisfied: a reader by READ, a writer by READ and WRITE
unfoldable pub satisfied : ℕ → Flags → ℕ
satisfied reader f = min f.read (max reader f.write)

-- ---- what is said of flags

-- each is 0 or 1
pub record Once (f : Flags) : Type 0 where
  pub read : f.read ≤ 1
  pub write : f.write ≤ 1
  pub done : f.done ≤ 1
  pub next : f.next ≤ 1
  pub sent_read : f.sent_read ≤ 1
  pub sent_write : f.sent_write ≤ 1

-- none of READ, WRITE, DONE and NEXT is in both
pub record NoneTwice (f g : Flags) : Type 0 where
  pub read : f.read + g.read ≤ 1
  pub write : f.write + g.write ≤ 1
  pub done : f.done + g.done ≤ 1
  pub next : f.next + g.next ≤ 1

-- READ or WRITE or both, and no other flag: what an access passes on
abbrev pub RightsOnly : Flags → Type 0
RightsOnly f = (1 ≤ f.read + f.write) × (f ≡ granting f.read f.write)
