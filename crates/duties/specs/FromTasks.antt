-- What the code proofs take from the tasks' promise: of a plan's accesses, of flags, and of every state in which it holds.
use Rattle.std.specs.Prelude.{ℕ, ◌≤◌, ◌<◌, ◌≡◌, List, [], ◌∷◌, length}
use Rattle.std.proofs.Common.{arith, sym, ◌∙◌}
use Rattle.runs.specs.Update.{clash}
use Rattle.plan.specs.Plan.{Task}
use Rattle.tasks.specs.Accesses.{task_at, task_of, first, total}
use Rattle.tasks.specs.Flags.{Flags, with, passes_read, passes_write, Once}
use Rattle.tasks.specs.Tasks.{Message, Stand, working, new, waiting, ready, held, running, opening, linking, Tasks, given}
use Rattle.tasks.specs.History.{Op, Can, after}
use Rattle.tasks.proofs.Promise as Promise
use Rattle.tasks.proofs.Promise.{Kept}

-- what passes on rises with the flags
pub reads_more : (q : ℕ) (e m : Flags) → passes_read q e ≤ passes_read q (with e m)
reads_more q e m = (Promise.passes_with q e m).0

pub writes_more : (e m : Flags) → passes_write e ≤ passes_write (with e m)
writes_more e m = (Promise.passes_with 0 e m).1

-- ---- the accesses of a plan

module _ (ts : List Task) where
  pub first_last : first ts (length ts) ≡ total ts
  first_last = Promise.first_all ts (length ts) (omega arith)

  pub first_within : (i : ℕ) → i ≤ length ts → first ts i ≤ total ts
  first_within i l = omega (arith, Promise.first_mono ts i (length ts) l, first_last)

  pub task_within : (a : ℕ) → a < total ts → task_of ts a < length ts
  task_within a l = (Promise.task_of_lem ts a l).0

-- ---- a state

module _ {W : ℕ} {ts : List Task} {t : Tasks} {st : ℕ → Stand} (v : Kept W ts t st) where
  -- a message is to an access, and brings what is not there
  pub message_fits : (w : ℕ) → w < W → (m : Message) (ms : List Message) → t.mail w ≡ m ∷ ms
      → (m.to < total ts) × Once m.flags × Once (with (t.flags m.to) m.flags)
  message_fits w hw m ms e =
      let sound = Promise.message_sound v w hw [] m ms e in
      let twice = Promise.no_repeat v w hw [] m ms e in
      let before = Promise.flags_once v m.to in (
        sound.to,
        record {
          read = omega (arith, twice.read);
          write = omega (arith, twice.write);
          done = omega (arith, twice.done);
          next = omega (arith, twice.next);
          sent_read = omega (arith, sound.unsent.0);
          sent_write = omega (arith, sound.unsent.1);
        },
        record {
          read = twice.read;
          write = twice.write;
          done = twice.done;
          next = twice.next;
          sent_read = omega (arith, sound.unsent.0, before.sent_read);
          sent_write = omega (arith, sound.unsent.1, before.sent_write);
        },
      )

  -- a task that counts waits; one that is to be opened is new; one that is open, in hand, given or held is of the plan
  pub counted_waits : (i : ℕ) → 0 < t.count i → t.status i ≡ waiting
  counted_waits i l = (Promise.waits_exactly v i).1 l

  pub opening_new : (i : ℕ) → t.creation ≡ opening i → t.status i ≡ new
  opening_new i e = Promise.uncreated v i (rw e (omega arith))

  pub linking_within : (i a : ℕ) → t.creation ≡ linking i a → i < length ts
  linking_within i a e = (rw e at (Promise.made v)).0

  pub working_within : (w i n : ℕ) → w < W → st w ≡ working i n → (i < length ts) × (t.status i ≡ running) × (t.mail w ≡ [])
  working_within w i n l e =
      let (runs, by, empty, few) = Promise.in_hand_lem v w i n l e in
      (Promise.of_the_plan v i (λ z. let y = sym runs ∙ z in clash (cc)), runs, empty)

  pub given_within : (i : ℕ) → given W t i ≡ 1 → (i < length ts) × (t.status i ≡ ready)
  given_within i g = (Promise.given_below v i (omega (arith, g)), Promise.given_ready W t i g)

  pub held_within : (i : ℕ) → t.status i ≡ held → i < length ts
  held_within i e = Promise.of_the_plan v i (λ z. let y = sym e ∙ z in clash (cc))

  -- the room that an operation takes
  pub mail_after : (n : ℕ) → 0 < n → ((i : ℕ) → length (task_at ts i).accesses ≤ n) → ((u : ℕ) → length (t.mail u) ≤ n)
      → (w : ℕ) → w < W → {op : Op} → Can W ts t (st w) w op → length ((after ts 0 t w op).mail w) ≤ n
  mail_after n pos each mails w l can = Promise.mails_keep v n pos each mails w 0 can w

  pub adds_after : (w : ℕ) → w < W → {op : Op} → Can W ts t (st w) w op → length ((after ts 0 t w op).adds w) ≤ length ts
  adds_after w l {op} can = Promise.adds_length (Promise.kept v w l 0 op can) w l
