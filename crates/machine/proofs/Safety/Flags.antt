-- Messages and flags in every run: no message repeats a flag, and a right comes to an access when the earlier ones are done.
use Rattle.std.specs.Prelude.{ℕ, ◌≤◌, ◌<◌, ◌≡◌, ◌≢◌, List, [], ◌∷◌, ◌++◌}
use Rattle.runs.specs.Picks.{Picks}
use Rattle.tasks.specs.Accesses.{total, task_of, addr, reader}
use Rattle.tasks.specs.Flags.{Flags, each, sent, with, Once, NoneTwice}
use Rattle.tasks.specs.Tasks.{Message, telling, over}
use Rattle.tasks.specs.History as H
use Rattle.tasks.proofs.Playing as P
use Rattle.tasks.proofs.Promise as Promise
use Rattle.machine.specs.State.{Setup, State, start}
use Rattle.machine.specs.Event.{minds, event}
use Rattle.machine.specs.Step.{task_op, after}
use Rattle.machine.specs.Trace.{trace, tally, brings}
use Rattle.machine.specs.View.{Does, does_mind}
use Rattle.machine.proofs.View.{does}
use Rattle.machine.specs.Safety.Device.{Tasked}
use Rattle.machine.specs.Safety.Invariant.{Playable}
use Rattle.machine.proofs.Safety.Invariant.{inv_after}
use Rattle.machine.proofs.Safety.Histories.{task_history}

-- what is delivered is the oldest message of the mailbox, and what is told was to be told
delivered : (c : Setup) (s : State) (w : ℕ) (m : Message) (ms : List Message) → Does c s w (minds (H.delivers m ms))
    → s.tasks.mail w ≡ [] ++ m ∷ ms
delivered c s w m ms (does_mind d p (H.can_deliver n ns x q)) = q

told : (c : Setup) (s : State) (w a : ℕ) (f : Flags) → Does c s w (minds (H.tells a f)) → s.stand w ≡ telling a f
told c s w a f (does_mind d p (H.can_tell b g x)) = x

-- ---- the theorems: for every setup that can be played and every list of its workers' picks from a fresh start, the empty one too

module _ (c : Setup) (playable : Playable c) (ws : List ℕ) (p : Picks c.workers ws) where
  kept : Tasked c (after c ws).tasks (after c ws).stand
  kept = (inv_after c playable ws p).tasked

  -- each flag of an access is set once at the most
  pub flags_once : (a : ℕ) → Once ((after c ws).tasks.flags a)
  flags_once = Promise.flags_once kept

  -- an access has the flags that the deliveries and notices of the list brought to it, and none of them came twice: no message repeats
  -- a flag
  pub flags_brought : (a : ℕ) → (after c ws).tasks.flags a ≡ each (λ flag. tally (brings flag a) (trace c (start c) ws))
  flags_brought = P.brought task_op playable.distinct (trace c (start c) ws) (task_history c playable ws p)

  pub brought_once : (a : ℕ) → Once (each (λ flag. tally (brings flag a) (trace c (start c) ws)))
  brought_once a = rw flags_brought at (flags_once a)

  -- no message under way brings a flag that its access has
  pub no_repeat : (w : ℕ) → w < c.workers → (xs : List Message) (m : Message) (ys : List Message)
      → (after c ws).tasks.mail w ≡ xs ++ m ∷ ys → NoneTwice ((after c ws).tasks.flags m.to) m.flags
  no_repeat = Promise.no_repeat kept

  -- no two under way to one access bring the same flag: in two mailboxes, and in one
  pub no_two : (w : ℕ) → w < c.workers → (xs : List Message) (m : Message) (ys : List Message)
      → (after c ws).tasks.mail w ≡ xs ++ m ∷ ys → (u : ℕ) → u < c.workers → w ≢ u
      → (us : List Message) (n : Message) (vs : List Message) → (after c ws).tasks.mail u ≡ us ++ n ∷ vs
      → m.to ≡ n.to → NoneTwice m.flags n.flags
  no_two = Promise.no_two kept

  pub no_two_in : (w : ℕ) → w < c.workers → (xs : List Message) (m : Message) (ys : List Message) (n : Message) (zs : List Message)
      → (after c ws).tasks.mail w ≡ xs ++ (m ∷ (ys ++ n ∷ zs)) → m.to ≡ n.to → NoneTwice m.flags n.flags
  no_two_in = Promise.no_two_in kept

  -- so the next pick sets no flag that is set: neither a delivery nor a notice
  pub delivers_new : (w : ℕ) → w < c.workers → (m : Message) (ms : List Message) → event c (after c ws) w ≡ minds (H.delivers m ms)
      → NoneTwice ((after c ws).tasks.flags m.to) m.flags
  delivers_new w l m ms e = no_repeat w l [] m ms (delivered c (after c ws) w m ms (rw e at (does c (after c ws) w)))

  pub tells_new : (w : ℕ) → w < c.workers → (a : ℕ) (f : Flags) → event c (after c ws) w ≡ minds (H.tells a f)
      → Once (with ((after c ws).tasks.flags a) (sent f))
  tells_new w l a f e = Promise.notice_new kept w l a f (told c (after c ws) w a f (rw e at (does c (after c ws) w)))

  -- an access that is DONE is of a task that is over
  pub done_over : (a : ℕ) → a < total c.tasks → 1 ≤ ((after c ws).tasks.flags a).done
      → (after c ws).tasks.status (task_of c.tasks a) ≡ over
  done_over = Promise.done_over kept

  -- one with READ has every earlier writer of its address DONE, one with WRITE every earlier access
  pub read_after : (a : ℕ) → a < total c.tasks → 1 ≤ ((after c ws).tasks.flags a).read
      → (b : ℕ) → b < a → addr c.tasks b ≡ addr c.tasks a → reader c.tasks b ≡ 0 → 1 ≤ ((after c ws).tasks.flags b).done
  read_after = Promise.read_after kept

  pub write_after : (a : ℕ) → a < total c.tasks → 1 ≤ ((after c ws).tasks.flags a).write
      → (b : ℕ) → b < a → addr c.tasks b ≡ addr c.tasks a → 1 ≤ ((after c ws).tasks.flags b).done
  write_after = Promise.write_after kept
