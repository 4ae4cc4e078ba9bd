-- The pieces of `HoldsTasks` after an operation: what one worker's change does to the parts and to what is pending, and one task's
-- to what is left.
use Prim.Native.Nat.{ℕ, ◌+◌, ◌<◌}
use native.Mathlib.Omega.{arith}
use mathlib.Core.Path.{◌≡◌, refl, ap₂}
use mathlib.Core.Logic.{⊎_elim, ◌≢◌}
use mathlib.Core.List.{List}
use lib.ListN.{length}
use Rattle.runs.specs.Update.{same, upd, upd_same, upd_other}
use Rattle.runs.specs.Sums.{sum, sum_at, sum_upd}
use Rattle.tasks.specs.Tasks.{Message, Stand, Status}
use Rattle.memory.specs.Shares.{Stored}
use Rattle.memory.specs.Memory.{TaskMemory, Able, unfinished, notices}

module _ {m : TaskMemory} {own : List ℕ} {w : ℕ} (a : Able m own w) where
  pub own_stored : Stored own (a.st w) (a.t.mail w) (a.t.adds w)
  own_stored = rw a.lent at (a.holds.stored w a.fit.worker)

  -- mailboxes and tasks to add that are as they were but at w; w's own are new
  module _ (next : List ℕ) (x : Stand) where
    pub stored_now : (posted : ℕ → List Message) (added : ℕ → List ℕ) → ((v : ℕ) → v ≢ w → posted v ≡ a.t.mail v)
        → ((v : ℕ) → v ≢ w → added v ≡ a.t.adds v) → Stored next x (posted w) (added w)
        → (v : ℕ) → v < a.W → Stored (upd a.parts w next v) (upd a.st w x v) (posted v) (added v)
    stored_now posted added mails adds new v l =
        ⊎_elim
        (λ (e : v ≡ w). rw (e, upd_same a.parts w next, upd_same a.st w x) new)
        (λ (d : v ≢ w). rw (upd_other a.parts w next v d, upd_other a.st w x v d, mails v d, adds v d) (a.holds.stored v l))
        (same v w)

    pub stored_still : Stored next x (a.t.mail w) (a.t.adds w)
        → (v : ℕ) → v < a.W → Stored (upd a.parts w next v) (upd a.st w x v) (a.t.mail v) (a.t.adds v)
    stored_still = stored_now a.t.mail a.t.adds (λ v d. refl) (λ v d. refl)

  -- messages and notices, where those of w alone change
  pub pending_now : (posted : ℕ → List Message) → ((v : ℕ) → v ≢ w → posted v ≡ a.t.mail v) → (x : Stand)
      → sum a.W (λ v. length (posted v) + notices (upd a.st w x v)) + (length (a.t.mail w) + notices (a.st w))
      ≡ m.tally.pending + (length (posted w) + notices x)
  pending_now posted mails x =
      let old : ℕ → ℕ = λ v. length (a.t.mail v) + notices (a.st v) in
      let new : ℕ → ℕ = λ v. length (posted v) + notices (upd a.st w x v) in
      let others : (v : ℕ) → v < a.W → v ≢ w → new v ≡ old v =
      λ v k d. ap₂ (λ (y : List Message) (z : Stand). length y + notices z) (mails v d) (upd_other a.st w x v d) in
      rw a.holds.pending (rw (upd_same a.st w x) at (sum_at a.W old new w a.fit.worker others))

  pub pending_still : (x : Stand)
      → sum a.W (λ v. length (a.t.mail v) + notices (upd a.st w x v)) + notices (a.st w) ≡ m.tally.pending + notices x
  pending_still x = omega (arith, pending_now a.t.mail (λ v d. refl) x)

  -- tasks that are not over, where the status of task i alone changes
  pub left_now : (i : ℕ) → i < length a.ts → (x : Status)
      → sum (length a.ts) (λ k. unfinished (upd a.t.status i x k)) + unfinished (a.t.status i) ≡ m.tally.left + unfinished x
  left_now i l x = rw a.holds.left (sum_upd (length a.ts) unfinished a.t.status i x l)
