-- What all devices over the tasks share: a pick is an operation of the tasks or none, picks are taken until the tasks are finished,
-- and every list of picks is a history of the tasks.
use Prim.Native.Nat.{ℕ, suc}
use Rattle.std.specs.Prelude.{Bool, ◌&&◌, eqb}
use Rattle.std.proofs.Math.Bool.{true, false, not}
use mathlib.Core.List.{List, [], ◌∷◌, ◌++◌}
use Rattle.std.proofs.Math.Option.{Option, none, some}
use Rattle.std.proofs.Math.ListN.{length}
use Rattle.runs.specs.Update.{upd}
use Rattle.runs.specs.Below.{every_below}
use Rattle.runs.specs.Traces.{Happening}
use Rattle.plan.specs.Plan.{Task}
use Rattle.tasks.specs.Flags.{Flags}
use Rattle.tasks.specs.Tasks.{Stand, free, telling, working, Tasks, is_over}
use Rattle.tasks.specs.History as H

-- ---- a pick's part in the tasks

abbrev pub tasks_after : List Task → ℕ → Tasks → ℕ → Option H.Op → Tasks
tasks_after ts n t w none = t
tasks_after ts n t w (some op) = H.after ts n t w op

abbrev pub stands_after : List Task → (ℕ → Stand) → ℕ → Option H.Op → ℕ → Stand
stands_after ts st w none = st
stands_after ts st w (some op) = upd st w (H.stand_after ts (st w) op)

-- of no operation: nothing
abbrev pub by : (H.Op → ℕ) → Option H.Op → ℕ
by f none = 0
by f (some op) = f op

abbrev pub May : ℕ → List Task → Tasks → Stand → ℕ → Option H.Op → Type 0
May W ts t x w none = Unit {0}
May W ts t x w (some op) = H.Can W ts t x w op

abbrev pub moves_by : ℕ → ℕ → Option H.Op → List H.Move
moves_by w n none = []
moves_by w n (some op) = record { by = w; at = n; op = op } ∷ []

-- ---- finished

abbrev pub has_notice : Stand → Bool
has_notice free = false
has_notice (telling a f) = true
has_notice (working i n) = false

-- all tasks are over and no message or notice is pending
unfoldable pub finished : ℕ → List Task → Tasks → (ℕ → Stand) → Bool
finished W ts t st =
    every_below (length ts) (λ i. is_over (t.status i)) && every_below W (λ w. eqb (length (t.mail w)) 0 && not (has_notice (st w)))

-- ---- the history of what happens, where an event is an operation or none

module _ {E : Type 0} (task_op : E → Option H.Op) where
  -- the moves of what happens after n picks, the latest first
  unfoldable pub moves : ℕ → List (Happening E) → List H.Move
  moves n [] = []
  moves n (h ∷ hs) = moves (suc n) hs ++ moves_by h.by (suc n) (task_op h.what)

  -- 1 for a receipt of task i, and for an ending
  abbrev pub is_receipt : ℕ → E → ℕ
  is_receipt i e = by (H.is_receipt i) (task_op e)

  abbrev pub is_ending : ℕ → E → ℕ
  is_ending i e = by (H.is_ending i) (task_op e)

  -- for a step of work on it
  abbrev pub is_work : ℕ → E → ℕ
  is_work i e = by (H.is_work i) (task_op e)

  -- of a flag, what comes to access a
  abbrev pub brings : (Flags → ℕ) → ℕ → E → ℕ
  brings flag a e = by (H.brings flag a) (task_op e)
