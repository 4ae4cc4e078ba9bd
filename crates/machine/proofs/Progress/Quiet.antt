-- Work left of tasks and accesses together. A pick that takes none of it is quiet: it moves its worker and the lock, and nothing else.
use Rattle.std.specs.Prelude.{ℕ, ◌+◌, ◌*◌, ◌≤◌, ◌<◌, ◌≡◌, refl, ◌⊎◌, ◌≢◌, true, false, List, [], ◌∷◌, ◌++◌, length}
use Rattle.std.proofs.Common.{arith, sym, ap, ◌∙◌, inl, inr, length-append}
use Rattle.runs.specs.Update.{upd, upd_id}
use Rattle.runs.specs.Sums.{sum, sum_upd, sum_const}
use Rattle.lock.specs.Lock as L
use Rattle.lock.specs.History as LH
use Rattle.tasks.specs.History as H
use Rattle.tasks.proofs.Playing as P
use Rattle.tasks.specs.Playing.{by}
use Rattle.tasks.proofs.Promise as Tasks
use Rattle.tasks.proofs.Promise.{work_left, to_give, total_cost, total}
use Rattle.machine.specs.State.{Setup, Purpose, trying, registering, looking, draining, serving, handing, leaving, State, start}
use Rattle.machine.specs.Event.{Event, minds, pushes, finds_full, tries_and_owns, tries_in_vain, takes_ticket, registers, waits, receives, owns, drains, fills, takes, takes_none, hands_over, leaves, may, handed_by}
use Rattle.machine.specs.Ready.{nothing, choose}
use Rattle.machine.proofs.Ready.{arrive_none}
use Rattle.machine.specs.Step.{apply, lock_op, task_op}
use Rattle.machine.specs.Trace.{by_lock}
use Rattle.machine.specs.View.{AtRest, AllCreated, Does, does_mind, does_push, does_find_full, does_win, does_fail, does_take_ticket, does_register, does_wait, does_receive, does_own, does_drain, does_fill, does_take, does_take_none, does_hand_over, does_leave}
use Rattle.machine.proofs.Safety.Ends.{cells_kept}
use Rattle.machine.proofs.Safety.Device.{drains_below}
use Rattle.machine.specs.Safety.Invariant.{Playable, Inv}
use Rattle.machine.proofs.Safety.Invariant.{may_do}

-- the tasks that are still to be drained
abbrev undrained : Setup → State → ℕ
undrained c s = to_give c.workers c.tasks s.tasks + sum c.workers (λ w. length (s.queue w))

-- the progress steps that are still possible at the most: operations of the tasks, and drains of a task
abbrev pub work : Setup → State → ℕ
work c s = work_left c.workers c.tasks s.tasks s.stand + undrained c s

-- how many tasks an event drains
abbrev pub drained : State → Event → ℕ
drained s (minds d) = 0
drained s (pushes i is) = 0
drained s finds_full = 0
drained s tries_and_owns = 0
drained s tries_in_vain = 0
drained s takes_ticket = 0
drained s (registers t) = 0
drained s waits = 0
drained s (receives t i) = 0
drained s (owns t) = 0
drained s (drains p k) = length (s.queue k)
drained s (fills n v i is) = 0
drained s (takes i is) = 0
drained s takes_none = 0
drained s (hands_over n o) = 0
drained s (leaves o) = 0

-- what an event takes of it at least
abbrev pub gain : State → Event → ℕ
gain s e = by (λ _. 1) (task_op e) + drained s e

module _ (c : Setup) (playable : Playable c) where
  pub work_start : work c (start c) ≡ 7 * length c.tasks + 7 * total c.tasks + total_cost c.tasks
  unfolding start
  work_start = omega (arith, Tasks.work_start c.workers c.tasks, Tasks.gives_start c.workers c.tasks, sum_const c.workers 0)

  module _ (s : State) (v : Inv c s) (w : ℕ) (hw : w < c.workers) where
    queues_after : {e : Event} → Does c s w e
        → sum c.workers (λ u. length ((apply c s w e).queue u)) + drained s e
        ≡ sum c.workers (λ u. length (s.queue u)) + by H.is_give (task_op e)
    queues_after (does_mind d p can) = refl
    queues_after (does_push i js r d l) =
        omega (arith, sum_upd c.workers length s.queue w (s.queue w ++ i ∷ []) hw, length-append (s.queue w) (i ∷ []))
    queues_after (does_find_full i js r d l) = refl
    queues_after (does_win p q) = refl
    queues_after (does_fail p q) = refl
    queues_after (does_take_ticket r d z) = refl
    queues_after (does_register t p) = refl
    queues_after (does_wait t p q) = refl
    queues_after (does_receive t i p q) = refl
    queues_after (does_own t p q) = refl
    queues_after (does_drain u k p) = omega (arith, sum_upd c.workers length s.queue k [] (drains_below c s v.device w u k p))
    queues_after (does_fill n x i js p q f l) = refl
    queues_after (does_take n i js p q) = refl
    queues_after (does_take_none n p q) = refl
    queues_after (does_hand_over n p) = refl
    queues_after (does_leave p) = refl

    -- work left never rises, and falls with each progress step
    pub work_falls : {e : Event} → Does c s w e → work c (apply c s w e) + gain s e ≤ work c s
    work_falls {e} d =
        let m = may_do c s v w hw d in
        omega
        (arith, queues_after d, P.work_by v.tasked w hw s.picks (task_op e) m, P.gives_by v.tasked w hw s.picks (task_op e) m)

-- a pick that is no progress
pub data Quiet (c : Setup) (s : State) (w : ℕ) : Event → Type 0 where
  quiet_full : (i : ℕ) (is : List ℕ) → AtRest s w → s.tasks.adds w ≡ i ∷ is → c.capacity ≤ length (s.queue w) → Quiet c s w finds_full
  quiet_win : s.place w ≡ trying → L.is_free s.lock ≡ true → Quiet c s w tries_and_owns
  quiet_fail : s.place w ≡ trying → L.is_free s.lock ≡ false → Quiet c s w tries_in_vain
  quiet_ticket : AtRest s w → s.tasks.adds w ≡ [] → (w ≢ 0) ⊎ AllCreated c s → Quiet c s w takes_ticket
  quiet_register : (t : ℕ) → s.place w ≡ registering t → Quiet c s w (registers t)
  quiet_wait : (t : ℕ) → s.place w ≡ looking t → L.look c.slots s.lock t w ≡ L.not_yet → Quiet c s w waits
  quiet_own : (t : ℕ) → s.place w ≡ looking t → L.look c.slots s.lock t w ≡ L.owns → Quiet c s w (owns t)
  quiet_drain : (p : Purpose) (k : ℕ) → s.place w ≡ draining p k → s.queue k ≡ [] → Quiet c s w (drains p k)
  quiet_none : (n : ℕ) → s.place w ≡ serving n → choose (may c w) s.ready_list ≡ nothing → Quiet c s w takes_none
  quiet_hand : (n : ℕ) → s.place w ≡ handing n → Quiet c s w (hands_over n (handed_by c s w))
  quiet_leave : s.place w ≡ leaving → Quiet c s w (leaves (handed_by c s w))

module _ (c : Setup) (s : State) (w : ℕ) where
  pub gains_or_quiet : {e : Event} → Does c s w e → (0 < gain s e) ⊎ Quiet c s w e
  gains_or_quiet (does_mind d p can) = inl (omega arith)
  gains_or_quiet (does_push i js r d l) = inl (omega arith)
  gains_or_quiet (does_find_full i js r d l) = inr (quiet_full i js r d l)
  gains_or_quiet (does_win p q) = inr (quiet_win p q)
  gains_or_quiet (does_fail p q) = inr (quiet_fail p q)
  gains_or_quiet (does_take_ticket r d z) = inr (quiet_ticket r d z)
  gains_or_quiet (does_register t p) = inr (quiet_register t p)
  gains_or_quiet (does_wait t p q) = inr (quiet_wait t p q)
  gains_or_quiet (does_receive t i p q) = inl (omega arith)
  gains_or_quiet (does_own t p q) = inr (quiet_own t p q)
  gains_or_quiet (does_drain u k p) = go (s.queue k) refl
    where
      go : (js : List ℕ) → s.queue k ≡ js → (0 < 0 + length (s.queue k)) ⊎ Quiet c s w (drains u k)
      go [] e = inr (quiet_drain u k p e)
      go (j ∷ js) e = inl (rw e (omega arith))
  gains_or_quiet (does_fill n v i js p q f l) = inl (omega arith)
  gains_or_quiet (does_take n i js p q) = inl (omega arith)
  gains_or_quiet (does_take_none n p q) = inr (quiet_none n p q)
  gains_or_quiet (does_hand_over n p) = inr (quiet_hand n p)
  gains_or_quiet (does_leave p) = inr (quiet_leave p)

-- what a quiet pick leaves as it is
pub record Unmoved (s u : State) : Type 0 where
  pub tasks : u.tasks ≡ s.tasks
  pub stand : u.stand ≡ s.stand
  pub queue : u.queue ≡ s.queue
  pub ready_list : u.ready_list ≡ s.ready_list
  pub cells : u.lock.cell_ticket ≡ s.lock.cell_ticket

module _ (c : Setup) (s : State) (w : ℕ) where
  cells_of : (e : Event) → by_lock LH.fills (lock_op e) ≡ 0 → (apply c s w e).lock.cell_ticket ≡ s.lock.cell_ticket
  cells_of e n = (cells_kept c s w e n).0

  -- places and the lock's head, tail and slots apart
  pub unmoved : {e : Event} → Quiet c s w e → Unmoved s (apply c s w e)
  unmoved (quiet_full i is r d l) = record { tasks = refl; stand = refl; queue = refl; ready_list = refl; cells = refl }
  unmoved (quiet_win p q) = record { tasks = refl; stand = refl; queue = refl; ready_list = refl; cells = cells_of tries_and_owns refl }
  unmoved (quiet_fail p q) = record { tasks = refl; stand = refl; queue = refl; ready_list = refl; cells = refl }
  unmoved (quiet_ticket r d z) = record { tasks = refl; stand = refl; queue = refl; ready_list = refl; cells = cells_of takes_ticket refl }
  unmoved (quiet_register t p) = record { tasks = refl; stand = refl; queue = refl; ready_list = refl; cells = cells_of (registers t) refl }
  unmoved (quiet_wait t p q) = record { tasks = refl; stand = refl; queue = refl; ready_list = refl; cells = refl }
  unmoved (quiet_own t p q) = record { tasks = refl; stand = refl; queue = refl; ready_list = refl; cells = cells_of (owns t) refl }
  unmoved (quiet_drain u k p q) =
      record {
        tasks = refl;
        stand = refl;
        queue = ap (upd s.queue k) (sym q) ∙ upd_id s.queue k;
        ready_list = rw q (arrive_none s.ready_list);
        cells = refl;
      }
  unmoved (quiet_none n p q) = record { tasks = refl; stand = refl; queue = refl; ready_list = refl; cells = refl }
  unmoved (quiet_hand n p) =
      record { tasks = refl; stand = refl; queue = refl; ready_list = refl; cells = cells_of (hands_over n (handed_by c s w)) refl }
  unmoved (quiet_leave p) =
      record { tasks = refl; stand = refl; queue = refl; ready_list = refl; cells = cells_of (leaves (handed_by c s w)) refl }
