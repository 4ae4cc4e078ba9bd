-- Every run is safe: nothing lost, nothing twice, no task before an earlier conflicting one is over.
use Rattle.std.specs.Prelude.{ℕ, suc, ◌+◌, ◌*◌, ◌-◌, ◌≤◌, ◌<◌, ◌≡◌, ◌⊎◌, ◌≢◌, Bool, List, [], ◌∷◌, ◌++◌, length, take, drop}
use native.Mathlib.Omega.{arith}
use Rattle.std.proofs.Math.Path.{refl}
use Rattle.std.proofs.Common.{sym, ap, ◌∙◌}
use Rattle.std.proofs.Math.Logic.{inl, inr, ⊎_elim}
use Rattle.std.proofs.Math.Bool.{true, false}
use Rattle.std.proofs.Math.Option.{Option, none, some}
use Rattle.std.proofs.Math.ListN.{get_elem?, length-take}
use Rattle.runs.specs.Update.{order, upd}
use Rattle.runs.proofs.Traces.{tally_at}
use Rattle.runs.specs.Picks.{Picks, picks_take, run, run_append, run_drop}
use Rattle.lock.specs.History.{Owner}
use Rattle.lock.proofs.Promise as Lock
use Rattle.plan.specs.Chains.{conflict}
use Rattle.tasks.specs.Accesses.{task_at}
use Rattle.tasks.specs.Tasks.{linking, ready, held, running, over, Creation, opening, Created, is_ready, is_held, is_running, past_waiting, is_received}
use Rattle.tasks.specs.Tasks.{is_ended, opened, until_closed, to_add, unsatisfied}
use Rattle.tasks.specs.History as H
use Rattle.tasks.specs.Playing as P
use Rattle.tasks.proofs.Playing as PLaws
use Rattle.tasks.specs.Playing.{has_notice}
use Rattle.tasks.proofs.Promise as Promise
use Rattle.machine.specs.State.{Setup, State, start}
use Rattle.machine.specs.Event.{Event, may, event}
use Rattle.machine.specs.Step.{task_op, step, finished, pick, after}
use Rattle.machine.specs.View.{Does}
use Rattle.machine.proofs.View.{does}
use Rattle.machine.specs.Trace.{Happening, trace, tally, is_receipt, is_ending, is_work}
use Rattle.machine.specs.Whereabouts.{lock_stand, stored, boxes, hands, left_in_hands, places}
use Rattle.machine.proofs.Safety.Traces.{pick_finished, pick_open, run_finished, run_inv, picks_taken, taken_within, taken_all}
use Rattle.machine.proofs.Safety.Histories as R
use Rattle.machine.proofs.Safety.Permitted.{receipts_permitted}
use Rattle.machine.specs.Safety.Bounds.{Roomy, Small}
use Rattle.machine.proofs.Safety.Bounds.{roomy_start, roomy_step, ready_length, small_start, small_step}
use Rattle.machine.specs.Safety.Invariant.{Playable, Inv}
use Rattle.machine.proofs.Safety.Invariant.{may_do, inv_after}
pub mod Locked
pub mod Owners
pub mod Dues
pub mod Ends
pub mod Device
pub mod Tasked
pub mod Handed
pub mod Traces
pub mod Invariant
pub mod Histories
pub mod Giving
pub mod Permitted
pub mod Turns
pub mod Bounds
pub mod Flags

-- whoever brings a count to 0 has the task to add: by a step, and by a pick
step_to_add : (c : Setup) (s : State) (w i : ℕ) → 0 < s.tasks.count i → (step c s w).tasks.count i ≡ 0
    → (step c s w).tasks.adds ≡ upd s.tasks.adds w (s.tasks.adds w ++ i ∷ [])
unfolding step
step_to_add c s w i = PLaws.has_to_add_by c.tasks (suc s.picks) s.tasks w (task_op (event c s w)) i

pick_to_add : (c : Setup) (s : State) (w i : ℕ) → 0 < s.tasks.count i → (pick c s w).tasks.count i ≡ 0
    → (pick c s w).tasks.adds ≡ upd s.tasks.adds w (s.tasks.adds w ++ i ∷ [])
pick_to_add c s w i l = go (finished c s) refl
  where
    go : (b : Bool) → finished c s ≡ b → (pick c s w).tasks.count i ≡ 0
        → (pick c s w).tasks.adds ≡ upd s.tasks.adds w (s.tasks.adds w ++ i ∷ [])
    go true e = rw (pick_finished c s w e) (λ z. absurd (omega arith))
    go false e = rw (pick_open c s w e) (step_to_add c s w i l)

-- another worker's mailbox: after a step, and after a pick
step_mail : (c : Setup) (s : State) (w u : ℕ) → u ≢ w → (step c s w).tasks.mail u ≡ s.tasks.mail u
unfolding step
step_mail c s w u k = (PLaws.others_by c.tasks (suc s.picks) s.tasks w (task_op (event c s w)) u k).0

pick_mail : (c : Setup) (s : State) (w u : ℕ) → u ≢ w → (pick c s w).tasks.mail u ≡ s.tasks.mail u
pick_mail c s w u k = go (finished c s) refl
  where
    go : (b : Bool) → finished c s ≡ b → (pick c s w).tasks.mail u ≡ s.tasks.mail u
    go true e = rw (pick_finished c s w e) refl
    go false e = rw (pick_open c s w e) (step_mail c s w u k)

-- at a receipt of task j it is ready or held
receipt_status : (c : Setup) (s : State) → Inv c s → (w : ℕ) → w < c.workers → {e : Event} → Does c s w e → (j : ℕ) → 0 < is_receipt j e
    → past_waiting (s.tasks.status j) ≡ 1
receipt_status c s v w l {e} d j r = go (task_op e) (may_do c s v w l d) r
  where
    go : (o : Option H.Op) → P.May c.workers c.tasks s.tasks (s.stand w) w o → 0 < P.by (H.is_receipt j) o
        → past_waiting (s.tasks.status j) ≡ 1
    go none m z = absurd (omega arith)
    go (some op) m z = Promise.receipt_past m j z

-- ---- the theorems: for every setup that can be played and every list of its workers' picks from a fresh start, the empty one too

module _ (c : Setup) (playable : Playable c) (ws : List ℕ) (p : Picks c.workers ws) where
  -- each pick gets the state that the last one left
  pub one_more : (w : ℕ) → after c (ws ++ w ∷ []) ≡ pick c (after c ws) w
  unfolding after
  one_more w = run_append (pick c) (start c) ws (w ∷ [])

  -- once finished, the rest of the list isn't taken
  pub rest_untaken : finished c (after c ws) ≡ true → (vs : List ℕ) → after c (ws ++ vs) ≡ after c ws
  unfolding after
  rest_untaken e vs = run_append (pick c) (start c) ws vs ∙ run_finished c (after c ws) e vs

  -- a ready task stands once among the tasks to add, the queues and the ready list, and any other not at all
  pub ready_stands : (i : ℕ)
      → to_add c.workers (after c ws).tasks.adds i + stored c (after c ws) i ≡ is_ready ((after c ws).tasks.status i)
  ready_stands i =
      omega (arith, Promise.to_add_or_given (inv_after c playable ws p).tasked i, (inv_after c playable ws p).device.stored i)

  -- a held task is in exactly one cell, whose worker waits with the cell's ticket, and any other is in none
  pub held_in_cell : (i : ℕ) → boxes c (after c ws) i ≡ is_held ((after c ws).tasks.status i)
  held_in_cell = (inv_after c playable ws p).device.boxes

  -- a task that is run is in exactly one worker's hands, and any other in nobody's
  pub run_in_hand : (i : ℕ) → hands c (after c ws) i ≡ is_running ((after c ws).tasks.status i)
  run_in_hand = Promise.in_hands (inv_after c playable ws p).tasked

  -- no task is lost: one that is ready, held or run stands in exactly one place
  pub none_lost : (i : ℕ)
      → ((after c ws).tasks.status i ≡ ready) ⊎ ((after c ws).tasks.status i ≡ held) ⊎ ((after c ws).tasks.status i ≡ running)
      → places c (after c ws) i ≡ 1
  none_lost i h = omega (arith, ready_stands i, held_in_cell i, run_in_hand i, go h)
    where
      go : ((after c ws).tasks.status i ≡ ready) ⊎ ((after c ws).tasks.status i ≡ held) ⊎ ((after c ws).tasks.status i ≡ running)
          → is_ready ((after c ws).tasks.status i) + is_held ((after c ws).tasks.status i) + is_running ((after c ws).tasks.status i) ≡ 1
      go (inl e) = rw e refl
      go (inr (inl e)) = rw e refl
      go (inr (inr e)) = rw e refl

  module _ (i : ℕ) where
    -- no task is received twice, or ended twice
    pub received_once : tally (is_receipt i) (trace c (start c) ws) ≤ 1
    received_once = omega (arith, R.receipts c playable ws p i, Promise.received_le ((after c ws).tasks.status i))

    pub ended_once : tally (is_ending i) (trace c (start c) ws) ≤ 1
    ended_once = omega (arith, R.endings c playable ws p i, Promise.ended_le ((after c ws).tasks.status i))

    -- its receipt and its ending are by the same worker, at the picks that the state notes; picks are numbered from 1
    pub receipt_by : (k : ℕ) (h : Happening) → get_elem? (trace c (start c) ws) k ≡ some h → 0 < is_receipt i h.what
        → ((after c ws).tasks.runner i ≡ h.by) × ((after c ws).tasks.receipt i ≡ suc k)
    receipt_by = R.receipt_by c playable ws p i

    pub ending_by : (k : ℕ) (h : Happening) → get_elem? (trace c (start c) ws) k ≡ some h → 0 < is_ending i h.what
        → ((after c ws).tasks.runner i ≡ h.by) × ((after c ws).tasks.ending i ≡ suc k)
    ending_by = R.ending_by c playable ws p i

    pub same_worker : (k : ℕ) (h : Happening) → get_elem? (trace c (start c) ws) k ≡ some h
        → 0 < is_receipt i h.what + is_ending i h.what → h.by ≡ (after c ws).tasks.runner i
    same_worker k h e l =
        ⊎_elim (λ (r : 0 < is_receipt i h.what). sym (receipt_by k h e r).0)
        (λ (r : is_receipt i h.what ≤ 0). sym (ending_by k h e (omega arith)).0) (order 0 (is_receipt i h.what))

    -- who receives a task may run it, and so may the worker that has run it or runs it
    pub may_receive : (k : ℕ) (h : Happening) → get_elem? (trace c (start c) ws) k ≡ some h → 0 < is_receipt i h.what
        → may c h.by i ≡ true
    may_receive = receipts_permitted c playable ws p i

    pub may_run : ((after c ws).tasks.status i ≡ running) ⊎ ((after c ws).tasks.status i ≡ over)
        → may c ((after c ws).tasks.runner i) i ≡ true
    may_run o =
        let once : is_received ((after c ws).tasks.status i) ≡ 1 = ⊎_elim (ap is_received) (ap is_received) o in
        let (k, h, e, l) = tally_at (is_receipt i) (trace c (start c) ws) (omega (arith, R.receipts c playable ws p i)) in
        ap (λ (w : ℕ). may c w i) (receipt_by k h e l).0 ∙ may_receive k h e l

    -- a task that is over has one receipt and one ending
    pub run_by_one : (after c ws).tasks.status i ≡ over
        → (tally (is_receipt i) (trace c (start c) ws) ≡ 1) × (tally (is_ending i) (trace c (start c) ws) ≡ 1)
    run_by_one o = (R.receipts c playable ws p i ∙ ap is_received o, R.endings c playable ws p i ∙ ap is_ended o)

    -- for each receipt as many steps of work as the task costs: those that were done, and those that are left in the workers' hands
    pub worked : tally (is_work i) (trace c (start c) ws) + left_in_hands c (after c ws) i
        ≡ tally (is_receipt i) (trace c (start c) ws) * (task_at c.tasks i).cost
    worked = R.worked c playable ws p i

    -- so a task that is over had exactly as many steps of work in the list as it costs
    pub works_exactly : (after c ws).tasks.status i ≡ over → tally (is_work i) (trace c (start c) ws) ≡ (task_at c.tasks i).cost
    works_exactly = R.works_exactly c playable ws p i

  -- a task that is opened counts its unsatisfied accesses, plus one until it is closed
  pub counts_unsatisfied : (i : ℕ) → i < opened (after c ws).tasks.creation
      → (after c ws).tasks.count i
      ≡ unsatisfied c.tasks (after c ws).tasks.flags i + until_closed (after c ws).tasks.creation i
  counts_unsatisfied = Promise.counts_unsatisfied (inv_after c playable ws p).tasked

  -- whoever brings the count to 0 has the task to add, after what it had to add before; nobody else's tasks to add change
  pub has_to_add : (w i : ℕ) → 0 < (after c ws).tasks.count i → (after c (ws ++ w ∷ [])).tasks.count i ≡ 0
      → (after c (ws ++ w ∷ [])).tasks.adds ≡ upd (after c ws).tasks.adds w ((after c ws).tasks.adds w ++ i ∷ [])
  has_to_add w i = rw (one_more w) (pick_to_add c (after c ws) w i)

  -- a message is posted to the mailbox of the worker whose step causes it: a pick leaves every other mailbox as it is
  pub posts_own : (w u : ℕ) → u ≢ w → (after c (ws ++ w ∷ [])).tasks.mail u ≡ (after c ws).tasks.mail u
  posts_own w u k = rw (one_more w) (pick_mail c (after c ws) w u k)

  -- a task that is ready, held, run or over has every earlier task that conflicts with it over
  pub in_order : (i j : ℕ) → i < j → j < length c.tasks → conflict (task_at c.tasks i) (task_at c.tasks j) ≡ true
      → past_waiting ((after c ws).tasks.status j) ≡ 1 → (after c ws).tasks.status i ≡ over
  in_order = Promise.in_order (inv_after c playable ws p).tasked

  -- so it is when a task is received: no task starts before every earlier conflicting task is over
  pub starts_in_order : (i j : ℕ) → i < j → j < length c.tasks → conflict (task_at c.tasks i) (task_at c.tasks j) ≡ true
      → (w : ℕ) → w < c.workers → 0 < is_receipt j (event c (after c ws) w) → (after c ws).tasks.status i ≡ over
  starts_in_order i j l b e w k r =
      in_order i j l b e (receipt_status c (after c ws) (inv_after c playable ws p) w k (does c (after c ws) w) j r)

  -- where all tasks are created, no message and no notice is pending, and no task is ready, held or run, every task is over, and so
  -- the state is finished: nothing gets stuck
  pub nothing_stuck : Created c.tasks (after c ws).tasks.creation
      → ((w : ℕ) → w < c.workers → ((after c ws).tasks.mail w ≡ []) × (has_notice ((after c ws).stand w) ≡ false))
      → ((i : ℕ) → i < length c.tasks
      → is_ready ((after c ws).tasks.status i) + is_held ((after c ws).tasks.status i) + is_running ((after c ws).tasks.status i) ≡ 0)
      → ((i : ℕ) → i < length c.tasks → (after c ws).tasks.status i ≡ over) × (finished c (after c ws) ≡ true)
  nothing_stuck created silent still = go (after c ws).tasks.creation refl created
    where
      go : (x : Creation) → (after c ws).tasks.creation ≡ x → Created c.tasks x
          → ((i : ℕ) → i < length c.tasks → (after c ws).tasks.status i ≡ over) × (finished c (after c ws) ≡ true)
      go (linking _ _) e l = elim l [ ]
      go (opening n) e l =
          let all = Promise.nothing_stuck (inv_after c playable ws p).tasked n e l (λ w b. (silent w b).0) still in
          (all, PLaws.finished_if c.workers c.tasks (after c ws).tasks (after c ws).stand all silent)

  -- the picks counted are the events of the trace, and no more than the list has
  pub picks_counted : ((after c ws).picks ≡ length (trace c (start c) ws)) × (length (trace c (start c) ws) ≤ length ws)
  unfolding after start
  picks_counted = (omega (arith, picks_taken c ws p (start c)), taken_within c ws (start c))

  -- where the state is finished after n picks of the list, no more were taken
  stopped : (n : ℕ) → finished c (after c (take n ws)) ≡ true → (after c ws).picks ≤ n
  unfolding after start
  stopped n e =
      rw (run_drop (pick c) (start c) n ws, run_finished c (run (pick c) (start c) (take n ws)) e (drop n ws))
      (omega (
        arith,
        picks_taken c (take n ws) (picks_take c.workers n ws p) (start c),
        taken_within c (take n ws) (start c),
        length-take n ws,
      ))

  -- picks stop at the end of the list or when the state is finished, whichever is first
  pub taken_until : (((after c ws).picks ≡ length ws) ⊎ (finished c (after c ws) ≡ true))
      × ((n : ℕ) → n < (after c ws).picks → finished c (after c (take n ws)) ≡ false)
  unfolding after
  taken_until = (
    ⊎_elim (λ l. inl (omega (arith, picks_counted.0))) inr (taken_all c ws (start c)),
    λ n l. go n l (finished c (after c (take n ws))) refl,
  )
    where
      go : (n : ℕ) → n < (after c ws).picks → (b : Bool) → finished c (after c (take n ws)) ≡ b → b ≡ false
      go n l true e = absurd (omega (arith, stopped n e))
      go n l false e = refl

  -- what is noted of a task is a worker's number, and no later than the last pick taken
  pub noted : (i : ℕ) → ((after c ws).tasks.runner i < c.workers) × ((after c ws).tasks.receipt i ≤ (after c ws).picks)
      × ((after c ws).tasks.ending i ≤ (after c ws).picks)
  noted i = rw picks_counted.0 (R.noted c playable ws p i)

  -- ---- what a layout in arrays and 64-bit numbers rests on

  -- no queue, mailbox or list outgrows its room, with at most n accesses in a task
  pub rooms : (n : ℕ) → 0 < n → ((i : ℕ) → length (task_at c.tasks i).accesses ≤ n) → (w : ℕ) → w < c.workers
      → (length ((after c ws).queue w) ≤ c.capacity) × (length ((after c ws).tasks.mail w) ≤ n)
      × (length ((after c ws).tasks.adds w) ≤ length c.tasks) × (length (after c ws).ready_list ≤ length c.tasks)
  unfolding after
  rooms n any few w l = (
    run_inv c (Roomy c) (λ s x k. roomy_step c s x) ws p (start c) (roomy_start c) w,
    Promise.mails playable.distinct (R.task_history c playable ws p) n any few w,
    Promise.adds_length (inv_after c playable ws p).tasked w l,
    ready_length c playable (after c ws) (inv_after c playable ws p),
  )

  -- head and tail: below the slots and the picks taken, and less than W apart while somebody owns
  pub ends_bounded : ((after c ws).lock.head ≤ c.slots + (after c ws).picks)
      × ((after c ws).lock.tail ≤ suc (after c ws).lock.head)
      × ((w : ℕ) → w < c.workers → Owner (lock_stand ((after c ws).place w))
      → (after c ws).lock.head - (after c ws).lock.tail < c.workers)
  unfolding after
  ends_bounded = (
    run_inv c (Small c) (λ s w l h. small_step c s w h) ws p (start c) (small_start c),
    (Lock.ends (inv_after c playable ws p).locked).1,
    λ w l o. omega (arith, Lock.ends_near (inv_after c playable ws p).locked, playable.workers),
  )
