-- Who receives a task may run it: a cell is filled with what its worker may run, and an owner takes what it may run itself.
use Rattle.std.specs.Prelude.{ℕ, zero, suc, ◌<◌, ◌≡◌, refl, true, List, ◌∷◌}
use Rattle.std.proofs.Common.{arith, sym, ap, subst, ◌∙◌, inr}
use Rattle.std.proofs.Math.Option.{some}
use Rattle.std.proofs.Math.ListN.{get_elem?}
use Rattle.runs.specs.Update.{upd, upd_other, upd_all, clash}
use Rattle.runs.specs.Counts.{is_equal}
use Rattle.runs.specs.Picks.{Picks}
use Rattle.runs.proofs.Traces as Traces
use Rattle.lock.proofs.Promise as Lock
use Rattle.machine.specs.State.{Setup, State, start, picked}
use Rattle.machine.specs.Event.{Event, tries_and_owns, takes_ticket, registers, receives, owns, hands_over, leaves, may, handed_by, event}
use Rattle.machine.proofs.Ready.{chosen_may}
use Rattle.machine.specs.Step.{apply, step, finished}
use Rattle.machine.specs.Trace.{Happening, trace, is_receipt}
use Rattle.machine.specs.View as view
use Rattle.machine.specs.View.{Does}
use Rattle.machine.proofs.View.{does_step}
use Rattle.machine.specs.Whereabouts.{lock_stand}
use Rattle.machine.proofs.Safety.Ends.{cells_kept}
use Rattle.machine.specs.Safety.Invariant.{Playable, Inv}
use Rattle.machine.proofs.Safety.Invariant.{inv_start, inv_step, inv_picked}

-- what was ever put into a cell, its worker may run
abbrev MayCells : Setup → (tickets tasks : ℕ → ℕ) → Type 0
MayCells c tickets tasks = (v : ℕ) → 0 < tickets v → may c v (tasks v) ≡ true

module _ (c : Setup) (s : State) (w : ℕ) where
  abbrev Cells : State → Type 0
  Cells u = MayCells c u.lock.cell_ticket u.lock.cell_task

  kept : (e : Event) → ((apply c s w e).lock.cell_ticket ≡ s.lock.cell_ticket) × ((apply c s w e).lock.cell_task ≡ s.lock.cell_task)
      → Cells s → Cells (apply c s w e)
  kept e (a, b) h = rw (a, b) h

  cells_may : {e : Event} → Does c s w e → Cells s → Cells (apply c s w e)
  cells_may (view.does_mind d p can) h = h
  cells_may (view.does_push i is r d l) h = h
  cells_may (view.does_find_full i is r d l) h = h
  cells_may (view.does_win p f) h = kept tries_and_owns (cells_kept c s w tries_and_owns refl) h
  cells_may (view.does_fail p f) h = h
  cells_may (view.does_take_ticket r d z) h = kept takes_ticket (cells_kept c s w takes_ticket refl) h
  cells_may (view.does_register t p) h = kept (registers t) (cells_kept c s w (registers t) refl) h
  cells_may (view.does_wait t p q) h = h
  cells_may (view.does_receive t i p q) h = kept (receives t i) (cells_kept c s w (receives t i) refl) h
  cells_may (view.does_own t p q) h = kept (owns t) (cells_kept c s w (owns t) refl) h
  cells_may (view.does_drain p k q) h = h
  cells_may (view.does_fill n v i is p q f l) h =
      let (a, b) = Lock.fill_after c.slots s.lock w v i in rw (a, b) (filled v i (chosen_may q) h)
    where
      filled : (v i : ℕ) → may c v i ≡ true → Cells s → MayCells c (upd s.lock.cell_ticket v s.lock.tail) (upd s.lock.cell_task v i)
      filled v i m h =
          upd_all (λ u t. 0 < upd s.lock.cell_ticket v s.lock.tail u → may c u t ≡ true) s.lock.cell_task v i (λ l. m)
          (λ u n l. h u (rw (upd_other s.lock.cell_ticket v s.lock.tail u n) at l))
  cells_may (view.does_take n i is p q) h = h
  cells_may (view.does_take_none n p q) h = h
  cells_may (view.does_hand_over n p) h = kept (hands_over n (handed_by c s w)) (cells_kept c s w (hands_over n (handed_by c s w)) refl) h
  cells_may (view.does_leave p) h = kept (leaves (handed_by c s w)) (cells_kept c s w (leaves (handed_by c s w)) refl) h

  -- a receipt, from the ready list or from a cell
  receipt_may : Inv c s → Cells s → {e : Event} → Does c s w e → (i : ℕ) → 0 < is_receipt i e → may c w i ≡ true
  receipt_may v h (view.does_mind d p can) i l = absurd (omega arith)
  receipt_may v h (view.does_push j is r d b) i l = absurd (omega arith)
  receipt_may v h (view.does_find_full j is r d b) i l = absurd (omega arith)
  receipt_may v h (view.does_win p f) i l = absurd (omega arith)
  receipt_may v h (view.does_fail p f) i l = absurd (omega arith)
  receipt_may v h (view.does_take_ticket r d z) i l = absurd (omega arith)
  receipt_may v h (view.does_register t p) i l = absurd (omega arith)
  receipt_may v h (view.does_wait t p q) i l = absurd (omega arith)
  receipt_may v h (view.does_receive t j p q) i l =
      let (a, b) = Lock.look_received c.slots s.lock t w j q in
      let given = Lock.ticket_given v.locked w t (inr (ap lock_stand p)) in
      let pos : 0 < s.lock.cell_ticket w = omega (arith, a, given.0, Lock.kept_sizes v.locked) in
      ap (may c w) (sym (is_equal j i l)) ∙ ap (may c w) (sym b) ∙ h w pos
  receipt_may v h (view.does_own t p q) i l = absurd (omega arith)
  receipt_may v h (view.does_drain p k q) i l = absurd (omega arith)
  receipt_may v h (view.does_fill n u j is p q f b) i l = absurd (omega arith)
  receipt_may v h (view.does_take n j is p q) i l = ap (may c w) (sym (is_equal j i l)) ∙ chosen_may q
  receipt_may v h (view.does_take_none n p q) i l = absurd (omega arith)
  receipt_may v h (view.does_hand_over n p) i l = absurd (omega arith)
  receipt_may v h (view.does_leave p) i l = absurd (omega arith)

-- ---- along a list of picks

module _ (c : Setup) (playable : Playable c) where
  abbrev Lawful : State → Type 0
  Lawful s = Inv c s × MayCells c s.lock.cell_ticket s.lock.cell_task

  lawful_step : (s : State) (w : ℕ) → w < c.workers → Lawful s → Lawful (step c s w)
  unfolding step
  lawful_step s w l (v, h) = (inv_step c playable s w l v, cells_may c (picked s) w (does_step c s w) h)

  lawful_start : Lawful (start c)
  unfolding start
  lawful_start = (inv_start c playable, λ v l. absurd (omega (arith, (Lock.start_cells c.slots v).0)))

  abbrev Permitted : State → List Happening → State → Type 0
  Permitted s hs t = (i k : ℕ) (h : Happening) → get_elem? hs k ≡ some h → 0 < is_receipt i h.what → may c h.by i ≡ true

  permitted_more : (s t : State) (w : ℕ) (hs : List Happening) → w < c.workers → Lawful s → Permitted (step c s w) hs t
      → Permitted s (record { by = w; what = event c s w } ∷ hs) t
  permitted_more s t w hs l (v, m) rest i zero h e r =
      let same : record { by = w; what = event c s w } ≡ h = cc in
      subst (λ (x : Happening). 0 < is_receipt i x.what → may c x.by i ≡ true) same
      (receipt_may c (picked s) w (inv_picked c playable s v) m (does_step c s w) i) r
  permitted_more s t w hs l v rest i (suc k) h e r = rest i k h e r

  pub receipts_permitted : (ws : List ℕ) → Picks c.workers ws → (i k : ℕ) (h : Happening) → get_elem? (trace c (start c) ws) k ≡ some h
      → 0 < is_receipt i h.what → may c h.by i ≡ true
  receipts_permitted ws p =
      Traces.along (finished c) (step c) (event c) c.workers Lawful Permitted lawful_step (λ s v i k h e. clash (cc)) permitted_more ws p
      (start c) lawful_start
