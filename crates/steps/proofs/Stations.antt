-- The device's part of a share: what its numbers say, and what it is after a store.
use Prim.Native.Nat.{ℕ, suc, ◌+◌, ◌%◌, ◌≤◌, ◌<◌}
use native.Mathlib.Omega.{arith}
use native.Mathlib.Numerals.{add-one}
use mathlib.Core.Path.{◌≡◌, refl, sym, ap, ◌∙◌}
use mathlib.Core.Logic.{◌≢◌}
use mathlib.Core.List.{List, [], ◌∷◌, ◌++◌, append_assoc}
use lib.ListN.{length, get_or, set, length-set}
use lib.Seq.{get_or-set_same, get_or-set_other}
use Rattle.runs.specs.Circular.{entries}
use Rattle.runs.specs.Circular.{entries_length, entries_none, entries_snoc, entries_same, entries_push, array_push}
use Rattle.machine.specs.State.{for_serving, for_adding, Place, idle, trying, registering, looking, draining, serving, handing, leaving}
use Rattle.steps.specs.Layout.{place_at, number_at, queued_at, slot_at, queue_from, queue_slots, IDLE, LOOKING, DRAINING_TO_ADD, READY}
use Rattle.steps.specs.Codes.{Coded}
use Rattle.steps.specs.Memory.{Stationed, moved, pushed, emptied}

-- the place, from its number
pub idle_at : (k a : ℕ) (p : Place) → Coded k a p → k ≡ IDLE → p ≡ idle
idle_at k a idle h z = refl
idle_at k a trying h z = absurd (omega arith)
idle_at k a (registering t) h z = absurd (omega (arith, h.0))
idle_at k a (looking t) h z = absurd (omega (arith, h.0))
idle_at k a (draining for_serving x) h z = absurd (omega (arith, h.0))
idle_at k a (draining for_adding x) h z = absurd (omega (arith, h.0))
idle_at k a (serving n) h z = absurd (omega (arith, h.0))
idle_at k a (handing n) h z = absurd (omega (arith, h.0))
idle_at k a leaving h z = absurd (omega arith)

pub place_few : (k a : ℕ) (p : Place) → Coded k a p → k ≤ DRAINING_TO_ADD
place_few k a idle h = omega arith
place_few k a trying h = omega arith
place_few k a (registering t) h = omega (arith, h.0)
place_few k a (looking t) h = omega (arith, h.0)
place_few k a (draining for_serving x) h = omega (arith, h.0)
place_few k a (draining for_adding x) h = omega (arith, h.0)
place_few k a (serving n) h = omega (arith, h.0)
place_few k a (handing n) h = omega (arith, h.0)
place_few k a leaving h = omega arith

-- the slots of the queue
abbrev pub queue_slot : List ℕ → ℕ → ℕ
queue_slot own k = get_or own (queue_from + k) 0

module _ {own : List ℕ} {p : Place} {q : List ℕ} (h : Stationed own p q) where
  pub queue_count : get_or own queued_at 0 ≡ length q
  queue_count = sym (entries_length (queue_slot own) queue_slots 0 (get_or own queued_at 0)) ∙ ap length h.queue

  at_number : (k v : ℕ) → k < queue_from → get_or (set own k v) k 0 ≡ v
  at_number k v few = get_or-set_same own k v 0 (omega (arith, h.long))

  pub stationed_go : (k a : ℕ) (to : Place) → Coded k a to → Stationed (moved own k a) to q
  stationed_go k a to coded =
      let one = set own place_at k in
      let new = set one number_at a in
      let place : get_or new place_at 0 ≡ k = get_or-set_other one number_at place_at a 0 (λ e. omega arith) ∙ at_number place_at k (omega arith) in
      let number : get_or new number_at 0 ≡ a = get_or-set_same one number_at a 0 (simp length-set (omega (arith, h.long))) in
      let other : (i : ℕ) → number_at < i → get_or new i 0 ≡ get_or own i 0 =
      λ i l. get_or-set_other one number_at i a 0 (λ e. omega arith) ∙ get_or-set_other own place_at i k 0 (λ e. omega arith) in
      let slots =
      entries_same queue_slots (queue_slot new) (queue_slot own) 0 (get_or own queued_at 0)
      (λ i l. other (queue_from + (0 + i) % queue_slots) (omega arith)) in
      record {
        long = simp length-set h.long;
        place = rw (place, number) coded;
        queue = rw (other queued_at (omega arith)) (slots ∙ h.queue);
      }

  pub stationed_wait : (t slot : ℕ) (to : Place) → Coded LOOKING t to → Stationed (set (moved own LOOKING t) slot_at slot) to q
  stationed_wait t slot to coded =
      let one = moved own LOOKING t in
      let went = stationed_go LOOKING t to coded in
      let other : (k : ℕ) → k ≢ slot_at → get_or (set one slot_at slot) k 0 ≡ get_or one k 0 =
      λ k d. get_or-set_other one slot_at k slot 0 d in
      let slots =
      entries_same queue_slots (queue_slot (set one slot_at slot)) (queue_slot one) 0 (get_or one queued_at 0)
      (λ i l. other (queue_from + (0 + i) % queue_slots) (λ e. omega arith)) in
      record {
        long = simp length-set h.long;
        place = rw (other place_at (λ e. omega arith), other number_at (λ e. omega arith)) went.place;
        queue = rw (other queued_at (λ e. omega arith)) (slots ∙ went.queue);
      }

  pub stationed_push : (v : ℕ) → get_or own queued_at 0 < queue_slots → Stationed (pushed own v) p (q ++ v ∷ [])
  stationed_push v room =
      let n = get_or own queued_at 0 in
      let one = set own (queue_from + n) v in
      let new = set one queued_at (n + 1) in
      let other : (k : ℕ) → k ≢ queued_at → k ≢ queue_from + n → get_or new k 0 ≡ get_or own k 0 =
      λ k a b. get_or-set_other one queued_at k (n + 1) 0 a ∙ get_or-set_other own (queue_from + n) k v 0 b in
      let place : get_or new place_at 0 ≡ get_or own place_at 0 = other place_at (λ e. omega arith) (λ e. omega arith) in
      let number : get_or new number_at 0 ≡ get_or own number_at 0 = other number_at (λ e. omega arith) (λ e. omega arith) in
      let queued : get_or new queued_at 0 ≡ n + 1 = get_or-set_same one queued_at (n + 1) 0 (simp length-set (omega (arith, h.long))) in
      let slot : (0 + n) % queue_slots ≡ n = omega arith in
      let put : get_or one (queue_from + n) 0 ≡ v = get_or-set_same own (queue_from + n) v 0 (omega (arith, h.long)) in
      let last : queue_slot new ((0 + n) % queue_slots) ≡ v =
      rw slot (get_or-set_other one queued_at (queue_from + n) (n + 1) 0 (λ e. omega arith) ∙ put) in
      let more =
      entries_push (queue_slot own) (queue_slot new) queue_slots 0 n v (omega arith) (omega arith) last
      (λ k below d. other (queue_from + k) (λ e. omega arith) (λ e. d (omega arith))) in
      record {
        long = simp length-set h.long;
        place = rw (place, number) h.place;
        queue = rw queued (ap (entries (queue_slot new) queue_slots 0) (add-one n) ∙ more ∙ ap (λ (l : List ℕ). l ++ v ∷ []) h.queue);
      }

  pub stationed_drained : Stationed (emptied own) p []
  stationed_drained =
      let new = set own queued_at 0 in
      let place : get_or new place_at 0 ≡ get_or own place_at 0 = get_or-set_other own queued_at place_at 0 0 (λ e. omega arith) in
      let number : get_or new number_at 0 ≡ get_or own number_at 0 = get_or-set_other own queued_at number_at 0 0 (λ e. omega arith) in
      record {
        long = simp length-set h.long;
        place = rw (place, number) h.place;
        queue = rw (at_number queued_at 0 (omega arith)) (entries_none (queue_slot new) queue_slots 0);
      }

-- one turn of a drain: task i of the queue goes behind the n + i in the ready list
pub drain_turn : (own ready start : List ℕ) (at n i : ℕ) → READY ≤ length ready → n + i < READY → i < queue_slots
    → entries (λ k. get_or ready k 0) READY at (n + i) ≡ entries (λ k. get_or start k 0) READY at n ++ entries (queue_slot own) queue_slots 0 i
    → entries (λ k. get_or (set ready ((at + n + i) % READY) (queue_slot own i)) k 0) READY at (n + (i + 1))
    ≡ entries (λ k. get_or start k 0) READY at n ++ entries (queue_slot own) queue_slots 0 (i + 1)
drain_turn own ready start at n i long room few turns =
    let next : n + (i + 1) ≡ suc (n + i) = omega arith in
    let to : at + n + i ≡ at + (n + i) = omega arith in
    let from : (0 + i) % queue_slots ≡ i = omega arith in
    let queued : entries (queue_slot own) queue_slots 0 (i + 1) ≡ entries (queue_slot own) queue_slots 0 i ++ queue_slot own i ∷ [] =
    rw add-one (rw from at (entries_snoc (queue_slot own) queue_slots 0 i)) in
    rw (next, to, queued, array_push ready READY at (n + i) (queue_slot own i) (omega arith) room, turns, append_assoc)
