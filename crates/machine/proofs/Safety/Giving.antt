-- How a task comes to its giver, along a list of picks: by the hand-over that lets its taker in, or by the taking.
use Rattle.std.specs.Prelude.{ℕ, ◌+◌, ◌≤◌, ◌<◌, ◌≡◌, ◌⊎◌, ◌≢◌, length}
use Rattle.std.proofs.Common.{arith, sym, ap, subst, ◌∙◌, inl, inr, ⊎_elim}
use Rattle.std.proofs.Math.Path.{refl}
use mathlib.Core.List.{List, [], ◌∷◌, ◌++◌, append-nil, append_assoc}
use Rattle.std.proofs.Math.Option.{Option, none, some}
use Rattle.std.proofs.Math.ListN.{get_elem?}
use Rattle.runs.specs.Update.{same, upd, upd_same, upd_other, clash}
use Rattle.runs.specs.Counts.{is_same, is_other, count}
use Rattle.runs.specs.Picks.{Picks}
use Rattle.runs.specs.Traces as Traces
use Rattle.runs.proofs.Traces as TracesLaws
use Rattle.lock.specs.Lock as L
use Rattle.lock.specs.History as LH
use Rattle.lock.proofs.Promise as Lock
use Rattle.tasks.specs.Accesses.{task_at}
use Rattle.tasks.specs.Tasks.{working, Status, ready, held, running, stage, is_held, is_received}
use Rattle.tasks.specs.History as Th
use Rattle.tasks.specs.Playing as P
use Rattle.tasks.proofs.Playing as PLaws
use Rattle.tasks.proofs.Promise as Promise
use Rattle.machine.specs.State.{Setup, Place, looking, serving, State, start, picked}
use Rattle.machine.specs.Event.{Handed, Event, receives, fills, takes, handed_by, event}
use Rattle.machine.proofs.Ready.{chosen_listed}
use Rattle.machine.specs.Step.{lock_op, task_op, effect, giver_after, lock_after, apply, step, finished, after}
use Rattle.machine.specs.Trace.{Happening, trace, tally, is_receipt, is_hand_over, is_taking, is_handing, handed_with}
use Rattle.machine.specs.View as view
use Rattle.machine.specs.View.{Does}
use Rattle.machine.proofs.View.{does_step}
use Rattle.machine.specs.Whereabouts.{lock_stand}
use Rattle.machine.specs.Safety.Locked.{lock_stands}
use Rattle.machine.proofs.Safety.Locked.{LockMove, aside, operates, lock_move, moved_stands, waits_at}
use Rattle.machine.proofs.Safety.Ends.{tail_apply, tail_kept, tail_raised}
use Rattle.machine.proofs.Safety.Device.{listed_given, celled, celled_once}
use Rattle.machine.proofs.Safety.Tasked.{tasked_keep}
use Rattle.machine.proofs.Safety.Handed.{Fronts, handed_is, handed_if}
use Rattle.machine.proofs.Safety.Traces.{more, tally_more, length_more, at_more, at_last}
use Rattle.machine.specs.Safety.Invariant.{Playable, Inv}
use Rattle.machine.proofs.Safety.Invariant.{may_do, inv_start, inv_step, inv_picked}

-- ---- what a list of events has of task i, whose giver is gs

pub record Ungiven (i : ℕ) (gs : Option ℕ) (hs : List Happening) : Type 0 where
  pub nobody : gs ≡ none
  pub unhanded : tally (is_handing i) hs ≡ 0
  pub untaken : tally (is_taking i) hs ≡ 0

-- its giver has handed it over to worker v, before place n of the list
pub record HandedTo (c : Setup) (i v n : ℕ) (gs : Option ℕ) (hs : List Happening) : Type 0 where
  pub by : ℕ
  pub giver : gs ≡ some by
  pub worker : by < c.workers
  pub other : by ≢ v
  pub once : tally (is_handing i) hs ≡ 1
  pub untaken : tally (is_taking i) hs ≡ 0
  pub at : ℕ
  pub what : Event
  pub happens : get_elem? hs at ≡ some (record { by = by; what = what })
  pub gives : handed_with what ≡ some (record { by = by; to = v; task = i })
  pub before : at < n

-- worker w has taken it from the ready list
pub record TakenBy (c : Setup) (i w : ℕ) (gs : Option ℕ) (hs : List Happening) : Type 0 where
  pub giver : gs ≡ some w
  pub worker : w < c.workers
  pub unhanded : tally (is_handing i) hs ≡ 0
  pub once : tally (is_taking i) hs ≡ 1

-- worker w has received it at place n of the list, and it is run or over
pub record Received (i w n : ℕ) (x : Status) (hs : List Happening) : Type 0 where
  pub what : Event
  pub happens : get_elem? hs n ≡ some (record { by = w; what = what })
  pub receives : 0 < is_receipt i what
  pub status : stage running ≤ stage x

-- how far task i has come: not held and not received; in the cell of the front waiter; let in with its taker; fetched from the cell; taken
pub data Gave (c : Setup) (i : ℕ) (l : L.Lock) (place : ℕ → Place) (x : Status) (gs : Option ℕ) (hs : List Happening) : Type 0 where
  unheld : is_held x ≡ 0 → tally (is_receipt i) hs ≡ 0 → Ungiven i gs hs → Gave c i l place x gs hs
  in_front : (v : ℕ) → v < c.workers → LH.InCell l (lock_stands place) v l.tail i → Ungiven i gs hs → Gave c i l place x gs hs
  let_in_lem : (v t : ℕ) → v < c.workers → LH.InCell l (lock_stands place) v t i → t < l.tail → HandedTo c i v (length hs) gs hs
      → Gave c i l place x gs hs
  fetched : (w n : ℕ) → Received i w n x hs → HandedTo c i w n gs hs → Gave c i l place x gs hs
  taken : (w n : ℕ) → Received i w n x hs → TakenBy c i w gs hs → Gave c i l place x gs hs

abbrev pub GaveAt : Setup → ℕ → State → List Happening → Type 0
GaveAt c i s = Gave c i s.lock s.place (s.tasks.status i) (s.giver i)

-- whoever gave it is a worker
pub giver_below : (c : Setup) (i : ℕ) {l : L.Lock} {place : ℕ → Place} {x : Status} {gs : Option ℕ} {hs : List Happening}
    → Gave c i l place x gs hs → (g : ℕ) → gs ≡ some g → g < c.workers
giver_below c i (unheld a b u) g e = clash (let y = u.nobody in cc)
giver_below c i (in_front v l k u) g e = clash (let y = u.nobody in cc)
giver_below c i (let_in_lem v t l k m h) g e = let y : h.by ≡ g = let z = h.giver in cc in omega (arith, h.worker)
giver_below c i (fetched w n r h) g e = let y : h.by ≡ g = let z = h.giver in cc in omega (arith, h.worker)
giver_below c i (taken w n r h) g e = let y : w ≡ g = let z = h.giver in cc in omega (arith, h.worker)

-- ---- the same with one event more

module _ (i w : ℕ) (e : Event) {gs : Option ℕ} {hs : List Happening} where
  ungiven_more : is_handing i e ≡ 0 → is_taking i e ≡ 0 → Ungiven i gs hs → Ungiven i gs (more hs w e)
  ungiven_more a b u =
      record {
        nobody = u.nobody;
        unhanded = omega (arith, tally_more w e (is_handing i) hs, u.unhanded);
        untaken = omega (arith, tally_more w e (is_taking i) hs, u.untaken);
      }

  handed_more : {c : Setup} {v n m : ℕ} → is_handing i e ≡ 0 → is_taking i e ≡ 0 → n ≤ m → HandedTo c i v n gs hs
      → HandedTo c i v m gs (more hs w e)
  handed_more a b l g =
      record {
        by = g.by;
        giver = g.giver;
        worker = g.worker;
        other = g.other;
        once = omega (arith, tally_more w e (is_handing i) hs, g.once);
        untaken = omega (arith, tally_more w e (is_taking i) hs, g.untaken);
        at = g.at;
        what = g.what;
        happens = at_more w e hs g.at _ g.happens;
        gives = g.gives;
        before = omega (arith, g.before);
      }

  taken_more : {c : Setup} {v : ℕ} → is_handing i e ≡ 0 → is_taking i e ≡ 0 → TakenBy c i v gs hs → TakenBy c i v gs (more hs w e)
  taken_more a b t =
      record {
        giver = t.giver;
        worker = t.worker;
        unhanded = omega (arith, tally_more w e (is_handing i) hs, t.unhanded);
        once = omega (arith, tally_more w e (is_taking i) hs, t.once);
      }

received_more : (i w : ℕ) (e : Event) {u n : ℕ} {x y : Status} {hs : List Happening} → stage x ≤ stage y → Received i u n x hs
    → Received i u n y (more hs w e)
received_more i w e {n = n} {hs = hs} l r =
    record {
      what = r.what;
      happens = at_more w e hs n _ r.happens;
      receives = r.receives;
      status = omega (arith, r.status);
    }

-- ---- what the task's status and its cell say

-- task i lies in the cell of worker v, who waits with ticket t, under that ticket
abbrev In : State → ℕ → ℕ → ℕ → Type 0
In s i v t = LH.InCell s.lock (lock_stands s.place) v t i

module _ (c : Setup) (i : ℕ) (s : State) (inv : Inv c s) where
  in_held : (v t : ℕ) → v < c.workers → In s i v t → s.tasks.status i ≡ held
  in_held v t l (p, e, d) = celled c s inv.device v t i l (waits_at (s.place v) t p) e d

  module _ {hs : List Happening} where
    -- while it is new, waiting or ready nobody has given it
    pub ungiven_early : stage (s.tasks.status i) ≤ stage ready → GaveAt c i s hs → Ungiven i (s.giver i) hs
    ungiven_early l (unheld z r u) = u
    ungiven_early l (in_front v b k u) = absurd (omega (arith, ap stage (in_held v _ b k)))
    ungiven_early l (let_in_lem v t b k m g) = absurd (omega (arith, ap stage (in_held v t b k)))
    ungiven_early l (fetched w n r g) = absurd (omega (arith, r.status))
    ungiven_early l (taken w n r g) = absurd (omega (arith, r.status))

    -- in the cell of worker v and under ticket t: it is still to be handed over, or was handed over to that worker
    pub given_in_cell : (v t : ℕ) → v < c.workers → In s i v t → GaveAt c i s hs
        → ((t ≡ s.lock.tail) × Ungiven i (s.giver i) hs) ⊎ ((t < s.lock.tail) × HandedTo c i v (length hs) (s.giver i) hs)
    given_in_cell v t l (p, e, d) = go
      where
        once : (u r : ℕ) → u < c.workers → In s i u r → (u ≡ v) × (r ≡ t)
        once u r b (q, f, g) =
            let z : u ≡ v =
            celled_once c s inv.device u v r t i b l (waits_at (s.place u) r q) f g (waits_at (s.place v) t p) e d in
            (z, sym f ∙ ap s.lock.cell_ticket z ∙ e)

        is_held_lem : s.tasks.status i ≡ held
        is_held_lem = in_held v t l (p, e, d)

        go : GaveAt c i s hs
            → ((t ≡ s.lock.tail) × Ungiven i (s.giver i) hs) ⊎ ((t < s.lock.tail) × HandedTo c i v (length hs) (s.giver i) hs)
        go (unheld z r u) = absurd (omega (arith, ap is_held is_held_lem))
        go (in_front u b k n) = inl (sym (once u _ b k).1, n)
        go (let_in_lem u r b k m g) = let (x, y) = once u r b k in inr (omega arith, rw (← x) g)
        go (fetched w n r g) = absurd (omega (arith, r.status, ap stage is_held_lem))
        go (taken w n r g) = absurd (omega (arith, r.status, ap stage is_held_lem))

    -- once it was received it has a giver: who handed it over to the receiver, or the receiver itself
    pub given_received : is_received (s.tasks.status i) ≡ 1 → tally (is_receipt i) hs ≡ is_received (s.tasks.status i) → GaveAt c i s hs
        → (w : ℕ) × (n : ℕ) × Received i w n (s.tasks.status i) hs × (HandedTo c i w n (s.giver i) hs ⊎ TakenBy c i w (s.giver i) hs)
    given_received x y (unheld z r u) = absurd (omega arith)
    given_received x y (in_front v b k u) = absurd (omega (arith, ap is_received (in_held v _ b k)))
    given_received x y (let_in_lem v t b k m g) = absurd (omega (arith, ap is_received (in_held v t b k)))
    given_received x y (fetched w n r g) = (w, n, r, inl g)
    given_received x y (taken w n r g) = (w, n, r, inr g)

-- ---- one event

module _ (c : Setup) (i : ℕ) (s : State) (inv : Inv c s) (w : ℕ) (hw : w < c.workers) where
  -- what lies in a cell stays there until it is fetched
  stays_in : {e : Event} → Does c s w e → (v t : ℕ) → In s i v t → lock_op e ≢ some (LH.receive t i) → In (apply c s w e) i v t
  stays_in {e} d v t k n = go (lock_move c s w d) n
    where
      go : {o : Option LH.Op} {p : Place} → LockMove c s w o p → o ≢ some (LH.receive t i)
          → LH.InCell (lock_after c s.lock w o) (lock_stands (upd s.place w p)) v t i
      go (aside {p} q) x = subst (λ (st : ℕ → LH.Stand). LH.InCell s.lock st v t i) (sym (moved_stands c s w (aside {p = p} q))) k
      go (operates {p} op can q) x =
          ⊎_elim
          (λ ((y, z) : (w ≡ v) × (op ≡ LH.receive t i)). absurd (x (ap some z)))
          (λ z.
          subst (λ (st : ℕ → LH.Stand). LH.InCell (LH.after c.slots s.lock w op) st v t i)
          (sym (moved_stands c s w (operates {p = p} op can q))) z)
          (Lock.cell_stays inv.locked w v t i k op can)

  -- a status never goes back
  forward : {e : Event} → Does c s w e → stage (s.tasks.status i) ≤ stage ((apply c s w e).tasks.status i)
  forward {e} d = go (task_op e) (may_do c s inv w hw d)
    where
      go : (o : Option Th.Op) → P.May c.workers c.tasks s.tasks (s.stand w) w o
          → stage (s.tasks.status i) ≤ stage ((P.tasks_after c.tasks s.picks s.tasks w o).status i)
      go none m = omega arith
      go (some op) m = Promise.never_back inv.tasked w hw s.picks op m i

  module _ (hs : List Happening) where
    -- an event that has nothing to do with task i, and hands nothing over where task i would be handed over
    module _ {e : Event} (d : Does c s w e) (apart : is_handing i e + is_taking i e + is_receipt i e + P.by (Th.held_out i) (task_op e) ≡ 0)
        (unfetched : (t : ℕ) → lock_op e ≢ some (LH.receive t i)) (same_giver : (effect c s w e).giver i ≡ s.giver i)
        (unpassed : (v : ℕ) → v < c.workers → Fronts s v i → is_hand_over e ≡ 0) where
      keeps : GaveAt c i s hs → GaveAt c i (apply c s w e) (more hs w e)
      keeps (unheld z r u) =
          unheld
          (omega (arith, PLaws.held_by inv.tasked w hw s.picks (task_op e) (may_do c s inv w hw d) i))
          (omega (arith, tally_more w e (is_receipt i) hs))
          (rw same_giver (ungiven_more i w e (omega arith) (omega arith) u))
      keeps (in_front v b k u) =
          let same_tail : (apply c s w e).lock.tail ≡ s.lock.tail = tail_kept c s w e (unpassed v b k) in
          in_front v b (rw same_tail (stays_in d v _ k (unfetched _))) (rw same_giver (ungiven_more i w e (omega arith) (omega arith) u))
      keeps (let_in_lem v t b k m g) =
          let_in_lem v t b (stays_in d v t k (unfetched t)) (omega (arith, tail_apply c s w e))
          (rw same_giver (handed_more i w e (omega arith) (omega arith) (omega (arith, length_more w e hs)) g))
      keeps (fetched u n r g) =
          fetched u n (received_more i w e (forward d) r) (rw same_giver (handed_more i w e (omega arith) (omega arith) (omega arith) g))
      keeps (taken u n r g) =
          taken u n (received_more i w e (forward d) r) (rw same_giver (taken_more i w e (omega arith) (omega arith) g))

    -- what is received, by w, is run then
    received_now : {e : Event} → Does c s w e → (n : ℕ) → (apply c s w e).stand w ≡ working i n → is_receipt i e ≡ 1
        → Received i w (length hs) ((apply c s w e).tasks.status i) (more hs w e)
    received_now {e} d n x y =
        record {
          what = e;
          happens = at_last w e hs;
          receives = omega arith;
          status =
              omega (
                arith,
                ap stage (Promise.in_hand_lem (tasked_keep c s inv.locked inv.tasked inv.device w hw d) w i n hw x).0,
              );
        }

    -- nobody has given a task of the ready list
    listed_ungiven : 0 < count i s.ready_list → GaveAt c i s hs → Ungiven i (s.giver i) hs
    listed_ungiven l =
        let is_ready_lem : s.tasks.status i ≡ ready =
        Promise.given_ready c.workers s.tasks i (listed_given c s inv.device inv.tasked i l) in
        ungiven_early c i s inv (omega (arith, ap stage is_ready_lem))

    -- it is put into the cell of the front waiter
    filled : (n v : ℕ) (js : List ℕ) → Does c s w (fills n v i js) → s.place w ≡ serving n → 0 < count i s.ready_list
        → L.front c.slots s.lock ≡ some v
        → GaveAt c i s hs → GaveAt c i (apply c s w (fills n v i js)) (more hs w (fills n v i js))
    filled n v js d p q f g =
        let inside = Lock.cell_filled inv.locked w v i (ap lock_stand p) f in
        in_front v ((Lock.front_iff inv.locked v).0 f).0
        (rw (tail_kept c s w (fills n v i js) refl)
        (subst (λ (st : ℕ → LH.Stand). LH.InCell (LH.after c.slots s.lock w (LH.fill v i)) st v s.lock.tail i)
        (sym (moved_stands c s w (lock_move c s w d))) inside))
        (ungiven_more i w (fills n v i js) refl refl (listed_ungiven q g))

    -- it is taken
    took : (js : List ℕ) → Does c s w (takes i js) → 0 < count i s.ready_list
        → GaveAt c i s hs → GaveAt c i (apply c s w (takes i js)) (more hs w (takes i js))
    took js d q g =
        let u = listed_ungiven q g in
        taken w (length hs) (received_now d (task_at c.tasks i).cost (upd_same s.stand w _) (is_same i i refl))
        (record {
          giver = upd_same s.giver i (some w);
          worker = hw;
          unhanded = omega (arith, tally_more w (takes i js) (is_handing i) hs, u.unhanded);
          once = omega (arith, tally_more w (takes i js) (is_taking i) hs, u.untaken, is_same i i refl);
        })

    -- what was handed over is fetched
    fetches : (t : ℕ) → Does c s w (receives t i) → s.place w ≡ looking t → L.look c.slots s.lock t w ≡ L.receives i
        → GaveAt c i s hs → GaveAt c i (apply c s w (receives t i)) (more hs w (receives t i))
    fetches t d p q g =
        let (l, e, x) = (Lock.look_served inv.locked w t (ap lock_stand p) i).0 q in
        ⊎_elim
        (λ ((z, u) : (t ≡ s.lock.tail) × Ungiven i (s.giver i) hs). absurd (omega arith))
        (λ (z, h).
        fetched w (length hs) (received_now d (task_at c.tasks i).cost (upd_same s.stand w _) (is_same i i refl))
        (handed_more i w (receives t i) refl refl (omega arith) h))
        (given_in_cell c i s inv w t hw (ap lock_stand p, e, x) g)

    -- a hand-over: of task i, or of another, or of none
    module _ {e : Event} (d : Does c s w e) (op : LH.Op) (is_op : lock_op e ≡ some op)
        (can : LH.Can c.slots s.lock (lock_stand (s.place w)) w op) (passes : LH.hands_over op ≡ 1)
        (passed : LH.after c.slots s.lock w op ≡ L.hand_over c.slots s.lock) (mute : task_op e ≡ none)
        (told : handed_with e ≡ handed_by c s w) (given : (effect c s w e).giver ≡ giver_after c s (handed_by c s w)) where
      unfetched : (t : ℕ) → lock_op e ≢ some (LH.receive t i)
      unfetched t z = let y : LH.hands_over op ≡ 0 = let x : op ≡ LH.receive t i = cc in rw x refl in omega arith

      -- task i would be handed over
      handed_then : (v : ℕ) → v < c.workers → Fronts s v i → handed_by c s w ≡ some (record { by = w; to = v; task = i })
      handed_then v b f = handed_if c s inv.locked w hw op can passes passed v i b f

      raised : is_hand_over e ≡ 1
      raised = rw is_op passes

      untouched : is_taking i e + is_receipt i e + P.by (Th.held_out i) (task_op e) ≡ 0
      untouched = rw mute refl

      handed_now : (v : ℕ) → v < c.workers → Fronts s v i → GaveAt c i s hs → GaveAt c i (apply c s w e) (more hs w e)
      handed_now v b f g =
          let gives : handed_with e ≡ some (record { by = w; to = v; task = i }) = told ∙ handed_then v b f in
          let counted : is_handing i e ≡ 1 = rw gives (is_same i i refl) in
          ⊎_elim
          (λ ((z, u) : (s.lock.tail ≡ s.lock.tail) × Ungiven i (s.giver i) hs).
          let_in_lem v s.lock.tail b (stays_in d v s.lock.tail f (unfetched s.lock.tail))
          (omega (arith, tail_raised c s w e raised))
          (record {
            by = w;
            giver = ap (λ f. f i) (given ∙ ap (giver_after c s) (handed_then v b f)) ∙ upd_same s.giver i (some w);
            worker = hw;
            other = λ x. Lock.front_still inv.locked v ((Lock.front_iff inv.locked v).1 (b, f.0)) op (rw x at can);
            once = omega (arith, tally_more w e (is_handing i) hs, u.unhanded);
            untaken = omega (arith, tally_more w e (is_taking i) hs, u.untaken, untouched);
            at = length hs;
            what = e;
            happens = at_last w e hs;
            gives = gives;
            before = omega (arith, length_more w e hs);
          }))
          (λ (z, h). absurd (omega arith))
          (given_in_cell c i s inv v s.lock.tail b f g)

      hands_over_lem : GaveAt c i s hs → GaveAt c i (apply c s w e) (more hs w e)
      hands_over_lem = go (handed_by c s w) refl
        where
          go : (o : Option Handed) → handed_by c s w ≡ o → GaveAt c i s hs → GaveAt c i (apply c s w e) (more hs w e)
          go none q =
              let unhanded : is_handing i e ≡ 0 = rw (told, q) refl in
              keeps d (omega (arith, untouched)) unfetched (ap (λ f. f i) (given ∙ ap (giver_after c s) q))
              (λ v b f. clash (let z = handed_then v b f in cc))
          go (some h) q =
              let (x, b, f) = handed_is c s inv.locked w h q in
              ⊎_elim
              (λ (z : h.task ≡ i). handed_now h.to b (rw z at f))
              (λ (n : h.task ≢ i).
              let unhanded : is_handing i e ≡ 0 = rw (told, q) (is_other h.task i n) in
              keeps d (omega (arith, untouched)) unfetched
              (ap (λ f. f i) (given ∙ ap (giver_after c s) q) ∙ upd_other s.giver h.task (some h.by) i (λ z. n (sym z)))
              (λ v y k. absurd (n (let z = handed_then v y k in cc))))
              (same h.task i)

    -- ---- by its cases

    gave_keep : {e : Event} → Does c s w e → GaveAt c i s hs → GaveAt c i (apply c s w e) (more hs w e)
    gave_keep (view.does_mind d p can) = keeps (view.does_mind d p can) refl (λ t z. clash (cc)) refl (λ v b f. refl)
    gave_keep (view.does_push j js r d l) = keeps (view.does_push j js r d l) refl (λ t z. clash (cc)) refl (λ v b f. refl)
    gave_keep (view.does_find_full j js r d l) = keeps (view.does_find_full j js r d l) refl (λ t z. clash (cc)) refl (λ v b f. refl)
    gave_keep (view.does_win p q) = keeps (view.does_win p q) refl (λ t z. clash (cc)) refl (λ v b f. refl)
    gave_keep (view.does_fail p q) = keeps (view.does_fail p q) refl (λ t z. clash (cc)) refl (λ v b f. refl)
    gave_keep (view.does_take_ticket r d h) = keeps (view.does_take_ticket r d h) refl (λ t z. clash (cc)) refl (λ v b f. refl)
    gave_keep (view.does_register t p) = keeps (view.does_register t p) refl (λ r z. clash (cc)) refl (λ v b f. refl)
    gave_keep (view.does_wait t p q) = keeps (view.does_wait t p q) refl (λ r z. clash (cc)) refl (λ v b f. refl)
    gave_keep (view.does_receive t j p q) =
        ⊎_elim
        (λ (e : j ≡ i). rw e (fetches t (view.does_receive t i p (rw e at q)) p (rw e at q)))
        (λ (n : j ≢ i).
        keeps (view.does_receive t j p q) (omega (arith, is_other j i n)) (λ r z. n (cc)) refl (λ v b f. refl))
        (same j i)
    gave_keep (view.does_own t p q) = keeps (view.does_own t p q) refl (λ r z. clash (cc)) refl (λ v b f. refl)
    gave_keep (view.does_drain u k p) = keeps (view.does_drain u k p) refl (λ t z. clash (cc)) refl (λ v b f. refl)
    gave_keep (view.does_fill n u j js p q f l) =
        ⊎_elim
        (λ (e : j ≡ i). rw e (filled n u js (view.does_fill n u i js p (rw e at q) f l) p (chosen_listed (rw e at q)) f))
        (λ (x : j ≢ i).
        keeps (view.does_fill n u j js p q f l) (omega (arith, is_other j i x)) (λ t z. clash (cc)) refl (λ v b f. refl))
        (same j i)
    gave_keep (view.does_take n j js p q) =
        ⊎_elim
        (λ (e : j ≡ i). rw e (took js (view.does_take n i js p (rw e at q)) (chosen_listed (rw e at q))))
        (λ (x : j ≢ i).
        keeps (view.does_take n j js p q) (omega (arith, is_other j i x)) (λ t z. clash (cc))
        (upd_other s.giver j (some w) i (λ z. x (sym z))) (λ v b f. refl))
        (same j i)
    gave_keep (view.does_take_none n p q) = keeps (view.does_take_none n p q) refl (λ t z. clash (cc)) refl (λ v b f. refl)
    gave_keep (view.does_hand_over n p) =
        hands_over_lem (view.does_hand_over n p) LH.pass refl (LH.can_pass (ap lock_stand p)) refl (Lock.after_pass c.slots s.lock w)
        refl refl refl
    gave_keep (view.does_leave p) =
        hands_over_lem (view.does_leave p) LH.leave refl (LH.can_leave (ap lock_stand p)) refl (Lock.after_leave c.slots s.lock w)
        refl refl refl

-- ---- along a list of picks

module _ (c : Setup) (playable : Playable c) (i : ℕ) where
  -- what is so after some events is so after those of the list too
  abbrev Goes : State → List Happening → State → Type 0
  Goes s hs t = (before : List Happening) → GaveAt c i s before → GaveAt c i t (before ++ hs)

  gave_step : (s t : State) (w : ℕ) (hs : List Happening) → w < c.workers → Inv c s → Goes (step c s w) hs t
      → Goes s (record { by = w; what = event c s w } ∷ hs) t
  unfolding step
  gave_step s t w hs l inv rest before g =
      rw append_assoc at
      (rest (more before w (event c s w)) (gave_keep c i (picked s) (inv_picked c playable s inv) w l before (does_step c s w) g))

  gave_start : GaveAt c i (start c) []
  unfolding start Traces.tally
  gave_start = unheld (ap is_held (Promise.start_status i)) refl (record { nobody = refl; unhanded = refl; untaken = refl })

  pub gave_after : (ws : List ℕ) → Picks c.workers ws → GaveAt c i (after c ws) (trace c (start c) ws)
  unfolding after
  gave_after ws p =
      TracesLaws.along (finished c) (step c) (event c) c.workers (Inv c) Goes (inv_step c playable)
      (λ s v before g. rw (append-nil before) g) gave_step ws p (start c) (inv_start c playable) [] gave_start
