-- What all devices over the tasks share: a pick is an operation of the tasks or none, picks are taken until the tasks are finished,
-- and every list of picks is a history of the tasks.
use Prim.Native.Nat.{ℕ, zero, suc, ◌+◌, ◌*◌, ◌≤◌, ◌<◌}
use native.Mathlib.Omega.{arith}
use Rattle.std.specs.Prelude.{◌≡◌, ◌≢◌, Bool, ◌&&◌, eqb}
use Rattle.std.proofs.Math.Path.{refl, ap, fun_ext}
use Rattle.std.proofs.Common.{sym, subst, ◌∙◌, eq-eqb}
use Rattle.std.proofs.Math.Logic.{⊎_elim}
use Rattle.std.proofs.Math.Bool.{true, false, not}
use mathlib.Core.List.{List, [], ◌∷◌, ◌++◌, Memᴰ, append-nil}
use Rattle.std.proofs.Math.Option.{Option, none, some}
use Rattle.std.proofs.Math.ListN.{length, get_elem?}
use Rattle.std.proofs.lemmas.List.{length-map}
use Rattle.runs.specs.Update.{upd, upd_other, clash}
use Rattle.runs.specs.Below.{every_at, every_below_lem, some_below}
use Rattle.runs.specs.Members.{mem_left, mem_right, mem_either}
use Rattle.runs.specs.Picks.{Picks, pick, run}
use Rattle.runs.specs.Apart.{Apart, apart_one}
use Rattle.runs.specs.Sums.{sum}
use Rattle.runs.specs.Traces as Traces
use Rattle.runs.proofs.Traces as TracesLaws
use Rattle.runs.specs.Traces.{Happening, workers_of}
use Rattle.plan.specs.Plan.{Task}
use Rattle.plan.specs.Chains.{conflict, Chain, chain_cost, last_of}
use Rattle.tasks.specs.Accesses.{Distinct, task_at}
use Rattle.tasks.specs.Flags.{each}
use Rattle.tasks.specs.Tasks.{Created, Stand, over, Tasks, is_over, is_held, is_received, is_ended, left_in_hand}
use Rattle.tasks.specs.Tasks.{given}
use Rattle.tasks.specs.History as H
use Rattle.tasks.proofs.Promise as Promise
use Rattle.tasks.proofs.Promise.{Kept, work_left, to_give}
use Rattle.tasks.specs.Playing.{tasks_after, stands_after, by, May, moves_by, has_notice, finished, moves, is_receipt, is_ending}
use Rattle.tasks.specs.Playing.{is_work, brings}

-- ---- a pick's part in the tasks

module _ {W : ℕ} {ts : List Task} {t : Tasks} {st : ℕ → Stand} (v : Kept W ts t st) (w : ℕ) (hw : w < W) (n : ℕ) where
  pub kept_by : (o : Option H.Op) → May W ts t (st w) w o → Kept W ts (tasks_after ts n t w o) (stands_after ts st w o)
  kept_by none m = v
  kept_by (some op) m = Promise.kept v w hw n op m

  pub given_by : (o : Option H.Op) → May W ts t (st w) w o
      → (i : ℕ) → given W (tasks_after ts n t w o) i + by (H.took i) o ≡ given W t i + by (H.gave i) o
  given_by none m i = refl
  given_by (some op) m i = Promise.given_after v w hw n op m i

  pub held_by : (o : Option H.Op) → May W ts t (st w) w o
      → (i : ℕ) → is_held ((tasks_after ts n t w o).status i) + by (H.fetched i) o ≡ is_held (t.status i) + by (H.held_out i) o
  held_by none m i = refl
  held_by (some op) m i = Promise.held_after v w hw n op m i

  -- every operation takes at least 1 of the work that is left, and each give is one less to come
  pub work_by : (o : Option H.Op) → May W ts t (st w) w o
      → work_left W ts (tasks_after ts n t w o) (stands_after ts st w o) + by (λ _. 1) o ≤ work_left W ts t st
  work_by none m = omega arith
  work_by (some op) m = omega (arith, Promise.work_less v w hw n op m)

  pub gives_by : (o : Option H.Op) → May W ts t (st w) w o → to_give W ts (tasks_after ts n t w o) + by H.is_give o ≡ to_give W ts t
  gives_by none m = omega arith
  gives_by (some op) m = Promise.gives_fall v w hw n op m

  -- mailboxes stay within the number of accesses that a task has at the most
  pub mails_by : (k : ℕ) → 0 < k → ((i : ℕ) → length (task_at ts i).accesses ≤ k) → ((u : ℕ) → length (t.mail u) ≤ k)
      → (o : Option H.Op) → May W ts t (st w) w o → (u : ℕ) → length ((tasks_after ts n t w o).mail u) ≤ k
  mails_by k pos few b none m = b
  mails_by k pos few b (some op) m = Promise.mails_keep v k pos few b w n m

  -- once all tasks are created they are
  pub created_by : (o : Option H.Op) → May W ts t (st w) w o → Created ts t.creation → Created ts (tasks_after ts n t w o).creation
  created_by none m h = h
  created_by (some op) m h = Promise.created_stays m n h

-- another worker's lists are left alone
pub others_by : (ts : List Task) (n : ℕ) (t : Tasks) (w : ℕ) (o : Option H.Op) (u : ℕ) → u ≢ w
    → ((tasks_after ts n t w o).mail u ≡ t.mail u) × ((tasks_after ts n t w o).adds u ≡ t.adds u)
others_by ts n t w none u k = (refl, refl)
others_by ts n t w (some op) u k = Promise.others ts n t w op u k

-- and so is what it has in hand
pub stands_others : (ts : List Task) (st : ℕ → Stand) (w : ℕ) (o : Option H.Op) (u : ℕ) → u ≢ w → stands_after ts st w o u ≡ st u
stands_others ts st w none u k = refl
stands_others ts st w (some op) u k = upd_other st w _ u k

-- whoever brings a count to 0 has the task to add
pub has_to_add_by : (ts : List Task) (n : ℕ) (t : Tasks) (w : ℕ) (o : Option H.Op) (i : ℕ) → 0 < t.count i
    → (tasks_after ts n t w o).count i ≡ 0 → (tasks_after ts n t w o).adds ≡ upd t.adds w (t.adds w ++ i ∷ [])
has_to_add_by ts n t w none i l z = absurd (omega arith)
has_to_add_by ts n t w (some op) i l z = Promise.has_to_add ts n t w op i l z

-- ---- finished

module _ (W : ℕ) (ts : List Task) (t : Tasks) (st : ℕ → Stand) where
  -- a worker has neither mail nor a notice to give
  abbrev silent : ℕ → Bool
  silent w = eqb (length (t.mail w)) 0 && not (has_notice (st w))

  pub all_over : finished W ts t st ≡ true → (i : ℕ) → i < length ts → t.status i ≡ over
  unfolding finished
  all_over e i l = Promise.is_over_lem (t.status i) (every_at (length ts) (λ i. is_over (t.status i)) (left_of _ _ e) i l)
    where
      left_of : (a b : Bool) → a && b ≡ true → a ≡ true
      left_of true b z = refl
      left_of false b z = z

  pub finished_if : ((i : ℕ) → i < length ts → t.status i ≡ over)
      → ((w : ℕ) → w < W → (t.mail w ≡ []) × (has_notice (st w) ≡ false)) → finished W ts t st ≡ true
  unfolding finished
  finished_if done quiet =
      rw (every_below_lem (length ts) (λ i. is_over (t.status i)) (λ i l. ap is_over (done i l)))
      (every_below_lem W silent (λ w l. let (m, n) = quiet w l in rw (eq-eqb (length (t.mail w)) 0 (ap length m), n) refl))

  -- where every task is over and every mailbox is empty, a notice is to be given
  pub unfinished_notice : finished W ts t st ≡ false → ((i : ℕ) → i < length ts → t.status i ≡ over) → ((w : ℕ) → w < W → t.mail w ≡ [])
      → (w : ℕ) × (w < W) × (has_notice (st w) ≡ true)
  unfolding finished
  unfinished_notice e done empty =
      let all = every_below_lem (length ts) (λ i. is_over (t.status i)) (λ i l. ap is_over (done i l)) in
      let (w, l, z) = some_below W silent (rw all at e) in
      (w, l, noticed (has_notice (st w)) (rw (eq-eqb (length (t.mail w)) 0 (ap length (empty w l))) at z))
    where
      noticed : (b : Bool) → true && not b ≡ false → b ≡ true
      noticed true z = refl
      noticed false z = clash (cc)

-- ---- the history of what happens, where an event is an operation or none

module _ {E : Type 0} (task_op : E → Option H.Op) where
  tally_by : (f : H.Op → ℕ) (w n : ℕ) (o : Option H.Op) → H.tally f (moves_by w n o) ≡ by f o
  unfolding H.tally
  tally_by f w n none = refl
  tally_by f w n (some op) = omega arith

  tally_moves : (f : H.Op → ℕ) (n : ℕ) (hs : List (Happening E)) → Traces.tally (λ e. by f (task_op e)) hs ≡ H.tally f (moves task_op n hs)
  unfolding moves H.tally Traces.tally
  tally_moves f n [] = refl
  tally_moves f n (x ∷ hs) =
      omega (
        arith,
        Promise.tally_append f (moves task_op (suc n) hs) (moves_by x.by (suc n) (task_op x.what)),
        tally_by f x.by (suc n) (task_op x.what),
        tally_moves f (suc n) hs,
      )

  -- the move of what happens at a pick
  at_move : (n : ℕ) (hs : List (Happening E)) (k : ℕ) (h : Happening E) → get_elem? hs k ≡ some h → (op : H.Op) → task_op h.what ≡ some op
      → Memᴰ (record { by = h.by; at = suc (k + n); op = op }) (moves task_op n hs)
  unfolding moves
  at_move n [] k h e op q = clash (cc)
  at_move n (x ∷ hs) zero h e op q =
      let z : x ≡ h = cc in
      let u : suc (0 + n) ≡ suc n = omega arith in
      mem_right (moves task_op (suc n) hs) _ (rw (z, q, u) (Memᴰ.head refl))
  at_move n (x ∷ hs) (suc k) h e op q =
      let u : suc (k + suc n) ≡ suc (suc k + n) = omega arith in
      mem_left (moves task_op (suc n) hs) _
      (subst (λ m. Memᴰ (record { by = h.by; at = m; op = op }) (moves task_op (suc n) hs)) u (at_move (suc n) hs k h e op q))

  -- and the pick of a move
  of_pick : (w n : ℕ) (o : Option H.Op) (m : H.Move) → Memᴰ m (moves_by w n o) → (m.by ≡ w) × (m.at ≡ n)
  of_pick w n none m x' = elim x' [ ]
  of_pick w n (some op) m (Memᴰ.tail x6) = elim x6 [ ]
  of_pick w n (some op) m (Memᴰ.head e) = rw e (refl, refl)

  at_pick : (n : ℕ) (hs : List (Happening E)) (m : H.Move) → Memᴰ m (moves task_op n hs)
      → (k : ℕ) × (k < length (workers_of hs)) × (m.by ≡ pick (workers_of hs) k) × (m.at ≡ suc (k + n))
  unfolding moves
  at_pick n [] m z = elim z [ ]
  at_pick n (x ∷ hs) m z =
      ⊎_elim
      (λ y. let (k, l, b, a) = at_pick (suc n) hs m y in (suc k, omega arith, b, omega arith))
      (λ y. let (b, a) = of_pick x.by (suc n) (task_op x.what) m y in (0, omega arith, b, omega arith))
      (mem_either (moves task_op (suc n) hs) (moves_by x.by (suc n) (task_op x.what)) z)

  -- no move is later than the last pick
  late_moves : (n : ℕ) (hs : List (Happening E)) (m : H.Move) → Memᴰ m (moves task_op n hs) → m.at ≤ length hs + n
  late_moves n hs m z = let (k, l, b, a) = at_pick n hs m z in omega (arith, length-map hs (λ h. h.by))

  -- where each worker's picks are at least M apart, so are its moves
  spaced_by : (M w n : ℕ) (o : Option H.Op) (ms : List H.Move) → H.Spaced M ms
      → ((m : H.Move) → Memᴰ m ms → (n < m.at) × (w ≡ m.by → n + M ≤ m.at)) → H.Spaced M (ms ++ moves_by w n o)
  spaced_by M w n none [] s f = tt
  spaced_by M w n (some op) [] s f = (λ m z. elim z [ ], tt)
  spaced_by M w n o (m ∷ ms) (new, old) f = (
    λ x z.
        ⊎_elim (new x) (λ y. let (b, a) = of_pick w n o x y in rw (b, a) (f m (Memᴰ.head refl))) (mem_either ms (moves_by w n o) z),
    spaced_by M w n o ms old (λ x z. f x (Memᴰ.tail z)),
  )

  pub spaced : (M n : ℕ) (hs : List (Happening E)) → Apart M (workers_of hs) → H.Spaced M (moves task_op n hs)
  unfolding moves
  spaced M n [] a = tt
  spaced M n (x ∷ hs) a =
      spaced_by M x.by (suc n) (task_op x.what) (moves task_op (suc n) hs)
      (spaced M (suc n) hs (λ i j l b e. omega (arith, a (suc i) (suc j) (omega arith) (omega arith) e)))
      (λ m z.
      let (k, l, b, t) = at_pick (suc n) hs m z in
      (omega arith, λ e. omega (arith, a 0 (suc k) (omega arith) (omega arith) (e ∙ b))))

  -- what is counted is an operation
  counted : (f : H.Op → ℕ) (o : Option H.Op) → 0 < by f o → (op : H.Op) × (o ≡ some op) × (0 < f op)
  counted f none l = absurd (omega arith)
  counted f (some op) l = (op, refl, l)

  -- an access has the flags that deliveries and notices brought to it
  pub brought : {W : ℕ} {ts : List Task} → Distinct ts → (hs : List (Happening E)) {t : Tasks} {st : ℕ → Stand}
      → H.History W ts (moves task_op 0 hs) t st → (a : ℕ) → t.flags a ≡ each (λ flag. Traces.tally (brings task_op flag a) hs)
  brought d hs history a =
      Promise.brought d history a
      ∙ ap each (fun_ext (λ flag. sym (tally_moves (H.brings flag a) 0 hs)))

  module _ {W : ℕ} {ts : List Task} (d : Distinct ts) (hs : List (Happening E)) {t : Tasks} {st : ℕ → Stand}
      (history : H.History W ts (moves task_op 0 hs) t st) (i : ℕ) where
    -- a task was received once where it is run or over, and ended once where it is over
    pub receipts : Traces.tally (is_receipt task_op i) hs ≡ is_received (t.status i)
    receipts = tally_moves (H.is_receipt i) 0 hs ∙ Promise.receipts d history i

    pub endings : Traces.tally (is_ending task_op i) hs ≡ is_ended (t.status i)
    endings = tally_moves (H.is_ending i) 0 hs ∙ Promise.endings d history i

    pub received_once : Traces.tally (is_receipt task_op i) hs ≤ 1
    received_once = omega (arith, tally_moves (H.is_receipt i) 0 hs, Promise.received_once d history i)

    pub ended_once : Traces.tally (is_ending task_op i) hs ≤ 1
    ended_once = omega (arith, tally_moves (H.is_ending i) 0 hs, Promise.ended_once d history i)

    -- for each receipt it costs its steps of work: those done, and those left in the workers' hands
    pub worked : Traces.tally (is_work task_op i) hs + sum W (λ w. left_in_hand i (st w)) ≡ Traces.tally (is_receipt task_op i) hs * (task_at ts i).cost
    worked = rw (tally_moves (H.is_work i) 0 hs, tally_moves (H.is_receipt i) 0 hs) (Promise.worked d history i)

    pub works_exactly : t.status i ≡ over → Traces.tally (is_work task_op i) hs ≡ (task_at ts i).cost
    works_exactly o = tally_moves (H.is_work i) 0 hs ∙ Promise.works_exactly d history i o

    -- its receipt and its ending are by the worker that is noted, at the picks that are noted; picks are numbered from 1
    pub receipt_by : (k : ℕ) (h : Happening E) → get_elem? hs k ≡ some h → 0 < is_receipt task_op i h.what
        → (t.runner i ≡ h.by) × (t.receipt i ≡ suc k)
    receipt_by k h e l =
        let (op, q, z) = counted (H.is_receipt i) (task_op h.what) l in
        let (a, b) = Promise.receipt_by d history i (record { by = h.by; at = suc (k + 0); op = op }) (at_move 0 hs k h e op q) z in
        (a, omega arith)

    pub ending_by : (k : ℕ) (h : Happening E) → get_elem? hs k ≡ some h → 0 < is_ending task_op i h.what
        → (t.runner i ≡ h.by) × (t.ending i ≡ suc k)
    ending_by k h e l =
        let (op, q, z) = counted (H.is_ending i) (task_op h.what) l in
        let (a, b) = Promise.ending_by d history i (record { by = h.by; at = suc (k + 0); op = op }) (at_move 0 hs k h e op q) z in
        (a, omega arith)

    -- where there is a worker at all: what is noted is a worker's number, and no later than the last pick
    pub noted : 0 < W → (t.runner i < W) × (t.receipt i ≤ length hs) × (t.ending i ≤ length hs)
    noted any = Promise.noted_within d history i any (length hs) (λ m k. omega (arith, late_moves 0 hs m k))

  -- how long tasks take, in picks
  module _ {W : ℕ} {ts : List Task} (d : Distinct ts) (hs : List (Happening E)) {t : Tasks} {st : ℕ → Stand}
      (history : H.History W ts (moves task_op 0 hs) t st) where
    -- a task is received after every earlier one that conflicts with it has ended
    pub received_after : (i j : ℕ) → i < j → j < length ts → conflict (task_at ts i) (task_at ts j) ≡ true → 0 < is_received (t.status j)
        → t.ending i < t.receipt j
    received_after = Promise.received_after d history 1 (spaced 1 0 hs (apart_one (workers_of hs)))

    -- where each worker's picks are at least M apart, so much lies between the receipt of a task and its ending
    module _ (M : ℕ) (apart : Apart M (workers_of hs)) where
      pub span : (i : ℕ) → t.status i ≡ over → t.receipt i + suc (task_at ts i).cost * M ≤ t.ending i
      span = Promise.span d history M (spaced M 0 hs apart)

      -- and between the two ends of a chain
      pub chain_span : (i : ℕ) (is : List ℕ) → Chain ts (i ∷ is) → t.status (last_of i is) ≡ over
          → t.receipt i + (chain_cost ts (i ∷ is) + length (i ∷ is)) * M ≤ t.ending (last_of i is)
      chain_span = Promise.chain_span d history M (spaced M 0 hs apart)

  -- ---- every list of picks of a device is such a history

  module _ {S : Type 0} (finished : S → Bool) (step : S → ℕ → S) (event : S → ℕ → E) (picks : S → ℕ) (tasks : S → Tasks)
      (stands : S → ℕ → Stand) (W : ℕ) (ts : List Task) (Inv : S → Type 0)
      (keeps : (s : S) (w : ℕ) → w < W → Inv s → Inv (step s w))
      (may : (s : S) (w : ℕ) → w < W → Inv s → May W ts (tasks s) (stands s w) w (task_op (event s w)))
      (picks_step : (s : S) (w : ℕ) → picks (step s w) ≡ suc (picks s))
      (tasks_step : (s : S) (w : ℕ) → tasks (step s w) ≡ tasks_after ts (suc (picks s)) (tasks s) w (task_op (event s w)))
      (stands_step : (s : S) (w : ℕ) → w < W → Inv s → stands (step s w) ≡ stands_after ts (stands s) w (task_op (event s w)))
    where
      abbrev Plays : S → List (Happening E) → S → Type 0
      Plays s hs t = H.Run W ts (tasks s) (stands s) (moves task_op (picks s) hs) (tasks t) (stands t)

      first : (t now : Tasks) (st at : ℕ → Stand) (w : ℕ) → w < W → (n : ℕ) (o : Option H.Op) → May W ts t (st w) w o → (ms : List H.Move)
          → H.Run W ts (tasks_after ts n t w o) (stands_after ts st w o) ms now at → H.Run W ts t st (ms ++ moves_by w n o) now at
      first t now st at w l n none m ms r = rw (append-nil ms) r
      first t now st at w l n (some op) m ms r = Promise.run_first w l n op m r

      more : (s t : S) (w : ℕ) (hs : List (Happening E)) → w < W → Inv s → Plays (step s w) hs t
          → Plays s (record { by = w; what = event s w } ∷ hs) t
      unfolding moves
      more s t w hs l v r =
          first (tasks s) (tasks t) (stands s) (stands t) w l (suc (picks s)) (task_op (event s w)) (may s w l v) (moves task_op (suc (picks s)) hs)
          (rw (← tasks_step s w, ← stands_step s w l v, ← picks_step s w) r)

      pub plays : (ws : List ℕ) → Picks W ws → (s : S) → Inv s
          → Plays s (Traces.trace finished step event s ws) (run (Traces.pick finished step) s ws)
      unfolding moves
      plays = TracesLaws.along finished step event W Inv Plays keeps (λ s v. H.still) more
