-- How long tasks take: from the receipt of a task to its ending, and from the receipt of a chain's first task to the ending of its last.
use Rattle.std.specs.Prelude.{ℕ, zero, suc, ◌+◌, ◌*◌, ◌≤◌, ◌<◌, ◌≡◌, refl, true, length}
use native.Mathlib.Omega.{arith}
use Rattle.std.proofs.Math.Path.{ap}
use Rattle.std.proofs.Math.Logic.{⊎_elim}
use mathlib.Core.List.{List, [], ◌∷◌, Memᴰ}
use Rattle.std.proofs.Math.Option.{Option, none, some}
use Rattle.runs.specs.Update.{order, upd, upd_all, clash}
use Rattle.runs.specs.Counts.{is_same, is_equal}
use Rattle.plan.specs.Plan.{Task}
use Rattle.plan.specs.Chains.{conflict, Chain, chain_cost, last_of}
use Rattle.tasks.specs.Accesses.{task_at}
use Rattle.tasks.specs.Tasks.{Message, Stand, free, telling, working, over, Tasks, start, past_waiting, is_received, is_ended}
use Rattle.tasks.specs.History.{Op, notice_of, after, stand_after, Can, can_mind, can_open, can_link, can_close, can_deliver, can_tell}
use Rattle.tasks.specs.History.{can_give, can_hold, can_take, can_receive, can_work, can_end, is_receipt, is_ending, Move, still, then}
use Rattle.tasks.specs.History.{tally, Spaced, History}
use Rattle.tasks.specs.Inside.Spans.{Span}
use Rattle.tasks.proofs.Inside.LinkLaws.{Links}
use Rattle.tasks.proofs.Inside.Statuses.{at_stage_lem, received_past}
use Rattle.tasks.proofs.Inside.Order.{earlier_over}
use Rattle.tasks.proofs.Inside.Invariant.{Inv}
use Rattle.tasks.proofs.Inside.Keeps.{in_hand_lem}
use Rattle.tasks.proofs.Inside.Stories.{change, counted, noted}
use Rattle.tasks.proofs.Inside.Histories.{receipt_past, always, endings, ending_by}

-- ---- a task in hand

-- who has a task in hand made a move so long after the receipt: each step of work that is done was a move of its own
abbrev Since : ℕ → List Task → (ℕ → ℕ) → List Move → ℕ → Stand → Type 0
Since M ts receipt ms w free = Unit {0}
Since M ts receipt ms w (telling a f) = Unit {0}
Since M ts receipt ms w (working i n) =
    (done : ℕ) × (n + done ≡ (task_at ts i).cost) × ((m : Move) × Memᴰ m ms × (m.by ≡ w) × (receipt i + done * M ≤ m.at))

since_notice : (M : ℕ) (ts : List Task) (receipt : ℕ → ℕ) (ms : List Move) (w : ℕ) (m : Message) (o : Option ℕ)
    → Since M ts receipt ms w (notice_of m o)
since_notice M ts receipt ms w m none = tt
since_notice M ts receipt ms w m (some b) = tt

-- what ends was in hand, with no work left
last_step : {W : ℕ} {ts : List Task} {t : Tasks} {x : Stand} {w : ℕ} {op : Op} → Can W ts t x w op
    → (i : ℕ) → 0 < is_ending i op → x ≡ working i zero
last_step (can_mind (can_open j e l)) i z = absurd (omega arith)
last_step (can_mind (can_link j a e l p q)) i z = absurd (omega arith)
last_step (can_mind (can_close j a e l)) i z = absurd (omega arith)
last_step (can_mind (can_deliver m ms p q)) i z = absurd (omega arith)
last_step (can_mind (can_tell a f p)) i z = absurd (omega arith)
last_step (can_give j js p) i z = absurd (omega arith)
last_step (can_hold j g) i z = absurd (omega arith)
last_step (can_take j p q g) i z = absurd (omega arith)
last_step (can_receive j p q e) i z = absurd (omega arith)
last_step (can_mind (can_work j n p)) i z = absurd (omega arith)
last_step (can_mind (can_end j p)) i z = rw (← is_equal j i z) p

module _ (M : ℕ) {W : ℕ} {ts : List Task} {t : Tasks} {st : ℕ → Stand} (v : Inv W ts t st) (w : ℕ) (hw : w < W) (time : ℕ) {ms : List Move}
    (apart : (m : Move) → Memᴰ m ms → m.by ≡ w → m.at + M ≤ time)
  where
    abbrev Next : Op → ℕ → Stand → Type 0
    Next op u x = Since M ts (after ts time t w op).receipt (record { by = w; at = time; op = op } ∷ ms) u x

    -- a receipt stays noted
    stays : {op : Op} → Can W ts t (st w) w op → (u i n : ℕ) → u < W → st u ≡ working i n → (after ts time t w op).receipt i ≡ t.receipt i
    stays can u i n l e = ((noted (change v w hw time can i)).receipt_stands (rw (in_hand_lem v u i n l e) (omega arith))).1

    -- of who stands as before
    as_before : {op : Op} → Can W ts t (st w) w op → (u : ℕ) → u < W → (x : Stand) → st u ≡ x → Since M ts t.receipt ms u x → Next op u x
    as_before can u l free e h = tt
    as_before can u l (telling a f) e h = tt
    as_before can u l (working i n) e (done, s, (m, k, b, far)) =
        (done, s, (m, Memᴰ.tail k, b, rw (stays can u i n l e) far))

    at_receipt : {op : Op} → Can W ts t (st w) w op → (i : ℕ) → 0 < is_receipt i op → Next op w (working i (task_at ts i).cost)
    at_receipt can i l =
        let (_, e) = (noted (change v w hw time can i)).received l in
        (0, omega arith, (_, Memᴰ.head refl, refl, omega arith))

    -- of the worker that moves; `same` is for an operation after which it stands as before
    own : {op : Op} → Can W ts t (st w) w op → Since M ts t.receipt ms w (st w) → (same : Next op w (st w))
        → Next op w (stand_after ts (st w) op)
    own (can_mind (can_open j e l)) h same = same
    own (can_mind (can_link j a e l p q)) h same = same
    own (can_mind (can_close j a e l)) h same = same
    own (can_mind (can_deliver m ns p q)) h same = since_notice M ts _ _ w m m.sender
    own (can_mind (can_tell a f p)) h same = tt
    own (can_give j js p) h same = same
    own (can_hold j g) h same = same
    own (can_take j p q g) h same = at_receipt (can_take j p q g) j (omega (arith, is_same j j refl))
    own (can_receive j p q e) h same = at_receipt (can_receive j p q e) j (omega (arith, is_same j j refl))
    own (can_mind (can_work j n p)) h same =
        let (done, s, (m, k, b, far)) = rw p at h in
        let e = stays (can_mind (can_work j n p)) w j (suc n) hw p in
        (suc done, omega arith, (_, Memᴰ.head refl, refl, omega (arith, apart m k b)))
    own (can_mind (can_end j p)) h same = tt

    since_step : {op : Op} → Can W ts t (st w) w op → ((u : ℕ) → u < W → Since M ts t.receipt ms u (st u))
        → (u : ℕ) → u < W → Next op u (upd st w (stand_after ts (st w) op) u)
    since_step {op} can h =
        let kept : (u : ℕ) → u < W → Next op u (st u) = λ u l. as_before can u l (st u) refl (h u l) in
        upd_all (λ u x. u < W → Next op u x) st w (stand_after ts (st w) op) (λ l. own can (h w hw) (kept w hw)) (λ u n. kept u)

-- ---- what lies between

-- what is counted is a move of the list
some_move : (f : Op → ℕ) (ms : List Move) → 0 < tally f ms → (m : Move) × Memᴰ m ms × (0 < f m.op)
unfolding tally
some_move f [] l = absurd (omega arith)
some_move f (m ∷ ms) l =
    ⊎_elim
    (λ (a : 0 < f m.op). (m, Memᴰ.head refl, a))
    (λ (a : f m.op ≤ 0). let (n, k, b) = some_move f ms (omega arith) in (n, Memᴰ.tail k, b))
    (order 0 (f m.op))

module _ {W : ℕ} {ts : List Task} (laws : Links ts) (M : ℕ) where
  since : {ms : List Move} {t : Tasks} {st : ℕ → Stand} → History W ts ms t st → Spaced M ms
      → (w : ℕ) → w < W → Since M ts t.receipt ms w (st w)
  since still s w l = tt
  since (then r w h time op can) (new, old) u l = since_step M (always laws r) w h time (λ m k. (new m k).1) can (λ x k. since r old x k) u l

  -- the ending is one move more
  pub span : (i : ℕ) {ms : List Move} {t : Tasks} {st : ℕ → Stand} → History W ts ms t st → Spaced M ms → t.status i ≡ over
      → Span ts M t i
  unfolding start
  span i still s o = clash (cc)
  span i (then {ms} {now} {at} r w h time op can) (new, old) o =
      let c = change (always laws r) w h time can i in
      ⊎_elim
      (λ (z : 0 < is_ending i op).
      let p = last_step can i z in
      let mine : Since M ts now.receipt ms w (at w) = since r old w h in
      let (done, s, (m, k, b, far)) = rw p at mine in
      let all : done ≡ (task_at ts i).cost = omega arith in
      let (_, e) = (noted c).ended z in
      let (_, d) = (noted c).receipt_stands (rw (in_hand_lem (always laws r) w i 0 h p) (omega arith)) in
      rw (d, e, ← all) (omega (arith, (new m k).1 b)))
      (λ (z : is_ending i op ≤ 0).
      let was : now.status i ≡ over = at_stage_lem (now.status i) over (omega (arith, (counted c).endings, ap is_ended o)) in
      let (_, d) = (noted c).receipt_stands (rw was (omega arith)) in
      rw (d, (noted c).ending_stands (rw was (omega arith))) (span i r old was))
      (order 0 (is_ending i op))

  -- where a task is over, its ending is the time of a move
  ended_at : (i : ℕ) {ms : List Move} {t : Tasks} {st : ℕ → Stand} → History W ts ms t st → t.status i ≡ over
      → (m : Move) × Memᴰ m ms × (t.ending i ≡ m.at)
  ended_at i {ms} r o =
      let (m, k, z) = some_move (is_ending i) ms (omega (arith, endings laws i r, ap is_ended o)) in
      (m, k, (ending_by laws i r m k z).1)

  -- a task is received after every earlier one that conflicts with it has ended
  pub received_after : (i j : ℕ) → i < j → j < length ts → conflict (task_at ts i) (task_at ts j) ≡ true
      → {ms : List Move} {t : Tasks} {st : ℕ → Stand} → History W ts ms t st → Spaced M ms → 0 < is_received (t.status j)
      → t.ending i < t.receipt j
  unfolding start
  received_after i j l b x still s z = absurd (omega arith)
  received_after i j l b x (then {now = now} r w h time op can) (new, old) z =
      let v = always laws r in
      let c = change v w h time can j in
      let stands : past_waiting (now.status j) ≡ 1 → (now.status i ≡ over) × ((after ts time now w op).ending i ≡ now.ending i) =
      λ p. let o = earlier_over W ts laws now _ v.counts v.messages v.counting i j l b x p in
      (o, (noted (change v w h time can i)).ending_stands (rw o (omega arith))) in
      ⊎_elim
      (λ (y : 0 < is_receipt j op).
      let (o, e) = stands (receipt_past can j y) in
      let (m, k, d) = ended_at i r o in
      omega (arith, ((noted c).received y).1, (new m k).0))
      (λ (y : is_receipt j op ≤ 0).
      let was : 0 < is_received (now.status j) = omega (arith, (counted c).receipts) in
      let (o, e) = stands (received_past (now.status j) was) in
      omega (arith, ((noted c).receipt_stands was).1, received_after i j l b x r old was))
      (order 0 (is_receipt j op))

-- ---- chains

-- from the last task back, by the conflicts
pub chain_over : {W : ℕ} {ts : List Task} {t : Tasks} {st : ℕ → Stand} → Inv W ts t st → (i : ℕ) (is : List ℕ) → Chain ts (i ∷ is)
    → t.status (last_of i is) ≡ over → (j : ℕ) → Memᴰ j (i ∷ is) → t.status j ≡ over
chain_over {W = W} {ts = ts} {t = t} {st = st} v i [] c o j (Memᴰ.tail k) = elim k [ ]
chain_over v i [] c o j (Memᴰ.head e) = rw e o
chain_over {W} {ts} {t} {st} v i (n ∷ ns) (l, (a, b, x, f)) o j (Memᴰ.head e) =
    let u = chain_over v n ns (b, f) o n (Memᴰ.head refl) in
    rw e (earlier_over W ts v.links t st v.counts v.messages v.counting i n a b x (rw u refl))
chain_over v i (n ∷ ns) (l, (a, b, x, f)) o j (Memᴰ.tail k) = chain_over v n ns (b, f) o j k

pub chain_span : {W : ℕ} {ts : List Task} (laws : Links ts) (M : ℕ) {ms : List Move} {t : Tasks} {st : ℕ → Stand} → History W ts ms t st
    → Spaced M ms → (i : ℕ) (is : List ℕ) → Chain ts (i ∷ is) → t.status (last_of i is) ≡ over
    → t.receipt i + (chain_cost ts (i ∷ is) + length (i ∷ is)) * M ≤ t.ending (last_of i is)
unfolding chain_cost
chain_span laws M r s i [] c o = omega (arith, span laws M i r s o)
chain_span laws M r s i (j ∷ js) (l, (a, b, x, f)) o =
    let all = chain_over (always laws r) i (j ∷ js) (l, (a, b, x, f)) o in
    let first = all i (Memᴰ.head refl) in
    let second = all j (Memᴰ.tail (Memᴰ.head refl)) in
    omega (
      arith,
      span laws M i r s first,
      received_after laws M i j a b x r s (rw second (omega arith)),
      chain_span laws M r s j js (b, f) o,
    )
