-- What every history keeps, and what it says of the receipt and the ending of a task.
use Rattle.std.specs.Prelude.{ℕ, ◌+◌, ◌*◌, ◌≤◌, ◌<◌, ◌≡◌, length, leb}
use native.Mathlib.Omega.{arith}
use Rattle.std.proofs.Math.Path.{refl}
use Rattle.std.proofs.Common.{◌∙◌}
use mathlib.Core.List.{List, [], ◌∷◌, ◌++◌, Memᴰ}
use Rattle.runs.specs.Update.{upd}
use Rattle.runs.specs.Counts.{is_equal, one_le}
use Rattle.plan.specs.Plan.{Task}
use Rattle.tasks.specs.Accesses.{total, task_at, total_cost}
use Rattle.tasks.specs.Tasks.{Stand, Tasks, start, stage, past_waiting, is_received, is_ended, is_over}
use Rattle.tasks.specs.History.{Op, Can, can_mind, can_give, can_hold, can_take, can_receive, after, stand_after, is_receipt, is_ending}
use Rattle.tasks.specs.History.{Move, Run, still, then, tally, History}
use Rattle.tasks.proofs.Inside.LinkLaws.{Links}
use Rattle.tasks.proofs.Inside.Statuses.{passed_by}
use Rattle.tasks.proofs.Inside.Counting.{given_ready}
use Rattle.tasks.proofs.Inside.Invariant.{Inv}
use Rattle.tasks.proofs.Inside.Keeps.{starts, keeps}
use Rattle.tasks.proofs.Inside.Lists.{mails_keep}
use Rattle.tasks.proofs.Inside.Stories.{story_of, change, counted, noted, Within, within}
use Rattle.tasks.specs.Inside.Work.{work_left}
use Rattle.tasks.proofs.Inside.Work.{work_falls, work_start}

-- what is received was ready or held
pub receipt_past : {W : ℕ} {ts : List Task} {t : Tasks} {x : Stand} {w : ℕ} {op : Op} → Can W ts t x w op
    → (i : ℕ) → 0 < is_receipt i op → past_waiting (t.status i) ≡ 1
receipt_past (can_mind c) i r = absurd (omega arith)
receipt_past (can_give j js p) i r = absurd (omega arith)
receipt_past (can_hold j g) i r = absurd (omega arith)
receipt_past {W} {ts} {t} (can_take j p q g) i r = rw (← is_equal j i r, given_ready W t j g) refl
receipt_past (can_receive j p q e) i r = rw (← is_equal j i r, e) refl

-- ---- tallies

tallied : (f : Op → ℕ) (m : Move) (ms : List Move) → Memᴰ m ms → f m.op ≤ tally f ms
unfolding tally
tallied f m [] x' = elim x' [ ]
tallied f m (x ∷ ms) (Memᴰ.head e) = rw e (omega arith)
tallied f m (x ∷ ms) (Memᴰ.tail k) = omega (arith, tallied f m ms k)

pub tally_append : (f : Op → ℕ) (xs ys : List Move) → tally f (xs ++ ys) ≡ tally f xs + tally f ys
unfolding tally
tally_append f [] ys = omega arith
tally_append f (x ∷ xs) ys = omega (arith, tally_append f xs ys)

-- ---- runs

-- a run with an operation before it
pub run_first : {W : ℕ} {ts : List Task} {t : Tasks} {st : ℕ → Stand} (w : ℕ) → w < W → (time : ℕ) (op : Op) → Can W ts t (st w) w op
    → {ms : List Move} {now : Tasks} {at : ℕ → Stand} → Run W ts (after ts time t w op) (upd st w (stand_after ts (st w) op)) ms now at
    → Run W ts t st (ms ++ record { by = w; at = time; op = op } ∷ []) now at
run_first w l time op can still = then still w l time op can
run_first w l time op can (then r u k n o d) = then (run_first w l time op can r) u k n o d

module _ {W : ℕ} {ts : List Task} where
  pub run_keeps : {t : Tasks} {st : ℕ → Stand} → Inv W ts t st
      → {ms : List Move} {now : Tasks} {at : ℕ → Stand} → Run W ts t st ms now at → Inv W ts now at
  run_keeps v still = v
  run_keeps v (then r w h time op can) = keeps (run_keeps v r) w h time op can

  module _ (laws : Links ts) where
    pub always : {ms : List Move} {t : Tasks} {st : ℕ → Stand} → History W ts ms t st → Inv W ts t st
    always r = run_keeps (starts W ts laws) r

    pub short : {ms : List Move} {t : Tasks} {st : ℕ → Stand} → History W ts ms t st
        → length ms + work_left W ts t st ≤ 7 * total ts + 6 * length ts + total_cost ts
    short still = omega (arith, work_start W ts)
    short (then r w h time op can) = omega (arith, short r, work_falls W ts (always r) w h time op can)

    pub mails : (n : ℕ) → 0 < n → ((i : ℕ) → length (task_at ts i).accesses ≤ n)
        → {ms : List Move} {t : Tasks} {st : ℕ → Stand} → History W ts ms t st → (u : ℕ) → length (t.mail u) ≤ n
    unfolding start
    mails n pos few still u = omega arith
    mails n pos few (then r w h time op can) u = mails_keep n pos few (always r) (λ x. mails n pos few r x) w time can u

    -- ---- one task

    module _ (i : ℕ) where
      pub receipts : {ms : List Move} {t : Tasks} {st : ℕ → Stand} → History W ts ms t st
          → tally (is_receipt i) ms ≡ is_received (t.status i)
      unfolding tally start
      receipts still = refl
      receipts (then r w h time op can) = omega (arith, receipts r, (counted (change (always r) w h time can i)).receipts)

      pub endings : {ms : List Move} {t : Tasks} {st : ℕ → Stand} → History W ts ms t st → tally (is_ending i) ms ≡ is_ended (t.status i)
      unfolding tally start
      endings still = refl
      endings (then r w h time op can) = omega (arith, endings r, (counted (change (always r) w h time can i)).endings)

      pub received_once : {ms : List Move} {t : Tasks} {st : ℕ → Stand} → History W ts ms t st → tally (is_receipt i) ms ≤ 1
      received_once {t = t} r = omega (arith, receipts r, one_le (leb 4 (stage (t.status i))))

      pub ended_once : {ms : List Move} {t : Tasks} {st : ℕ → Stand} → History W ts ms t st → tally (is_ending i) ms ≤ 1
      ended_once {t = t} r = omega (arith, endings r, one_le (is_over (t.status i)))

      pub receipt_by : {ms : List Move} {t : Tasks} {st : ℕ → Stand} → History W ts ms t st
          → (m : Move) → Memᴰ m ms → 0 < is_receipt i m.op → (t.runner i ≡ m.by) × (t.receipt i ≡ m.at)
      receipt_by still m x9 l = elim x9 [ ]
      receipt_by (then r w h time op can) m (Memᴰ.head e) l = rw e ((noted (change (always r) w h time can i)).received (rw e at l))
      receipt_by (then {ms} r w h time op can) m (Memᴰ.tail k) l =
          let (a, b) = receipt_by r m k l in
          let (x, y) = (noted (change (always r) w h time can i)).receipt_stands (omega (arith, receipts r, tallied (is_receipt i) m ms k)) in
          (x ∙ a, y ∙ b)

      pub ending_by : {ms : List Move} {t : Tasks} {st : ℕ → Stand} → History W ts ms t st
          → (m : Move) → Memᴰ m ms → 0 < is_ending i m.op → (t.runner i ≡ m.by) × (t.ending i ≡ m.at)
      ending_by still m x9 l = elim x9 [ ]
      ending_by (then r w h time op can) m (Memᴰ.head e) l = rw e ((noted (change (always r) w h time can i)).ended (rw e at l))
      ending_by (then {ms} {now} r w h time op can) m (Memᴰ.tail k) l =
          let (a, b) = ending_by r m k l in
          let over : 0 < is_ended (now.status i) = omega (arith, endings r, tallied (is_ending i) m ms k) in
          let n = noted (change (always r) w h time can i) in
          ((n.receipt_stands (omega (arith, passed_by (stage (now.status i)) 4 5 (omega arith)))).0 ∙ a, n.ending_stands over ∙ b)

      pub noted_within : 0 < W → (n : ℕ) → {ms : List Move} {t : Tasks} {st : ℕ → Stand} → History W ts ms t st
          → ((m : Move) → Memᴰ m ms → m.at ≤ n)
          → Within W n (story_of t i)
      unfolding start
      noted_within any n still late = (omega arith, omega arith, omega arith)
      noted_within any n (then r w h time op can) late =
          within h (late _ (Memᴰ.head refl)) (change (always r) w h time can i)
          (noted_within any n r (λ m k. late m (Memᴰ.tail k)))
