-- What becomes of one task: it is received once and ended once, by one worker, and its status never goes back.
use Rattle.std.specs.Prelude.{ℕ, suc, ◌+◌, ◌≤◌, ◌<◌, ◌≡◌, refl, ◌≢◌, List}
use Rattle.std.proofs.Common.{arith, sym, ⊎_elim}
use Rattle.runs.specs.Update.{same, upd, upd_same, upd_other}
use Rattle.runs.specs.Counts.{is, is_same, is_other}
use Rattle.plan.specs.Plan.{Task}
use Rattle.tasks.specs.Accesses.{task_of}
use Rattle.tasks.specs.Tasks.{Stand, Status, new, waiting, ready, held, running, over, opening, Tasks, with_creation, stage, is_held}
use Rattle.tasks.specs.Tasks.{is_received, is_ended}
use Rattle.tasks.specs.History.{Op, delivered, after, Can, can_mind, can_open, can_link, can_close, can_deliver, can_tell, can_give}
use Rattle.tasks.specs.History.{can_hold, can_take, can_receive, can_work, can_end, held_out, fetched, is_receipt, is_ending}
use Rattle.tasks.proofs.Inside.Lowered.{lowered_cases}
use Rattle.tasks.proofs.Inside.Counting.{given_ready}
use Rattle.tasks.proofs.Inside.Invariant.{Inv}
use Rattle.tasks.proofs.Inside.Keeps.{in_hand_lem, fresh, counts_waits}

-- ---- what one operation does to one task

-- what is noted of a task
pub record Story : Type 0 where
  pub status : Status
  pub runner : ℕ
  pub receipt : ℕ
  pub ending : ℕ

abbrev pub story : Status → ℕ → ℕ → ℕ → Story
story x r a b = record { status = x; runner = r; receipt = a; ending = b }

abbrev pub story_of : Tasks → ℕ → Story
story_of s i = story (s.status i) (s.runner i) (s.receipt i) (s.ending i)

-- how often it is held out, fetched, received and ended
pub record Acts : Type 0 where
  pub held_out : ℕ
  pub fetched : ℕ
  pub receipts : ℕ
  pub endings : ℕ

abbrev acts : ℕ → ℕ → ℕ → ℕ → Acts
acts o f r e = record { held_out = o; fetched = f; receipts = r; endings = e }

abbrev acts_of : ℕ → Op → Acts
acts_of i op = acts (held_out i op) (fetched i op) (is_receipt i op) (is_ending i op)

-- an operation of worker w at time n takes a story to another
pub data Change (w n : ℕ) : Story → Story → Acts → Type 0 where
  unchanged : (x : Story) → Change w n x x (acts 0 0 0 0)
  becomes_waiting : (r a b : ℕ) → Change w n (story new r a b) (story waiting r a b) (acts 0 0 0 0)
  becomes_ready : (r a b : ℕ) → Change w n (story waiting r a b) (story ready r a b) (acts 0 0 0 0)
  becomes_held : (r a b : ℕ) → Change w n (story ready r a b) (story held r a b) (acts 1 0 0 0)
  runs_held : (r a b : ℕ) → Change w n (story held r a b) (story running w n b) (acts 0 1 1 0)
  runs_ready : (r a b : ℕ) → Change w n (story ready r a b) (story running w n b) (acts 0 0 1 0)
  -- the worker that ends it is the one that received it
  becomes_over : (a b : ℕ) → Change w n (story running w a b) (story over w a n) (acts 0 0 0 1)

module _ (s : Tasks) (w n : ℕ) where
  -- the status of j alone changes
  status_changes : (j : ℕ) (a x : Status) (o : ℕ → ℕ) → s.status j ≡ a → ((i : ℕ) → i ≢ j → o i ≡ 0)
      → ((r p q : ℕ) → Change w n (story a r p q) (story x r p q) (acts (o j) 0 0 0))
      → (i : ℕ) → Change w n (story_of s i) (story (upd s.status j x i) (s.runner i) (s.receipt i) (s.ending i)) (acts (o i) 0 0 0)
  status_changes j a x o e z f i =
      ⊎_elim
      (λ (q : i ≡ j). rw (q, upd_same s.status j x, e) (f _ _ _))
      (λ (k : i ≢ j). rw (upd_other s.status j x i k, z i k) (unchanged _))
      (same i j)

  is_received_lem : (j : ℕ) (a : Status) (o : ℕ → ℕ) → s.status j ≡ a → ((i : ℕ) → i ≢ j → o i ≡ 0)
      → ((r p q : ℕ) → Change w n (story a r p q) (story running w n q) (acts 0 (o j) 1 0))
      → (i : ℕ) → Change w n (story_of s i)
      (story (upd s.status j running i) (upd s.runner j w i) (upd s.receipt j n i) (s.ending i)) (acts 0 (o i) (is j i) 0)
  is_received_lem j a o e z f i =
      ⊎_elim
      (λ (q : i ≡ j).
      rw (q, upd_same s.status j running, upd_same s.runner j w, upd_same s.receipt j n, is_same j j refl, e) (f _ _ _))
      (λ (k : i ≢ j).
      rw (
        upd_other s.status j running i k,
        upd_other s.runner j w i k,
        upd_other s.receipt j n i k,
        is_other j i (λ y. k (sym y)),
        z i k,
      )
      (unchanged _))
      (same i j)

  is_ended_lem : (j : ℕ) → s.status j ≡ running → s.runner j ≡ w
      → (i : ℕ) → Change w n (story_of s i)
      (story (upd s.status j over i) (s.runner i) (s.receipt i) (upd s.ending j n i)) (acts 0 0 0 (is j i))
  is_ended_lem j e r i =
      ⊎_elim
      (λ (q : i ≡ j). rw (q, upd_same s.status j over, upd_same s.ending j n, is_same j j refl, e, r) (becomes_over _ _))
      (λ (k : i ≢ j). rw (upd_other s.status j over i k, upd_other s.ending j n i k, is_other j i (λ z. k (sym z))) (unchanged _))
      (same i j)

other_zero : (j i : ℕ) → i ≢ j → is j i ≡ 0
other_zero j i k = is_other j i (λ y. k (sym y))

module _ {W : ℕ} {ts : List Task} {t : Tasks} {st : ℕ → Stand} (v : Inv W ts t st) (w : ℕ) (hw : w < W) (time : ℕ) where
  abbrev Changes : Op → ℕ → Type 0
  Changes op i = Change w time (story_of t i) (story_of (after ts time t w op) i) (acts_of i op)

  becomes : (j : ℕ) (a x : Status) → t.status j ≡ a → ((r p q : ℕ) → Change w time (story a r p q) (story x r p q) (acts 0 0 0 0))
      → (i : ℕ) → Change w time (story_of t i) (story (upd t.status j x i) (t.runner i) (t.receipt i) (t.ending i)) (acts 0 0 0 0)
  becomes j a x e f = status_changes t w time j a x (λ i. 0) e (λ i k. refl) f

  -- every operation changes what is noted of each task in one of these ways
  pub change : {op : Op} → Can W ts t (st w) w op → (i : ℕ) → Changes op i
  unfolding after
  change (can_mind (can_open j e l)) i = becomes j new waiting (fresh v w hw j e) becomes_waiting i
  change (can_mind (can_link j a e l p q)) i = unchanged _
  change (can_mind (can_close j a e l)) i =
      lowered_cases (λ r. Change w time (story_of t i) (story_of r i) (acts 0 0 0 0)) (with_creation t (opening (suc j))) w j 1
      (λ l z. becomes j waiting ready (counts_waits v j l) becomes_ready i) (λ d. unchanged _)
  change (can_mind (can_deliver m ms p q)) i =
      lowered_cases (λ r. Change w time (story_of t i) (story_of r i) (acts 0 0 0 0)) (delivered ts t w m ms) w (task_of ts m.to) _
      (λ l z. becomes (task_of ts m.to) waiting ready (counts_waits v (task_of ts m.to) l) becomes_ready i) (λ d. unchanged _)
  change (can_mind (can_tell a f p)) i = unchanged _
  change (can_give j js p) i = unchanged _
  change (can_hold j g) i =
      status_changes t w time j ready held (is j) (given_ready W t j g) (other_zero j)
      (λ r p q. rw (is_same j j refl) (becomes_held r p q)) i
  change (can_take j p q g) i = is_received_lem t w time j ready (λ i. 0) (given_ready W t j g) (λ i k. refl) runs_ready i
  change (can_receive j p q e) i =
      is_received_lem t w time j held (is j) e (other_zero j) (λ r a b. rw (is_same j j refl) (runs_held r a b)) i
  change (can_mind (can_work j n p)) i = unchanged _
  change (can_mind (can_end j p)) i =
      is_ended_lem t w time j (in_hand_lem v w j 0 hw p) (v.runners w j hw (rw p (omega (arith, is_same j j refl)))) i

-- ---- what a change says

pub record Counted (x y : Story) (a : Acts) : Type 0 where
  pub held : is_held y.status + a.fetched ≡ is_held x.status + a.held_out
  pub receipts : a.receipts + is_received x.status ≡ is_received y.status
  pub endings : a.endings + is_ended x.status ≡ is_ended y.status
  pub forward : stage x.status ≤ stage y.status

pub counted : {w n : ℕ} {x y : Story} {a : Acts} → Change w n x y a → Counted x y a
counted (unchanged x) = record { held = refl; receipts = omega arith; endings = omega arith; forward = omega arith }
counted (becomes_waiting r a b) = record { held = refl; receipts = refl; endings = refl; forward = omega arith }
counted (becomes_ready r a b) = record { held = refl; receipts = refl; endings = refl; forward = omega arith }
counted (becomes_held r a b) = record { held = refl; receipts = refl; endings = refl; forward = omega arith }
counted (runs_held r a b) = record { held = refl; receipts = refl; endings = refl; forward = omega arith }
counted (runs_ready r a b) = record { held = refl; receipts = refl; endings = refl; forward = omega arith }
counted (becomes_over a b) = record { held = refl; receipts = refl; endings = refl; forward = omega arith }

-- what is noted: a receipt and an ending by the worker and at the time of the operation; once noted it stands
pub record Noted (w n : ℕ) (x y : Story) (a : Acts) : Type 0 where
  pub received : 0 < a.receipts → (y.runner ≡ w) × (y.receipt ≡ n)
  pub ended : 0 < a.endings → (y.runner ≡ w) × (y.ending ≡ n)
  pub receipt_stands : 0 < is_received x.status → (y.runner ≡ x.runner) × (y.receipt ≡ x.receipt)
  pub ending_stands : 0 < is_ended x.status → y.ending ≡ x.ending

-- of a task that is not received and not ended
nothing_noted : {w n : ℕ} {x y : Story} {a : Acts} → is_received x.status ≡ 0 → is_ended x.status ≡ 0 → a.endings ≡ 0
    → (0 < a.receipts → (y.runner ≡ w) × (y.receipt ≡ n)) → Noted w n x y a
nothing_noted r e z f =
    record {
      received = f;
      ended = λ l. absurd (omega arith);
      receipt_stands = λ l. absurd (omega arith);
      ending_stands = λ l. absurd (omega arith);
    }

pub noted : {w n : ℕ} {x y : Story} {a : Acts} → Change w n x y a → Noted w n x y a
noted (unchanged x) =
    record {
      received = λ l. absurd (omega arith);
      ended = λ l. absurd (omega arith);
      receipt_stands = λ l. (refl, refl);
      ending_stands = λ l. refl;
    }
noted (becomes_waiting r a b) = nothing_noted refl refl refl (λ l. absurd (omega arith))
noted (becomes_ready r a b) = nothing_noted refl refl refl (λ l. absurd (omega arith))
noted (becomes_held r a b) = nothing_noted refl refl refl (λ l. absurd (omega arith))
noted (runs_held r a b) = nothing_noted refl refl refl (λ l. (refl, refl))
noted (runs_ready r a b) = nothing_noted refl refl refl (λ l. (refl, refl))
noted (becomes_over a b) =
    record {
      received = λ l. absurd (omega arith);
      ended = λ l. (refl, refl);
      receipt_stands = λ l. (refl, refl);
      ending_stands = λ l. absurd (omega arith);
    }

-- what is noted is of a worker, and of times up to n
abbrev pub Within : ℕ → ℕ → Story → Type 0
Within W n x = (x.runner < W) × (x.receipt ≤ n) × (x.ending ≤ n)

pub within : {W w n time : ℕ} {x y : Story} {a : Acts} → w < W → time ≤ n → Change w time x y a → Within W n x → Within W n y
within l k (unchanged x) h = h
within l k (becomes_waiting r a b) h = h
within l k (becomes_ready r a b) h = h
within l k (becomes_held r a b) h = h
within l k (runs_held r a b) h = (omega arith, k, h.2)
within l k (runs_ready r a b) h = (omega arith, k, h.2)
within l k (becomes_over a b) h = (h.0, h.1, k)
