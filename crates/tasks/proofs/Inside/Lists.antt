-- The workers' lists, mailboxes and tasks to add, by each operation; and how far creating is.
use Rattle.std.specs.Prelude.{ℕ, zero, suc, ◌≤◌, ◌<◌, ◌≡◌, ◌≢◌, List, [], ◌∷◌, ◌++◌}
use Rattle.std.proofs.Common.{arith, ◌∙◌}
use Rattle.std.proofs.Math.Path.{refl, ap}
use Rattle.std.proofs.Math.ListN.{length, length-append}
use Rattle.std.proofs.lemmas.List.{length-map}
use Rattle.runs.specs.Update.{upd, upd_same, upd_other, upd_all}
use Rattle.plan.specs.Orders.{numbers_from}
use Rattle.plan.specs.Plan.{Task}
use Rattle.tasks.specs.Accesses.{task_at, task_of, first}
use Rattle.tasks.specs.Flags.{Flags, DONE, with}
use Rattle.tasks.specs.Tasks.{Message, Stand, working, opening, Tasks, with_creation, Created}
use Rattle.tasks.specs.History.{Op, minds, opens, links, closes, delivers, tells, gives, holds, takes, receives, works, ends, Can}
use Rattle.tasks.specs.History.{can_mind, can_open, can_link, can_close, can_deliver, can_tell, can_give, can_hold, can_take}
use Rattle.tasks.specs.History.{can_receive, can_work, can_end, plain, lowered, passed, done_messages, delivered, newly_satisfied}
use Rattle.tasks.specs.History.{after, quiet}
use Rattle.tasks.proofs.Inside.Lowered.{lowered_cases, lowered_to_add, lowered_mail, lowered_creation}
use Rattle.tasks.proofs.Inside.Underway.{passed_all}
use Rattle.tasks.proofs.Inside.Invariant.{Busy, Inv}

module _ (ts : List Task) (time : ℕ) (t : Tasks) (w : ℕ) where
  lowered_others : (r : Tasks) (i x : ℕ) → r.adds ≡ t.adds → (u : ℕ) → u ≢ w → (lowered r w i x).adds u ≡ t.adds u
  lowered_others r i x e u n =
      lowered_cases (λ y. y.adds u ≡ t.adds u) r w i x
      (λ l z. upd_other r.adds w (r.adds w ++ i ∷ []) u n ∙ ap (λ f. f u) e) (λ d. ap (λ f. f u) e)

  -- another worker's are left alone
  pub others : (op : Op) (u : ℕ) → u ≢ w → ((after ts time t w op).mail u ≡ t.mail u) × ((after ts time t w op).adds u ≡ t.adds u)
  unfolding after
  others (minds (opens j)) u n = (refl, refl)
  others (minds (links j a)) u n = (upd_other t.mail w _ u n, refl)
  others (minds (closes j)) u n = (
    ap (λ f. f u) (lowered_mail (with_creation t (opening (suc j))) w j 1),
    lowered_others (with_creation t (opening (suc j))) j 1 refl u n,
  )
  others (minds (delivers m ms)) u n = (
    ap (λ f. f u) (lowered_mail (delivered ts t w m ms) w (task_of ts m.to) (newly_satisfied ts t m)) ∙ upd_other t.mail w _ u n,
    lowered_others (delivered ts t w m ms) (task_of ts m.to) (newly_satisfied ts t m) refl u n,
  )
  others (minds (tells a f)) u n = (refl, refl)
  others (gives j js) u n = (refl, upd_other t.adds w js u n)
  others (holds j) u n = (refl, refl)
  others (takes j) u n = (refl, refl)
  others (receives j) u n = (refl, refl)
  others (minds (works j k)) u n = (refl, refl)
  others (minds (ends j)) u n = (upd_other t.mail w _ u n, refl)

  pub own : (op : Op) → quiet op ≡ 1 → ((after ts time t w op).mail w ≡ t.mail w) × ((after ts time t w op).adds w ≡ t.adds w)
  unfolding after
  own (minds (opens j)) q = (refl, refl)
  own (minds (links j a)) q = absurd (omega arith)
  own (minds (closes j)) q = absurd (omega arith)
  own (minds (delivers m ms)) q = absurd (omega arith)
  own (minds (tells a f)) q = (refl, refl)
  own (gives j js) q = absurd (omega arith)
  own (holds j) q = (refl, refl)
  own (takes j) q = (refl, refl)
  own (receives j) q = (refl, refl)
  own (minds (works j k)) q = (refl, refl)
  own (minds (ends j)) q = absurd (omega arith)

  pub own_given : (j : ℕ) (js : List ℕ)
      → ((after ts time t w (gives j js)).mail w ≡ t.mail w) × ((after ts time t w (gives j js)).adds w ≡ js)
  unfolding after
  own_given j js = (refl, upd_same t.adds w js)

  -- whoever brings a count to 0 has the task to add
  pub has_to_add : (op : Op) (i : ℕ) → 0 < t.count i → (after ts time t w op).count i ≡ 0
      → (after ts time t w op).adds ≡ upd t.adds w (t.adds w ++ i ∷ [])
  unfolding after
  has_to_add (minds (opens j)) i l z =
      absurd (upd_all (λ k n. 0 < t.count k → n ≡ 0 → ⊥) t.count j _ (λ p e. omega arith) (λ k n p e. omega arith) i l z)
  has_to_add (minds (links j a)) i l z = absurd (omega arith)
  has_to_add (minds (closes j)) i l z = lowered_to_add (with_creation t (opening (suc j))) w j 1 i l z
  has_to_add (minds (delivers m ms)) i l z =
      lowered_to_add (delivered ts t w m ms) w (task_of ts m.to) (newly_satisfied ts t m) i l z
  has_to_add (minds (tells a f)) i l z = absurd (omega arith)
  has_to_add (gives j js) i l z = absurd (omega arith)
  has_to_add (holds j) i l z = absurd (omega arith)
  has_to_add (takes j) i l z = absurd (omega arith)
  has_to_add (receives j) i l z = absurd (omega arith)
  has_to_add (minds (works j k)) i l z = absurd (omega arith)
  has_to_add (minds (ends j)) i l z = absurd (omega arith)

-- ---- mailboxes

passed_length : (ts : List Task) (a : ℕ) (e f : Flags) → length (passed ts a e f) ≤ 1
passed_length ts a e f = passed_all ts a e f (λ ms. length ms ≤ 1) (omega arith) (λ l. omega arith)

pub numbers_length : (k n : ℕ) → length (numbers_from k n) ≡ n
unfolding numbers_from
numbers_length k zero = refl
numbers_length k (suc n) = ap suc (numbers_length (suc k) n)

pub done_length : (ts : List Task) (i : ℕ) → length (done_messages ts i) ≡ length (task_at ts i).accesses
unfolding done_messages
done_length ts i =
    let n = length (task_at ts i).accesses in
    length-map (numbers_from (first ts i) n) (λ a. plain a DONE) ∙ numbers_length (first ts i) n

module _ {W : ℕ} {ts : List Task} (n : ℕ) (pos : 0 < n) (few : (i : ℕ) → length (task_at ts i).accesses ≤ n) {t : Tasks} {st : ℕ → Stand}
    (v : Inv W ts t st) (b : (u : ℕ) → length (t.mail u) ≤ n) (w : ℕ) (time : ℕ) where
  -- w's mailbox becomes this one
  becomes : (ms : List Message) → length ms ≤ n → (u : ℕ) → length (upd t.mail w ms u) ≤ n
  becomes ms l = upd_all (λ u x. length x ≤ n) t.mail w ms l (λ u k. b u)

  -- no mailbox holds more messages than a task has accesses at the most
  pub mails_keep : {op : Op} → Can W ts t (st w) w op → (u : ℕ) → length ((after ts time t w op).mail u) ≤ n
  unfolding after
  mails_keep (can_mind (can_open j e l)) = b
  mails_keep (can_mind (can_link j a e l p q)) = becomes _ (rw q (omega arith))
  mails_keep (can_mind (can_close j a e l)) = rw (lowered_mail (with_creation t (opening (suc j))) w j 1) b
  mails_keep (can_mind (can_deliver m ms p q)) =
      let e = t.flags m.to in
      let f = with e m.flags in
      rw (lowered_mail (delivered ts t w m ms) w (task_of ts m.to) (newly_satisfied ts t m))
      (becomes _ (omega (arith, length-append ms (passed ts m.to e f), passed_length ts m.to e f, b w, ap length q)))
  mails_keep (can_mind (can_tell a f p)) = b
  mails_keep (can_give j js p) = b
  mails_keep (can_hold j g) = b
  mails_keep (can_take j p q g) = b
  mails_keep (can_receive j p q e) = b
  mails_keep (can_mind (can_work j k p)) = b
  mails_keep (can_mind (can_end j p)) =
      let y : Busy ts (working j 0) (t.mail w) = rw p at (v.busy w) in
      becomes _ (rw y.0 (omega (arith, done_length ts j, few j)))

-- ---- creating

-- once all tasks are created they are
pub created_stays : {W : ℕ} {ts : List Task} {t : Tasks} {x : Stand} {w : ℕ} (time : ℕ) {op : Op} → Can W ts t x w op
    → Created ts t.creation → Created ts (after ts time t w op).creation
unfolding after
created_stays {ts = ts} time (can_mind (can_open j e l)) h = let g : length ts ≤ j = rw e at h in absurd (omega arith)
created_stays time (can_mind (can_link j a e l p q)) h = absurd (rw e at h)
created_stays time (can_mind (can_close j a e l)) h = absurd (rw e at h)
created_stays {ts = ts} {t} {w = w} time (can_mind (can_deliver m ms p q)) h =
    rw (lowered_creation (delivered ts t w m ms) w (task_of ts m.to) (newly_satisfied ts t m)) h
created_stays time (can_mind (can_tell a f p)) h = h
created_stays time (can_give j js p) h = h
created_stays time (can_hold j g) h = h
created_stays time (can_take j p q g) h = h
created_stays time (can_receive j p q e) h = h
created_stays time (can_mind (can_work j n p)) h = h
created_stays time (can_mind (can_end j p)) h = h
