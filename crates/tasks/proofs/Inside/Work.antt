-- The work that is left, and that every operation takes at least 1 of it: 7 for each access (its link, four flags, two SENT flags),
-- 6 for each task (open, close, give, hold, receipt, ending), and the tasks' cost.
use Rattle.std.specs.Prelude.{ℕ, suc, ◌+◌, ◌*◌, ◌-◌, ◌≤◌, ◌<◌, ◌≡◌, ◌≢◌, ltb, Bool, true, false}
use Rattle.std.proofs.Math.Path.{refl, ap}
use mathlib.Core.List.{List, [], ◌∷◌, ◌++◌}
use Rattle.std.proofs.Math.Option.{Option, none, some}
use native.Mathlib.Omega.{arith}
use Rattle.std.proofs.Math.ListN.{length}
use Rattle.std.proofs.Common.{length-append}
use Rattle.runs.specs.Update.{upd, upd_same, upd_other, clash}
use Rattle.runs.specs.Sums.{sum, sum_le, sum_add, sum_const, sum_at, sum_upd, le_sum, sum_zeros}
use Rattle.plan.specs.Plan.{Task}
use Rattle.runs.specs.Counts.{one, one_le}
use Rattle.tasks.specs.Tasks.{stage, Message, Stand, free, working, Status, new, waiting, ready, held, running, over}
use Rattle.tasks.specs.Tasks.{opening, linking, Tasks, start, with_creation, linked, Made, Sound}
use Rattle.tasks.specs.History.{Duty, is_give, Op, minds, opens, links, closes, delivers, tells, gives, holds, takes, receives, works}
use Rattle.tasks.specs.History.{ends, lowered, delivered, newly_satisfied, notice_of, after, stand_after, Can, can_mind, can_open}
use Rattle.tasks.specs.History.{can_link, can_close, can_deliver, can_tell, can_give, can_hold, can_take, can_receive, can_work}
use Rattle.tasks.specs.History.{can_end}
use Rattle.tasks.proofs.Inside.Keeps.{plan_at, in_hand_lem, fresh, counts_waits, keeps}
use Rattle.tasks.proofs.Inside.Lowered.{lowered_creation, lowered_cases}
use Rattle.tasks.specs.Accesses.{task_at, task_of, total}
use Rattle.tasks.specs.Flags.{Flags, sent, with, RightsOnly}
use Rattle.tasks.proofs.Inside.LinkLaws.{Links}
use Rattle.tasks.proofs.Inside.Links.{first_zero}
use Rattle.tasks.proofs.Inside.Messages.{Messages, flags_once, message_sound, linked_within}
use Rattle.tasks.proofs.Inside.Counting.{given_ready}
use Rattle.tasks.proofs.Inside.Invariant.{Inv}
use Rattle.tasks.specs.Inside.Work.{flagged, done_of, unmade, steps_left, unclosed, weighed, listed, unmade_at, to_do, work_left, WorkAtStart}

-- ---- of the tasks

-- 1 for a task that is to become ready
abbrev unready : Status → ℕ
unready x = one (ltb (stage x) 2)

-- how many tasks are still to be given to the device
unfoldable pub to_give : ℕ → List Task → Tasks → ℕ
to_give W ts t = weighed ts (λ i. unready) t.status + listed W t.adds

-- whether a duty is done at an access: a link, a delivery, a notice
abbrev access_duty : Duty → Bool
access_duty (opens j) = false
access_duty (links j a) = true
access_duty (closes j) = false
access_duty (delivers m ms) = true
access_duty (tells a f) = true
access_duty (works j n) = false
access_duty (ends j) = false

abbrev is_at_access : Op → Bool
is_at_access (minds d) = access_duty d
is_at_access (gives j js) = false
is_at_access (holds j) = false
is_at_access (takes j) = false
is_at_access (receives j) = false

-- every other operation is done at a task
abbrev at_access : Op → ℕ
at_access op = one (is_at_access op)

abbrev at_task : Op → ℕ
at_task op = 1 - one (is_at_access op)

-- a count that falls changes no flag and links nothing
lowered_done : (ts : List Task) (t : Tasks) (w j x : ℕ)
    → done_of ts (lowered t w j x).flags (lowered t w j x).creation ≡ done_of ts t.flags t.creation
lowered_done ts t w j x =
    lowered_cases (λ r. done_of ts r.flags r.creation ≡ done_of ts t.flags t.creation) t w j x (λ l e. refl) (λ d. refl)

module _ (W : ℕ) (ts : List Task) where
  done_le : Links ts → (s : Tasks) (st : ℕ → Stand) → Messages W ts s st → done_of ts s.flags s.creation ≤ 7 * total ts
  done_le laws s st i =
      omega (
        arith,
        linked_within ts laws s.creation i.made,
        at_most (λ f. f.read) (λ a. (flags_once W ts laws s st i a).read),
        at_most (λ f. f.write) (λ a. (flags_once W ts laws s st i a).write),
        at_most (λ f. f.done) (λ a. (flags_once W ts laws s st i a).done),
        at_most (λ f. f.next) (λ a. (flags_once W ts laws s st i a).next),
        at_most (λ f. f.sent_read) (λ a. (flags_once W ts laws s st i a).sent_read),
        at_most (λ f. f.sent_write) (λ a. (flags_once W ts laws s st i a).sent_write),
      )
    where
      at_most : (f : Flags → ℕ) → ((a : ℕ) → f (s.flags a) ≤ 1) → flagged ts f s.flags ≤ total ts
      at_most f h = omega (arith, sum_le (total ts) (λ a. f (s.flags a)) (λ a. 1) (λ a l. h a), sum_const (total ts) 1)

  module _ {t : Tasks} {st : ℕ → Stand} (v : Inv W ts t st) (w : ℕ) (hw : w < W) where
    -- flags added at an access
    raised : (a : ℕ) → a < total ts → (m : Flags) (f : Flags → ℕ) → f (with (t.flags a) m) ≡ f (t.flags a) + f m
        → flagged ts f (upd t.flags a (with (t.flags a) m)) ≡ flagged ts f t.flags + f m
    raised a l m f e = omega (arith, sum_upd (total ts) f t.flags a (with (t.flags a) m) l)

    all_raised : (a : ℕ) → a < total ts → (m : Flags)
        → done_of ts (upd t.flags a (with (t.flags a) m)) t.creation
        ≡ done_of ts t.flags t.creation + (m.read + m.write + m.done + m.next + m.sent_read + m.sent_write)
    all_raised a l m =
        omega (
          arith,
          raised a l m (λ f. f.read) refl,
          raised a l m (λ f. f.write) refl,
          raised a l m (λ f. f.done) refl,
          raised a l m (λ f. f.next) refl,
          raised a l m (λ f. f.sent_read) refl,
          raised a l m (λ f. f.sent_write) refl,
        )

    rises : (time : ℕ) {op : Op} → Can W ts t (st w) w op
        → done_of ts t.flags t.creation + at_access op ≤ done_of ts (after ts time t w op).flags (after ts time t w op).creation
    unfolding after
    rises time (can_mind (can_open j e l)) = omega (arith, ap (linked ts) e)
    rises time (can_mind (can_link j a e l p q)) = omega (arith, ap (linked ts) e)
    rises time (can_mind (can_close j a e l)) =
        let m : Made ts (linking j a) = rw e at v.messages.made in
        omega (arith, lowered_done ts (with_creation t (opening (suc j))) w j 1, ap (linked ts) e)
    rises time (can_mind (can_deliver m ms p q)) =
        let g : Sound ts m = message_sound W ts v.links t st v.messages w hw [] m ms q in
        omega (
          arith,
          lowered_done ts (delivered ts t w m ms) w (task_of ts m.to) (newly_satisfied ts t m),
          all_raised m.to g.to m.flags,
          g.brings,
        )
    rises time (can_mind (can_tell a f p)) =
        let g : (a < total ts) × RightsOnly f = rw p at (v.messages.told w) in omega (arith, all_raised a g.0 (sent f))
    rises time (can_give j js p) = omega arith
    rises time (can_hold j g) = omega arith
    rises time (can_take j p q g) = omega arith
    rises time (can_receive j p q e) = omega arith
    rises time (can_mind (can_work j n p)) = omega arith
    rises time (can_mind (can_end j p)) = omega arith

    -- ---- the tasks' part

    -- the status of j, a task of the plan, goes from a to x
    one_status : (weight : ℕ → Status → ℕ) (j : ℕ) → j < length ts → (a x : Status) → t.status j ≡ a
        → weighed ts weight (upd t.status j x) + weight j a ≡ weighed ts weight t.status + weight j x
    one_status weight j l a x e =
        omega (
          arith,
          sum_at (length ts) (λ i. weight i (t.status i)) (λ i. weight i (upd t.status j x i)) j l (λ i b n. rw upd_other),
          ap (weight j) e,
          ap (weight j) (upd_same t.status j x),
        )

    -- a task that waits becomes one to add: the weights of both lists together stay, if ready weighs 1 less
    lowered_weighed : (weight : ℕ → Status → ℕ) → ((i : ℕ) → weight i waiting ≡ suc (weight i ready))
        → (r : Tasks) (j x : ℕ) → r.status ≡ t.status → r.count ≡ t.count → r.adds ≡ t.adds
        → weighed ts weight (lowered r w j x).status + listed W (lowered r w j x).adds
        ≡ weighed ts weight t.status + listed W t.adds
    lowered_weighed weight one_less r j x e c d =
        lowered_cases (λ y. weighed ts weight y.status + listed W y.adds ≡ weighed ts weight t.status + listed W t.adds) r w j x
        (λ l z. rw (e, d) (to_0 (rw c at l)))
        (λ z. rw (e, d) refl)
      where
        to_0 : 0 < t.count j
            → weighed ts weight (upd t.status j ready) + listed W (upd t.adds w (t.adds w ++ j ∷ []))
            ≡ weighed ts weight t.status + listed W t.adds
        to_0 l =
            let e : t.status j ≡ waiting = counts_waits v j l in
            omega (
              arith,
              one_status weight j (plan_at v j e (λ z. clash (cc))) waiting ready e,
              one_less j,
              sum_upd W length t.adds w (t.adds w ++ j ∷ []) hw,
              length-append (t.adds w) (j ∷ []),
            )

    -- it goes from waiting to those to be added: both weigh 4
    lowered_to_do : (r : Tasks) (j x : ℕ) → r.status ≡ t.status → r.count ≡ t.count → r.adds ≡ t.adds
        → weighed ts (unmade_at ts) (lowered r w j x).status + listed W (lowered r w j x).adds + unclosed (lowered r w j x).creation
        ≡ weighed ts (unmade_at ts) t.status + listed W t.adds + unclosed r.creation
    lowered_to_do r j x e c d =
        omega (
          arith,
          lowered_weighed (unmade_at ts) (λ i. omega arith) r j x e c d,
          ap unclosed (lowered_creation r w j x),
        )

    steps : (q : Stand) → sum W (λ u. steps_left (upd st w q u)) + steps_left (st w) ≡ sum W (λ u. steps_left (st u)) + steps_left q
    steps q = sum_upd W steps_left st w q hw

    notice_steps : (m : Message) (o : Option ℕ) → steps_left (notice_of m o) ≡ 0
    notice_steps m none = refl
    notice_steps m (some b) = refl

    falls : (time : ℕ) {op : Op} → Can W ts t (st w) w op
        → to_do W ts (after ts time t w op) (upd st w (stand_after ts (st w) op)) + at_task op ≤ to_do W ts t st
    unfolding after
    falls time (can_mind (can_open j e l)) =
        omega (arith, one_status (unmade_at ts) j l new waiting (fresh v w hw j e), steps (st w), ap unclosed e)
    falls time (can_mind (can_link j a e l p q)) = omega (arith, steps (st w), ap unclosed e)
    falls time (can_mind (can_close j a e l)) =
        omega (arith, lowered_to_do (with_creation t (opening (suc j))) j 1 refl refl refl, steps (st w), ap unclosed e)
    falls time (can_mind (can_deliver m ms p q)) =
        omega (
          arith,
          lowered_to_do (delivered ts t w m ms) (task_of ts m.to) (newly_satisfied ts t m) refl refl refl,
          steps (notice_of m m.sender),
          notice_steps m m.sender,
        )
    falls time (can_mind (can_tell a f p)) = omega (arith, steps free)
    falls time (can_give j js p) = omega (arith, steps (st w), sum_upd W length t.adds w js hw, ap length p)
    falls time (can_hold j g) =
        let e = given_ready W t j g in
        omega (arith, one_status (unmade_at ts) j (plan_at v j e (λ z. clash (cc))) ready held e, steps (st w))
    falls time (can_take j p q g) =
        let e = given_ready W t j g in
        omega (arith, one_status (unmade_at ts) j (plan_at v j e (λ z. clash (cc))) ready running e, steps (working j (task_at ts j).cost))
    falls time (can_receive j p q e) =
        omega (arith, one_status (unmade_at ts) j (plan_at v j e (λ z. clash (cc))) held running e, steps (working j (task_at ts j).cost))
    falls time (can_mind (can_work j n p)) = omega (arith, steps (working j n), ap steps_left p)
    falls time (can_mind (can_end j p)) =
        let e = in_hand_lem v w j 0 hw p in
        omega (arith, one_status (unmade_at ts) j (plan_at v j e (λ z. clash (cc))) running over e, steps free)

    -- ---- gives to come

    one_unready : (j : ℕ) (a x : Status) → t.status j ≡ a → a ≢ new
        → weighed ts (λ i. unready) (upd t.status j x) + unready a ≡ weighed ts (λ i. unready) t.status + unready x
    one_unready j a x e n = one_status (λ i. unready) j (plan_at v j e n) a x e

    -- each give is one less to come, and nothing else changes their number
    pub gives_fall : (time : ℕ) {op : Op} → Can W ts t (st w) w op → to_give W ts (after ts time t w op) + is_give op ≡ to_give W ts t
    unfolding after to_give
    gives_fall time (can_mind (can_open j e l)) = omega (arith, one_status (λ i. unready) j l new waiting (fresh v w hw j e))
    gives_fall time (can_mind (can_link j a e l p q)) = omega arith
    gives_fall time (can_mind (can_close j a e l)) =
        omega (arith, lowered_weighed (λ i. unready) (λ i. refl) (with_creation t (opening (suc j))) j 1 refl refl refl)
    gives_fall time (can_mind (can_deliver m ms p q)) =
        omega (
          arith,
          lowered_weighed (λ i. unready) (λ i. refl) (delivered ts t w m ms) (task_of ts m.to) (newly_satisfied ts t m) refl refl refl,
        )
    gives_fall time (can_mind (can_tell a f p)) = omega arith
    gives_fall time (can_give j js p) = omega (arith, sum_upd W length t.adds w js hw, ap length p)
    gives_fall time (can_hold j g) = omega (arith, one_unready j ready held (given_ready W t j g) (λ z. clash (cc)))
    gives_fall time (can_take j p q g) = omega (arith, one_unready j ready running (given_ready W t j g) (λ z. clash (cc)))
    gives_fall time (can_receive j p q e) = omega (arith, one_unready j held running e (λ z. clash (cc)))
    gives_fall time (can_mind (can_work j n p)) = omega arith
    gives_fall time (can_mind (can_end j p)) = omega (arith, one_unready j running over (in_hand_lem v w j 0 hw p) (λ z. clash (cc)))

    -- every operation takes at least 1 of the work that is left
    pub work_falls : (time : ℕ) (op : Op) → Can W ts t (st w) w op
        → suc (work_left W ts (after ts time t w op) (upd st w (stand_after ts (st w) op))) ≤ work_left W ts t st
    unfolding work_left
    work_falls time op can =
        omega (
          arith,
          falls time can,
          rises time can,
          one_le (is_at_access op),
          done_le v.links (after ts time t w op) (upd st w (stand_after ts (st w) op)) (keeps v w hw time op can).messages,
        )

  pub work_start : WorkAtStart W ts
  unfolding start work_left
  work_start =
      omega (
        arith,
        sum_zeros (total ts) (λ _. 0) (λ k l. refl),
        first_zero ts,
        sum_add (length ts) (λ i. 6) (λ i. (task_at ts i).cost),
        sum_const (length ts) 6,
        sum_const W 0,
      )

  pub gives_start : to_give W ts start ≡ length ts
  unfolding start to_give
  gives_start = omega (arith, sum_const (length ts) 1, sum_const W 0)

  -- with no work left every task is over
  pub no_work_over : (t : Tasks) (st : ℕ → Stand) → work_left W ts t st ≡ 0 → (i : ℕ) → i < length ts → t.status i ≡ over
  unfolding work_left
  no_work_over t st z i l = go (t.status i) refl
    where
      weighs : unmade (task_at ts i).cost (t.status i) ≤ weighed ts (unmade_at ts) t.status
      weighs = le_sum (length ts) (λ j. unmade (task_at ts j).cost (t.status j)) i l

      go : (x : Status) → t.status i ≡ x → t.status i ≡ over
      go new e = absurd (omega (arith, weighs, ap (unmade (task_at ts i).cost) e))
      go waiting e = absurd (omega (arith, weighs, ap (unmade (task_at ts i).cost) e))
      go ready e = absurd (omega (arith, weighs, ap (unmade (task_at ts i).cost) e))
      go held e = absurd (omega (arith, weighs, ap (unmade (task_at ts i).cost) e))
      go running e = absurd (omega (arith, weighs, ap (unmade (task_at ts i).cost) e))
      go over e = e
