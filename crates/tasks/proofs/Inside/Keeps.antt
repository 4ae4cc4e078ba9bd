-- Every operation keeps the invariant.
use Rattle.std.specs.Prelude.{ℕ, suc, ◌+◌, ◌-◌, ◌≤◌, ◌<◌, ◌≡◌, ◌⊎◌, ◌≢◌, List, [], ◌∷◌, ◌++◌, length, eqb}
use native.Mathlib.Omega.{arith}
use Rattle.std.proofs.Math.Path.{refl, ap}
use Rattle.std.proofs.Common.{sym, ◌∙◌, inl, inr, ⊎_elim}
use Rattle.std.proofs.Math.Option.{Option, none, some}
use Rattle.runs.specs.Update.{same, upd, upd_same, upd_other, upd_all, upd_both, clash, order}
use Rattle.runs.specs.Sums.{sum, sum_upd, sum_const, le_sum}
use Rattle.tasks.specs.Tasks.{stage, Message, Stand, free, working, Status, new, waiting, ready, held, running, over, Creation}
use Rattle.tasks.specs.Tasks.{opening, linking, Tasks, start, with_creation, is_ready, is_running, opened, in_hand, to_add, given}
use Rattle.tasks.specs.Tasks.{past_waiting}
use Rattle.runs.specs.Counts.{one_le, bounded, is, is_same, is_other, count, count_nil, count_cons, count_append, moved}
use Rattle.plan.specs.Plan.{Task}
use Rattle.tasks.specs.Accesses.{task_at, task_of, first}
use Rattle.tasks.specs.History.{Op, lowered, delivered, newly_satisfied, notice_of, after, stand_after, Can, can_mind, can_open}
use Rattle.tasks.specs.History.{can_link, can_close, can_deliver, can_tell, can_give, can_hold, can_take, can_receive, can_work}
use Rattle.tasks.specs.History.{can_end, gave, took}
use Rattle.tasks.proofs.Inside.LinkLaws.{Links}
use Rattle.tasks.proofs.Inside.Statuses.{at_stage_lem}
use Rattle.tasks.proofs.Inside.Lowered.{lowered_cases, lowered_runner, lowered_mail}
use Rattle.tasks.proofs.Inside.Messages.{messages_start}
use Rattle.tasks.proofs.Inside.MessagesKept.{messages_keep}
use Rattle.tasks.proofs.Inside.Counting.{Counts, counting_start, counting_keep, counts_waiting, given_ready}
use Rattle.tasks.proofs.Inside.Invariant.{Busy, Inv}

-- ---- the start

pub starts : (W : ℕ) (ts : List Task) → Links ts → Inv W ts start (λ _. free)
unfolding start
starts W ts laws =
    record {
      links = laws;
      messages = messages_start W ts laws;
      counting = counting_start W ts laws;
      counts =
          record {
            counted = λ i n. refl;
            uncounted = λ i e. clash (cc);
            uncreated = λ i l. refl;
            created = λ i l. absurd (omega arith);
            within = omega arith;
          };
      hands = λ i. omega (arith, sum_const W 0);
      runners = λ w i l z. absurd (omega arith);
      to_adds = λ i. rw count_nil (omega (arith, sum_const W 0));
      busy = λ w. tt;
    }

-- ---- counts and statuses

past : (x : Status) → past_waiting x ≡ 1 → (x ≢ new) × (x ≢ waiting)
past x p = (λ e. omega (arith, ap past_waiting e), λ e. omega (arith, ap past_waiting e))

module _ (ts : List Task) (t : Tasks) (h : Counts ts t.count t.status t.creation) where
  -- task j is past waiting, before and after
  restated : (j : ℕ) (a x : Status) → t.status j ≡ a → past_waiting a ≡ 1 → past_waiting x ≡ 1
      → Counts ts t.count (upd t.status j x) t.creation
  restated j a x e pa px =
      record {
        counted =
            upd_all (λ i y. y ≢ waiting → t.count i ≡ 0) t.status j x (λ n. h.counted j (λ z. (past a pa).1 (sym e ∙ z)))
            (λ i n. h.counted i);
        uncounted = upd_all (λ i y. y ≡ waiting → 0 < t.count i) t.status j x (λ z. absurd ((past x px).1 z)) (λ i n. h.uncounted i);
        uncreated =
            upd_all (λ i y. opened t.creation ≤ i → y ≡ new) t.status j x (λ l. absurd ((past a pa).0 (sym e ∙ h.uncreated j l)))
            (λ i n. h.uncreated i);
        created = upd_all (λ i y. i < opened t.creation → y ≢ new) t.status j x (λ l. (past x px).0) (λ i n. h.created i);
        within = h.within;
      }

  -- creating goes on within the opened tasks
  same_opened : (x : Creation) → opened x ≡ opened t.creation → Counts ts t.count t.status x
  same_opened x e =
      record {
        counted = h.counted;
        uncounted = h.uncounted;
        uncreated = rw e h.uncreated;
        created = rw e h.created;
        within = rw e h.within;
      }

  opens_counts : (i : ℕ) → t.creation ≡ opening i → i < length ts
      → Counts ts (upd t.count i (suc (length (task_at ts i).accesses))) (upd t.status i waiting) (linking i (first ts i))
  opens_counts i e l =
      record {
        counted = upd_both (λ j y n. y ≢ waiting → n ≡ 0) t.status t.count i waiting _ (λ n. absurd (n refl)) (λ j n. h.counted j);
        uncounted = upd_both (λ j y n. y ≡ waiting → 0 < n) t.status t.count i waiting _ (λ z. omega arith) (λ j n. h.uncounted j);
        uncreated =
            upd_all (λ j y. suc i ≤ j → y ≡ new) t.status i waiting (λ k. absurd (omega arith))
            (λ j n k. h.uncreated j (rw e (omega arith)));
        created =
            upd_all (λ j y. j < suc i → y ≢ new) t.status i waiting (λ k z. clash (cc)) (λ j n k. h.created j (rw e (omega arith)));
        within = l;
      }

  falls_to_0 : (i : ℕ) → 0 < t.count i → Counts ts (upd t.count i 0) (upd t.status i ready) t.creation
  falls_to_0 i l =
      let e : t.status i ≡ waiting = counts_waiting h i l in
      record {
        counted = upd_both (λ j y n. y ≢ waiting → n ≡ 0) t.status t.count i ready 0 (λ n. refl) (λ j n. h.counted j);
        uncounted = upd_both (λ j y n. y ≡ waiting → 0 < n) t.status t.count i ready 0 (λ z. clash (cc)) (λ j n. h.uncounted j);
        uncreated =
            upd_all (λ j y. opened t.creation ≤ j → y ≡ new) t.status i ready (λ k. let z = sym e ∙ h.uncreated i k in clash (cc))
            (λ j n. h.uncreated j);
        created = upd_all (λ j y. j < opened t.creation → y ≢ new) t.status i ready (λ k z. clash (cc)) (λ j n. h.created j);
        within = h.within;
      }

  falls : (i x : ℕ) → (t.count i ≡ 0) ⊎ (x < t.count i) → Counts ts (upd t.count i (t.count i - x)) t.status t.creation
  falls i x d =
      record {
        counted =
            upd_all (λ j n. t.status j ≢ waiting → n ≡ 0) t.count i (t.count i - x) (λ n. omega (arith, h.counted i n))
            (λ j n. h.counted j);
        uncounted =
            upd_all (λ j n. t.status j ≡ waiting → 0 < n) t.count i (t.count i - x) (λ e. stays d (h.uncounted i e))
            (λ j n. h.uncounted j);
        uncreated = h.uncreated;
        created = h.created;
        within = h.within;
      }
    where
      stays : (t.count i ≡ 0) ⊎ (x < t.count i) → 0 < t.count i → 0 < t.count i - x
      stays (inl z) l = absurd (omega arith)
      stays (inr z) l = omega arith

  lowered_counts : (w i x : ℕ) → Counts ts (lowered t w i x).count (lowered t w i x).status (lowered t w i x).creation
  lowered_counts w i x = lowered_cases (λ r. Counts ts r.count r.status r.creation) t w i x (λ l e. falls_to_0 i l) (falls i x)

-- ---- what lowering a count leaves alone, and how a task becomes one to add

module _ (W : ℕ) (t : Tasks) (w i x : ℕ) (hw : w < W) (h : 0 < t.count i → t.status i ≡ waiting) where
  lowered_adds : (j : ℕ)
      → to_add W (lowered t w i x).adds j + is_ready (t.status j) ≡ to_add W t.adds j + is_ready ((lowered t w i x).status j)
  lowered_adds j =
      lowered_cases (λ r. to_add W r.adds j + is_ready (t.status j) ≡ to_add W t.adds j + is_ready (r.status j)) t w i x
      (λ l e.
      omega (
        arith,
        sum_upd W (count j) t.adds w (t.adds w ++ i ∷ []) hw,
        count_append j (t.adds w) (i ∷ []),
        count_cons j i [],
        count_nil j,
        moved is_ready t.status i waiting ready (h l) j,
      ))
      (λ d. refl)

  -- a measure of the status that is alike for waiting and ready
  lowered_status : (m : Status → ℕ) → m waiting ≡ m ready → (j : ℕ) → m ((lowered t w i x).status j) ≡ m (t.status j)
  lowered_status m e j =
      lowered_cases (λ r. m (r.status j) ≡ m (t.status j)) t w i x (λ l z. at (same j i) (h l)) (λ d. refl)
    where
      at : (j ≡ i) ⊎ (j ≢ i) → t.status i ≡ waiting → m (upd t.status i ready j) ≡ m (t.status j)
      at (inl q) z = rw (q, upd_same, z) (sym e)
      at (inr q) z = rw upd_other refl

-- ---- every operation keeps every part

module _ {W : ℕ} {ts : List Task} {t : Tasks} {st : ℕ → Stand} (v : Inv W ts t st) where
  pub in_hand_lem : (w j n : ℕ) → w < W → st w ≡ working j n → t.status j ≡ running
  in_hand_lem w j n l e =
      at_stage_lem (t.status j) running (omega (arith, v.hands j, le_sum W (λ u. in_hand j (st u)) w l, ap (in_hand j) e, is_same j j refl))

  pub counts_waits : (j : ℕ) → 0 < t.count j → t.status j ≡ waiting
  counts_waits = counts_waiting v.counts

  -- what is ready is to be added or given
  pub to_add_or_given : (i : ℕ) → to_add W t.adds i + given W t i ≡ is_ready (t.status i)
  unfolding given
  to_add_or_given i = omega (arith, v.to_adds i)

  module _ (w : ℕ) (hw : w < W) where
    keeps_counts : (time : ℕ) {op : Op} → Can W ts t (st w) w op
        → Counts ts (after ts time t w op).count (after ts time t w op).status (after ts time t w op).creation
    unfolding after
    keeps_counts time (can_mind (can_open j e l)) = opens_counts ts t v.counts j e l
    keeps_counts time (can_mind (can_link j a e l p q)) = same_opened ts t v.counts (linking j (suc a)) (sym (ap opened e))
    keeps_counts time (can_mind (can_close j a e l)) =
        lowered_counts ts (with_creation t (opening (suc j))) (same_opened ts t v.counts (opening (suc j)) (sym (ap opened e))) w j 1
    keeps_counts time (can_mind (can_deliver m ms p q)) = lowered_counts ts _ v.counts w (task_of ts m.to) _
    keeps_counts time (can_mind (can_tell a f p)) = v.counts
    keeps_counts time (can_give j js p) = v.counts
    keeps_counts time (can_hold j g) = restated ts t v.counts j ready held (given_ready W t j g) refl refl
    keeps_counts time (can_take j p q g) = restated ts t v.counts j ready running (given_ready W t j g) refl refl
    keeps_counts time (can_receive j p q e) = restated ts t v.counts j held running e refl refl
    keeps_counts time (can_mind (can_work j n p)) = v.counts
    keeps_counts time (can_mind (can_end j p)) = restated ts t v.counts j running over (in_hand_lem w j 0 hw p) refl refl

    -- ---- hands

    hand : (j : ℕ) (q : Stand) → sum W (λ u. in_hand j (upd st w q u)) + in_hand j (st w) ≡ sum W (λ u. in_hand j (st u)) + in_hand j q
    hand j q = sum_upd W (in_hand j) st w q hw

    notice_hand : (m : Message) (o : Option ℕ) (j : ℕ) → in_hand j (notice_of m o) ≡ 0
    notice_hand m none j = refl
    notice_hand m (some b) j = refl

    pub fresh : (i : ℕ) → t.creation ≡ opening i → t.status i ≡ new
    fresh i e = v.counts.uncreated i (rw e (omega arith))

    keeps_hands : (time : ℕ) {op : Op} → Can W ts t (st w) w op → (j : ℕ)
        → sum W (λ u. in_hand j (upd st w (stand_after ts (st w) op) u)) ≡ is_running ((after ts time t w op).status j)
    unfolding after
    keeps_hands time (can_mind (can_open i e l)) j =
        omega (arith, v.hands j, hand j (st w), moved is_running t.status i new waiting (fresh i e) j)
    keeps_hands time (can_mind (can_link i a e l p q)) j = omega (arith, v.hands j, hand j (st w))
    keeps_hands time (can_mind (can_close i a e l)) j =
        omega (
          arith,
          v.hands j,
          hand j (st w),
          lowered_status W (with_creation t (opening (suc i))) w i 1 hw (counts_waits i) is_running refl j,
        )
    keeps_hands time (can_mind (can_deliver m ms p q)) j =
        omega (
          arith,
          v.hands j,
          hand j (notice_of m m.sender),
          ap (in_hand j) p,
          notice_hand m m.sender j,
          lowered_status W (delivered ts t w m ms) w (task_of ts m.to) (newly_satisfied ts t m) hw (counts_waits (task_of ts m.to))
              is_running refl j,
        )
    keeps_hands time (can_mind (can_tell a f p)) j = omega (arith, v.hands j, hand j free, ap (in_hand j) p)
    keeps_hands time (can_give i js p) j = omega (arith, v.hands j, hand j (st w))
    keeps_hands time (can_hold i g) j =
        omega (arith, v.hands j, hand j (st w), moved is_running t.status i ready held (given_ready W t i g) j)
    keeps_hands time (can_take i p q g) j =
        omega (
          arith,
          v.hands j,
          hand j (working i (task_at ts i).cost),
          ap (in_hand j) p,
          moved is_running t.status i ready running (given_ready W t i g) j,
        )
    keeps_hands time (can_receive i p q e) j =
        omega (arith, v.hands j, hand j (working i (task_at ts i).cost), ap (in_hand j) p, moved is_running t.status i held running e j)
    keeps_hands time (can_mind (can_work i n p)) j = omega (arith, v.hands j, hand j (working i n), ap (in_hand j) p)
    keeps_hands time (can_mind (can_end i p)) j =
        omega (arith, v.hands j, hand j free, ap (in_hand j) p, moved is_running t.status i running over (in_hand_lem w i 0 hw p) j)

    -- ---- runners

    -- with no more in hand than before
    same_runner : (q : Stand) → ((i : ℕ) → in_hand i q ≤ in_hand i (st w)) → (u i : ℕ) → u < W → 0 < in_hand i (upd st w q u) → t.runner i ≡ u
    same_runner q a u i =
        upd_all (λ u x. u < W → 0 < in_hand i x → t.runner i ≡ u) st w q (λ l z. v.runners w i hw (omega (arith, a i)))
        (λ u n. v.runners u i) u

    -- w takes up task j, which nobody has in hand
    new_runner : (j n : ℕ) → is_running (t.status j) ≡ 0 → (u i : ℕ) → u < W → 0 < in_hand i (upd st w (working j n) u)
        → upd t.runner j w i ≡ u
    new_runner j n z u i l =
        ⊎_elim (λ (e : i ≡ j). rw (e, upd_same) (own u l)) (λ (k : i ≢ j). rw (upd_other t.runner j w i k) (others k u l)) (same i j)
      where
        own : (u : ℕ) → u < W → 0 < in_hand j (upd st w (working j n) u) → w ≡ u
        own =
            upd_all (λ u x. u < W → 0 < in_hand j x → w ≡ u) st w (working j n) (λ l b. refl)
            (λ u k l b. absurd (omega (arith, le_sum W (λ y. in_hand j (st y)) u l, v.hands j)))

        others : i ≢ j → (u : ℕ) → u < W → 0 < in_hand i (upd st w (working j n) u) → t.runner i ≡ u
        others k =
            upd_all (λ u x. u < W → 0 < in_hand i x → t.runner i ≡ u) st w (working j n)
            (λ l b. absurd (omega (arith, is_other j i (λ z. k (sym z))))) (λ u k. v.runners u i)

    keeps_runners : (time : ℕ) {op : Op} → Can W ts t (st w) w op → (u i : ℕ) → u < W → 0 < in_hand i (upd st w (stand_after ts (st w) op) u)
        → (after ts time t w op).runner i ≡ u
    unfolding after
    keeps_runners time (can_mind (can_open j e l)) = same_runner (st w) (λ i. omega arith)
    keeps_runners time (can_mind (can_link j a e l p q)) = same_runner (st w) (λ i. omega arith)
    keeps_runners time (can_mind (can_close j a e l)) =
        rw (lowered_runner (with_creation t (opening (suc j))) w j 1) (same_runner (st w) (λ i. omega arith))
    keeps_runners time (can_mind (can_deliver m ms p q)) =
        rw (lowered_runner (delivered ts t w m ms) w (task_of ts m.to) (newly_satisfied ts t m))
        (same_runner (notice_of m m.sender) (λ i. omega (arith, notice_hand m m.sender i)))
    keeps_runners time (can_mind (can_tell a f p)) = same_runner free (λ i. omega arith)
    keeps_runners time (can_give j js p) = same_runner (st w) (λ i. omega arith)
    keeps_runners time (can_hold j g) = same_runner (st w) (λ i. omega arith)
    keeps_runners time (can_take j p q g) = new_runner j _ (ap is_running (given_ready W t j g))
    keeps_runners time (can_receive j p q e) = new_runner j _ (ap is_running e)
    keeps_runners time (can_mind (can_work j n p)) = same_runner (working j n) (λ i. omega (arith, ap (in_hand i) p))
    keeps_runners time (can_mind (can_end j p)) = same_runner free (λ i. omega arith)

    -- ---- to add, given, held

    -- what becomes ready is to be added, what is given is no longer to be added, what is taken was given
    adds_after : (time : ℕ) {op : Op} → Can W ts t (st w) w op → (i : ℕ)
        → to_add W (after ts time t w op).adds i + gave i op + is_ready (t.status i)
        ≡ to_add W t.adds i + is_ready ((after ts time t w op).status i) + took i op
    unfolding after
    adds_after time (can_mind (can_open j e l)) i = omega (arith, moved is_ready t.status j new waiting (fresh j e) i)
    adds_after time (can_mind (can_link j a e l p q)) i = omega arith
    adds_after time (can_mind (can_close j a e l)) i =
        omega (arith, lowered_adds W (with_creation t (opening (suc j))) w j 1 hw (counts_waits j) i)
    adds_after time (can_mind (can_deliver m ms p q)) i =
        omega (
          arith,
          lowered_adds W (delivered ts t w m ms) w (task_of ts m.to) (newly_satisfied ts t m) hw (counts_waits (task_of ts m.to)) i,
        )
    adds_after time (can_mind (can_tell a f p)) i = omega arith
    adds_after time (can_give j js p) i = omega (arith, sum_upd W (count i) t.adds w js hw, ap (count i) p ∙ count_cons i j js)
    adds_after time (can_hold j g) i = omega (arith, moved is_ready t.status j ready held (given_ready W t j g) i)
    adds_after time (can_take j p q g) i = omega (arith, moved is_ready t.status j ready running (given_ready W t j g) i)
    adds_after time (can_receive j p q e) i = omega (arith, moved is_ready t.status j held running e i)
    adds_after time (can_mind (can_work j n p)) i = omega arith
    adds_after time (can_mind (can_end j p)) i = omega (arith, moved is_ready t.status j running over (in_hand_lem w j 0 hw p) i)

    at_one : (j i : ℕ) → given W t j ≡ 1 → is j i ≤ given W t i
    at_one j i g =
        ⊎_elim (λ (e : j ≡ i). omega (arith, is_same j i e, ap (given W t) e)) (λ (n : j ≢ i). omega (arith, is_other j i n)) (same j i)

    -- only what the device has is taken from it
    pub took_given : {op : Op} → Can W ts t (st w) w op → (i : ℕ) → took i op ≤ given W t i
    took_given (can_mind c) i = omega arith
    took_given (can_give j js p) i = omega arith
    took_given (can_hold j g) i = at_one j i g
    took_given (can_take j p q g) i = at_one j i g
    took_given (can_receive j p q e) i = omega arith

    -- ---- mailboxes of those who have a task in hand

    notice_busy : (m : Message) (o : Option ℕ) (ms : List Message) → Busy ts (notice_of m o) ms
    notice_busy m none ms = tt
    notice_busy m (some b) ms = tt

    stands : (q : Stand) → Busy ts q (t.mail w) → (u : ℕ) → Busy ts (upd st w q u) (t.mail u)
    stands q b = upd_all (λ u x. Busy ts x (t.mail u)) st w q b (λ u n. v.busy u)

    posts : (q : Stand) (ms : List Message) → Busy ts q ms → (u : ℕ) → Busy ts (upd st w q u) (upd t.mail w ms u)
    posts q ms b = upd_both (λ u x y. Busy ts x y) st t.mail w q ms b (λ u n. v.busy u)

    keeps_busy : (time : ℕ) {op : Op} → Can W ts t (st w) w op → (u : ℕ)
        → Busy ts (upd st w (stand_after ts (st w) op) u) ((after ts time t w op).mail u)
    unfolding after
    keeps_busy time (can_mind (can_open j e l)) = stands (st w) (v.busy w)
    keeps_busy time (can_mind (can_link j a e l p q)) = posts (st w) _ (rw p tt)
    keeps_busy time (can_mind (can_close j a e l)) = rw (lowered_mail (with_creation t (opening (suc j))) w j 1) (stands (st w) (v.busy w))
    keeps_busy time (can_mind (can_deliver m ms p q)) =
        rw (lowered_mail (delivered ts t w m ms) w (task_of ts m.to) (newly_satisfied ts t m))
        (posts (notice_of m m.sender) _ (notice_busy m m.sender _))
    keeps_busy time (can_mind (can_tell a f p)) = stands free tt
    keeps_busy time (can_give j js p) = stands (st w) (v.busy w)
    keeps_busy time (can_hold j g) = stands (st w) (v.busy w)
    keeps_busy time (can_take j p q g) = stands (working j (task_at ts j).cost) (q, omega arith)
    keeps_busy time (can_receive j p q e) = stands (working j (task_at ts j).cost) (q, omega arith)
    keeps_busy time (can_mind (can_work j n p)) = let (a, b) = rw p at (v.busy w) in stands (working j n) (a, omega arith)
    keeps_busy time (can_mind (can_end j p)) = posts free _ tt

    pub keeps : (time : ℕ) (op : Op) → Can W ts t (st w) w op → Inv W ts (after ts time t w op) (upd st w (stand_after ts (st w) op))
    unfolding given
    keeps time op can =
        record {
          links = v.links;
          messages = messages_keep W ts v.links t st v.counts v.messages w hw (λ j n. in_hand_lem w j n hw) time can;
          counting = counting_keep W ts v.links t st v.messages v.counting w hw time can;
          counts = keeps_counts time can;
          hands = keeps_hands time can;
          runners = keeps_runners time can;
          to_adds = λ i. omega (arith, adds_after time can i, took_given can i, v.to_adds i);
          busy = keeps_busy time can;
        }

-- ---- what follows

module _ {W : ℕ} {ts : List Task} {t : Tasks} {st : ℕ → Stand} (v : Inv W ts t st) where
  pub of_the_plan : (i : ℕ) → t.status i ≢ new → i < length ts
  of_the_plan i n =
      ⊎_elim
      (λ (l : i < opened t.creation). omega (arith, v.counts.within))
      (λ l. absurd (n (v.counts.uncreated i l)))
      (order i (opened t.creation))

  -- likewise by a status that is not new
  pub plan_at : (i : ℕ) {x : Status} → t.status i ≡ x → x ≢ new → i < length ts
  plan_at i e n = of_the_plan i (λ z. n (sym e ∙ z))

  pub all_in_hand : (w i n : ℕ) → w < W → st w ≡ working i n
      → (t.status i ≡ running) × (t.runner i ≡ w) × (t.mail w ≡ []) × (n ≤ (task_at ts i).cost)
  all_in_hand w i n l e =
      let b : Busy ts (working i n) (t.mail w) = rw e at (v.busy w) in
      (in_hand_lem v w i n l e, v.runners w i l (rw e (omega (arith, is_same i i refl))), b.0, b.1)

  pub given_le : (i : ℕ) → given W t i ≤ 1
  given_le i = omega (arith, to_add_or_given v i, one_le (eqb (stage (t.status i)) 2))

  pub given_below : (i : ℕ) → 0 < given W t i → i < length ts
  given_below i l = plan_at i (given_ready W t i (omega (arith, given_le i))) (λ z. clash (cc))

  pub given_room : (xs : List ℕ) → ((i : ℕ) → count i xs ≤ given W t i) → length xs ≤ length ts
  given_room xs f = bounded (length ts) xs (λ i. omega (arith, f i, given_le i)) (λ i l. given_below i (omega (arith, f i)))

  pub adds_ready : (w i : ℕ) → w < W → 0 < count i (t.adds w) → t.status i ≡ ready
  adds_ready w i l z = at_stage_lem (t.status i) ready (omega (arith, v.to_adds i, le_sum W (λ u. count i (t.adds u)) w l))

  pub adds_length : (w : ℕ) → w < W → length (t.adds w) ≤ length ts
  adds_length w l =
      bounded (length ts) (t.adds w)
      (λ i. omega (arith, v.to_adds i, one_le (eqb (stage (t.status i)) 2), le_sum W (λ u. count i (t.adds u)) w l))
      (λ i z. plan_at i (adds_ready w i l z) (λ y. clash (cc)))

  pub given_after : (w : ℕ) → w < W → (time : ℕ) {op : Op} → Can W ts t (st w) w op
      → (i : ℕ) → given W (after ts time t w op) i + took i op ≡ given W t i + gave i op
  given_after w hw time can i =
      omega (
        arith,
        adds_after v w hw time can i,
        took_given v w hw can i,
        to_add_or_given v i,
        to_add_or_given (keeps v w hw time _ can) i,
      )
