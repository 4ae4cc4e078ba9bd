-- A task's count is that of its unsatisfied accesses, plus one until it is closed.
use Rattle.std.specs.Prelude.{ℕ, suc, ◌+◌, ◌-◌, ◌≤◌, ◌<◌, min, ◌≡◌, refl, ◌⊎◌, ◌≢◌, Bool, true, false, List, [], ◌∷◌, ◌++◌, length, leb}
use Rattle.std.proofs.Common.{sym, ap, ◌∙◌, inl, inr, arith, leb-true, leb-false}
use Rattle.runs.specs.Update.{same, order, upd, upd_same, upd_other, upd_all}
use Rattle.runs.specs.Sums.{sum_same, sum_ones, sum_at, le_sum}
use Rattle.plan.specs.Plan.{Task}
use Rattle.tasks.specs.Accesses.{task_of, task_at, first, reader, next, total}
use Rattle.tasks.specs.Flags.{Flags, no_flag, sent, with, satisfied}
use Rattle.tasks.specs.Tasks.{Message, Stand, Status, new, waiting, ready, Creation, opening, linking, Tasks, start, opened, closed}
use Rattle.tasks.specs.Tasks.{linked, until_closed, unsatisfied, past_waiting, given, stage, Released, is_ended, Made, Sound}
use Rattle.tasks.proofs.Inside.Statuses.{at_stage_lem, passed_by, waiting_or_not}
use Rattle.runs.specs.Counts.{one, one_le}
use Rattle.tasks.specs.History.{Op, lowered, after, Can, can_mind, can_open, can_link, can_close, can_deliver, can_tell, can_give}
use Rattle.tasks.specs.History.{can_hold, can_take, can_receive, can_work, can_end}
use Rattle.tasks.proofs.Inside.Lowered.{lowered_cases}
use Rattle.tasks.proofs.Inside.LinkLaws.{Links}
use Rattle.tasks.proofs.Inside.Rights.{to_read, to_write, granted, passes_next, satisfied_le, satisfied_with, satisfied_sent}
use Rattle.tasks.proofs.Inside.Underway.{here_same, toward, under_way, way_carried}
use Rattle.tasks.proofs.Inside.Messages.{Messages, granted_once, granted_unlinked, message_sound}

-- 1 where access a is satisfied
abbrev satisfies : List Task → (ℕ → Flags) → ℕ → ℕ
satisfies ts flags a = satisfied (reader ts a) (flags a)

abbrev CountingOf : List Task → (ℕ → Flags) → (ℕ → ℕ) → Creation → Type 0
CountingOf ts flags count creation = (i : ℕ) → i < opened creation → count i ≡ unsatisfied ts flags i + until_closed creation i

abbrev pub Counting : List Task → Tasks → Type 0
Counting ts s = CountingOf ts s.flags s.count s.creation

-- a task counts while it waits and not otherwise, and the opened ones are those that are not new
pub record Counts (ts : List Task) (count : ℕ → ℕ) (status : ℕ → Status) (creation : Creation) : Type 0 where
  pub counted : (i : ℕ) → status i ≢ waiting → count i ≡ 0
  pub uncounted : (i : ℕ) → status i ≡ waiting → 0 < count i
  pub uncreated : (i : ℕ) → opened creation ≤ i → status i ≡ new
  pub created : (i : ℕ) → i < opened creation → status i ≢ new
  pub within : opened creation ≤ length ts

-- a task that counts waits
pub counts_waiting : {ts : List Task} {count : ℕ → ℕ} {status : ℕ → Status} {creation : Creation} → Counts ts count status creation
    → (i : ℕ) → 0 < count i → status i ≡ waiting
counts_waiting {status = status} h i l = go (waiting_or_not (status i))
  where
    go : (status i ≡ waiting) ⊎ (status i ≢ waiting) → status i ≡ waiting
    go (inl e) = e
    go (inr n) = absurd (omega (arith, h.counted i n))

-- what the device has is ready
pub given_ready : (W : ℕ) (t : Tasks) (i : ℕ) → given W t i ≡ 1 → t.status i ≡ ready
unfolding given
given_ready W t i e = at_stage_lem (t.status i) ready (omega arith)

-- 1 until it is closed, as a number that omega reads
pub until_closed_lem : (x : Creation) (i : ℕ) → until_closed x i ≡ min 1 (suc i - closed x)
until_closed_lem x i = go (leb (closed x) i) refl
  where
    go : (b : Bool) → leb (closed x) i ≡ b → one b ≡ min 1 (suc i - closed x)
    go true e = omega (arith, leb-true (closed x) i e)
    go false e = omega (arith, leb-false (closed x) i e)

opened_within : (ts : List Task) (x : Creation) → Made ts x → opened x ≤ length ts
opened_within ts (opening i) m = m
opened_within ts (linking i a) m = m.0

-- all accesses of a closed task are linked
closed_linked : (ts : List Task) → Links ts → (x : Creation) → Made ts x → (i : ℕ) → i < closed x → first ts (suc i) ≤ linked ts x
closed_linked ts laws (opening j) m i l = laws.first_mono (suc i) j l
closed_linked ts laws (linking j a) m i l = omega (arith, laws.first_mono (suc i) j l, m.1)

-- whether a count that falls comes to 0 or not, it falls
lowered_counting : (ts : List Task) (t : Tasks) (w j x : ℕ) → CountingOf ts t.flags (upd t.count j (t.count j - x)) t.creation
    → Counting ts (lowered t w j x)
lowered_counting ts t w j x h = lowered_cases (λ r. Counting ts r) t w j x (λ l e. rw e at h) (λ d. h)

module _ (W : ℕ) (ts : List Task) (laws : Links ts) where
  pub counting_start : Counting ts start
  unfolding start
  counting_start i l = absurd (omega arith)

  -- only the SENT flags change
  notify_counting : (flags : ℕ → Flags) (count : ℕ → ℕ) (creation : Creation) (b : ℕ) (g : Flags) → CountingOf ts flags count creation
      → CountingOf ts (upd flags b (with (flags b) (sent g))) count creation
  notify_counting flags count creation b g h j l =
      h j l
      ∙ ap (λ x. x + until_closed creation j)
      (sum_same (length (task_at ts j).accesses) _ _ (λ k o. ap (λ x. 1 - x) (sym (stays (first ts j + k)))))
    where
      stays : (a : ℕ) → satisfies ts (upd flags b (with (flags b) (sent g))) a ≡ satisfies ts flags a
      stays a = go (same a b)
        where
          go : (a ≡ b) ⊎ (a ≢ b) → satisfies ts (upd flags b (with (flags b) (sent g))) a ≡ satisfies ts flags a
          go (inl e) = rw (e, upd_same) (satisfied_sent (reader ts b) (flags b) g)
          go (inr e) = rw upd_other refl

  module _ (s : Tasks) (st : ℕ → Stand) (i : Messages W ts s st) (h : Counting ts s) (w : ℕ) (hw : w < W) where
    -- ---- one delivery

    module _ (m : Message) (ms : List Message) (q : s.mail w ≡ m ∷ ms) where
      to_it : m.to < total ts
      to_it = (message_sound W ts laws s st i w hw [] m ms q).to

      abbrev task : ℕ
      task = task_of ts m.to

      abbrev raised : Flags
      raised = with (s.flags m.to) m.flags

      abbrev flags' : ℕ → Flags
      flags' = upd s.flags m.to raised

      abbrev gain : ℕ
      gain = satisfied (reader ts m.to) raised - satisfies ts s.flags m.to

      at_it : satisfies ts flags' m.to ≡ satisfied (reader ts m.to) raised
      at_it = rw upd_same refl

      off_it : (a : ℕ) → a ≢ m.to → satisfies ts flags' a ≡ satisfies ts s.flags a
      off_it a ne = rw upd_other refl

      after_le : satisfied (reader ts m.to) raised ≤ 1
      after_le =
          omega (
            arith,
            (satisfied_le (reader ts m.to) raised).0,
            way_carried W (toward (granted to_read) m.to) s.mail w hw [] m ms q,
            here_same m.to m.to m.flags.read refl,
            granted_once W ts laws s st i to_read m.to to_it,
          )

      -- its task has that many unsatisfied accesses less
      falls : unsatisfied ts flags' task + gain ≡ unsatisfied ts s.flags task
      falls =
          let (in_plan, lo, hi) = laws.task_of_lem m.to to_it in
          let k : ℕ = m.to - first ts task in
          let z : first ts task + k ≡ m.to = omega arith in
          omega (
            arith,
            sum_at (length (task_at ts task).accesses) (λ n. 1 - satisfies ts s.flags (first ts task + n))
                (λ n. 1 - satisfies ts flags' (first ts task + n)) k
                (omega (arith, laws.first_suc task in_plan))
                (λ n l ne. ap (λ x. 1 - x) (off_it (first ts task + n) (λ u. ne (omega arith)))),
            ap (λ a. 1 - satisfies ts s.flags a) z,
            ap (λ a. 1 - satisfies ts flags' a) z,
            at_it,
            satisfied_with (reader ts m.to) (s.flags m.to) m.flags,
            after_le,
          )

      -- and every other as many as before
      stays : (j : ℕ) → j < length ts → j ≢ task → unsatisfied ts flags' j ≡ unsatisfied ts s.flags j
      stays j l ne =
          sum_same (length (task_at ts j).accesses) _ _ (λ k o.
          ap (λ x. 1 - x)
          (off_it (first ts j + k) (λ u. ne (sym (laws.of_task m.to j l (omega arith) (omega (arith, laws.first_suc j l)))))))

      deliver_counting : CountingOf ts flags' (upd s.count task (s.count task - gain)) s.creation
      deliver_counting j l = go (same j task)
        where
          go : (j ≡ task) ⊎ (j ≢ task)
              → upd s.count task (s.count task - gain) j ≡ unsatisfied ts flags' j + until_closed s.creation j
          go (inl e) =
              let l' : task < opened s.creation = omega arith in
              rw (e, upd_same) (omega (arith, falls, h task l'))
          go (inr e) = rw (upd_other, stays j (omega (arith, opened_within ts s.creation i.made)) e) (h j l)

    -- ---- opening and closing a task

    -- an access that is not linked is not satisfied
    unlinked_open : (a : ℕ) → a < total ts → linked ts s.creation ≤ a → satisfies ts s.flags a ≡ 0
    unlinked_open a l u = omega (arith, (satisfied_le (reader ts a) (s.flags a)).0, granted_unlinked W ts laws s st i to_read a l u)

    open_counting : (j : ℕ) → s.creation ≡ opening j → j < length ts
        → CountingOf ts s.flags (upd s.count j (suc (length (task_at ts j).accesses))) (linking j (first ts j))
    open_counting j e l =
        upd_all (λ k x. k < suc j → x ≡ unsatisfied ts s.flags k + until_closed (opening j) k) s.count j
        (suc (length (task_at ts j).accesses)) (λ _. omega (arith, all_open, until_closed_lem (opening j) j))
        (λ k ne o. rw e at (h k) (omega (arith, ap opened e)))
      where
        top : first ts (suc j) ≤ total ts
        top = omega (arith, laws.first_mono (suc j) (length ts) l, laws.first_all (length ts) (omega arith))

        all_open : unsatisfied ts s.flags j ≡ length (task_at ts j).accesses
        all_open = sum_ones (length (task_at ts j).accesses) _ (λ k o.
            omega (arith, unlinked_open (first ts j + k) (omega (arith, laws.first_suc j l, top)) (omega (arith, ap (linked ts) e))))

    close_counting : (j a : ℕ) → s.creation ≡ linking j a → CountingOf ts s.flags (upd s.count j (s.count j - 1)) (opening (suc j))
    close_counting j a e =
        let h' : CountingOf ts s.flags s.count (linking j a) = rw e at h in
        upd_all (λ k x. k < suc j → x ≡ unsatisfied ts s.flags k + until_closed (opening (suc j)) k) s.count j (s.count j - 1)
        (λ l. omega (arith, h' j l, until_closed_lem (linking j a) j, until_closed_lem (opening (suc j)) j))
        (λ k ne l. omega (arith, h' k l, until_closed_lem (linking j a) k, until_closed_lem (opening (suc j)) k))

    -- every operation keeps the counts
    pub counting_keep : (time : ℕ) {op : Op} → Can W ts s (st w) w op → Counting ts (after ts time s w op)
    unfolding after
    counting_keep time (can_mind (can_open j e l)) = open_counting j e l
    counting_keep time (can_mind (can_link j a e l p q)) = rw e at h
    counting_keep time (can_mind (can_close j a e l)) = lowered_counting ts _ w j 1 (close_counting j a e)
    counting_keep time (can_mind (can_deliver m ms p q)) = lowered_counting ts _ w (task_of ts m.to) _ (deliver_counting m ms q)
    counting_keep time (can_mind (can_tell a f p)) = notify_counting s.flags s.count s.creation a f h
    counting_keep time (can_give j js p) = h
    counting_keep time (can_hold j g) = h
    counting_keep time (can_take j p q g) = h
    counting_keep time (can_receive j p q g) = h
    counting_keep time (can_mind (can_work j n p)) = h
    counting_keep time (can_mind (can_end j p)) = h

-- ---- what follows for a task that no longer waits, and for an access that is not linked

module _ (W : ℕ) (ts : List Task) (laws : Links ts) (s : Tasks) (st : ℕ → Stand) (tasks : Counts ts s.count s.status s.creation)
    (i : Messages W ts s st) (h : Counting ts s) where
  -- a task with the count 0 is closed and has all its accesses satisfied
  counted_released : (j : ℕ) → j < opened s.creation → s.count j ≡ 0 → Released ts s j
  counted_released j l z =
      let shut : j < closed s.creation = omega (arith, h j l, until_closed_lem s.creation j) in
      record {
        closed = shut;
        linked = closed_linked ts laws s.creation i.made j shut;
        satisfied = λ a lo hi.
            let at : first ts j + (a - first ts j) ≡ a = omega arith in
            omega (
              arith,
              h j l,
              le_sum (length (task_at ts j).accesses) (λ k. 1 - satisfies ts s.flags (first ts j + k)) (a - first ts j)
                  (omega (arith, laws.first_suc j (omega (arith, opened_within ts s.creation i.made)))),
              ap (λ x. 1 - satisfies ts s.flags x) at,
            );
      }

  -- a task that is ready, held, running or over is closed, and its accesses are all linked and satisfied
  pub released : (j : ℕ) → past_waiting (s.status j) ≡ 1 → Released ts s j
  released j e = counted_released j (go (order j (opened s.creation))) (tasks.counted j (λ d. omega (arith, ap past_waiting d)))
    where
      go : (j < opened s.creation) ⊎ (opened s.creation ≤ j) → j < opened s.creation
      go (inl l) = l
      go (inr l) = absurd (omega (arith, ap past_waiting (tasks.uncreated j l)))

  module _ (a : ℕ) (l : a < total ts) (u : linked ts s.creation ≤ a) where
    next_unlinked : (s.flags a).next + under_way W (toward (λ f. f.next) a) s.mail ≡ 0
    next_unlinked = omega (arith, i.nexts a l, above (order (next ts a) (total ts)))
      where
        above : (next ts a < total ts) ⊎ (total ts ≤ next ts a) → a < next ts a
        above (inl o) = (laws.next_is a l o).0
        above (inr o) = omega arith

    done_unlinked : (s.flags a).done + under_way W (toward (λ f. f.done) a) s.mail ≡ 0
    done_unlinked = i.dones a l ∙ go (order 0 (is_ended (s.status (task_of ts a))))
      where
        go : (0 < is_ended (s.status (task_of ts a))) ⊎ (is_ended (s.status (task_of ts a)) ≤ 0) → is_ended (s.status (task_of ts a)) ≡ 0
        go (inl o) =
            let t : ℕ = task_of ts a in
            let past : past_waiting (s.status t) ≡ 1 =
            omega (arith, passed_by (stage (s.status t)) 2 5 (omega arith), one_le (leb 2 (stage (s.status t)))) in
            absurd (omega (arith, (released t past).linked, (laws.task_of_lem a l).2))
        go (inr o) = omega arith

  -- no flag of an access that is not linked is set
  pub unlinked_bare : (a : ℕ) → linked ts s.creation ≤ a → s.flags a ≡ no_flag
  unlinked_bare a u = go (order a (total ts))
    where
      bare : (f : Flags) → f.read ≡ 0 → f.write ≡ 0 → f.done ≡ 0 → f.next ≡ 0 → f.sent_read ≡ 0 → f.sent_write ≡ 0 → f ≡ no_flag
      bare f p q r n x y = λ j. record { read = p j; write = q j; done = r j; next = n j; sent_read = x j; sent_write = y j }

      go : (a < total ts) ⊎ (total ts ≤ a) → s.flags a ≡ no_flag
      go (inl l) =
          let n : (s.flags a).next ≡ 0 = omega (arith, next_unlinked a l u) in
          bare (s.flags a)
          (omega (arith, granted_unlinked W ts laws s st i to_read a l u))
          (omega (arith, granted_unlinked W ts laws s st i to_write a l u))
          (omega (arith, done_unlinked a l u))
          n
          (omega (arith, i.sents to_read a, passes_next to_read (reader ts a) (s.flags a)))
          (omega (arith, i.sents to_write a, passes_next to_write (reader ts a) (s.flags a)))
      go (inr l) = i.beyond a l

  -- every message is to an access that is linked
  pub way_linked : (w : ℕ) → w < W → (xs : List Message) (m : Message) (ys : List Message) → s.mail w ≡ xs ++ m ∷ ys
      → m.to < linked ts s.creation
  way_linked w hw xs m ys e = go (order m.to (linked ts s.creation))
    where
      good : Sound ts m
      good = message_sound W ts laws s st i w hw xs m ys e

      amid : (f : Flags → ℕ) → f m.flags ≤ under_way W (toward f m.to) s.mail
      amid f = omega (arith, way_carried W (toward f m.to) s.mail w hw xs m ys e, here_same m.to m.to (f m.flags) refl)

      go : (m.to < linked ts s.creation) ⊎ (linked ts s.creation ≤ m.to) → m.to < linked ts s.creation
      go (inl l) = l
      go (inr u) =
          absurd (
          omega (
            arith,
            good.brings,
            amid (granted to_read),
            amid (granted to_write),
            amid (λ f. f.next),
            amid (λ f. f.done),
            granted_unlinked W ts laws s st i to_read m.to good.to u,
            granted_unlinked W ts laws s st i to_write m.to good.to u,
            next_unlinked m.to good.to u,
            done_unlinked m.to good.to u,
          )
          )
