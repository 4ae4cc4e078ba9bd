-- Nothing gets stuck: with all tasks created, no message under way and no task ready, held or running, all tasks are over.
use Rattle.std.specs.Prelude.{ℕ, zero, suc, ◌+◌, ◌≤◌, ◌<◌, ◌≡◌, refl, ◌⊎◌, ◌≢◌, [], List, length}
use Rattle.std.proofs.Common.{ap, ◌∙◌, inl, inr, arith}
use Rattle.std.proofs.Math.Option.{Option, none, some}
use Rattle.plan.specs.Plan.{Task}
use Rattle.runs.specs.Update.{same}
use Rattle.tasks.specs.Accesses.{task_of, task_at, first, reader, prev, total}
use Rattle.tasks.specs.Tasks.{Message, Stand, over, opening, Tasks, is_ready, is_held, is_running, opened, closed, linked, is_ended}
use Rattle.tasks.specs.Tasks.{unsatisfied}
use Rattle.tasks.proofs.Inside.LinkLaws.{Links}
use Rattle.tasks.proofs.Inside.Statuses.{only_over}
use Rattle.runs.specs.Sums.{sum_zeros}
use Rattle.tasks.proofs.Inside.Rights.{Right, to_read, to_write, granted, passes_one, satisfied_one}
use Rattle.tasks.proofs.Inside.Underway.{toward, under_way, way_empty}
use Rattle.tasks.proofs.Inside.Messages.{due, passing, Messages, granted_once}
use Rattle.tasks.proofs.Inside.Counting.{Counts, Counting, until_closed_lem}

module _ (W : ℕ) (ts : List Task) (laws : Links ts) (s : Tasks) (st : ℕ → Stand) (tasks : Counts ts s.count s.status s.creation)
    (i : Messages W ts s st) (counting : Counting ts s)
    (n : ℕ) (created : s.creation ≡ opening n) (all : length ts ≤ n) (still : (v : ℕ) → v < W → s.mail v ≡ []) where
  no_mail : (f : Message → ℕ) → under_way W f s.mail ≡ 0
  no_mail f = way_empty W f s.mail still

  linked_all : linked ts s.creation ≡ total ts
  linked_all = ap (linked ts) created ∙ laws.first_all n all

  -- the tasks before its own over: an access has READ and WRITE. d bounds a
  granted_all : (d a : ℕ) → a < d → a < total ts → ((j : ℕ) → j < task_of ts a → s.status j ≡ over) → (r : Right)
      → granted r (s.flags a) ≡ 1
  granted_all zero a f l h r = absurd (omega arith)
  granted_all (suc d) a f l h r = go (prev ts a) refl (i.grants r a l) (λ x. granted_all d x)
    where
      quiet : under_way W (toward (granted r) a) s.mail ≡ 0
      quiet = no_mail (toward (granted r) a)

      go : (o : Option ℕ) → prev ts a ≡ o
          → granted r (s.flags a) + under_way W (toward (granted r) a) s.mail
          ≡ due (linked ts s.creation) (passing ts s.flags r) o a
          → ((x : ℕ) → x < d → x < total ts → ((j : ℕ) → j < task_of ts x → s.status j ≡ over) → (r : Right) → granted r (s.flags x) ≡ 1)
          → granted r (s.flags a) ≡ 1
      go none e v ih = omega (arith, quiet, linked_all)
      go (some b) e v ih =
          let (lt, eq, between) = laws.prev_some b a e in
          let earlier : task_of ts b < task_of ts a = laws.apart b a l lt eq in
          let gr : granted r (s.flags b) ≡ 1 = ih b (omega arith) (omega arith) (λ j o. h j (omega arith)) r in
          let nx : (s.flags b).next ≡ 1 =
          omega (arith, i.nexts b (omega arith), no_mail (toward (λ f. f.next) b), laws.prev_next b a l e, linked_all) in
          let dn : (s.flags b).done ≡ 1 =
          omega (arith, i.dones b (omega arith), no_mail (toward (λ f. f.done) b), ap is_ended (h (task_of ts b) earlier)) in
          omega (arith, quiet, passes_one r (reader ts b) (s.flags b) gr nx dn, granted_once W ts laws s st i r a l)

  -- then the task's count is 0
  counted_out : (j : ℕ) → j < length ts → ((k : ℕ) → k < j → s.status k ≡ over) → s.count j ≡ 0
  counted_out j l h =
      let shut : closed s.creation ≡ n = ap closed created in
      omega (arith, counting j (omega (arith, ap opened created)), until_closed_lem s.creation j, none_left)
    where
      top : first ts (suc j) ≤ total ts
      top = omega (arith, laws.first_mono (suc j) (length ts) l, laws.first_all (length ts) (omega arith))

      none_left : unsatisfied ts s.flags j ≡ 0
      none_left = sum_zeros (length (task_at ts j).accesses) _ (λ k o.
          let a : ℕ = first ts j + k in
          let hi : a < first ts (suc j) = omega (arith, laws.first_suc j l) in
          let own : task_of ts a ≡ j = laws.of_task a j l (omega arith) hi in
          let has : (r : Right) → granted r (s.flags a) ≡ 1 =
          granted_all (suc a) a (omega arith) (omega (arith, top)) (λ m p. h m (omega arith)) in
          omega (arith, satisfied_one (reader ts a) (s.flags a) (has to_read) (has to_write)))

  -- and it is over, being neither ready nor held nor running
  settled : (j : ℕ) → j < length ts → s.count j ≡ 0 → is_ready (s.status j) + is_held (s.status j) + is_running (s.status j) ≡ 0
      → s.status j ≡ over
  settled j l z q =
      only_over (s.status j) (tasks.created j (omega (arith, ap opened created))) (λ e. omega (arith, tasks.uncounted j e)) q

  module _ (free : (j : ℕ) → j < length ts → is_ready (s.status j) + is_held (s.status j) + is_running (s.status j) ≡ 0) where
    -- the tasks below d, by their order
    over_below : (d : ℕ) → d ≤ length ts → (j : ℕ) → j < d → s.status j ≡ over
    over_below zero u j l = absurd (omega arith)
    over_below (suc d) u j l = go (same j d) (over_below d (omega arith))
      where
        go : (j ≡ d) ⊎ (j ≢ d) → ((k : ℕ) → k < d → s.status k ≡ over) → s.status j ≡ over
        go (inl e) ih = settled j (omega arith) (counted_out j (omega arith) (λ k o. ih k (omega arith))) (free j (omega arith))
        go (inr e) ih = ih j (omega arith)

    -- no task is ready, held or running: every task is over
    pub not_stuck : (j : ℕ) → j < length ts → s.status j ≡ over
    not_stuck = over_below (length ts) (omega arith)
