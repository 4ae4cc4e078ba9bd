-- A task is worked on for as many steps as it costs, for each receipt: those that were done and those that are left in a worker's hands.
use Rattle.std.specs.Prelude.{ℕ, ◌+◌, ◌*◌, ◌≡◌, refl, ◌≢◌, List}
use Rattle.std.proofs.Common.{arith, ap, ⊎_elim}
use Rattle.std.proofs.Math.Option.{Option, none, some}
use Rattle.runs.specs.Update.{same}
use Rattle.runs.specs.Sums.{sum, sum_upd, sum_zeros, le_sum}
use Rattle.runs.specs.Counts.{is, is_other}
use Rattle.plan.specs.Plan.{Task}
use Rattle.tasks.specs.Accesses.{task_at}
use Rattle.tasks.specs.Tasks.{Message, Stand, free, telling, working, Tasks, in_hand, left_in_hand}
use Rattle.tasks.specs.History.{Op, notice_of, stand_after, Can, can_mind, can_open, can_link, can_close, can_deliver, can_tell}
use Rattle.tasks.specs.History.{can_give, can_hold, can_take, can_receive, can_work, can_end, is_receipt, is_work, Move, still, then}
use Rattle.tasks.specs.History.{tally, History}

notice_left : (i : ℕ) (m : Message) (o : Option ℕ) → left_in_hand i (notice_of m o) ≡ 0
notice_left i m none = refl
notice_left i m (some b) = refl

-- where task j counts as task i, what it weighs is what task i weighs
counted_same : (f : ℕ → ℕ) (j i : ℕ) → is j i * f j ≡ is j i * f i
counted_same f j i = ⊎_elim (λ (e : j ≡ i). rw e refl) (λ (n : j ≢ i). rw (is_other j i n) (omega arith)) (same j i)

module _ {W : ℕ} {ts : List Task} (i : ℕ) where
  -- of the worker's own: what it does and has left then comes to what it had left and what it receives
  own : {t : Tasks} {x : Stand} {w : ℕ} {op : Op} → Can W ts t x w op
      → is_work i op + left_in_hand i (stand_after ts x op) ≡ left_in_hand i x + is_receipt i op * (task_at ts i).cost
  own (can_mind (can_open j e l)) = omega arith
  own (can_mind (can_link j a e l p q)) = omega arith
  own (can_mind (can_close j a e l)) = omega arith
  own (can_mind (can_deliver m ms p q)) = omega (arith, ap (left_in_hand i) p, notice_left i m m.sender)
  own (can_mind (can_tell a f p)) = omega (arith, ap (left_in_hand i) p)
  own (can_give j js p) = omega arith
  own (can_hold j g) = omega arith
  own (can_take j p q g) = omega (arith, ap (left_in_hand i) p, counted_same (λ k. (task_at ts k).cost) j i)
  own (can_receive j p q e) = omega (arith, ap (left_in_hand i) p, counted_same (λ k. (task_at ts k).cost) j i)
  own (can_mind (can_work j n p)) = omega (arith, ap (left_in_hand i) p)
  own (can_mind (can_end j p)) = omega (arith, ap (left_in_hand i) p)

  -- for each receipt its cost: the steps of work that were done, and those that are left in the workers' hands
  pub worked : {ms : List Move} {t : Tasks} {st : ℕ → Stand} → History W ts ms t st
      → tally (is_work i) ms + sum W (λ w. left_in_hand i (st w)) ≡ tally (is_receipt i) ms * (task_at ts i).cost
  unfolding tally
  worked still = omega (arith, sum_zeros W (λ w. 0) (λ w l. refl))
  worked (then {at = at} r w h time op can) =
      omega (arith, worked r, own can, sum_upd W (left_in_hand i) at w (stand_after ts (at w) op) h)

-- a task in nobody's hands has no steps left there
none_left : (i : ℕ) (x : Stand) → in_hand i x ≡ 0 → left_in_hand i x ≡ 0
none_left i free e = refl
none_left i (telling a f) e = refl
none_left i (working j n) e = rw e (omega arith)

pub nothing_left : (W i : ℕ) (st : ℕ → Stand) → sum W (λ w. in_hand i (st w)) ≡ 0 → sum W (λ w. left_in_hand i (st w)) ≡ 0
nothing_left W i st e =
    sum_zeros W (λ w. left_in_hand i (st w)) (λ w l. none_left i (st w) (omega (arith, le_sum W (λ w. in_hand i (st w)) w l)))
