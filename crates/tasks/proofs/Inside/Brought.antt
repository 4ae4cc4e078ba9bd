-- The flags of an access are those that deliveries and notices brought to it.
use Rattle.std.specs.Prelude.{ℕ, suc, ◌+◌, ◌≡◌, List}
use native.Mathlib.Omega.{arith}
use Rattle.std.proofs.Math.Path.{ap}
use Rattle.std.proofs.Common.{◌∙◌}
use Rattle.plan.specs.Plan.{Task}
use Rattle.tasks.specs.Accesses.{task_of}
use Rattle.tasks.specs.Flags.{Flags, no_flag, sent, with}
use Rattle.tasks.specs.Tasks.{Stand, opening, Tasks, start, with_creation}
use Rattle.tasks.specs.History.{Op, minds, opens, links, closes, delivers, tells, works, ends, gives, holds, takes, receives}
use Rattle.tasks.specs.History.{after, delivered, newly_satisfied, brings, Move, still, then, tally, History}
use Rattle.tasks.proofs.Inside.Lowered.{lowered_flags}
use Rattle.tasks.proofs.Inside.Underway.{upd_more}

module _ (flag : Flags → ℕ) (sums : (f g : Flags) → flag (with f g) ≡ flag f + flag g) (a : ℕ) where
  module _ (ts : List Task) (time : ℕ) (t : Tasks) (w : ℕ) where
    brought_more : (op : Op) → flag ((after ts time t w op).flags a) ≡ flag (t.flags a) + brings flag a op
    unfolding after
    brought_more (minds (opens i)) = omega arith
    brought_more (minds (links i b)) = omega arith
    brought_more (minds (closes i)) =
        ap (λ f. flag (f a)) (lowered_flags (with_creation t (opening (suc i))) w i 1) ∙ omega arith
    brought_more (minds (delivers m ms)) =
        ap (λ f. flag (f a)) (lowered_flags (delivered ts t w m ms) w (task_of ts m.to) (newly_satisfied ts t m))
        ∙ upd_more flag t.flags m.to (with (t.flags m.to) m.flags) (flag m.flags) (sums (t.flags m.to) m.flags) a
    brought_more (minds (tells b f)) =
        upd_more flag t.flags b (with (t.flags b) (sent f)) (flag (sent f)) (sums (t.flags b) (sent f)) a
    brought_more (minds (works i n)) = omega arith
    brought_more (minds (ends i)) = omega arith
    brought_more (gives i is) = omega arith
    brought_more (holds i) = omega arith
    brought_more (takes i) = omega arith
    brought_more (receives i) = omega arith

  pub brought : flag no_flag ≡ 0 → {W : ℕ} {ts : List Task} {ms : List Move} {t : Tasks} {st : ℕ → Stand} → History W ts ms t st
      → tally (brings flag a) ms ≡ flag (t.flags a)
  unfolding tally start
  brought z still = omega arith
  brought z {ts = ts} (then {now = now} r w h time op can) = omega (arith, brought z r, brought_more ts time now w op)
