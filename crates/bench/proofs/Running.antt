-- The answer of a run, case by case.
use Prim.Native.Nat.{ℕ, ◌*◌, ◌≤◌, ◌<◌}
use mathlib.Core.Path.{◌≡◌, sym, ap, ◌∙◌}
use mathlib.Core.Logic.{⊎_elim}
use mathlib.Core.List.{List, ◌++◌}
use native.Mathlib.Omega.{arith}
use lib.ListN.{length, take, drop, replicate, length-replicate}
use lib.Seq.{take_at, drop_at}
use Rattle.runs.specs.Update.{order}
use Rattle.std.specs.Prelude.{Result, Ok}
use Rattle.refusals.specs.declared.Refusal.{Refusal}
use Rattle.refusals.specs.declared.Refused.{Refused}
use Rattle.plan.specs.Plan.{Plan}
use Rattle.plan.specs.Reading.{accepted, refused, reading}
use Rattle.plan.proofs.Accepted.{accepted_well_formed, accepted_orders}
use Rattle.kept.specs.Layout as layout
use Rattle.kept.specs.TaskLaws.{tasks_length, has_tasks}
use Rattle.kept.specs.OrderLaws.{has_orders_lem}
use Rattle.reader.specs.declared.ReadPlan.{ReadPlan}
use Rattle.reader.specs.declared.ReadText.{ReadText}
use Rattle.reader.specs.Verdict.{Lent, Gives}
use Rattle.reader.specs.Given.{read_accepted}
use Rattle.orders.specs.Reached.{reached}
use Rattle.play.specs.declared.Ran.{Ran}
use Rattle.play.specs.Outcome.{Outcome, report_of, refuses, written}
use Rattle.play.specs.Loaded.{Loaded}
use Rattle.play.specs.Written.{written_short, written_whole}
use Rattle.bench.specs.Answer.{store_size, cleared, played}

-- a plan that is accepted is loaded, where there is room for all of it
pub read_loaded : (text : List ℕ) (before after : Lent) (r : ReadText) (x : ReadPlan) → Gives text before after r (reading text)
    → r.plan ≡ Ok x → length before.rows ≡ layout.most_tasks → length text ≤ 4 * length before.lines
    → (p : Plan) × (reading text ≡ accepted p) × Loaded text after.rows after.lines x p
read_loaded text before after r x g e rows lines =
    let (p, q, same, h) = read_accepted text before after r g x e in
    let formed = accepted_well_formed text p q in (
      p,
      q,
      record {
        tasks = record {
          size = tasks_length h.rows ∙ rows;
          read = same;
          tasks = has_tasks h.rows (omega (arith, formed.tasks_few, rows));
        };
        orders = has_orders_lem h.lines (omega (arith, accepted_orders text p q, lines));
      },
    )

module _ (limit : ℕ) (store output text : List ℕ) where
  -- a text that is read: the store is cleared
  module _ (left : List ℕ) (clear : left ≡ replicate store_size 0 ++ drop store_size store) where
    pub played_refused : (x : Refusal) (n : ℕ) → reading text ≡ refused x n
        → record { answer = refuses x n; store = left; output = output } ≡ played limit store output (reading text)
    unfolding played
    played_refused x n e =
        ap (λ (l : List ℕ). record { answer = refuses x n; store = l; output = output }) clear
        ∙ sym (ap (played limit store output) e)

    written_store : (picks : ℕ) (bs : List ℕ)
        → (written (cleared store) output picks bs).store ≡ replicate store_size 0 ++ drop store_size store
    written_store picks bs =
        ⊎_elim (λ (l : length output < length bs). ap (λ (o : Outcome). o.store) (written_short (cleared store) output picks bs l))
        (λ (l : length bs ≤ length output). ap (λ (o : Outcome). o.store) (written_whole (cleared store) output picks bs l))
        (order (length output) (length bs))

    pub played_accepted : (p : Plan) (answer : Result Ran Refused) (out : List ℕ) → reading text ≡ accepted p
        → (answer ≡ (written (cleared store) output (reached p limit).picks (report_of p limit)).answer)
        × (out ≡ (written (cleared store) output (reached p limit).picks (report_of p limit)).output)
        → record { answer = answer; store = left; output = out } ≡ played limit store output (reading text)
    unfolding played
    played_accepted p answer out e (a, b) =
        (λ i. record { answer = a i; store = (clear ∙ sym (written_store (reached p limit).picks (report_of p limit))) i; output = b i })
        ∙ sym (ap (played limit store output) e)

-- a store that is cleared twice, with a run between that keeps what is behind its first numbers
pub cleared_again : (store one two three : List ℕ) → store_size ≤ length store → one ≡ replicate store_size 0 ++ drop store_size store
    → drop store_size two ≡ drop store_size one → three ≡ replicate store_size 0 ++ drop store_size two
    → three ≡ replicate store_size 0 ++ drop store_size store
cleared_again store one two three l a b c =
    c ∙ ap (λ (xs : List ℕ). replicate store_size 0 ++ xs) (b ∙ ap (drop store_size) a ∙ drop_front store)
  where
    drop_front : (xs : List ℕ) → drop store_size (replicate store_size 0 ++ drop store_size xs) ≡ drop store_size xs
    drop_front xs = drop_at (replicate store_size 0) (drop store_size xs) store_size (length-replicate {A = ℕ} store_size 0)

pub cleared_zeros : (store one : List ℕ) → one ≡ replicate store_size 0 ++ drop store_size store → take store_size one ≡ replicate store_size 0
cleared_zeros store one a =
    ap (take store_size) a
    ∙ take_at (replicate store_size 0) (drop store_size store) store_size (length-replicate {A = ℕ} store_size 0)
