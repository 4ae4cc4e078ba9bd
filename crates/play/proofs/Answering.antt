-- What the arrays say of a state, and the answer that they lead to.
use Prim.Native.Nat.{ℕ, ◌≤◌, ◌<◌}
use native.Mathlib.Omega.{arith}
use mathlib.Core.Path.{◌≡◌, sym, ap, ◌∙◌}
use mathlib.Core.List.{List, ◌++◌}
use lib.ListN.{length, drop}
use Rattle.refusals.specs.declared.Refusal.TheVariants.{OutputTooShort}
use Rattle.machine.specs.State.{Setup, State}
use Rattle.machine.specs.Ranges.{Sized}
use Rattle.memory.specs.Layout as layout
use Rattle.memory.specs.Labels.{Labels}
use Rattle.memory.specs.declared.labels.Label.{Label}
use Rattle.steps.specs.declared.Counts.{Counts}
use Rattle.steps.specs.Memory.{share, Masked, Holds}
use Rattle.scheduler.specs.declared.arrays.Arrays.{Arrays}
use Rattle.scheduler.specs.Lent.{memory_of}
use Rattle.report.specs.declared.Summary.{Summary}
use Rattle.report.specs.Report.{report}
use Rattle.report.specs.Shown.{Shown}
use Rattle.report.specs.Totals.{ones_of, Masks, total_ones}
use Rattle.play.specs.Outcome.{reports, refuses, written}
use Rattle.play.specs.Summed.{Summed}
use Rattle.play.specs.Written.{written_short, written_whole}

-- the masks of a setup that is within its sizes
pub masks_are : (c : Setup) (masks : List ℕ) → Sized c → Masked c.workers c.tasks masks → Masks c masks
masks_are c masks sized h = record { few = sized.workers; formed = sized.masks; are = h }

module _ {n : Counts} {a : Arrays} {store : List ℕ} {r : Summary} (summed : Summed n a store r) where
  module _ {c : Setup} {s : State} (sized : Sized c) (holds : Holds c (memory_of n a) (share store) s) where
    tasks_counted : r.tasks ≡ length c.tasks
    tasks_counted = summed.tasks ∙ holds.tasks.tasks

    pub shown : {text : List ℕ} {places : List Label} → Labels c.tasks text places → Shown c s r a.rows places a.device.givers text
    shown labels =
        let (f, l) = summed.found c s holds in
        record {
          finished = f;
          picks = summed.picks ∙ holds.picks;
          permitted = summed.permitted ∙ ap (ones_of a.device.masks) holds.tasks.tasks
              ∙ total_ones c a.device.masks (masks_are c a.device.masks sized holds.device.masks);
          head = summed.head ∙ ap (λ l. l.head) holds.lock;
          tail = summed.tail ∙ ap (λ l. l.tail) holds.lock;
          leader = l;
          count = tasks_counted;
          rows = holds.tasks.task_rows_lem;
          givers = holds.device.givers;
          labels = labels;
        }

    -- what the report asks of the number of tasks
    pub few_tasks : r.tasks ≤ layout.most_tasks
    few_tasks = omega (arith, tasks_counted, sized.tasks)

    module _ (left output : List ℕ) where
      pub too_short : length output < length (report c s)
          → (refuses OutputTooShort 0 ≡ (written left output s.picks (report c s)).answer)
          × (output ≡ (written left output s.picks (report c s)).output)
      too_short l =
          let e = sym (written_short left output s.picks (report c s) l) in
          (ap (λ o. o.answer) e, ap (λ o. o.output) e)

      pub long_enough : (size : ℕ) (next : List ℕ) → length (report c s) ≤ length output → size ≡ length (report c s)
          → next ≡ report c s ++ drop (length (report c s)) output
          → (reports n.picks size ≡ (written left output s.picks (report c s)).answer)
          × (next ≡ (written left output s.picks (report c s)).output)
      long_enough size next l f g =
          let e = sym (written_whole left output s.picks (report c s) l) in
          (ap (λ k. reports k size) holds.picks ∙ ap (reports s.picks) f ∙ ap (λ o. o.answer) e, g ∙ ap (λ o. o.output) e)
