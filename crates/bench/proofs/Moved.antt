-- A moved plan gives the same answer of a run, store and output included, and its program prints the same.
use Rattle.std.specs.Prelude.{ℕ, ◌^◌, ◌-◌, ◌≤◌, ◌<◌, ◌≡◌, List, length}
use Rattle.std.proofs.Math.Path.{sym, ap}
use Rattle.std.proofs.Common.{◌∙◌, ⊎_elim}
use Rattle.runs.specs.Update.{order}
use Rattle.plan.specs.declared.form.Form.{Form}
use Rattle.plan.specs.declared.form.Form.TheVariants.{First}
use Rattle.plan.specs.Plan.{slots_of, capacity_of, Plan}
use Rattle.plan.specs.Reading.{accepted, reading}
use Rattle.plan.proofs.Accepted.{accepted_length}
use Rattle.plan.specs.Orders.{picks_up_to}
use Rattle.machine.specs.State.{Setup}
use Rattle.machine.specs.Step.{after}
use Rattle.report.specs.Report.{report}
use Rattle.orders.specs.Reached.{setup_of}
use Rattle.play.specs.Outcome.{written}
use Rattle.tools.specs.Result.{result}
use Rattle.convert.specs.Convert.{spelled_out, to_second, to_first}
use Rattle.convert.specs.Reread.{with_form}
use Rattle.convert.proofs.Moved.{spelled_alike, second_plan, second_means, first_plan, first_means, first_had}
use Rattle.bench.specs.Answer.{text_size, store_size, cleared, played, run, printed_for, printed}
use Rattle.bench.specs.Tested.{run_small, run_read}

-- a form means the same sizes as another
abbrev Alike : Form → Form → Type 0
Alike form other = (slots_of form ≡ slots_of other) × (capacity_of form ≡ capacity_of other)

-- the plan in such a form is played with the same
same_setup : (form : Form) (p : Plan) → Alike form p.form → setup_of (with_form form p) ≡ setup_of p
same_setup form p (a, b) = λ i. record { workers = p.workers; slots = a i; capacity = b i; tasks = p.tasks }

module _ (text moved : List ℕ) (p : Plan) (e : reading text ≡ accepted p) (form : Form) (m : reading moved ≡ accepted (with_form form p))
    (alike : Alike form p.form) where
  short : length text ≤ text_size
  short = accepted_length text p e

  short_moved : length moved ≤ text_size
  short_moved = accepted_length moved (with_form form p) m

  module _ (limit : ℕ) (store output : List ℕ) where
    played_alike : played limit store output (accepted (with_form form p)) ≡ played limit store output (accepted p)
    unfolding played
    played_alike =
        ap
        (λ (c : Setup). written (cleared store) output (after c (picks_up_to limit p)).picks (report c (after c (picks_up_to limit p))))
        (same_setup form p alike)

    run_alike : run limit store output moved ≡ run limit store output text
    run_alike =
        ⊎_elim
        (λ (small : length store < store_size).
        run_small limit store output moved short_moved small ∙ sym (run_small limit store output text short small))
        (λ (large : store_size ≤ length store).
        run_read limit store output moved short_moved large
        ∙ ap (played limit store output) m ∙ played_alike ∙ sym (ap (played limit store output) e)
        ∙ sym (run_read limit store output text short large))
        (order (length store) store_size)

  prints_alike : printed moved ≡ printed text
  unfolding printed_for
  prints_alike =
      ap printed_for m
      ∙ ap (λ (c : Setup). report c (after c (picks_up_to (2 ^ 64 - 1) p))) (same_setup form p alike)
      ∙ sym (ap printed_for e)

module _ (text moved : List ℕ) where
  -- moved to the second form
  module _ (h : to_second text ≡ result moved) where
    pub second_runs : (limit : ℕ) (store output : List ℕ) → run limit store output moved ≡ run limit store output text
    second_runs =
        let (p, e) = second_plan text moved h in
        run_alike text moved p e (spelled_out p.form) (second_means text p e moved h) (spelled_alike p.form)

    pub second_prints : printed moved ≡ printed text
    second_prints =
        let (p, e) = second_plan text moved h in
        prints_alike text moved p e (spelled_out p.form) (second_means text p e moved h) (spelled_alike p.form)

  -- and back to the first
  module _ (h : to_first text ≡ result moved) where
    pub first_runs : (limit : ℕ) (store output : List ℕ) → run limit store output moved ≡ run limit store output text
    first_runs =
        let (p, e) = first_plan text moved h in
        let (slots, capacity) = first_had text p e moved h in
        run_alike text moved p e First (first_means text p e moved h) (sym slots, sym capacity)

    pub first_prints : printed moved ≡ printed text
    first_prints =
        let (p, e) = first_plan text moved h in
        let (slots, capacity) = first_had text p e moved h in
        prints_alike text moved p e First (first_means text p e moved h) (sym slots, sym capacity)
