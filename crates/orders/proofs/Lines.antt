-- The order lines of an accepted plan from one on, and what is known of a state before each.
use Prim.Native.Nat.{ℕ, suc, ◌+◌, ◌-◌, ◌^◌, ◌≤◌, ◌<◌, min}
use native.Mathlib.Omega.{arith}
use mathlib.Core.Path.{◌≡◌, sym, ap, ◌∙◌}
use mathlib.Core.Logic.{⊎_elim}
use mathlib.Core.Bool.{true}
use mathlib.Core.List.{List, ◌++◌}
use lib.ListN.{length, get_or, take, drop, length-append, length-take, drop_of_length-le}
use lib.Seq.{drop-cons, take_all}
use Rattle.runs.specs.Update.{order}
use Rattle.runs.specs.Picks.{Picks, run}
use Rattle.plan.specs.Plan.{Plan}
use Rattle.plan.specs.declared.order.Order.{Order}
use Rattle.plan.specs.declared.order.Order.TheVariants as kinds
use Rattle.plan.specs.Reading.{reading, accepted}
use Rattle.plan.specs.Orders.{picks_of, picks_of_all}
use Rattle.plan.specs.Accepted.{OrderFormed, WellFormed}
use Rattle.plan.proofs.Accepted.{accepted_well_formed}
use Rattle.picks.specs.declared.Source.{Source}
use Rattle.picks.specs.Sources.{picks_from, Opens}
use Rattle.picks.specs.SourceLaws.{from_take}
use Rattle.machine.specs.State.{State, start}
use Rattle.machine.specs.Step.{finished, pick, after}
use Rattle.machine.specs.Ranges.{Going}
use Rattle.machine.proofs.Ranges.{going_start}
use Rattle.orders.specs.Reached.{setup_of, reached}
use Rattle.orders.specs.Limited.{limited, drawn_to, Under}
use Rattle.orders.specs.Picked.{picks_order}
use Rattle.orders.proofs.Sizes.{picks_few}
use Rattle.orders.proofs.AcceptedRuns.{playable, sized}
use Rattle.orders.proofs.Limits.{limited_none, limited_full, limited_finished, limited_append, limited_picks, limited_going}

-- past the last order line, where none is read
abbrev pub no_order : Order
no_order = kinds.Picks 0 0

-- order line i, and the picks of those from line i on
abbrev pub line_at : Plan → ℕ → Order
line_at p i = get_or p.orders i no_order

abbrev picks_at : Plan → ℕ → List ℕ
picks_at p i = picks_of p.workers (line_at p i)

abbrev picks_from_line : Plan → ℕ → List ℕ
picks_from_line p i = picks_of_all p.workers (drop i p.orders)

-- a source of an order line, cut where the line or the limit ends
cut : (W : ℕ) (o : Order) (source : Source) → Opens W o source → (limit picks end : ℕ) → picks ≤ limit
    → end ≡ min (picks + length (picks_of W o)) limit → picks_from W source (end - picks) ≡ take (limit - picks) (picks_of W o)
cut W o source opens limit picks end below ends = ⊎_elim limit_first line_first (order (limit - picks) (length (picks_of W o)))
  where
    limit_first : limit - picks < length (picks_of W o) → picks_from W source (end - picks) ≡ take (limit - picks) (picks_of W o)
    limit_first l =
        let same : end - picks ≡ limit - picks = omega arith in
        ap (picks_from W source) same
        ∙ sym (from_take W source (limit - picks) (length (picks_of W o)) (omega arith))
        ∙ ap (take (limit - picks)) opens.picks

    line_first : length (picks_of W o) ≤ limit - picks → picks_from W source (end - picks) ≡ take (limit - picks) (picks_of W o)
    line_first l =
        let same : end - picks ≡ length (picks_of W o) = omega arith in
        ap (picks_from W source) same ∙ opens.picks ∙ sym (take_all (limit - picks) (picks_of W o) l)

-- ---- a state before a line

-- the picks of the order lines from line i on can be taken from it, and lead to where the whole run leads
pub record Left (p : Plan) (limit i : ℕ) (s : State) : Type 0 where
  pub going : Going (setup_of p) s
  pub below : s.picks ≤ limit
  pub few : s.picks + length (picks_from_line p i) < 2 ^ 42
  pub comes_to : limited (setup_of p) limit s (picks_from_line p i) ≡ reached p limit

module _ (text : List ℕ) (p : Plan) (e : reading text ≡ accepted p) where
  pub well : WellFormed p
  well = accepted_well_formed text p e

  pub line_formed : (i : ℕ) → i < length p.orders → OrderFormed p.workers (line_at p i)
  line_formed i l = well.orders i l no_order

  pub left_start : (limit : ℕ) → Left p limit 0 (start (setup_of p))
  unfolding after start
  left_start limit =
      let all = picks_of_all p.workers p.orders in
      let whole : limit - 0 ≡ limit = omega arith in
      record {
        going = going_start (setup_of p) (playable text p e) (sized text p e);
        below = omega arith;
        few = omega (arith, picks_few text p e (length all), length-take (length all) all);
        comes_to = ap (λ (n : ℕ). run (pick (setup_of p)) (start (setup_of p)) (take n all)) whole;
      }

  module _ (limit i : ℕ) (s : State) (l : Left p limit i s) where
    -- the run is over where the limit is reached, the state is finished or no order is left
    pub left_full : s.picks ≡ limit → s ≡ reached p limit
    left_full z = sym (limited_full (setup_of p) limit s _ z) ∙ l.comes_to

    pub left_finished : finished (setup_of p) s ≡ true → s ≡ reached p limit
    left_finished z = sym (limited_finished (setup_of p) limit s _ z) ∙ l.comes_to

    pub left_none : length p.orders ≤ i → s ≡ reached p limit
    unfolding picks_of_all
    left_none z = sym (limited_none (setup_of p) limit s) ∙ rw (drop_of_length-le p.orders z) at l.comes_to

    -- one order line more
    module _ (here : i < length p.orders) where
      all_picks : picks_from_line p i ≡ picks_at p i ++ picks_from_line p (suc i)
      unfolding picks_of_all
      all_picks = ap (picks_of_all p.workers) (drop-cons p.orders i no_order here)

      pub line_few : s.picks + (length (picks_at p i) + length (picks_from_line p (suc i))) < 2 ^ 42
      line_few = omega (arith, l.few, ap length all_picks, length-append (picks_at p i) (picks_from_line p (suc i)))

      own : Picks p.workers (picks_at p i)
      own = picks_order p.workers (line_at p i) well.workers_some (line_formed i here)

      pub left_line : Left p limit (suc i) (limited (setup_of p) limit s (picks_at p i))
      left_line =
          let (below, more) = limited_picks (setup_of p) limit s (picks_at p i) own l.below in
          record {
            going = limited_going (setup_of p) limit s (picks_at p i) own (playable text p e) (sized text p e) l.going;
            below = below;
            few = omega (arith, more, line_few);
            comes_to =
                sym (limited_append (setup_of p) limit (picks_at p i) (picks_from_line p (suc i)) s l.below)
                ∙ sym (ap (limited (setup_of p) limit s) all_picks)
                ∙ l.comes_to;
          }

      -- its picks, drawn from a source up to the end of the line or the limit
      module _ (source : Source) (opens : Opens p.workers (line_at p i) source)
          (end : ℕ) (ends : end ≡ min (s.picks + length (picks_at p i)) limit) where
        pub under_line : Under (setup_of p) s end source
        under_line =
            record {
              playable = playable text p e;
              sized = sized text p e;
              going = l.going;
              few = omega (arith, line_few);
              formed = opens.formed;
            }

        pub line_drawn : drawn_to (setup_of p) end s source ≡ limited (setup_of p) limit s (picks_at p i)
        line_drawn =
            ap (run (pick (setup_of p)) s) (cut p.workers (line_at p i) source opens limit s.picks end l.below ends)
