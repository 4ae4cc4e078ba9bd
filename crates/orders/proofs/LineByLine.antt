-- The order lines of a plan, played one after the other in what is lent.
use Prim.Native.Nat.{ℕ, ◌+◌, ◌^◌, ◌≤◌, ◌<◌, min}
use native.Mathlib.Omega.{arith}
use native.Mathlib.Numerals.{add-one}
use mathlib.Core.Path.{◌≡◌, sym, ap, ◌∙◌}
use mathlib.Core.Bool.{true}
use mathlib.Core.List.{List}
use lib.ListN.{length, get_or, drop}
use Rattle.plan.specs.Plan.{Plan}
use Rattle.plan.specs.declared.order.Order.{Order}
use Rattle.plan.specs.Reading.{reading, accepted}
use Rattle.plan.specs.Orders.{picks_of}
use Rattle.plan.specs.Accepted.{OrderFormed}
use Rattle.picks.specs.declared.Source.{Source}
use Rattle.picks.specs.Sources.{Opens}
use Rattle.machine.specs.State.{Setup, State, start}
use Rattle.machine.specs.Step.{finished}
use Rattle.steps.specs.Layout.{shares_size}
use Rattle.steps.specs.Memory.{share, Memory, Holds}
use Rattle.orders.specs.Reached.{setup_of, reached}
use Rattle.orders.specs.Limited.{limited, Under}
use Rattle.orders.specs.Played.{LineAble, LinePlayed, OrdersAble, OrdersPlayed}
use Rattle.orders.proofs.Playing.{Kept, kept_start, kept_more, kept_room}
use Rattle.orders.proofs.Lines.{no_order, line_at, Left, well, line_formed, left_start, left_full, left_finished, left_none}
use Rattle.orders.proofs.Lines.{line_few, left_line, under_line, line_drawn}

-- a plan that has these order lines, and whose start was held
pub record Given (lines : List Order) (m : Memory) (store : List ℕ) (p : Plan) : Type 0 where
  pub text : List ℕ
  pub accepts : reading text ≡ accepted p
  pub orders : lines ≡ p.orders
  pub holds : Holds (setup_of p) m (share store) (start (setup_of p))

given : {lines : List Order} {m : Memory} {store : List ℕ} (a : OrdersAble lines m store) → Given lines m store a.p
given a = record { text = a.text; accepts = a.accepts; orders = a.orders; holds = a.holds }

-- a state that is held before order line i
pub record Stands (p : Plan) (limit : ℕ) (m : Memory) (store : List ℕ) (i : ℕ) : Type 0 where
  pub s : State
  pub left : Left p limit i s
  pub holds : Holds (setup_of p) m (share store) s

pub record Plays (lines : List Order) (limit : ℕ) (m₀ : Memory) (store₀ : List ℕ) (m : Memory) (store : List ℕ) (i : ℕ) : Type 0 where
  pub kept : Kept store₀ store
  pub stands : (p : Plan) → Given lines m₀ store₀ p → Stands p limit m store i

pub plays_start : {lines : List Order} {limit : ℕ} {m : Memory} {store : List ℕ} → Plays lines limit m store m store 0
plays_start {limit = limit} =
    record {
      kept = kept_start;
      stands = λ p g. record { s = start (setup_of p); left = left_start g.text p g.accepts limit; holds = g.holds };
    }

-- the order lines are played
abbrev pub Played : List Order → ℕ → Memory → List ℕ → Memory → List ℕ → Type 0
Played lines limit m₀ store₀ m store = OrdersPlayed lines limit m₀ store₀ m store × (drop shares_size store ≡ drop shares_size store₀)

module _ {lines : List Order} {limit : ℕ} {m₀ : Memory} {store₀ : List ℕ} {m : Memory} {store : List ℕ} {i : ℕ}
    (plays : Plays lines limit m₀ store₀ m store i) where
  -- where no pick is taken any more, the state is the one that the run reaches
  played : ((p : Plan) → Given lines m₀ store₀ p → (t : Stands p limit m store i) → t.s ≡ reached p limit)
      → Played lines limit m₀ store₀ m store
  played ends = (
    λ text p e orders h.
        let g : Given lines m₀ store₀ p = record { text = text; accepts = e; orders = orders; holds = h } in
        let t = plays.stands p g in
        rw (ends p g t) at t.holds,
    plays.kept.later,
  )

  pub played_full : m.counts.picks ≡ limit → Played lines limit m₀ store₀ m store
  played_full z = played (λ p g t. left_full g.text p g.accepts limit i t.s t.left (sym t.holds.picks ∙ z))

  pub played_finished : ((c : Setup) (s : State) → Holds c m (share store) s → true ≡ finished c s)
      → Played lines limit m₀ store₀ m store
  played_finished z =
      played (λ p g t. left_finished g.text p g.accepts limit i t.s t.left (sym (z (setup_of p) t.s t.holds)))

  pub played_none : length lines ≤ i → Played lines limit m₀ store₀ m store
  played_none z = played (λ p g t. left_none g.text p g.accepts limit i t.s t.left (omega (arith, ap length g.orders)))

  -- one order line more
  abbrev order : Order
  order = get_or lines i no_order

  module _ (here : i < length lines) where
    module _ (p : Plan) (g : Given lines m₀ store₀ p) where
      in_plan : i < length p.orders
      in_plan = omega (arith, ap length g.orders)

      is_line : order ≡ line_at p i
      is_line = ap (λ (os : List Order). get_or os i no_order) g.orders

      formed : OrderFormed p.workers order
      formed = rw is_line (line_formed g.text p g.accepts i in_plan)

    pub line_formed_here : OrdersAble lines m₀ store₀
        → (0 < m.counts.workers) × (m.counts.workers ≤ 32) × OrderFormed m.counts.workers order
    line_formed_here a =
        let w = well a.text a.p a.accepts in
        rw (plays.stands a.p (given a)).holds.device.workers (w.workers_some, w.workers_few, formed a.p (given a))

    pub line_ends : OrdersAble lines m₀ store₀ → {count : ℕ} → count ≡ length (picks_of m.counts.workers order)
        → m.counts.picks + count < 2 ^ 64
    line_ends a counts =
        let t = plays.stands a.p (given a) in
        let own = rw (t.holds.device.workers, is_line a.p (given a)) at counts in
        let few = line_few a.text a.p a.accepts limit i t.s t.left (in_plan a.p (given a)) in
        omega (arith, t.holds.picks)

    -- by what the code knows of it: the source that it opens, how many picks it has, and how many there are after it
    module _ {source : Source} {count end : ℕ} (opens : (W : ℕ) → 0 < W → OrderFormed W order → Opens W order source)
        (counts : count ≡ length (picks_of m.counts.workers order)) (ends : end ≡ min (m.counts.picks + count) limit) where
      module _ (p : Plan) (g : Given lines m₀ store₀ p) where
        opens_in : Opens p.workers (line_at p i) source
        opens_in = rw (is_line p g) at (opens p.workers (well g.text p g.accepts).workers_some (formed p g))

        ends_in : (t : Stands p limit m store i) → end ≡ min (t.s.picks + length (picks_of p.workers (line_at p i))) limit
        ends_in t = rw (t.holds.picks, counts, t.holds.device.workers, is_line p g) at ends

        under : (t : Stands p limit m store i) → Under (setup_of p) t.s end source
        under t = under_line g.text p g.accepts limit i t.s t.left (in_plan p g) source opens_in end (ends_in t)

      pub line_able : OrdersAble lines m₀ store₀ → LineAble end source m store
      line_able a =
          let t = plays.stands a.p (given a) in
          record {
            room = kept_room plays.kept a.room;
            c = setup_of a.p;
            s = t.s;
            under = under a.p (given a) t;
            holds = t.holds;
          }

      pub plays_line : (n : Memory) (then : List ℕ) → length then ≡ length store → drop shares_size then ≡ drop shares_size store
          → LinePlayed end source m store n then → Plays lines limit m₀ store₀ n then (i + 1)
      plays_line n then size later one =
          record {
            kept = kept_more plays.kept (record { size = size; later = later });
            stands = λ p g.
                let t = plays.stands p g in
                let l = in_plan p g in
                let drawn = line_drawn g.text p g.accepts limit i t.s t.left l source (opens_in p g) end (ends_in p g t) in
                record {
                  s = limited (setup_of p) limit t.s (picks_of p.workers (line_at p i));
                  left = rw add-one (left_line g.text p g.accepts limit i t.s t.left l);
                  holds = rw drawn at (one (setup_of p) t.s (under p g t) t.holds);
                };
          }
