-- Sources of picks, and the one that an order line opens.
use Rattle.std.specs.Prelude.{ℕ, zero, suc, ◌<◌, ◌≡◌, true, false, List, [], ◌∷◌, length, replicate, ltb}
use Rattle.plan.specs.declared.order.Order.{Order}
use Rattle.plan.specs.Orders.{seeded_picks, picks_of}
use Rattle.picks.specs.declared.Source.{Source}
use Rattle.picks.specs.declared.Source.TheVariants.{Same, InTurn, Seeded}
use Rattle.picks.specs.declared.Drawn.{Drawn}

-- ---- what a source gives

-- the worker after worker k, of W in turn
abbrev pub next_in_turn : ℕ → ℕ → ℕ
next_in_turn W k = elim (ltb (suc k) W) [ true ↦ suc k | false ↦ 0 ]

-- n workers in turn, from worker k
unfoldable pub turns : ℕ → ℕ → ℕ → List ℕ
turns W k zero = []
turns W k (suc n) = k ∷ turns W (next_in_turn W k) n

-- the first n picks
abbrev pub picks_from : ℕ → Source → ℕ → List ℕ
picks_from W (Same w) n = replicate n w
picks_from W (InTurn w) n = turns W w n
picks_from W (Seeded x) n = seeded_picks W x n

-- seeded picks ask no more than that there are workers
abbrev pub Formed : ℕ → Source → Type 0
Formed W (Same w) = w < W
Formed W (InTurn w) = w < W
Formed W (Seeded x) = 0 < W

-- the first pick, and a source of those after it
pub record Draws (W : ℕ) (s : Source) (d : Drawn) : Type 0 where
  pub picks : (n : ℕ) → picks_from W s (suc n) ≡ d.worker ∷ picks_from W d.source n
  pub low : d.worker < W
  pub formed : Formed W d.source

-- ---- the source of an order line

-- a source begins with the picks of an order line
pub record Opens (W : ℕ) (o : Order) (s : Source) : Type 0 where
  pub picks : picks_from W s (length (picks_of W o)) ≡ picks_of W o
  pub formed : Formed W s
