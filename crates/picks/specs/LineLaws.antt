-- Laws of order lines: how many picks they have, and which source gives these. Assumes nothing.
use Rattle.std.specs.Prelude.{ℕ, ◌*◌, ◌≤◌, ◌<◌, ◌≡◌, refl, length}
use Rattle.std.proofs.Common.{sym, ap, ◌∙◌, arith, mul-le-mul}
use Rattle.std.proofs.lemmas.List.{length-replicate}
use Rattle.plan.specs.declared.order.Order.{Order}
use Rattle.plan.specs.declared.order.Order.TheVariants.{Picks as picks, Rounds as rounds, Seeded as seeded}
use Rattle.plan.specs.Orders.{picks_of}
use Rattle.plan.specs.Accepted.{OrderFormed}
use Rattle.picks.specs.declared.Source.{Source}
use Rattle.picks.specs.declared.Source.TheVariants.{Same, InTurn, Seeded}
use Rattle.picks.specs.Sources.{picks_from, Formed, Opens}
use Rattle.picks.specs.SourceLaws.{turns_length, seeded_length, rounds_in_turn}

-- ---- how many picks

abbrev pub count_of : ℕ → Order → ℕ
count_of W (picks worker n) = n
count_of W (rounds n) = n * W
count_of W (seeded n seed) = n

pub count_picks : (W : ℕ) (o : Order) → 0 < W → length (picks_of W o) ≡ count_of W o
count_picks W (picks worker n) h = length-replicate n worker
count_picks W (rounds n) h = ap length (rounds_in_turn W n h) ∙ turns_length W 0 (n * W)
count_picks W (seeded n seed) h = seeded_length W seed n

-- rounds of few workers are no more picks than fit
pub rounds_fit : (W n : ℕ) → W ≤ 32 → OrderFormed W (rounds n) → n * W ≤ 32000000
rounds_fit W n few formed = mul-le-mul formed.1 few

-- ---- the source that gives them

module _ (W : ℕ) where
  opens : (o : Order) (s : Source) → 0 < W → picks_from W s (count_of W o) ≡ picks_of W o → Formed W s → Opens W o s
  opens o s some e f = record { picks = ap (picks_from W s) (count_picks W o some) ∙ e; formed = f }

  pub opens_same : (worker n : ℕ) → worker < W → Opens W (picks worker n) (Same worker)
  opens_same worker n low = opens (picks worker n) (Same worker) (omega (arith, low)) refl low

  pub opens_rounds : (n : ℕ) → 0 < W → Opens W (rounds n) (InTurn 0)
  opens_rounds n some = opens (rounds n) (InTurn 0) some (sym (rounds_in_turn W n some)) some

  pub opens_seeded : (seed n : ℕ) → 0 < W → Opens W (seeded n seed) (Seeded seed)
  opens_seeded seed n some = opens (seeded n seed) (Seeded seed) some refl some
