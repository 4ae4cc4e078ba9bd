-- `report::total_permitted` meets its contract: each mask has at most 32 ones. Assumes nothing.
use Rattle.std.proofs.Common.{arith, ◌≡◌, refl, ap, ◌∙◌}
use Rattle.std.proofs.lemmas.List.{length-take-le}
use Rattle.std.specs.Int.Count.{ones}
use lib.Count.{ones-le}
use lib.ListN.{get_or}
use Rattle.runs.specs.Sums.{sum}
use Rattle.report.specs.Totals.{ones_of, total_ones}
use Rattle.report.proofs.Ones.{few_ones, ones_more, first_masks}
use Rattle.report.proofs.total_permitted.Goals as goal

pub loop-mask-init : goal.loop-mask-init
unfolding sum
loop-mask-init c = refl

pub overflow_add-total : goal.overflow_add-total
overflow_add-total c =
    let i = c.loop-mask.mask-index in
    let masks = c.args.masks.now in
    let (few, inside, low) = c.requires in
    let (first, same) = first_masks masks c.args.n i inside c.loop-mask-test.true in
    omega (
      arith,
      same,
      ap ones same,
      few,
      first,
      ones-le 32 (get_or masks i 0) (low i first),
      few_ones masks i (λ k l. low k (omega arith)),
      c.loop-mask.invariant,
      c.from-total.ensures,
    )

pub loop-mask-preserved : goal.loop-mask-preserved
loop-mask-preserved c =
    let i = c.loop-mask.mask-index in
    let masks = c.args.masks.now in
    let (first, same) = first_masks masks c.args.n i c.requires.1 c.loop-mask-test.true in
    omega (arith, c.loop-mask.invariant, ap ones same, ones_more masks i, c.from-total.ensures)

pub returns-clause-numbers : goal.returns-clause-numbers
returns-clause-numbers c =
    let all : c.loop-mask.mask-index ≡ c.args.n =
    omega (arith, length-take-le c.args.n c.args.masks.now c.requires.1, c.loop-mask-test.false, c.loop-mask.auto.mask-index-end) in
    c.loop-mask.invariant ∙ ap (ones_of c.args.masks.now) all

pub returns-clause-meaning : goal.returns-clause-meaning
returns-clause-meaning c x n h =
    let all : c.loop-mask.mask-index ≡ c.args.n =
    omega (arith, length-take-le c.args.n c.args.masks.now c.requires.1, c.loop-mask-test.false, c.loop-mask.auto.mask-index-end) in
    c.loop-mask.invariant ∙ ap (ones_of c.args.masks.now) (all ∙ n) ∙ total_ones x c.args.masks.now h
