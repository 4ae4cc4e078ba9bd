-- `text::number::put_digits` meets its contract: one digit more stands before those at the back. Assumes nothing.
use Prim.Native.Nat.{ℕ, ◌≤◌, ◌+◌, ◌-◌, ◌/◌, ◌%◌}
use mathlib.Core.Path.{◌≡◌, sym, ap, ◌∙◌}
use mathlib.Core.List.{List, [], ◌∷◌, ◌++◌, append_assoc, append-nil}
use native.Mathlib.Omega.{arith}
use borrow.Author.Rules.{rules}
use lib.ListN.{length, drop, set, drop_of_length-le}
use Rattle.std.proofs.lemmas.List.{drop-set}
use Rattle.text.specs.Text.{decimal}
use Rattle.text.specs.Decimals.{decimal_last, decimal_more, decimal_some, decimal_20, length_more}
use Rattle.text.proofs.number.put_digits.Goals as goal

-- a digit is set before the last ones
one_more : (ds : List ℕ) (from b : ℕ) → 1 ≤ from → from ≤ length ds → drop (from - 1) (set ds (from - 1) b) ≡ b ∷ drop from ds
one_more ds from b l h =
    let e : from - 1 + 1 ≡ from = omega arith in
    rw e at (drop-set ds (from - 1) b (omega arith))

pub loop-left-init : goal.loop-left-init
loop-left-init c =
    let ds = c.args.digits.now in
    let twenty : length ds ≡ 20 = search rules in
    let none : drop 20 ds ≡ [] = drop_of_length-le ds {i = 20} (omega (arith, twenty)) in (
      rw none (sym (append-nil (decimal c.args.n))),
      decimal_20 c.args.n (omega arith),
      omega arith,
      twenty,
    )

pub overflow_sub-from : goal.overflow_sub-from
overflow_sub-from c =
    omega (arith, decimal_some c.loop-left.left, c.loop-left.invariant.1)

pub returns-then-left-lt10 : goal.returns-then-left-lt10
returns-then-left-lt10 c =
    let l = c.loop-left in
    let some = decimal_some l.left in (
      omega (arith, l.invariant.2),
      one_more l.digits l.from (48 + l.left % 10) (omega (arith, some, l.invariant.1)) (omega (arith, l.invariant.2, l.invariant.3))
          ∙ sym (l.invariant.0 ∙ ap (λ (f : List ℕ). f ++ drop l.from l.digits) (decimal_last l.left c.if-left-lt10.true)),
    )

pub loop-left-preserved : goal.loop-left-preserved
loop-left-preserved c =
    let l = c.loop-left in
    let some = decimal_some l.left in
    let last = 48 + l.left % 10 in (
      l.invariant.0 ∙ ap (λ (f : List ℕ). f ++ drop l.from l.digits) (decimal_more l.left c.if-left-lt10.false)
          ∙ append_assoc (decimal (l.left / 10)) (last ∷ []) (drop l.from l.digits)
          ∙ ap (λ (f : List ℕ). decimal (l.left / 10) ++ f)
          (sym (one_more l.digits l.from last (omega (arith, some, l.invariant.1)) (omega (arith, l.invariant.2, l.invariant.3)))),
      omega (arith, length_more l.left c.if-left-lt10.false, l.invariant.1),
      omega (arith, l.invariant.2),
      search rules,
    )
