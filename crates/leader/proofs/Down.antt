-- `find` over the numbers below another, from the last one down, finds the last that passes.
use Prim.Native.Nat.{ℕ, suc, ◌≤◌, ◌<◌}
use native.Mathlib.Omega.{arith}
use native.Mathlib.Numerals.{add-one}
use mathlib.Core.Path.{◌≡◌, refl, sym, ap, ◌∙◌}
use mathlib.Core.Bool.{Bool, true, false}
use mathlib.Core.List.{List, [], ◌∷◌}
use denote.Param.Members.{Mut}
use denote.Ref.{Bor}
use Rattle.std.specs.Prelude.{Option, None, Some, IfSome}
use Rattle.std.specs.declared.iter.Rev.{Rev}
use Rattle.std.specs.declared.ops.Range.{Range}
use Rattle.std.specs.Fn.{CalledAt}
use Rattle.std.specs.Iterator.{Yields}
use Rattle.std.specs.Iterator.Adapters.{rev_steps}
use Rattle.std.specs.List.{FoldsTo}
use Rattle.std.proofs.iter.runs.Sources.{nat_range_steps_back}
use Rattle.runs.specs.Searches.{last_below, last_zero, last_found, last_passed}
use Rattle.leader.specs.Numbers.{found}

abbrev Down : Type 0
Down = Rev (Range ℕ)

abbrev steps_down : Down → Option ℕ → Down → Type 0
steps_down = rev_steps nat_range_steps_back

-- a call answers by the test
module _ {F : Type 0} {g : Mut F (Bor ℕ × Unit {0}) Bool} (f : F) (test : ℕ → Bool) (n : ℕ)
    (says : (x : ℕ) (b : Bool) (q : F) → x < n → CalledAt g f x b q → (q ≡ f) × (b ≡ test x)) where
  -- after calls that answered false the search goes on below what it has passed
  passed : (xs : List ℕ) (s t : Down) (p q : F) → p ≡ f → s.iter.end ≤ n → Yields steps_down s xs t
      → FoldsTo (λ a x b. CalledAt g a x false b) p xs q
      → (q ≡ f) × (t.iter.end ≤ n) × (t.iter.start ≡ s.iter.start) × (last_below test s.iter.end ≡ last_below test t.iter.end)
  passed [] s t p q is low y c = (
    sym c ∙ is,
    omega (arith, low, ap (λ (k : Down). k.iter.end) y),
    sym (ap (λ (k : Down). k.iter.start) y),
    ap (λ (k : Down). last_below test k.iter.end) y,
  )
  passed (x ∷ xs) s t p q is low y c =
      let step = y.1.1 in
      let called = says x false c.0 (omega (arith, low, step)) (rw is at c.1) in
      let (still, down, start, rest) = passed xs y.0 t c.0 q called.0 (omega (arith, low, step)) y.2 c.2 in (
        still,
        down,
        start ∙ y.1.0,
        rw (step.2, add-one) (last_passed test y.0.iter.end (rw (← step.1) (sym called.1))) ∙ rest,
      )

  pub last_from_find : (s u : Down) (r : Option ℕ) → s.iter.start ≡ 0 → s.iter.end ≡ n
      → (xs : List ℕ) × (j : F) × ((t : Down) × Yields steps_down s xs t × steps_down t r u)
      × FoldsTo (λ a x b. CalledAt g a x false b) f xs j × IfSome r (λ x. (h : F) × CalledAt g j x true h)
      → found r ≡ last_below test n
  last_from_find s u None first end (xs, j, (t, y, e), calls, last) =
      let (still, down, start, rest) = passed xs s t f j refl (omega arith) y calls in
      let none_left : t.iter.end ≡ 0 = omega (arith, e.1) in
      sym (last_zero test) ∙ sym (ap (last_below test) none_left) ∙ sym rest ∙ ap (last_below test) end
  last_from_find s u (Some x) first end (xs, j, (t, y, e), calls, last) =
      let (still, down, start, rest) = passed xs s t f j refl (omega arith) y calls in
      let (bound, at, next) = e.1 in
      let called = says x true last.0 (omega arith) (rw still at last.1) in
      let here : t.iter.end ≡ suc x = omega arith in
      sym (last_found test x (sym called.1)) ∙ sym (ap (last_below test) here) ∙ sym rest ∙ ap (last_below test) end
