-- A line's kind and what it says, which its fields decide, whatever has been read before it.
use Rattle.std.specs.Prelude.{ℕ, ◌≡◌, refl, Bool, true, false, cond, List, [], ◌∷◌, map, eqb}
use Rattle.std.proofs.Math.Option
use Rattle.std.proofs.Math.Option.{Option, none, some}
use Rattle.std.proofs.Common.{eqb-true}
use Rattle.text.specs.Text.{bytes, all_of, number_of, decimal}
use Rattle.text.specs.Numerals.{decimal_number}
use Rattle.plan.specs.declared.form.Form.TheVariants.{First, Second}
use Rattle.plan.specs.Plan.{Plan}
use Rattle.plan.specs.declared.access.Access.{Access}
use Rattle.plan.specs.declared.order.Order.TheVariants.{Picks as picks, Rounds as rounds, Seeded as seeded}
use Rattle.plan.specs.Line.{'M', 'P', 'R', 'S', 'T', 'W', Line, is_label, access_of}
use Rattle.plan.specs.Line.{workers_line, task_line, mask_line, picks_line, rounds_line, seeded_line}
use Rattle.plan.specs.Line.{one_number, with_both, two_numbers, in_form, with_cost, label_and_cost, line_by, line_of_fields}
use Rattle.convert.specs.Kinds.{mask, order, malformed, workers, task, Kind, line_of_kind, Spelled, Kinded}

kinded : {fields : List (List ℕ)} {of : Plan → Option Line} (k : Kind) → Spelled fields k → ((p : Plan) → of p ≡ line_of_kind p k)
    → Kinded fields of
kinded k s h = record { kind = k; spelled = s; is = h }

no_line : {fields : List (List ℕ)} → Kinded fields (λ p. none)
no_line = kinded malformed tt (λ p. refl)

module _ (all : List (List ℕ)) where
  one_number_lem : (make : Plan → ℕ → Line) → ((n : ℕ) → Kinded all (λ p. some (make p n))) → (fields : List (List ℕ))
      → Kinded all (λ p. one_number (make p) fields)
  one_number_lem make h [] = no_line
  one_number_lem make h (f ∷ []) = go (number_of f)
    where
      go : (x : Option ℕ) → Kinded all (λ p. Option.map (make p) x)
      go none = no_line
      go (some n) = h n
  one_number_lem make h (f ∷ g ∷ gs) = no_line

  two_numbers_lem : (make : Plan → ℕ → ℕ → Line) → ((m n : ℕ) → Kinded all (λ p. some (make p m n))) → (fields : List (List ℕ))
      → Kinded all (λ p. two_numbers (make p) fields)
  two_numbers_lem make h [] = no_line
  two_numbers_lem make h (f ∷ []) = no_line
  two_numbers_lem make h (f ∷ g ∷ []) = go (number_of f) (number_of g)
    where
      go : (x y : Option ℕ) → Kinded all (λ p. with_both (make p) x y)
      go none y = no_line
      go (some m) none = no_line
      go (some m) (some n) = h m n
  two_numbers_lem make h (f ∷ g ∷ k ∷ ks) = no_line

  labelled : (fields : List (List ℕ)) → Kinded all (λ p. label_and_cost (task_line p) fields)
  labelled [] = no_line
  labelled (f ∷ []) = no_line
  labelled (f ∷ g ∷ gs) = go (is_label f) (number_of g) (all_of (map access_of gs))
    where
      go : (b : Bool) (c : Option ℕ) (xs : Option (List Access)) → Kinded all (λ p. cond b (with_cost (task_line p) f c xs) none)
      go false c xs = no_line
      go true none xs = no_line
      go true (some c) none = no_line
      go true (some c) (some xs) = kinded (task (record { label = f; cost = c; accesses = xs; mask = none })) tt (λ p. refl)

  either : (b : Bool) (x y : Plan → Option Line) → (b ≡ true → Kinded all x) → Kinded all y → Kinded all (λ p. cond b (x p) (y p))
  either true x y f g = f refl
  either false x y f g = g

sizes : (n : ℕ) (f : List ℕ) → f ≡ decimal n → (g : List ℕ) (gs : List (List ℕ))
    → Kinded (('W' ∷ []) ∷ f ∷ g ∷ gs) (λ p. two_numbers (λ slots capacity. workers_line p n (Second slots capacity)) (g ∷ gs))
unfolding bytes
sizes n f e g [] = no_line
sizes n f e g (h ∷ []) = go (number_of g) refl (number_of h) refl
  where
    go : (x : Option ℕ) → number_of g ≡ x → (y : Option ℕ) → number_of h ≡ y
        → Kinded (('W' ∷ []) ∷ f ∷ g ∷ h ∷ []) (λ p. with_both (λ slots capacity. workers_line p n (Second slots capacity)) x y)
    go none q y r = no_line
    go (some m) q none r = no_line
    go (some slots) q (some capacity) r =
        kinded (workers n (Second slots capacity)) (rw (e, decimal_number g slots q, decimal_number h capacity r)) (λ p. refl)
sizes n f e g (h ∷ k ∷ ks) = no_line

in_form_lem : (fields : List (List ℕ)) → Kinded (('W' ∷ []) ∷ fields) (λ p. in_form (workers_line p) fields)
unfolding bytes
in_form_lem [] = no_line
in_form_lem (f ∷ []) = go (number_of f) refl
  where
    go : (x : Option ℕ) → number_of f ≡ x → Kinded (('W' ∷ []) ∷ f ∷ []) (λ p. Option.map (λ n. workers_line p n First) x)
    go none e = no_line
    go (some n) e = kinded (workers n First) (rw (decimal_number f n e)) (λ p. refl)
in_form_lem (f ∷ g ∷ gs) = go (number_of f) refl
  where
    go : (x : Option ℕ) → number_of f ≡ x
        → Kinded (('W' ∷ []) ∷ f ∷ g ∷ gs)
        (λ p. elim x [ none ↦ none | some n ↦ two_numbers (λ slots capacity. workers_line p n (Second slots capacity)) (g ∷ gs) ])
    go none e = no_line
    go (some n) e = sizes n f (decimal_number f n e) g gs

by_letter : (letter : ℕ) (fields : List (List ℕ)) → Kinded ((letter ∷ []) ∷ fields) (λ p. line_by p letter fields)
unfolding line_by
by_letter letter fields =
    let all = (letter ∷ []) ∷ fields in
    either all (eqb letter 'W') (λ p. in_form (workers_line p) fields) _ (λ e. rw (eqb-true letter 'W' e) (in_form_lem fields))
    (either all (eqb letter 'T') (λ p. label_and_cost (task_line p) fields) _ (λ e. labelled all fields)
    (either all (eqb letter 'M') (λ p. one_number (mask_line p) fields) _
    (λ e. one_number_lem all mask_line (λ m. kinded (mask m) tt (λ p. refl)) fields)
    (either all (eqb letter 'P') (λ p. two_numbers (picks_line p) fields) _
    (λ e. two_numbers_lem all picks_line (λ w n. kinded (order (picks w n)) tt (λ p. refl)) fields)
    (either all (eqb letter 'R') (λ p. one_number (rounds_line p) fields) _
    (λ e. one_number_lem all rounds_line (λ n. kinded (order (rounds n)) tt (λ p. refl)) fields)
    (either all (eqb letter 'S') (λ p. two_numbers (seeded_line p) fields) _
    (λ e. two_numbers_lem all seeded_line (λ s n. kinded (order (seeded n s)) tt (λ p. refl)) fields)
    no_line)))))

pub kind_of : (fields : List (List ℕ)) → Kinded fields (λ p. line_of_fields p fields)
unfolding line_of_fields
kind_of [] = no_line
kind_of ([] ∷ fields) = no_line
kind_of ((letter ∷ []) ∷ fields) = by_letter letter fields
kind_of ((letter ∷ b ∷ bs) ∷ fields) = no_line
