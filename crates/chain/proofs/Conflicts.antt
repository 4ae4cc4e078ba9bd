-- A task's accesses in its row, and a search for two that meet. Assumes nothing.
use Rattle.std.specs.Prelude.{ℕ, suc, ◌<◌, ◌≡◌, refl, Bool, true, false, not, List, [], ◌∷◌, length, take, get_or}
use Rattle.std.specs.List.{list_any}
use Rattle.std.proofs.Common.{sym, ap, ◌∙◌, arith}
use Rattle.runs.specs.Tests.{ways}
use Rattle.runs.specs.Update.{clash}
use Rattle.runs.specs.Every.{every}
use Rattle.plan.specs.Plan.{Task}
use Rattle.plan.specs.declared.access.Access.{Access}
use Rattle.plan.specs.Line.{access}
use Rattle.plan.specs.Chains.{meet, conflict}

-- all fail, or else one passes
none_passes : {A : Type 0} (fails passes : A → Bool) → ((x : A) → fails x ≡ not (passes x)) → (xs : List A)
    → every fails xs ≡ not (list_any passes xs)
unfolding every
none_passes fails passes e [] = refl
none_passes fails passes e (x ∷ xs) =
    ways (passes x) (λ p. simp (e x, p)) (λ p. simp (e x, p) (none_passes fails passes e xs))

not_not : (b : Bool) → not (not b) ≡ b
not_not true = refl
not_not false = refl

pub conflict_any : (t u : Task) → list_any (λ x. list_any (meet x) u.accesses) t.accesses ≡ conflict t u
unfolding conflict
conflict_any t u =
    sym (not_not (list_any (λ x. list_any (meet x) u.accesses) t.accesses))
    ∙ ap not (sym (none_passes _ _ (λ x. none_passes (λ y. not (meet x y)) (meet x) (λ y. refl) u.accesses) t.accesses))

-- accesses of which the first are others, place by place, whatever stands for one that is not there: so they are there
pub front_same : (xs ys : List Access) → ((k : ℕ) → k < length ys → (d : Access) → get_or xs k d ≡ get_or ys k d) → take (length ys) xs ≡ ys
front_same [] [] e = refl
front_same [] (y ∷ ys) e =
    let zero : access false 0 ≡ y = e 0 (omega arith) (access false 0) in
    let one : access false 1 ≡ y = e 0 (omega arith) (access false 1) in
    clash (ap (λ (a : Access). a.address) (zero ∙ sym one))
front_same (x ∷ xs) [] e = refl
front_same (x ∷ xs) (y ∷ ys) e =
    let first : x ≡ y = e 0 (omega arith) y in
    rw first (ap (λ zs. y ∷ zs) (front_same xs ys (λ k b d. e (suc k) (omega arith) d)))
