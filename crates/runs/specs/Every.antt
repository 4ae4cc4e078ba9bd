-- Lists of which each element passes a test.
use Rattle.std.specs.Prelude.{ℕ, zero, suc, ◌+◌, ◌<◌, ◌≡◌, refl, Bool, true, false, ◌&&◌, List, [], ◌∷◌, ◌++◌, length, take, get_or}
use Rattle.std.proofs.Common.{arith, add-one, take-suc}
use Rattle.runs.specs.Tests.{ways}

-- a test passed by each element
unfoldable pub every : {A : Type 0} → (A → Bool) → List A → Bool
every f [] = true
every f (x ∷ xs) = f x && every f xs

pub every_append : {A : Type 0} (f : A → Bool) (xs ys : List A) → every f (xs ++ ys) ≡ (every f xs && every f ys)
unfolding every
every_append f [] ys = refl
every_append f (x ∷ xs) ys = ways (f x) (λ e. simp e (every_append f xs ys)) (λ e. simp e)

-- one element more passes
pub every_more : {A : Type 0} (f : A → Bool) (xs : List A) (i : ℕ) (d : A) → i < length xs → every f (take i xs) ≡ true
    → f (get_or xs i d) ≡ true → every f (take (i + 1) xs) ≡ true
unfolding every
every_more f xs i d h e g = rw (add-one, take-suc xs i d h, every_append f (take i xs) (get_or xs i d ∷ [])) (simp (e, g))

-- one that fails
pub every_fails : {A : Type 0} (f : A → Bool) (xs : List A) (i n : ℕ) (d : A) → i < length xs → i < n → f (get_or xs i d) ≡ false
    → every f (take n xs) ≡ false
unfolding every
every_fails f [] i n d h k e = absurd (omega arith)
every_fails f (x ∷ xs) i zero d h k e = absurd (omega arith)
every_fails f (x ∷ xs) zero (suc n) d h k e = simp e
every_fails f (x ∷ xs) (suc i) (suc n) d h k e =
    ways (f x) (λ t. simp t (every_fails f xs i n d (omega arith) (omega arith) e)) (λ t. simp t)
