-- The shares of the store: worker 0's begins with the store, and each other where the one before ended.
use Rattle.std.specs.Prelude.{ℕ, suc, ◌+◌, ◌*◌, ◌≡◌, refl, List, ◌++◌, take, drop}
use Rattle.std.proofs.Common.{arith, sym, ap, ◌∙◌, take-append-drop, drop-drop}
use Rattle.steps.specs.Layout.{share_size, shares_size}
use Rattle.steps.specs.Memory.{share}

pub share_first : (store : List ℕ) → share store 0 ≡ take share_size store
unfolding share
share_first store = refl

-- from its place on the store is the worker's share, then what begins with the next worker's
pub share_next : (store : List ℕ) (w : ℕ) → drop (w * share_size) store ≡ share store w ++ drop (suc w * share_size) store
unfolding share
share_next store w =
    let next : w * share_size + share_size ≡ suc w * share_size = omega arith in
    sym (take-append-drop share_size (drop (w * share_size) store))
    ∙ ap (λ rest. take share_size (drop (w * share_size) store) ++ rest)
    (drop-drop share_size (w * share_size) store ∙ ap (λ n. drop n store) next)

-- 32 of them are the store's first 8,192 numbers
pub shares_size_lem : shares_size ≡ 8192
shares_size_lem = refl
