-- The longest chain that is found among all chains is the longest: it is a chain, no chain costs more, and no chain of the same cost comes
-- before it. There is only one such.
use Prim.Native.Nat.{ℕ, zero, suc, ◌+◌, ◌≤◌, ◌<◌}
use native.Mathlib.Omega.{arith}
use Rattle.std.specs.Prelude.{◌≡◌, ◌⊎◌, ◌≢◌, ◌↔◌, Bool, cond, get_or}
use Rattle.std.proofs.Math.Path.{refl}
use Rattle.std.proofs.Common.{sym, ap, inl, inr, lt-ltb, le-ltb}
use Rattle.std.proofs.Math.Logic.{⊎_elim}
use Rattle.std.proofs.Math.Bool.{true, false}
use mathlib.Core.List.{List, [], ◌∷◌, ◌++◌, map, Memᴰ}
use Rattle.std.proofs.Math.ListN.{length}
use Rattle.runs.specs.Update.{order, same}
use Rattle.runs.specs.Members.{mem_left, mem_right, mem_either}
use Rattle.plan.specs.Plan.{Task}
use Rattle.plan.specs.Chains.{task_at, conflict, Follow, Chain, chain_cost}
use Rattle.chain.specs.Longest.{Before, Dearest, Longest, following, chains_from, dearest, longest}
use Rattle.chain.specs.Ordered.{Sorted}

-- ---- the order of lists is one

pub before_not_after : (xs ys : List ℕ) → Before xs ys → ¬ Before ys xs
before_not_after [] [] l m = elim l [ ]
before_not_after (x ∷ xs) [] l m = elim l [ ]
before_not_after [] (y ∷ ys) l m = m
before_not_after (x ∷ xs) (y ∷ ys) (inl l) (inl m) = absurd (omega arith)
before_not_after (x ∷ xs) (y ∷ ys) (inl l) (inr (e, m)) = absurd (omega arith)
before_not_after (x ∷ xs) (y ∷ ys) (inr (e, l)) (inl m) = absurd (omega arith)
before_not_after (x ∷ xs) (y ∷ ys) (inr (e, l)) (inr (f, m)) = before_not_after xs ys l m

pub before_or_after : (xs ys : List ℕ) → (xs ≡ ys) ⊎ Before xs ys ⊎ Before ys xs
before_or_after [] [] = inl refl
before_or_after [] (y ∷ ys) = inr (inl tt)
before_or_after (x ∷ xs) [] = inr (inr tt)
before_or_after (x ∷ xs) (y ∷ ys) = go (same x y) (before_or_after xs ys)
  where
    go : (x ≡ y) ⊎ (x ≢ y) → (xs ≡ ys) ⊎ Before xs ys ⊎ Before ys xs
        → ((x ∷ xs) ≡ (y ∷ ys)) ⊎ Before (x ∷ xs) (y ∷ ys) ⊎ Before (y ∷ ys) (x ∷ xs)
    go (inl e) (inl f) = inl (rw (e, f) refl)
    go (inl e) (inr (inl f)) = inr (inl (inr (e, f)))
    go (inl e) (inr (inr f)) = inr (inr (inr (sym e, f)))
    go (inr n) f = ⊎_elim (λ l. inr (inl (inl l))) (λ l. inr (inr (inl (less l n)))) (order x y)
      where
        less : y ≤ x → x ≢ y → y < x
        less l n = omega arith

not_itself : (xs : List ℕ) → ¬ Before xs xs
not_itself xs l = before_not_after xs xs l l

-- there is only one that costs most and comes first
pub only_one : {ts : List Task} {Kind : List ℕ → Type 0} {xs ys : List ℕ} → Dearest ts Kind xs → Dearest ts Kind ys → xs ≡ ys
only_one {ts} {Kind} {xs} {ys} a b =
    let e : chain_cost ts xs ≡ chain_cost ts ys = omega (arith, a.most ys b.one, b.most xs a.one) in
    ⊎_elim (λ q. q) (λ q. absurd (⊎_elim (λ l. b.first xs a.one e l) (λ l. a.first ys b.one (sym e) l) q)) (before_or_after xs ys)

module _ (ts : List Task) where
  -- ---- which lists are found

  -- a chain that begins with task i or with a later one
  abbrev From : ℕ → List ℕ → Type 0
  From i [] = ⊥
  From i (x ∷ xs) = (i ≤ x) × Chain ts (x ∷ xs)

  from_chain : (i : ℕ) (xs : List ℕ) → From i xs → Chain ts xs
  from_chain i [] h = elim h [ ]
  from_chain i (x ∷ xs) (l, f) = f

  from_later : (i : ℕ) (xs : List ℕ) → From (suc i) xs → From i xs
  from_later i [] h = elim h [ ]
  from_later i (x ∷ xs) (l, f) = (omega arith, f)

  -- task i before a later chain with whose first task it conflicts
  put_before : (i : ℕ) → i < length ts → (xs : List ℕ) → From (suc i) xs → conflict (task_at ts i) (task_at ts (get_or xs 0 0)) ≡ true
      → From i (i ∷ xs)
  put_before i b [] h e = elim h [ ]
  put_before i b (x ∷ xs) (l, (c, f)) e = (omega arith, (b, (omega arith, c, e, f)))

  in_map : (i : ℕ) (xss : List (List ℕ)) (xs : List ℕ) → Memᴰ xs (map (λ ys. i ∷ ys) xss)
      → (ys : List ℕ) × Memᴰ ys xss × (xs ≡ i ∷ ys)
  in_map i [] xs h = elim h [ ]
  in_map i (ys ∷ yss) xs (Memᴰ.head e) = (ys, Memᴰ.head refl, e)
  in_map i (ys ∷ yss) xs (Memᴰ.tail k) = let (zs, m, e) = in_map i yss xs k in (zs, Memᴰ.tail m, e)

  map_in : (i : ℕ) (xss : List (List ℕ)) (xs : List ℕ) → Memᴰ xs xss → Memᴰ (i ∷ xs) (map (λ ys. i ∷ ys) xss)
  map_in i [] xs h = elim h [ ]
  map_in i (ys ∷ yss) xs (Memᴰ.head e) = Memᴰ.head (ap (λ zs. i ∷ zs) e)
  map_in i (ys ∷ yss) xs (Memᴰ.tail k) = Memᴰ.tail (map_in i yss xs k)

  module _ (i : ℕ) where
    abbrev Joins : List ℕ → Bool
    Joins xs = conflict (task_at ts i) (task_at ts (get_or xs 0 0))

    in_following : (xss : List (List ℕ)) (xs : List ℕ) → Memᴰ xs (following ts i xss) → Memᴰ xs xss × (Joins xs ≡ true)
    unfolding following
    in_following [] xs m = elim m [ ]
    in_following (ys ∷ yss) xs m = go (Joins ys) refl (in_following yss xs) m
      where
        go : (b : Bool) → Joins ys ≡ b → (Memᴰ xs (following ts i yss) → Memᴰ xs yss × (Joins xs ≡ true))
            → Memᴰ xs (cond b (ys ∷ following ts i yss) (following ts i yss)) → Memᴰ xs (ys ∷ yss) × (Joins xs ≡ true)
        go true e h (Memᴰ.head q) = (Memᴰ.head q, rw q e)
        go true e h (Memᴰ.tail k) = let (m, c) = h k in (Memᴰ.tail m, c)
        go false e h k = let (m, c) = h k in (Memᴰ.tail m, c)

    following_in : (xss : List (List ℕ)) (xs : List ℕ) → Memᴰ xs xss → Joins xs ≡ true → Memᴰ xs (following ts i xss)
    unfolding following
    following_in [] xs h e = elim h [ ]
    following_in (ys ∷ yss) xs (Memᴰ.head q) e = rw (← q, e) (Memᴰ.head refl)
    following_in (ys ∷ yss) xs (Memᴰ.tail k) e = go (Joins ys) (following_in yss xs k e)
      where
        go : (b : Bool) → Memᴰ xs (following ts i yss) → Memᴰ xs (cond b (ys ∷ following ts i yss) (following ts i yss))
        go true m = Memᴰ.tail m
        go false m = m

  -- only chains are found
  only_chains : (i n : ℕ) → i + n ≡ length ts → (xs : List ℕ) → Memᴰ xs (chains_from ts i n) → From i xs
  unfolding chains_from
  only_chains i zero e xs h = elim h [ ]
  only_chains i (suc n) e xs (Memᴰ.head q) = rw q (omega arith, (omega arith, tt))
  only_chains i (suc n) e xs (Memᴰ.tail k) =
      let later = only_chains (suc i) n (omega arith) in
      ⊎_elim
      (λ m.
      let (ys, a, q) = in_map i (following ts i (chains_from ts (suc i) n)) xs m in
      let (b, c) = in_following i (chains_from ts (suc i) n) ys a in
      rw q (put_before i (omega arith) ys (later ys b) c))
      (λ m. from_later i xs (later xs m))
      (mem_either (map (λ ys. i ∷ ys) (following ts i (chains_from ts (suc i) n))) (chains_from ts (suc i) n) k)

  -- and all of them: those that begin with task i, and later ones
  begins_with : (i : ℕ) (later : List (List ℕ)) → ((ys : List ℕ) → From (suc i) ys → Memᴰ ys later) → (xs : List ℕ) → Follow ts i xs
      → Memᴰ (i ∷ xs) ((i ∷ []) ∷ map (λ ys. i ∷ ys) (following ts i later) ++ later)
  begins_with i later h [] f = Memᴰ.head refl
  begins_with i later h (y ∷ ys) (a, c, k, g) =
      let joins = following_in i later (y ∷ ys) (h (y ∷ ys) (omega arith, (c, g))) k in
      Memᴰ.tail (mem_left (map (λ zs. i ∷ zs) (following ts i later)) later (map_in i (following ts i later) (y ∷ ys) joins))

  all_chains : (i n : ℕ) → i + n ≡ length ts → (xs : List ℕ) → From i xs → Memᴰ xs (chains_from ts i n)
  unfolding chains_from
  all_chains i zero e [] h = elim h [ ]
  all_chains i (suc n) e [] h = elim h [ ]
  all_chains i zero e (x ∷ xs) (l, (b, f)) = absurd (omega arith)
  all_chains i (suc n) e (x ∷ xs) (l, (b, f)) =
      let later = chains_from ts (suc i) n in
      let h = all_chains (suc i) n (omega arith) in
      ⊎_elim
      (λ (a : i < x). Memᴰ.tail (mem_right (map (λ ys. i ∷ ys) (following ts i later)) later (h (x ∷ xs) (omega arith, (b, f)))))
      (λ (a : x ≤ i). let q : x ≡ i = omega arith in rw q (begins_with i later h xs (rw q at f)))
      (order i x)

  -- ---- in which order

  sorted_append : (xss yss : List (List ℕ)) → Sorted ts xss → Sorted ts yss
      → ((xs ys : List ℕ) → Memᴰ xs xss → Memᴰ ys yss → Before xs ys) → Sorted ts (xss ++ yss)
  sorted_append [] yss f g h = g
  sorted_append (xs ∷ xss) yss (a, f) g h = (
    λ ys m. ⊎_elim (λ k. a ys k) (λ k. h xs ys (Memᴰ.head refl) k) (mem_either xss yss m),
    sorted_append xss yss f g (λ us vs k l. h us vs (Memᴰ.tail k) l),
  )

  sorted_map : (i : ℕ) (xss : List (List ℕ)) → Sorted ts xss → Sorted ts (map (λ ys. i ∷ ys) xss)
  sorted_map i [] f = tt
  sorted_map i (xs ∷ xss) (a, f) =
      (λ ys m. let (zs, k, e) = in_map i xss ys m in rw e (inr (refl, a zs k)), sorted_map i xss f)

  sorted_following : (i : ℕ) (xss : List (List ℕ)) → Sorted ts xss → Sorted ts (following ts i xss)
  unfolding following
  sorted_following i [] f = tt
  sorted_following i (xs ∷ xss) (a, f) = go (Joins i xs) (sorted_following i xss f)
    where
      go : (b : Bool) → Sorted ts (following ts i xss) → Sorted ts (cond b (xs ∷ following ts i xss) (following ts i xss))
      go true g = (λ ys m. a ys (in_following i xss ys m).0, g)
      go false g = g

  -- what begins with task i comes before what begins later
  begins_before : (i : ℕ) (xs ys : List ℕ) → From (suc i) ys → Before (i ∷ xs) ys
  begins_before i xs [] h = elim h [ ]
  begins_before i xs (y ∷ ys) (l, f) = inl (omega arith)

  -- they are found in their order
  in_sequence : (i n : ℕ) → i + n ≡ length ts → Sorted ts (chains_from ts i n)
  unfolding chains_from
  in_sequence i zero e = tt
  in_sequence i (suc n) e =
      let later = chains_from ts (suc i) n in
      let with = map (λ ys. i ∷ ys) (following ts i later) in
      let f = in_sequence (suc i) n (omega arith) in
      let from = only_chains (suc i) n (omega arith) in (
        λ ys m.
            ⊎_elim (λ k. alone ys (in_map i (following ts i later) ys k)) (λ k. begins_before i [] ys (from ys k))
            (mem_either with later m),
        sorted_append with later (sorted_map i (following ts i later) (sorted_following i later f)) f
            (λ xs ys k l. let (zs, m, q) = in_map i (following ts i later) xs k in rw q (begins_before i zs ys (from ys l))),
      )
    where
      alone : (ys : List ℕ) → (zs : List ℕ) × Memᴰ zs (following ts i (chains_from ts (suc i) n)) × (ys ≡ i ∷ zs) → Before (i ∷ []) ys
      alone ys (zs, m, q) =
          rw q (inr (refl, some zs (only_chains (suc i) n (omega arith) zs (in_following i (chains_from ts (suc i) n) zs m).0)))
        where
          some : (zs : List ℕ) → From (suc i) zs → Before [] zs
          some [] f = elim f [ ]
          some (z ∷ zs) f = tt

  -- ---- the first of those that cost most

  -- by whether a later one costs more
  dearest_by : (Goal : List ℕ → Type 0) (xs : List ℕ) (xss : List (List ℕ))
      → (chain_cost ts xs < chain_cost ts (dearest ts xss) → Goal (dearest ts xss))
      → (chain_cost ts (dearest ts xss) ≤ chain_cost ts xs → Goal xs) → Goal (dearest ts (xs ∷ xss))
  unfolding dearest
  dearest_by Goal xs xss f g =
      ⊎_elim (λ l. rw (lt-ltb (chain_cost ts xs) (chain_cost ts (dearest ts xss)) l) (f l))
      (λ l. rw (le-ltb (chain_cost ts xs) (chain_cost ts (dearest ts xss)) l) (g l))
      (order (chain_cost ts xs) (chain_cost ts (dearest ts xss)))

  -- one of them
  found : (xss : List (List ℕ)) → 0 < length xss → Memᴰ (dearest ts xss) xss
  unfolding dearest chain_cost
  found [] l = absurd (omega arith)
  found (xs ∷ []) l =
      dearest_by (λ d. Memᴰ d (xs ∷ [])) xs [] (λ k. absurd (omega arith)) (λ k. Memᴰ.head refl)
  found (xs ∷ ys ∷ yss) l =
      dearest_by (λ d. Memᴰ d (xs ∷ ys ∷ yss)) xs (ys ∷ yss) (λ k. Memᴰ.tail (found (ys ∷ yss) (omega arith)))
      (λ k. Memᴰ.head refl)

  none_dearer : (xss : List (List ℕ)) (ys : List ℕ) → Memᴰ ys xss → chain_cost ts ys ≤ chain_cost ts (dearest ts xss)
  none_dearer [] ys h = elim h [ ]
  none_dearer (xs ∷ xss) ys (Memᴰ.head e) =
      dearest_by (λ d. chain_cost ts ys ≤ chain_cost ts d) xs xss (λ k. rw e (omega arith)) (λ k. rw e (omega arith))
  none_dearer (xs ∷ xss) ys (Memᴰ.tail m) =
      let h = none_dearer xss ys m in
      dearest_by (λ d. chain_cost ts ys ≤ chain_cost ts d) xs xss (λ k. h) (λ k. omega arith)

  none_before : (xss : List (List ℕ)) → Sorted ts xss → (ys : List ℕ) → Memᴰ ys xss
      → chain_cost ts ys ≡ chain_cost ts (dearest ts xss) → ¬ Before ys (dearest ts xss)
  none_before [] _ ys h = elim h [ ]
  none_before (xs ∷ xss) (a, f) ys (Memᴰ.head e) =
      dearest_by (λ d. chain_cost ts ys ≡ chain_cost ts d → ¬ Before ys d) xs xss
      (λ k q. absurd (omega (arith, ap (chain_cost ts) e))) (λ k q. rw e (not_itself xs))
  none_before (xs ∷ xss) (a, f) ys (Memᴰ.tail m) =
      let h = none_before xss f ys m in
      dearest_by (λ d. chain_cost ts ys ≡ chain_cost ts d → ¬ Before ys d) xs xss (λ k. h) (λ k q. before_not_after xs ys (a ys m))

  -- ---- the theorem

  abbrev every_chain : List (List ℕ)
  every_chain = chains_from ts 0 (length ts)

  all_of_them : 0 + length ts ≡ length ts
  all_of_them = omega arith

  -- the list that is chosen from has every chain and nothing else, and they stand there in their order
  pub listed : (xs : List ℕ) → Memᴰ xs (chains_from ts 0 (length ts)) ↔ Chain ts xs
  listed xs = (
    λ m. from_chain 0 xs (only_chains 0 (length ts) all_of_them xs m),
    λ c. all_chains 0 (length ts) all_of_them xs (from_start xs c),
  )
    where
      from_start : (xs : List ℕ) → Chain ts xs → From 0 xs
      from_start [] c = elim c [ ]
      from_start (x ∷ xs) c = (omega arith, c)

  pub in_order : Sorted ts (chains_from ts 0 (length ts))
  in_order = in_sequence 0 (length ts) all_of_them

  pub longest_chain_lem : 0 < length ts → Longest ts (longest ts)
  unfolding longest
  longest_chain_lem l =
      let known : (xs : List ℕ) → Chain ts xs → Memᴰ xs every_chain = λ xs. (listed xs).1 in
      record {
        one = (listed (longest ts)).0 (found every_chain (some (known (0 ∷ []) (l, tt))));
        most = λ ys c. none_dearer every_chain ys (known ys c);
        first = λ ys c. none_before every_chain in_order ys (known ys c);
      }
    where
      some : {xss : List (List ℕ)} → Memᴰ (0 ∷ []) xss → 0 < length xss
      some (Memᴰ.head e) = omega arith
      some (Memᴰ.tail m) = omega arith

  -- whatever is the longest chain is this one
  pub longest_only : (xs : List ℕ) → Longest ts xs → xs ≡ longest ts
  longest_only xs h = only_one h (longest_chain_lem (some xs h.one))
    where
      some : (xs : List ℕ) → Chain ts xs → 0 < length ts
      some [] h = elim h [ ]
      some (x ∷ xs) (l, f) = omega arith

  -- of a plan without tasks none
  pub longest_none : length ts ≡ 0 → longest ts ≡ []
  unfolding longest chains_from dearest
  longest_none e = rw e refl

  pub longest_or_none : Longest ts (longest ts) ⊎ (longest ts ≡ [])
  longest_or_none = ⊎_elim (λ l. inl (longest_chain_lem l)) (λ l. inr (longest_none (omega arith))) (order 0 (length ts))
