-- The ready list, by its two operations: tasks arrive, and the first that a worker may run is chosen. What is said of them here is all that
-- anybody uses of the order in the list.
use Rattle.std.specs.Prelude.{ℕ, zero, suc, ◌+◌, ◌<◌, ◌≡◌, refl, ◌≢◌, Bool, true, false, List, [], ◌∷◌, ◌++◌, length, take, drop, get_or}
use Rattle.std.proofs.Common.{arith, sym, ap, ◌∙◌, ⊎_elim, append-nil, length-append}
use Rattle.runs.specs.Update.{same, clash}
use Rattle.runs.specs.Counts.{is, is_same, is_other, count, count_nil, count_cons, count_append}
use Rattle.machine.specs.Ready.{arrive, chosen, nothing, Choice, past, choose, Chosen}

-- ---- nothing is lost, and nothing comes twice

pub arrive_count : (i : ℕ) (ready tasks : List ℕ) → count i (arrive ready tasks) ≡ count i ready + count i tasks
unfolding arrive
arrive_count i ready tasks = count_append i ready tasks

pub arrive_length : (ready tasks : List ℕ) → length (arrive ready tasks) ≡ length ready + length tasks
unfolding arrive
arrive_length ready tasks = length-append ready tasks

pub arrive_none : (ready : List ℕ) → arrive ready [] ≡ ready
unfolding arrive
arrive_none ready = append-nil ready

chosen_count_at : (may : ℕ → Bool) (ready : List ℕ) (i : ℕ) (others : List ℕ) → choose may ready ≡ chosen i others
    → (may i ≡ true) × ((j : ℕ) → count j ready ≡ is i j + count j others)
unfolding choose
chosen_count_at may [] i others e = clash (cc)
chosen_count_at may (x ∷ xs) i others e = go (may x) refl e (choose may xs) refl (chosen_count_at may xs)
  where
    Counted : List ℕ → ℕ → List ℕ → Type 0
    Counted ys k ks = (may k ≡ true) × ((j : ℕ) → count j ys ≡ is k j + count j ks)

    go : (b : Bool) → may x ≡ b → elim b [ true ↦ chosen x xs | false ↦ past x (choose may xs) ] ≡ chosen i others
        → (o : Choice) → choose may xs ≡ o → ((k : ℕ) (ks : List ℕ) → choose may xs ≡ chosen k ks → Counted xs k ks)
        → Counted (x ∷ xs) i others
    go true z q o f later =
        let a : x ≡ i = cc in
        let b : xs ≡ others = cc in
        (ap may (sym a) ∙ z, λ j. count_cons j x xs ∙ rw (a, b) refl)
    go false z q nothing f later = let y : past x (choose may xs) ≡ nothing = rw f refl in clash (cc)
    go false z q (chosen k ks) f later =
        let y : past x (choose may xs) ≡ chosen k (x ∷ ks) = rw f refl in
        let a : k ≡ i = cc in
        let b : x ∷ ks ≡ others = cc in
        let (m, h) = later k ks f in
        (ap may (sym a) ∙ m, λ j. omega (arith, count_cons j x xs, h j, count_cons j x ks, ap (count j) b, ap (λ (n : ℕ). is n j) a))

module _ {may : ℕ → Bool} {ready : List ℕ} {i : ℕ} {others : List ℕ} (h : Chosen may ready i others) where
  -- who is chosen passes the test
  pub chosen_may : may i ≡ true
  chosen_may = (chosen_count_at may ready i others h.found).0

  pub chosen_count : (j : ℕ) → count j ready ≡ is i j + count j others
  chosen_count = (chosen_count_at may ready i others h.found).1

  -- it was in the list
  pub chosen_listed : 0 < count i ready
  chosen_listed = omega (arith, chosen_count i, is_same i i refl)

-- where nothing is chosen no task of the list passes
pub none_chosen : (may : ℕ → Bool) (ready : List ℕ) → choose may ready ≡ nothing → (i : ℕ) → 0 < count i ready → may i ≡ false
unfolding choose
none_chosen may [] e i l = absurd (omega (arith, count_nil i))
none_chosen may (x ∷ xs) e i l = go (may x) refl e (choose may xs) refl (none_chosen may xs)
  where
    go : (b : Bool) → may x ≡ b → elim b [ true ↦ chosen x xs | false ↦ past x (choose may xs) ] ≡ nothing → (o : Choice) → choose may xs ≡ o
        → (choose may xs ≡ nothing → (i : ℕ) → 0 < count i xs → may i ≡ false) → may i ≡ false
    go true z q o f k = clash (cc)
    go false z q nothing f k =
        ⊎_elim (λ (u : x ≡ i). ap may (sym u) ∙ z) (λ (u : x ≢ i). k f i (omega (arith, count_cons i x xs, is_other x i u))) (same x i)
    go false z q (chosen j js) f k = let y : past x (choose may xs) ≡ chosen j (x ∷ js) = rw f refl in clash (cc)

-- ---- where the choice falls

pub choose_first : (may : ℕ → Bool) (x : ℕ) (xs : List ℕ) → may x ≡ true → choose may (x ∷ xs) ≡ chosen x xs
unfolding choose
choose_first may x xs e = rw (choose, e)

choose_past : (may : ℕ → Bool) (x : ℕ) (xs : List ℕ) → may x ≡ false → choose may (x ∷ xs) ≡ past x (choose may xs)
unfolding choose
choose_past may x xs e = rw (choose, e)

-- the first place at which the test holds: those before it and those behind it stay in their order
pub choose_at : (may : ℕ → Bool) (xs : List ℕ) (k : ℕ) → k < length xs → ((j : ℕ) → j < k → may (get_or xs j 0) ≡ false)
    → may (get_or xs k 0) ≡ true → choose may xs ≡ chosen (get_or xs k 0) (take k xs ++ drop (suc k) xs)
choose_at may [] k l f e = absurd (omega arith)
choose_at may (x ∷ xs) zero l f e = choose_first may x xs e
choose_at may (x ∷ xs) (suc k) l f e =
    choose_past may x xs (f 0 (omega arith))
    ∙ ap (past x) (choose_at may xs k (omega arith) (λ j b. f (suc j) (omega arith)) e)

-- it holds nowhere
pub choose_nowhere : (may : ℕ → Bool) (xs : List ℕ) → ((j : ℕ) → j < length xs → may (get_or xs j 0) ≡ false) → choose may xs ≡ nothing
unfolding choose
choose_nowhere may [] f = refl
choose_nowhere may (x ∷ xs) f =
    choose_past may x xs (f 0 (omega arith)) ∙ ap (past x) (choose_nowhere may xs (λ j b. f (suc j) (omega arith)))
