-- The longest chain of a kind, found by trying first tasks in order: the first of those that cost most stays. Assumes nothing.
use Rattle.std.specs.Prelude.{ℕ, suc, ◌+◌, ◌≤◌, ◌<◌, ◌≡◌, refl, true, List, [], ◌∷◌, length, get_or, set}
use Rattle.std.proofs.Common.{sym, ap, ◌∙◌, inl, inr, ⊎_elim, arith}
use lib.Seq.{get_or-set_same, get_or-set_other}
use Rattle.runs.specs.Update.{order}
use Rattle.plan.specs.Plan.{Task}
use Rattle.plan.specs.Chains.{task_at, conflict, Follow, Chain, chain_cost}
use Rattle.chain.specs.Longest.{Before}
use Rattle.chain.proofs.Ordered.{longest_only, longest_none}
use Rattle.chain.specs.declared.link.Link.{Link}
use Rattle.chain.specs.Links.{no_link, sum_of, next_of, Leads, Found, KnownAt, Known, Starts, Rising}

-- of two kinds that are the same the same chain is found
found_alike : {ts : List Task} {links : List Link} {K L : List ℕ → Type 0} {cost next : ℕ}
    → ((xs : List ℕ) → K xs → L xs) → ((xs : List ℕ) → L xs → K xs) → Found ts links K cost next → Found ts links L cost next
found_alike to from f =
    record {
      whole = f.whole;
      leads = f.leads;
      dearest =
          record {
            one = to f.whole f.dearest.one;
            most = λ ys l. f.dearest.most ys (from ys l);
            first = λ ys l. f.dearest.first ys (from ys l);
          };
      sum = f.sum;
    }

-- what is found, as the code has it
pub found_link : {ts : List Task} {links : List Link} {Kind : List ℕ → Type 0} {cost next : ℕ} (link : Link)
    → link ≡ record { sum = cost; next = next } → Found ts links Kind cost next → Found ts links Kind link.sum link.next
found_link link e f = rw e f

module _ (ts : List Task) where
  -- a chain whose first task is below j and passes a test; or none, where that may be
  abbrev pub Upto : (ℕ → Type 0) → Type 0 → ℕ → List ℕ → Type 0
  Upto Ok None j [] = None
  Upto Ok None j (k ∷ ks) = (k < j) × Ok k × Follow ts k ks

  module _ (Ok : ℕ → Type 0) (None : Type 0) {links : List Link} {j : ℕ} (low : j < length ts) (known : KnownAt ts links j) where
    abbrev later : Found ts links (Follow ts j) known.rest (next_of links j)
    later = known.after

    -- what begins with task j costs more than all that begins with an earlier one
    pub found_first : ((ys : List ℕ) → Upto Ok None j ys → chain_cost ts ys < sum_of links j) → Ok j
        → Found ts links (Upto Ok None (suc j)) (sum_of links j) j
    unfolding chain_cost
    found_first less ok =
        record {
          whole = j ∷ later.whole;
          leads = (refl, low, later.leads);
          dearest = record { one = (omega arith, ok, later.dearest.one); most = most; first = first };
          sum = known.sum ∙ ap (λ (n : ℕ). (task_at ts j).cost + n) later.sum;
        }
      where
        most : (ys : List ℕ) → Upto Ok None (suc j) ys → chain_cost ts ys ≤ chain_cost ts (j ∷ later.whole)
        most [] n = omega arith
        most (k ∷ ks) (l, o, h) =
            ⊎_elim
            (λ (b : k < j). omega (arith, less (k ∷ ks) (b, o, h), known.sum, later.sum))
            (λ (b : j ≤ k). let e : k ≡ j = omega arith in rw e (omega (arith, later.dearest.most ks (rw e at h))))
            (order k j)

        first : (ys : List ℕ) → Upto Ok None (suc j) ys → chain_cost ts ys ≡ chain_cost ts (j ∷ later.whole)
            → ¬ Before ys (j ∷ later.whole)
        first [] n e b = omega (arith, less [] n, known.sum, later.sum)
        first (k ∷ ks) (l, o, h) e (inl b) = omega (arith, less (k ∷ ks) (b, o, h), known.sum, later.sum)
        first (k ∷ ks) (l, o, h) e (inr (q, b)) = later.dearest.first ks (rw q at h) (omega (arith, rw q at e)) b

    module _ {cost next : ℕ} (f : Found ts links (Upto Ok None j) cost next) where
      -- task j costs more than what is found
      pub found_more : Ok j → cost < sum_of links j → Found ts links (Upto Ok None (suc j)) (sum_of links j) j
      found_more ok more = found_first (λ ys u. omega (arith, f.dearest.most ys u, f.sum)) ok

      -- or it may not come next, or costs no more
      pub found_same : (Ok j → sum_of links j ≤ cost) → Found ts links (Upto Ok None (suc j)) cost next
      unfolding chain_cost
      found_same no_more =
          record {
            whole = f.whole;
            leads = f.leads;
            dearest = record { one = still f.whole f.dearest.one; most = most; first = first };
            sum = f.sum;
          }
        where
          still : (xs : List ℕ) → Upto Ok None j xs → Upto Ok None (suc j) xs
          still [] n = n
          still (k ∷ ks) (l, o, h) = (omega arith, o, h)

          most : (ys : List ℕ) → Upto Ok None (suc j) ys → chain_cost ts ys ≤ chain_cost ts f.whole
          most [] n = omega arith
          most (k ∷ ks) (l, o, h) =
              ⊎_elim
              (λ (b : k < j). f.dearest.most (k ∷ ks) (b, o, h))
              (λ (b : j ≤ k).
              let e : k ≡ j = omega arith in
              rw e (omega (arith, later.dearest.most ks (rw e at h), no_more (rw e at o), f.sum, known.sum, later.sum)))
              (order k j)

          -- what begins with task j comes after what begins with an earlier one, and after none
          behind : (xs ks : List ℕ) → Upto Ok None j xs → ¬ Before (j ∷ ks) xs
          behind [] ks u b = b
          behind (x ∷ xs) ks (l, o, h) (inl b) = omega arith
          behind (x ∷ xs) ks (l, o, h) (inr (e, b)) = omega arith

          first : (ys : List ℕ) → Upto Ok None (suc j) ys → chain_cost ts ys ≡ chain_cost ts f.whole → ¬ Before ys f.whole
          first [] n e = f.dearest.first [] n e
          first (k ∷ ks) (l, o, h) e =
              ⊎_elim
              (λ (b : k < j). f.dearest.first (k ∷ ks) (b, o, h) e)
              (λ (b : j ≤ k). let q : k ≡ j = omega arith in rw q (behind f.whole ks f.dearest.one))
              (order k j)

  -- ---- what may come after task i

  -- task k may be the first of them
  abbrev pub Joins : ℕ → ℕ → Type 0
  Joins i k = (i < k) × (k < length ts) × (conflict (task_at ts i) (task_at ts k) ≡ true)

  module _ (links : List Link) (i : ℕ) where
    -- nothing, as long as no later task is tried
    pub next_none : Found ts links (Upto (Joins i) (Unit {0}) (suc i)) 0 (length ts)
    unfolding chain_cost
    next_none = record { whole = []; leads = refl; dearest = record { one = tt; most = most; first = λ ys u e b. b }; sum = refl }
      where
        most : (ys : List ℕ) → Upto (Joins i) (Unit {0}) (suc i) ys → chain_cost ts ys ≤ 0
        most [] n = omega arith
        most (k ∷ ks) (l, (a, b, e), h) = absurd (omega arith)

    -- all later tasks are tried
    pub next_all : {cost next j : ℕ} → length ts ≤ j → Found ts links (Upto (Joins i) (Unit {0}) j) cost next
        → Found ts links (Follow ts i) cost next
    next_all {j = j} all = found_alike to from
      where
        to : (xs : List ℕ) → Upto (Joins i) (Unit {0}) j xs → Follow ts i xs
        to [] n = tt
        to (k ∷ ks) (l, (a, b, e), h) = (a, b, e, h)

        from : (xs : List ℕ) → Follow ts i xs → Upto (Joins i) (Unit {0}) j xs
        from [] n = tt
        from (k ∷ ks) (a, b, e, h) = (omega arith, (a, b, e), h)

  -- ---- all chains

  abbrev pub There : ℕ → Type 0
  There k = k < length ts

  module _ {links : List Link} where
    -- those that begin with task 0: none begins with an earlier one
    pub first_none : 0 < length ts → KnownAt ts links 0 → Found ts links (Upto There ⊥ 1) (sum_of links 0) 0
    first_none low known = found_first There ⊥ low known none low
      where
        none : (ys : List ℕ) → Upto There ⊥ 0 ys → chain_cost ts ys < sum_of links 0
        none [] h = elim h [ ]
        none (k ∷ ks) (l, o, h) = absurd (omega arith)

  module _ {links : List Link} where
    pub first_all : {cost next j : ℕ} → length ts ≤ j → Found ts links (Upto There ⊥ j) cost next
        → Starts ts links (record { sum = cost; next = next })
    first_all {cost} {next} {j} all f =
        let chain = found_alike {L = Chain ts} to from f in
        let same = longest_only ts chain.whole chain.dearest in
        record { leads = rw (← same) chain.leads; sum = rw (← same) chain.sum }
      where
        to : (xs : List ℕ) → Upto There ⊥ j xs → Chain ts xs
        to [] h = elim h [ ]
        to (k ∷ ks) (l, o, h) = (o, h)

        from : (xs : List ℕ) → Chain ts xs → Upto There ⊥ j xs
        from [] h = elim h [ ]
        from (k ∷ ks) (o, h) = (omega arith, o, h)

    -- there is no task
    pub first_nothing : length ts ≡ 0 → Starts ts links (record { sum = 0; next = 0 })
    unfolding chain_cost
    first_nothing z = record { leads = rw (longest_none ts z) (sym z); sum = rw (longest_none ts z) refl }

  -- ---- one task more is known

  next_other : (links : List Link) (i j : ℕ) (v : Link) → i < j → next_of (set links i v) j ≡ next_of links j
  next_other links i j v l = ap (λ (x : Link). x.next) (get_or-set_other links i j v no_link (λ q. absurd (omega arith)))

  -- where a link is set that no later task's links lead to
  leads_set : (links : List Link) (n i : ℕ) (v : Link) (j at : ℕ) (xs : List ℕ) → i ≤ j → Follow ts j xs → Leads links n at xs
      → Leads (set links i v) n at xs
  leads_set links n i v j at [] l f h = h
  leads_set links n i v j at (x ∷ xs) l (a, b, c, f) (e, k, h) =
      (e, k, rw (next_other links i x v (omega arith)) (leads_set links n i v x (next_of links x) xs (omega arith) f h))

  found_set : {links : List Link} {i j cost next : ℕ} (v : Link) → i ≤ j → Found ts links (Follow ts j) cost next
      → Found ts (set links i v) (Follow ts j) cost next
  found_set {links} {i} {j} {next = next} v l f =
      record {
        whole = f.whole;
        leads = leads_set links (length ts) i v j next f.whole l f.dearest.one f.leads;
        dearest = f.dearest;
        sum = f.sum;
      }

  pub known_more : (links : List Link) (i cost next : ℕ) → i < length links → Known ts links (suc i) → Found ts links (Follow ts i) cost next
      → Known ts (set links i (record { sum = (task_at ts i).cost + cost; next = next })) i
  known_more links i cost next a known f j l low =
      ⊎_elim
      (λ (k : i < j).
      let at = known j (omega arith) low in
      record {
        rest = at.rest;
        after = rw (next_other links i j link k) (found_set link (omega arith) at.after);
        sum = ap (λ (x : Link). x.sum) (get_or-set_other links i j link no_link (λ q. absurd (omega arith))) ∙ at.sum;
      })
      (λ (k : j ≤ i).
      let q : j ≡ i = omega arith in
      rw q
      record {
        rest = cost;
        after = rw (ap (λ (x : Link). x.next) here) (found_set link (omega arith) f);
        sum = ap (λ (x : Link). x.sum) here;
      })
      (order i j)
    where
      link : Link
      link = record { sum = (task_at ts i).cost + cost; next = next }

      here : get_or (set links i link) i no_link ≡ link
      here = get_or-set_same links i link no_link a

  -- every next task is a later one
  pub known_rising : (links : List Link) → length links ≡ length ts → Known ts links 0 → Rising links
  known_rising links e known i l =
      let found = (known i (omega arith) (omega arith)).after in go found.whole found.leads found.dearest.one
    where
      go : (xs : List ℕ) → Leads links (length ts) (next_of links i) xs → Follow ts i xs → i < next_of links i
      go [] q f = omega arith
      go (x ∷ xs) (q, k, h) (a, b, c, f) = omega arith
