-- The accesses of a task's line, one after the other: what is counted, kept and noticed of them, and how the line is judged.
use Rattle.std.specs.Prelude.{Result, Ok, Err, ℕ, suc, ◌+◌, ◌-◌, ◌^◌, ◌≤◌, ◌<◌, ◌≡◌, refl, Bool, true, false, cond, not, ◌&&◌, ◌||◌, List, [], ◌∷◌, ◌++◌, map, length, set, replicate, take, eqb, leb, ltb}
use Rattle.std.specs.List.{list_any}
use Rattle.std.proofs.Common.{sym, ap, ap₂, ◌∙◌, arith, length-append}
use Rattle.std.proofs.Math.Option.{none, some}
use Rattle.std.proofs.Math.Seq.{take-append_seam}
use Rattle.std.proofs.lemmas.List.{length-map}
use borrow.Author.Tests.{le-ltb, le-leb, lt-leb, leb-true, leb-false, ltb-true, ltb-false, not-true}
use Rattle.refusals.specs.declared.Refusal.{Refusal}
use Rattle.refusals.specs.declared.Refusal.TheVariants.{OutOfRange, Misplaced, TooMany, AddressTwice}
use Rattle.runs.specs.Every.{every, every_append}
use Rattle.runs.specs.Tests.{ways, both_left, both_right, or_right}
use Rattle.text.specs.Fields.{clipped}
use Rattle.plan.specs.Plan.{Plan}
use Rattle.plan.specs.declared.access.Access.{Access}
use Rattle.plan.specs.Line.{ask, repeats, at_start, has_orders, task_line}
use Rattle.plan.specs.PassFields.{held_access}
use Rattle.plan.specs.Reading.{first_refusal}
use Rattle.plan.proofs.Accepted.{granted}
use Rattle.kept.specs.declared.tasks.Row.{Row}
use Rattle.kept.specs.Tasks.{Placed, no_access, spread, row_of}
use Rattle.lines.specs.declared.accesses.Accesses.{Accesses}
use Rattle.lines.specs.declared.line.Kind.TheVariants as kinds
use Rattle.lines.specs.Lines.{judged_by, judges, task_of, judges_head, bare}
use Rattle.lines.specs.Accesses.{counted, low_addresses, touches, with_accesses, Reads}
use Rattle.lines.specs.Judging.{judged_after}
use Rattle.lines.proofs.Judged.{above_below, low_clipped}

-- ---- the row

-- the first of its accesses are the task's
pub spread_first : (xs : List Access) → take (length xs) (spread xs) ≡ xs
spread_first xs = take-append_seam xs (replicate (4 - length xs) no_access)

-- one of them is to the address
pub any_touches : (address : ℕ) (xs : List Access) → list_any (λ a. eqb a.address address) xs ≡ touches xs address
unfolding every
any_touches address [] = refl
any_touches address (x ∷ xs) =
    ap (λ (b : Bool). eqb x.address address || b) (any_touches address xs) ∙ by (eqb x.address address) (every (λ a. not (eqb a.address address)) xs)
  where
    by : (b c : Bool) → (b || not c) ≡ not (not b && c)
    by true c = refl
    by false c = refl

spread_more : (xs : List Access) (a : Access) (m : ℕ)
    → set (xs ++ replicate (suc m) no_access) (length xs) a ≡ (xs ++ a ∷ []) ++ replicate m no_access
spread_more [] a m = refl
spread_more (x ∷ xs) a m = ap (λ (l : List Access). x ∷ l) (spread_more xs a m)

-- a row with one access more after the first n
abbrev pub one_more : Row → ℕ → Access → Row
one_more row n a =
    record { place = row.place; size = row.size; cost = row.cost; mask = row.mask; count = n + 1; accesses = set row.accesses n a }

row_more : (t : Placed) (xs : List Access) (a : Access) → length xs < 4
    → one_more (row_of (with_accesses t xs)) (length xs) a ≡ row_of (with_accesses t (xs ++ a ∷ []))
row_more t xs a h =
    let n = length-append xs (a ∷ []) in
    let before : 4 - length xs ≡ suc (3 - length xs) = omega arith in
    let after : 4 - length (xs ++ a ∷ []) ≡ 3 - length xs = omega arith in
    rw (before, after, n, spread_more xs a (3 - length xs)) refl

-- ---- what is noticed

again_by : (e q r f : Bool) → (not (e && (not q && true)) || (r || not f)) ≡ ((not e || r) || not (not q && f))
again_by true true true f = refl
again_by true true false f = refl
again_by true false r f = refl
again_by false q r f = refl

repeats_more : (xs : List Access) (a : Access) → repeats (xs ++ a ∷ []) ≡ (repeats xs || touches xs a.address)
unfolding repeats every
repeats_more [] a = refl
repeats_more (b ∷ xs) a =
    rw (every_append (λ (c : Access). not (eqb b.address c.address)) xs (a ∷ []), repeats_more xs a)
    (again_by (every (λ (c : Access). not (eqb b.address c.address)) xs) (eqb b.address a.address) (repeats xs)
    (every (λ c. not (eqb c.address a.address)) xs))

out_more : (xs : List Access) (a : Access) → (not (low_addresses xs) || ltb 65535 a.address) ≡ not (low_addresses (xs ++ a ∷ []))
unfolding every
out_more xs a =
    rw (every_append (λ (b : Access). leb b.address 65535) xs (a ∷ []), above_below 65535 a.address)
    (go (low_addresses xs) (leb a.address 65535))
  where
    go : (a b : Bool) → (not a || not b) ≡ not (a && (b && true))
    go true true = refl
    go true false = refl
    go false b = refl

-- ---- one access more is read

module _ {t : Placed} {xs : List Access} {a : Accesses} {row : Row} (so : Reads t xs a row) (access : Access) where
  abbrev more : List Access
  more = xs ++ access ∷ []

  more_length : length more ≡ length xs + 1
  more_length = length-append xs (access ∷ [])

  more_out : {out : Bool} → out ≡ (a.out || ltb 65535 access.address) → out ≡ not (low_addresses more)
  more_out e = e ∙ ap (λ (x : Bool). x || ltb 65535 access.address) so.out ∙ out_more xs access

  -- four are there already
  pub reads_fifth : 4 ≤ a.count → {out : Bool} → out ≡ (a.out || ltb 65535 access.address)
      → Reads t more (record { count = 5; out = out; again = a.again }) row
  reads_fifth h {out} e =
      let many : 4 ≤ length xs = ways (leb (length xs) 4)
      (λ l. let q : counted (length xs) ≡ length xs = simp l in omega (arith, so.count)) (λ l. omega (arith, leb-false (length xs) 4 l)) in
      let five = lt-leb (length more) 4 (omega (arith, more_length)) in
      record {
        count = simp five;
        out = more_out e;
        again = λ l. absurd (omega (arith, more_length));
        kept = λ l. absurd (omega (arith, more_length));
      }

  module _ (h : a.count < 4) where
    few : length xs < 4
    few =
        ways (leb (length xs) 4)
        (λ l. let q : counted (length xs) ≡ length xs = simp l in omega (arith, so.count))
        (λ l. let q : counted (length xs) ≡ 5 = simp l in absurd (omega (arith, so.count)))

    -- they are all counted, and in the row
    pub reads_count : length xs ≡ a.count
    reads_count = let q : counted (length xs) ≡ length xs = simp (le-leb (length xs) 4 (omega (arith, few))) in sym (so.count ∙ q)

    pub reads_row : row ≡ row_of (with_accesses t xs)
    reads_row = so.kept (omega (arith, few))

    pub reads_more : {out again : Bool} → out ≡ (a.out || ltb 65535 access.address) → again ≡ (a.again || touches xs access.address)
        → Reads t more (record { count = a.count + 1; out = out; again = again }) (one_more row a.count access)
    reads_more e f =
        let four = le-leb (length more) 4 (omega (arith, more_length, few)) in
        record {
          count = simp four (omega (arith, reads_count, more_length));
          out = more_out e;
          again =
              λ k. f ∙ ap (λ (x : Bool). x || touches xs access.address) (so.again (omega (arith, few)))
              ∙ sym (repeats_more xs access);
          kept = λ k. rw (← reads_count, reads_row) (row_more t xs access few);
        }

-- ---- addresses of any size, as 64 bits hold them

clip_low : (v : ℕ) → leb (clipped v) 65535 ≡ leb v 65535
clip_low v =
    ways (ltb v (2 ^ 64)) (λ e. simp e) (λ e.
    let w = ltb-false v (2 ^ 64) e in
    let q : leb v 65535 ≡ false = lt-leb v 65535 (omega arith) in
    simp (e, q))

-- accesses as the code sees them
abbrev pub seen : List Access → List Access
seen xs = map held_access xs

seen_low : (xs : List Access) → low_addresses (seen xs) ≡ low_addresses xs
unfolding every
seen_low [] = refl
seen_low (a ∷ xs) = ap₂ (λ (b c : Bool). b && c) (clip_low a.address) (seen_low xs)

seen_same : (xs : List Access) → low_addresses xs ≡ true → seen xs ≡ xs
unfolding every
seen_same [] e = refl
seen_same (a ∷ xs) e =
    let low = leb-true a.address 65535 (both_left (leb a.address 65535) (low_addresses xs) e) in
    let q : clipped a.address ≡ a.address = low_clipped a.address (omega arith) in
    rw (q, seen_same xs (both_right (leb a.address 65535) (low_addresses xs) e))

seen_length : (xs : List Access) → length (seen xs) ≡ length xs
seen_length xs = length-map xs held_access

-- ---- how the line is judged

judged_lem : (m c l q r s : Bool) (a : Accesses) (n : ℕ) → a.out ≡ not l → leb 128 n ≡ not q → ltb 4 a.count ≡ not r
    → (l ≡ true → r ≡ true → a.again ≡ s)
    → judged_after (judged_by (first_refusal (ask m Misplaced ∷ ask c OutOfRange ∷ []))) kinds.Task a n
    ≡ judged_by (first_refusal (ask m Misplaced ∷ ask (c && l) OutOfRange ∷ ask (q && r) TooMany ∷ ask (not s) AddressTwice ∷ []))
unfolding first_refusal
judged_lem false c l q r s a n out tasks count again = refl
judged_lem true false l q r s a n out tasks count again = refl
judged_lem true true false q r s a n out tasks count again = simp out
judged_lem true true true false r s a n out tasks count again = simp (out, tasks)
judged_lem true true true true false s a n out tasks count again = simp (out, tasks, count)
judged_lem true true true true true s a n out tasks count again = simp (out, tasks, count, again refl refl) (last s)
  where
    last : (s : Bool) → cond {A = Result (Unit {0}) Refusal} s (Err AddressTwice) (Ok tt) ≡ judged_by (cond (not s) none (some AddressTwice))
    last true = refl
    last false = refl

module _ (p : Plan) (label : List ℕ) (cost : ℕ) (xs : List Access) {t : Placed} {a : Accesses} {row : Row}
    (so : Reads t (seen xs) a row) where
  pub task_judged_lem : judged_after (judges_head p cost) kinds.Task a (length p.tasks) ≡ judges (task_line p (task_of label cost xs))
  task_judged_lem =
      judged_lem (not (at_start p || has_orders p)) (leb cost 1000) (low_addresses xs) (ltb (length p.tasks) 128) (leb (length xs) 4)
      (repeats xs) a (length p.tasks) (so.out ∙ ap not (seen_low xs)) (not_below (length p.tasks)) many
      (λ l r. so.again (omega (arith, seen_length xs, leb-true (length xs) 4 r)) ∙ ap repeats (seen_same xs l))
    where
      not_below : (n : ℕ) → leb 128 n ≡ not (ltb n 128)
      not_below n = ways (ltb n 128) (λ e. simp (e, lt-leb 128 n (ltb-true n 128 e))) (λ e. simp (e, le-leb 128 n (ltb-false n 128 e)))

      many : ltb 4 a.count ≡ not (leb (length xs) 4)
      many =
          rw (so.count, seen_length xs)
          (ways (leb (length xs) 4) (λ e. simp (e, le-ltb 4 (length xs) (leb-true (length xs) 4 e))) (λ e. simp e))

  -- without a fault there is room for the task and its accesses
  module _ (good : first_refusal (task_line p (task_of label cost xs)).asks ≡ none) where
    in_range_lem : ((leb cost 1000 && low_addresses xs) ≡ true) × ((ltb (length p.tasks) 128 && leb (length xs) 4) ≡ true)
    in_range_lem = let all = granted _ good in (all.1.0, all.1.1.0)

    -- it stands before all order lines
    pub task_place : has_orders p ≡ false
    task_place = or_right (at_start p) (has_orders p) (not-true (at_start p || has_orders p) (granted _ good).0)

    pub task_room : length p.tasks < 128
    task_room = ltb-true _ _ (both_left (ltb (length p.tasks) 128) (leb (length xs) 4) in_range_lem.1)

    pub task_few : length xs ≤ 4
    task_few = leb-true _ _ (both_right (ltb (length p.tasks) 128) (leb (length xs) 4) in_range_lem.1)

-- and its row is the one in hand
pub task_row_lem : (p : Plan) (label : List ℕ) (cost : ℕ) (xs : List Access) (at : ℕ) {a : Accesses} {row : Row}
    → Reads (bare at label cost) (seen xs) a row
    → first_refusal (task_line p (task_of label cost xs)).asks ≡ none
    → row ≡ row_of (record { at = at; task = task_of label cost xs })
task_row_lem p label cost xs at so good =
    let range = (in_range_lem p label cost xs so good).0 in
    let low = leb-true cost 1000 (both_left (leb cost 1000) (low_addresses xs) range) in
    let same = low_clipped cost (omega arith) in
    let all = seen_same xs (both_right (leb cost 1000) (low_addresses xs) range) in
    rw (same, all) at (so.kept (omega (arith, seen_length xs, task_few p label cost xs so good)))
