-- A text that is accepted means a well-formed plan, with no more order lines than its length has room for.
use Rattle.std.specs.Prelude.{◌≡◌, ℕ, zero, suc, ◌+◌, ◌*◌, ◌<◌, ◌≤◌, Bool, true, false, cond, not, ◌&&◌, ◌||◌, List, [], ◌∷◌, ◌++◌, map, length, ◌==◌, ◌≢◌, nat_le}
use Rattle.std.proofs.Math.Path.{refl}
use Rattle.std.proofs.Common.{ap, arith, length-append}
use Rattle.std.proofs.Math.Bool.{and-eq-true_iff}
use Rattle.std.proofs.Math.Option
use Rattle.std.proofs.Math.Option.{Option, none, some, some-ne-none}
use borrow.Author.Tests.{ltb-true, ltb-false, leb-true, eqb-true, eqb-false, not-true}
use Rattle.refusals.specs.declared.Refusal.{Refusal}
use Rattle.refusals.specs.declared.Refusal.TheVariants.{Misplaced, TextTooLong}
use Rattle.runs.specs.Every.{every}
use Rattle.runs.specs.Update.{clash}
use Rattle.text.proofs.FieldLaws.{some_part}
use Rattle.text.specs.Text.{line_feed, tab, within, all_of, on_first, split, number_of}
use Rattle.plan.specs.declared.form.Form.{Form}
use Rattle.plan.specs.declared.form.Form.TheVariants.{First, Second}
use Rattle.plan.specs.Plan.{Access, Task, Order, picks, rounds, seeded, slots_of, capacity_of, Plan, empty_plan, mask_last}
use Rattle.plan.specs.Line.{'M', 'P', 'R', 'S', 'T', 'W', Ask, Line, at_start, has_orders, ends_unmasked, repeats, sizes_in_range, is_label, access_of}
use Rattle.plan.specs.Line.{workers_line, task_line, mask_line, order_line, picks_line, rounds_line, seeded_line}
use Rattle.plan.specs.Line.{one_number, with_both, two_numbers, in_form, with_cost, label_and_cost, line_by, line_of_fields, line_of}
use Rattle.plan.specs.Reading.{Reading, accepted, refused, first_refusal, read_line, read_end, read_lines, is_too_long, reading}
use Rattle.plan.specs.Accepted.{Each, MaskFormed, TaskFormed, OrderFormed, WellFormed, Granted}

-- ---- lists and tests

both : (a b : Bool) → a && b ≡ true → (a ≡ true) × (b ≡ true)
both a b = (and-eq-true_iff a b).0

neither : (a b : Bool) → a || b ≡ false → a ≡ false
neither true b e = e
neither false b e = refl

pub every_each : {A : Type 0} (f : A → Bool) (xs : List A) → every f xs ≡ true → Each (λ x. f x ≡ true) xs
unfolding every
every_each f [] e i l d = absurd (omega arith)
every_each f (x ∷ xs) e zero l d = (both (f x) (every f xs) e).0
every_each f (x ∷ xs) e (suc i) l d = every_each f xs (both (f x) (every f xs) e).1 i (omega arith) d

pub each_more : {A : Type 0} (P : A → Type 0) (xs : List A) (x : A) → Each P xs → P x → Each P (xs ++ x ∷ [])
each_more P [] x h new zero l d = new
each_more P [] x h new (suc i) l d = absurd (omega arith)
each_more P (y ∷ xs) x h new zero l d = h 0 (omega arith) d
each_more P (y ∷ xs) x h new (suc i) l d = each_more P xs x (λ j k. h (suc j) (omega arith)) new i (omega arith) d

within_bounds : (low high n : ℕ) → within low high n ≡ true → (low ≤ n) × (n ≤ high)
within_bounds low high n e = let (a, b) = both _ _ e in (leb-true _ _ a, leb-true _ _ b)

-- ---- the bytes of parts, each with a separator

unfoldable size : List (List ℕ) → ℕ
size [] = 0
size (part ∷ parts) = length part + 1 + size parts

split_size : (separator : ℕ) (text : List ℕ) → size (split separator text) ≡ length text + 1
unfolding split size
split_size separator [] = refl
split_size separator (b ∷ bs) =
    let (part, parts, e) = some_part separator bs in rw e (go (b == separator) part parts (rw e at (split_size separator bs)))
  where
    go : (t : Bool) (part : List ℕ) (parts : List (List ℕ)) → size (part ∷ parts) ≡ length bs + 1
        → size (cond t ([] ∷ part ∷ parts) (on_first b (part ∷ parts))) ≡ suc (length bs) + 1
    go true part parts h = omega arith
    go false part parts h = omega arith

-- ---- what is read so far

-- slots and capacity for so many workers
abbrev Sized : ℕ → Form → Type 0
Sized n form = (n ≤ slots_of form) × (slots_of form ≤ 64) × (1 ≤ capacity_of form) × (capacity_of form ≤ 16)

-- as a well-formed plan; before the W line there is nothing
record Begun (p : Plan) : Type 0 where
  pub fresh : p.workers ≡ 0 → (length p.tasks ≡ 0) × (length p.orders ≡ 0)
  pub workers_few : p.workers ≤ 32
  pub sized : Sized p.workers p.form
  pub tasks_few : length p.tasks ≤ 128
  pub tasks : Each (TaskFormed p.workers) p.tasks
  pub orders : Each (OrderFormed p.workers) p.orders

pub granted : (asks : List Ask) → first_refusal asks ≡ none → Granted asks
unfolding first_refusal
granted [] e = tt
granted (a ∷ asks) e = go a.holds refl e (granted asks)
  where
    go : (b : Bool) → a.holds ≡ b → cond b (first_refusal asks) (some a.otherwise) ≡ none
        → (first_refusal asks ≡ none → Granted asks) → (a.holds ≡ true) × Granted asks
    go true h e rest = (h, rest e)
    go false h e rest = absurd (some-ne-none a.otherwise e)

sized : (n : ℕ) (form : Form) → n ≤ slots_of form → sizes_in_range form ≡ true → Sized n form
sized n First enough e = (enough, omega arith, omega arith, omega arith)
sized n (Second slots capacity) enough e =
    let (few_slots, few_places) = both _ _ e in
    let (low, high) = within_bounds 1 16 capacity few_places in
    (enough, (within_bounds 1 64 slots few_slots).1, low, high)

-- ---- the last task with a mask

pub ends_some : (ts : List Task) → ends_unmasked ts ≡ true → 0 < length ts
unfolding ends_unmasked
ends_some [] e = clash (cc)
ends_some (t ∷ ts) e = omega arith

pub mask_length : (m : ℕ) (ts : List Task) → length (mask_last m ts) ≡ length ts
unfolding mask_last
mask_length m [] = refl
mask_length m (t ∷ []) = refl
mask_length m (t ∷ u ∷ ts) = ap suc (mask_length m (u ∷ ts))

each_masked : (W m : ℕ) → MaskFormed W (some m) → (ts : List Task) → Each (TaskFormed W) ts → Each (TaskFormed W) (mask_last m ts)
unfolding mask_last
each_masked W m f [] h i l d = absurd (omega arith)
each_masked W m f (t ∷ []) h zero l d =
    let k = h 0 (omega arith) d in
    record {
      label_some = k.label_some;
      label_short = k.label_short;
      cost_low = k.cost_low;
      accesses_few = k.accesses_few;
      addresses_low = k.addresses_low;
      addresses_once = k.addresses_once;
      mask_formed = f;
    }
each_masked W m f (t ∷ []) h (suc i) l d = absurd (omega arith)
each_masked W m f (t ∷ u ∷ ts) h zero l d = h 0 (omega arith) d
each_masked W m f (t ∷ u ∷ ts) h (suc i) l d = each_masked W m f (u ∷ ts) (λ j k. h (suc j) (omega arith)) i (omega arith) d

-- ---- one line more, by its kind: an order line has four bytes or more

module _ (p : Plan) (h : Begun p) (k : ℕ) where
  record Grows (q : Plan) : Type 0 where
    pub begun : Begun q
    pub room : 4 * length q.orders ≤ 4 * length p.orders + k

  abbrev Keeps : Option Line → Type 0
  Keeps none = Unit {0}
  Keeps (some l) = Granted l.asks → Grows l.plan

  keeps_workers : (n : ℕ) (form : Form) → Keeps (some (workers_line p n form))
  keeps_workers n form (start, range) =
      let (workers, sizes) = both _ _ range.0 in
      let (low, high) = within_bounds 1 32 n workers in
      let (no_tasks, no_orders_lem) = h.fresh (eqb-true p.workers 0 start) in
      record {
        begun =
            record {
              fresh = λ e. absurd (omega arith);
              workers_few = high;
              sized = sized n form (leb-true _ _ range.1.0) sizes;
              tasks_few = h.tasks_few;
              tasks = λ i l. absurd (omega arith);
              orders = λ i l. absurd (omega arith);
            };
        room = omega arith;
      }

  started : (b : Bool) → not (at_start p || b) ≡ true → 1 ≤ p.workers
  started b e = some_workers p.workers (eqb-false p.workers 0 (neither (at_start p) b (not-true _ e)))
    where
      some_workers : (n : ℕ) → (n ≢ 0) → 1 ≤ n
      some_workers zero f = absurd (f refl)
      some_workers (suc n) f = omega arith

  keeps_task : (t : Task) → is_label t.label ≡ true → MaskFormed p.workers t.mask → Keeps (some (task_line p t))
  keeps_task t formed masked (place, range) =
      let (low_cost, low_addresses_lem) = both _ _ range.0 in
      let (few_tasks, few_accesses) = both _ _ range.1.0 in
      let (some_label, short_label) = within_bounds 1 16 (length t.label) (both _ _ formed).0 in
      let some_workers = started (has_orders p) place in
      record {
        begun =
            record {
              fresh = λ e. absurd (omega arith);
              workers_few = h.workers_few;
              sized = h.sized;
              tasks_few = omega (arith, length-append p.tasks (t ∷ []), ltb-true (length p.tasks) 128 few_tasks);
              tasks =
                  each_more (TaskFormed p.workers) p.tasks t h.tasks
                  (record {
                    label_some = some_label;
                    label_short = short_label;
                    cost_low = leb-true _ _ low_cost;
                    accesses_few = leb-true (length t.accesses) 4 few_accesses;
                    addresses_low = λ i l d. leb-true _ _ (every_each (λ a. nat_le a.address 65535) t.accesses low_addresses_lem i l d);
                    addresses_once = not-true (repeats t.accesses) range.1.1.0;
                    mask_formed = masked;
                  });
              orders = h.orders;
            };
        room = omega arith;
      }

  keeps_mask : (m : ℕ) → Keeps (some (mask_line p m))
  keeps_mask m (place, range) =
      let e = ends_some p.tasks (both (not (has_orders p)) _ place).1 in
      record {
        begun =
            record {
              fresh = λ z. absurd (omega (arith, (h.fresh z).0));
              workers_few = h.workers_few;
              sized = h.sized;
              tasks_few = omega (arith, mask_length m p.tasks, h.tasks_few);
              tasks = each_masked p.workers m (ltb-true _ _ range.1.0, ltb-true _ _ range.0) p.tasks h.tasks;
              orders = h.orders;
            };
        room = omega arith;
      }

  keeps_order : (in_range : Bool) (o : Order) → (in_range ≡ true → OrderFormed p.workers o) → 4 ≤ k → Keeps (some (order_line p in_range o))
  keeps_order in_range o formed long (place, range) =
      let some_workers = started false (only_start (at_start p) place) in
      record {
        begun =
            record {
              fresh = λ e. absurd (omega arith);
              workers_few = h.workers_few;
              sized = h.sized;
              tasks_few = h.tasks_few;
              tasks = h.tasks;
              orders = each_more (OrderFormed p.workers) p.orders o h.orders (formed range.0);
            };
        room = omega (arith, length-append p.orders (o ∷ []));
      }
    where
      only_start : (b : Bool) → not b ≡ true → not (b || false) ≡ true
      only_start true e = e
      only_start false e = refl

  keeps_picks : (worker n : ℕ) → 4 ≤ k → Keeps (some (picks_line p worker n))
  keeps_picks worker n =
      keeps_order _ (picks worker n) (λ e. let (a, b) = both _ _ e in let (l, u) = within_bounds 1 4096 n b in (ltb-true _ _ a, l, u))

  keeps_rounds : (n : ℕ) → 4 ≤ k → Keeps (some (rounds_line p n))
  keeps_rounds n = keeps_order _ (rounds n) (within_bounds 1 1000000 n)

  keeps_seeded : (seed n : ℕ) → 4 ≤ k → Keeps (some (seeded_line p seed n))
  keeps_seeded seed n =
      keeps_order _ (seeded n seed) (λ e. let (a, b) = both _ _ e in let (l, u) = within_bounds 1 1000000 n b in (ltb-true _ _ a, l, u))

  -- ---- by the fields after the first

  -- a number has a digit
  numbered : (make : ℕ → Line) (f : List ℕ) → (1 ≤ length f → (n : ℕ) → Keeps (some (make n))) → Keeps (Option.map make (number_of f))
  unfolding number_of
  numbered make [] keeps = tt
  numbered make (b ∷ bs) keeps = go (number_of (b ∷ bs))
    where
      go : (x : Option ℕ) → Keeps (Option.map make x)
      go none = tt
      go (some n) = keeps (omega arith) n

  keeps_one : (make : ℕ → Line) → ((n : ℕ) → 4 ≤ k → Keeps (some (make n)))
      → (fields : List (List ℕ)) → 2 + size fields ≤ k → Keeps (one_number make fields)
  unfolding size
  keeps_one make keeps [] e = tt
  keeps_one make keeps (f ∷ []) e = numbered make f (λ l n. keeps n (omega arith))
  keeps_one make keeps (f ∷ g ∷ gs) e = tt

  keeps_two : (make : ℕ → ℕ → Line) → ((m n : ℕ) → 4 ≤ k → Keeps (some (make m n)))
      → (fields : List (List ℕ)) → 2 + size fields ≤ k → Keeps (two_numbers make fields)
  unfolding size
  keeps_two make keeps [] e = tt
  keeps_two make keeps (f ∷ []) e = tt
  keeps_two make keeps (f ∷ g ∷ []) e = go (number_of f) (number_of g)
    where
      go : (x y : Option ℕ) → Keeps (with_both make x y)
      go none y = tt
      go (some m) none = tt
      go (some m) (some n) = keeps m n (omega arith)
  keeps_two make keeps (f ∷ g ∷ g' ∷ gs) e = tt

  keeps_in_form : (fields : List (List ℕ)) → 2 + size fields ≤ k → Keeps (in_form (workers_line p) fields)
  unfolding size
  keeps_in_form [] e = tt
  keeps_in_form (f ∷ []) e = numbered (λ n. workers_line p n First) f (λ l n. keeps_workers n First)
  keeps_in_form (f ∷ g ∷ gs) e = go (number_of f)
    where
      go : (x : Option ℕ)
          → Keeps (elim x [ none ↦ none | some n ↦ two_numbers (λ slots capacity. workers_line p n (Second slots capacity)) (g ∷ gs) ])
      go none = tt
      go (some n) =
          keeps_two (λ slots capacity. workers_line p n (Second slots capacity))
          (λ slots capacity l. keeps_workers n (Second slots capacity)) (g ∷ gs) (omega arith)

  keeps_labelled : (fields : List (List ℕ)) → Keeps (label_and_cost (task_line p) fields)
  keeps_labelled [] = tt
  keeps_labelled (f ∷ []) = tt
  keeps_labelled (f ∷ g ∷ gs) = go (is_label f) refl (number_of g) (all_of (map access_of gs))
    where
      go : (b : Bool) → is_label f ≡ b → (c : Option ℕ) (xs : Option (List Access)) → Keeps (cond b (with_cost (task_line p) f c xs) none)
      go false e c xs = tt
      go true e none xs = tt
      go true e (some c) none = tt
      go true e (some c) (some xs) = keeps_task _ e tt

  keeps_cond : (b : Bool) (x y : Option Line) → Keeps x → Keeps y → Keeps (cond b x y)
  keeps_cond true x y f g = f
  keeps_cond false x y f g = g

  keeps_by : (letter : ℕ) (fields : List (List ℕ)) → 2 + size fields ≤ k → Keeps (line_by p letter fields)
  unfolding line_by
  keeps_by letter fields e =
      keeps_cond (letter == 'W') _ _ (keeps_in_form fields e)
      (keeps_cond (letter == 'T') _ _ (keeps_labelled fields)
      (keeps_cond (letter == 'M') _ _ (keeps_one (mask_line p) (λ m l. keeps_mask m) fields e)
      (keeps_cond (letter == 'P') _ _ (keeps_two (picks_line p) keeps_picks fields e)
      (keeps_cond (letter == 'R') _ _ (keeps_one (rounds_line p) keeps_rounds fields e)
      (keeps_cond (letter == 'S') _ none (keeps_two (seeded_line p) keeps_seeded fields e) tt)))))

  keeps_fields : (fields : List (List ℕ)) → size fields ≤ k → Keeps (line_of_fields p fields)
  unfolding line_of_fields size
  keeps_fields [] e = tt
  keeps_fields ([] ∷ fields) e = tt
  keeps_fields ((letter ∷ []) ∷ fields) e = keeps_by letter fields e
  keeps_fields ((letter ∷ b ∷ bs) ∷ fields) e = tt

-- ---- line after line, in a text of k bytes

abbrev Sound : ℕ → Reading → Type 0
Sound k (accepted p) = WellFormed p × (4 * length p.orders ≤ k)
Sound k (refused r n) = Unit {0}

sound_line : (k : ℕ) (p : Plan) (h : Begun p) (part : List ℕ) (n : ℕ) (next : Plan → Reading)
    → ((q : Plan) → Grows p h (length part + 1) q → Sound k (next q)) → Sound k (read_line n (line_of p part) next)
sound_line k p h part n next rest =
    go (line_of p part) (keeps_fields p h (length part + 1) (split tab part) (omega (arith, split_size tab part)))
  where
    go : (x : Option Line) → Keeps p h (length part + 1) x → Sound k (read_line n x next)
    go none f = tt
    go (some l) f = by (first_refusal l.asks) refl
      where
        by : (x : Option Refusal) → first_refusal l.asks ≡ x → Sound k (elim x [ none ↦ next l.plan | some r ↦ refused r n ])
        by none e = rest l.plan (f (granted l.asks e))
        by (some r) e = tt

sound_end : (k : ℕ) (p : Plan) (n : ℕ) (part : List ℕ) → Begun p → 4 * length p.orders ≤ k → Sound k (read_end p n part)
sound_end k p n [] h l = go (at_start p) refl
  where
    go : (b : Bool) → at_start p ≡ b → Sound k (cond b (refused Misplaced n) (accepted p))
    go true e = tt
    go false e = (
      record {
        workers_some = omega (arith, eqb-false p.workers 0 e);
        workers_few = h.workers_few;
        slots_enough = h.sized.0;
        slots_few = h.sized.1;
        capacity_some = h.sized.2;
        capacity_few = h.sized.3;
        tasks_few = h.tasks_few;
        tasks = h.tasks;
        orders = h.orders;
      },
      l,
    )
sound_end k p n (b ∷ bs) h l = tt

sound_lines : (k : ℕ) (parts : List (List ℕ)) (p : Plan) (n : ℕ) → Begun p → 4 * length p.orders + size parts ≤ k + 1
    → Sound k (read_lines p n parts)
unfolding read_lines size
sound_lines k [] p n h l = tt
sound_lines k (part ∷ []) p n h l = sound_end k p n part h (omega arith)
sound_lines k (part ∷ next ∷ parts) p n h l =
    sound_line k p h part n _ (λ q g. sound_lines k (next ∷ parts) q (suc n) g.begun (omega (arith, g.room)))

nothing_read : Begun empty_plan
nothing_read =
    record {
      fresh = λ e. (refl, refl);
      workers_few = omega arith;
      sized = (omega arith, omega arith, omega arith, omega arith);
      tasks_few = omega arith;
      tasks = λ i l. absurd (omega arith);
      orders = λ i l. absurd (omega arith);
    }

sound_reading : (text : List ℕ) → Sound (length text) (reading text)
unfolding reading
sound_reading text = go (is_too_long text)
  where
    go : (b : Bool) → Sound (length text) (cond b (refused TextTooLong 0) (read_lines empty_plan 1 (split line_feed text)))
    go true = tt
    go false = sound_lines (length text) (split line_feed text) empty_plan 1 nothing_read (omega (arith, split_size line_feed text))

module _ (text : List ℕ) (p : Plan) (e : reading text ≡ accepted p) where
  pub accepted_well_formed : WellFormed p
  accepted_well_formed = (rw e at (sound_reading text)).0

  -- an order line has at least four bytes
  pub accepted_orders : 4 * length p.orders ≤ length text
  accepted_orders = (rw e at (sound_reading text)).1

  -- and a text that is accepted is not too long
  pub accepted_length : length text ≤ 65536
  unfolding reading
  accepted_length = go (is_too_long text) refl e
    where
      go : (b : Bool) → is_too_long text ≡ b → cond b (refused TextTooLong 0) (read_lines empty_plan 1 (split line_feed text)) ≡ accepted p
          → length text ≤ 65536
      go true f g = clash (cc)
      go false f g = ltb-false 65536 (length text) f
