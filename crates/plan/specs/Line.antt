-- The lines of a plan: of each kind its fields, where it may stand, the ranges of its numbers, and what it adds to the plan.
use Rattle.std.specs.Prelude.{ℕ, ◌^◌, Bool, true, false, cond, not, ◌&&◌, ◌||◌, leb, List, [], ◌∷◌, map, length, ◌==◌, nat_le, nat_lt}
use Rattle.std.proofs.Math.Option
use Rattle.std.proofs.Math.Option.{Option, none, some}
use Rattle.refusals.specs.declared.Refusal.{Refusal}
use Rattle.refusals.specs.declared.Refusal.TheVariants.{OutOfRange, Misplaced, TooMany, AddressTwice, TooFewSlots, EmptyMask}
use Rattle.runs.specs.Every.{every}
use Rattle.text.specs.Text.{tab, hyphen, within, all_of, split, is_digit, number_of}
use Rattle.plan.specs.declared.form.Form.{Form}
use Rattle.plan.specs.declared.form.Form.TheVariants.{First, Second}
use Rattle.plan.specs.Plan.{Access, Task, Order, picks, rounds, seeded, slots_of, Plan, with_workers, with_task, with_mask, with_order}
use Rattle.plan.specs.Permits.{is_masked}

-- ---- what is asked of a line

-- what must hold, and the refusal where it does not
pub record Ask : Type 0 where
  pub holds : Bool
  pub otherwise : Refusal

abbrev pub ask : Bool → Refusal → Ask
ask holds otherwise = record { holds = holds; otherwise = otherwise }

-- a line that is of its form: what is asked of it, in the order in which it is judged, and the plan with it
pub record Line : Type 0 where
  pub asks : List Ask
  pub plan : Plan

abbrev pub line : List Ask → Plan → Line
line asks plan = record { asks = asks; plan = plan }

-- ---- the kinds of lines, where p has been read before

-- the W line is still to come: it alone sets the number of workers
abbrev pub at_start : Plan → Bool
at_start p = p.workers == 0

abbrev pub has_orders : Plan → Bool
has_orders p = nat_lt 0 (length p.orders)

-- an address stands twice in a row of accesses
unfoldable pub repeats : List Access → Bool
repeats [] = false
repeats (a ∷ xs) = not (every (λ b. not (a.address == b.address)) xs) || repeats xs

-- the numbers that only the second form has
abbrev pub sizes_in_range : Form → Bool
sizes_in_range First = true
sizes_in_range (Second slots capacity) = within 1 64 slots && within 1 16 capacity

-- W: first, and once; no fewer slots than workers
abbrev pub workers_line : Plan → ℕ → Form → Line
workers_line p n form =
    line
    (ask (at_start p) Misplaced
    ∷ ask (within 1 32 n && sizes_in_range form) OutOfRange
    ∷ ask (nat_le n (slots_of form)) TooFewSlots ∷ [])
    (with_workers p n form)

-- T: before all order lines; nothing is asked of its label, which may repeat
abbrev pub task_line : Plan → Task → Line
task_line p t =
    line
    (ask (not (at_start p || has_orders p)) Misplaced
    ∷ ask (nat_le t.cost 1000 && every (λ a. leb a.address 65535) t.accesses) OutOfRange
    ∷ ask (nat_lt (length p.tasks) 128 && nat_le (length t.accesses) 4) TooMany
    ∷ ask (not (repeats t.accesses)) AddressTwice ∷ [])
    (with_task p t)

-- the last task has no M line
unfoldable pub ends_unmasked : List Task → Bool
ends_unmasked [] = false
ends_unmasked (t ∷ []) = not (is_masked t)
ends_unmasked (t ∷ u ∷ ts) = ends_unmasked (u ∷ ts)

-- the line before is a T line
abbrev pub after_task : Plan → Bool
after_task p = not (has_orders p) && ends_unmasked p.tasks

-- M: directly after a T line; no bit at W or above, and some bit
abbrev pub mask_line : Plan → ℕ → Line
mask_line p mask =
    line
    (ask (after_task p) Misplaced
    ∷ ask (nat_lt mask (2 ^ p.workers)) OutOfRange
    ∷ ask (nat_lt 0 mask) EmptyMask ∷ [])
    (with_mask p mask)

-- P, R, S: the order lines
abbrev pub order_line : Plan → Bool → Order → Line
order_line p in_range o = line (ask (not (at_start p)) Misplaced ∷ ask in_range OutOfRange ∷ []) (with_order p o)

abbrev pub picks_line : Plan → ℕ → ℕ → Line
picks_line p worker n = order_line p (nat_lt worker p.workers && within 1 4096 n) (picks worker n)

abbrev pub rounds_line : Plan → ℕ → Line
rounds_line p n = order_line p (within 1 1000000 n) (rounds n)

abbrev pub seeded_line : Plan → ℕ → ℕ → Line
seeded_line p seed n = order_line p (nat_lt seed (2 ^ 64) && within 1 1000000 n) (seeded n seed)

-- ---- the form of a line: its fields

-- the letters of lines and accesses
abbrev pub 'M' : ℕ
'M' = 77

abbrev pub 'P' : ℕ
'P' = 80

abbrev pub 'R' : ℕ
'R' = 82

abbrev pub 'S' : ℕ
'S' = 83

abbrev pub 'T' : ℕ
'T' = 84

abbrev pub 'W' : ℕ
'W' = 87

abbrev pub 'r' : ℕ
'r' = 114

abbrev pub 'w' : ℕ
'w' = 119

-- letters, digits and the hyphen
abbrev pub is_label_byte : ℕ → Bool
is_label_byte b = within 97 122 b || (within 65 90 b || (is_digit b || b == hyphen))

abbrev pub is_label : List ℕ → Bool
is_label field = within 1 16 (length field) && every is_label_byte field

abbrev pub access : Bool → ℕ → Access
access writes address = record { writes = writes; address = address }

-- r or w, then an address
unfoldable pub access_of : List ℕ → Option Access
access_of [] = none
access_of (b ∷ bs) =
    cond (b == 'r') (Option.map (access false) (number_of bs))
    (cond (b == 'w') (Option.map (access true) (number_of bs)) none)

-- the fields after the first: one number
abbrev pub one_number : (ℕ → Line) → List (List ℕ) → Option Line
one_number make [] = none
one_number make (f ∷ []) = Option.map make (number_of f)
one_number make (f ∷ g ∷ gs) = none

abbrev pub with_both : (ℕ → ℕ → Line) → Option ℕ → Option ℕ → Option Line
with_both make none y = none
with_both make (some m) none = none
with_both make (some m) (some n) = some (make m n)

-- two numbers
abbrev pub two_numbers : (ℕ → ℕ → Line) → List (List ℕ) → Option Line
two_numbers make [] = none
two_numbers make (f ∷ []) = none
two_numbers make (f ∷ g ∷ []) = with_both make (number_of f) (number_of g)
two_numbers make (f ∷ g ∷ h ∷ hs) = none

-- one number, in the first form, or three, in the second
abbrev pub in_form : (ℕ → Form → Line) → List (List ℕ) → Option Line
in_form make [] = none
in_form make (f ∷ []) = Option.map (λ n. make n First) (number_of f)
in_form make (f ∷ g ∷ gs) =
    elim (number_of f) [ none ↦ none | some n ↦ two_numbers (λ slots capacity. make n (Second slots capacity)) (g ∷ gs) ]

abbrev pub with_cost : (Task → Line) → List ℕ → Option ℕ → Option (List Access) → Option Line
with_cost make label none xs = none
with_cost make label (some c) none = none
with_cost make label (some c) (some xs) = some (make (record { label = label; cost = c; accesses = xs; mask = none }))

-- a label, a cost, and any number of accesses
abbrev pub label_and_cost : (Task → Line) → List (List ℕ) → Option Line
label_and_cost make [] = none
label_and_cost make (f ∷ []) = none
label_and_cost make (f ∷ g ∷ gs) = cond (is_label f) (with_cost make f (number_of g) (all_of (map access_of gs))) none

-- the line of a first field and the others: one row for each kind
unfoldable pub line_by : Plan → ℕ → List (List ℕ) → Option Line
line_by p letter fields =
    cond (letter == 'W') (in_form (workers_line p) fields)
    (cond (letter == 'T') (label_and_cost (task_line p) fields)
    (cond (letter == 'M') (one_number (mask_line p) fields)
    (cond (letter == 'P') (two_numbers (picks_line p) fields)
    (cond (letter == 'R') (one_number (rounds_line p) fields)
    (cond (letter == 'S') (two_numbers (seeded_line p) fields) none)))))

-- the first field is one letter
unfoldable pub line_of_fields : Plan → List (List ℕ) → Option Line
line_of_fields p [] = none
line_of_fields p ([] ∷ fields) = none
line_of_fields p ((letter ∷ []) ∷ fields) = line_by p letter fields
line_of_fields p ((letter ∷ b ∷ bs) ∷ fields) = none

-- the line that a line's bytes, without the line feed, are the form of
abbrev pub line_of : Plan → List ℕ → Option Line
line_of p text = line_of_fields p (split tab text)
