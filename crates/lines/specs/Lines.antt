-- The code's view of one line: what is answered for its fields.
use Rattle.std.specs.Prelude.{Result, Ok, Err, ℕ, zero, suc, ◌+◌, ◌-◌, ◌^◌, ◌≤◌, ◌<◌, min, ◌≡◌, refl, Bool, true, false, cond, not, ◌&&◌, ◌||◌, List, [], ◌∷◌, length, drop, replicate, leb, ltb}
use Rattle.std.proofs.Common.{sym, arith}
use Rattle.std.proofs.Math.Bool.{and-false}
use Rattle.std.proofs.Math.Option.{Option, none, some}
use Rattle.std.proofs.lemmas.List.{length-replicate}
use Rattle.refusals.specs.declared.Refusal.{Refusal}
use Rattle.refusals.specs.declared.Refusal.TheVariants.{OutOfRange, Misplaced}
use Rattle.text.specs.declared.read.Malformed.{Malformed}
use Rattle.text.specs.declared.read.Number.{Number}
use Rattle.text.specs.Text.{number_of}
use Rattle.text.specs.LineEnds.{Reaches}
use Rattle.text.specs.Fields.{First, unended, first, first_line, Fields, clipped, held}
use Rattle.plan.specs.declared.form.Form.{Form}
use Rattle.plan.specs.declared.form.Form.TheVariants.{Second}
use Rattle.plan.specs.Plan.{Task, Plan, with_workers, with_mask, with_order}
use Rattle.plan.specs.declared.access.Access.{Access}
use Rattle.plan.specs.declared.order.Order.{Order}
use Rattle.plan.specs.declared.order.Order.TheVariants.{Rounds as rounds}
use Rattle.plan.specs.Permits.{is_masked}
use Rattle.plan.specs.Line as plans
use Rattle.plan.specs.Line.{'T', ask, at_start, has_orders, ends_unmasked, after_task, is_label, label_and_cost}
use Rattle.plan.specs.Line.{workers_line, order_line, task_line, line_of_fields}
use Rattle.plan.specs.Reading.{first_refusal}
use Rattle.kept.specs.declared.tasks.Row.{Row}
use Rattle.kept.specs.Tasks.{Placed, row_of, Labelled}
use Rattle.lines.specs.declared.line.Kind.{Kind}
use Rattle.lines.specs.declared.line.Kind.TheVariants as kinds
use Rattle.lines.specs.declared.line.Sofar.{Sofar}
use Rattle.lines.specs.declared.line.Line.{Line}

-- ---- the lines so far

-- p is what they come to
pub record Sums (s : Sofar) (p : Plan) : Type 0 where
  pub workers : s.workers ≡ p.workers
  pub form : s.form ≡ p.form
  pub tasks : s.tasks ≡ length p.tasks
  pub orders : s.orders ≡ length p.orders
  pub after : s.after_task ≡ after_task p

-- a task, without a mask where an M line may follow it
abbrev any_task : Bool → Task
any_task after = record { label = []; cost = 0; accesses = []; mask = cond after none (some 1) }

ends_like : (n : ℕ) (t : Task) → ends_unmasked (replicate (suc n) t) ≡ not (is_masked t)
unfolding ends_unmasked
ends_like zero t = refl
ends_like (suc n) t = ends_like n t

after_any : (after : Bool) (tasks orders : ℕ) → (after ≡ true → (0 < tasks) × (orders ≡ 0))
    → after ≡ (not (ltb 0 (length (replicate orders (rounds 1)))) && ends_unmasked (replicate tasks (any_task after)))
unfolding ends_unmasked
after_any true zero orders h = absurd (omega (arith, (h refl).0))
after_any true (suc n) orders h = rw ((h refl).1, ends_like n (any_task true))
after_any false zero orders h = sym (and-false (not (ltb 0 (length (replicate orders (rounds 1))))))
after_any false (suc n) orders h =
    rw (ends_like n (any_task false)) (sym (and-false (not (ltb 0 (length (replicate orders (rounds 1)))))))

-- there is one, where the last line can be a task's: what is said of every such plan is never said of none
pub some_plan : (s : Sofar) → (s.after_task ≡ true → (0 < s.tasks) × (s.orders ≡ 0)) → (p : Plan) × Sums s p
some_plan s h = (
  record {
    workers = s.workers;
    form = s.form;
    tasks = replicate s.tasks (any_task s.after_task);
    orders = replicate s.orders (rounds 1);
  },
  record {
    workers = refl;
    form = refl;
    tasks = sym (length-replicate s.tasks _);
    orders = sym (length-replicate s.orders _);
    after = after_any s.after_task s.tasks s.orders h;
  },
)

-- ---- judging

abbrev pub judged_by : Option Refusal → Result (Unit {0}) Refusal
judged_by none = Ok tt
judged_by (some r) = Err r

-- how a line that is of its form is judged
abbrev pub judges : plans.Line → Result (Unit {0}) Refusal
judges l = judged_by (first_refusal l.asks)

-- the place of a line is judged before its numbers
abbrev pub judges_first : Bool → Bool → Result (Unit {0}) Refusal
judges_first misplaced out = judged_by (first_refusal (ask (not misplaced) Misplaced ∷ ask (not out) OutOfRange ∷ []))

-- computed: where both are wrong
pub both_wrong : judges_first true true ≡ Err Misplaced
unfolding first_refusal
both_wrong = refl

-- ---- the numbers that end a line

-- the fields of the line say nothing, or it has no end
abbrev pub Formless : {B : Type 0} → (List (List ℕ) → Option B) → First → Type 0
Formless says unended = Unit {0}
Formless says (first fs rest) = says fs ≡ none

-- the answer r of a reader for the fields from a place to the end of their line, n bytes of the text so far: what they say, as `value`
-- gives it; or they say nothing, and are left at a byte that shows it, where the line goes on or has ended
pub data Says {A B : Type 0} (value : B → A) (says : List (List ℕ) → Option B) (text : List ℕ) (at : ℕ) (r : Result A Malformed) (n : ℕ)
    : Type 0 where
  said : (fs : List (List ℕ)) (b : B) → says fs ≡ some b → Fields text at fs n false → r ≡ Ok (value b) → Says value says text at r n
  unsaid : (more : Bool) → Formless says (first_line (drop at text)) → Reaches text at more n → r ≡ Err (record { goes_on = more })
      → Says value says text at r n

-- one number
abbrev pub number_alone : List (List ℕ) → Option ℕ
number_alone [] = none
number_alone (f ∷ []) = number_of f
number_alone (f ∷ g ∷ gs) = none

-- and two
abbrev pub pair_of : Option ℕ → Option ℕ → Option (ℕ × ℕ)
pair_of none y = none
pair_of (some m) none = none
pair_of (some m) (some n) = some (m, n)

abbrev pub numbers_alone : List (List ℕ) → Option (ℕ × ℕ)
numbers_alone [] = none
numbers_alone (f ∷ fs) = pair_of (number_of f) (number_alone fs)

abbrev pub both_held : ℕ × ℕ → Number × Number
both_held (m, n) = (held m, held n)

-- the slots and the queue capacity of the second form
abbrev pub sizes_held : ℕ × ℕ → Form
sizes_held (m, n) = Second (clipped m) (clipped n)

-- ---- a line that is read whole: W, M, P, R, S

-- a line that is not of its form; whether it goes on at the byte that shows it
abbrev pub wrong_line : Bool → Result Line Malformed
wrong_line more = Err (record { goes_on = more })

-- what a line without fault makes of p, with so few workers that a picked one has its number, and an M line only after a task; a task's
-- is known once its accesses are
abbrev pub Makes : Kind → Plan → Plan → Type 0
Makes (kinds.Workers n form) p q = (q ≡ with_workers p n form) × (n ≤ 32)
Makes kinds.Task p q = ⊥
Makes (kinds.Mask m) p q = (q ≡ with_mask p m) × (0 < length p.tasks)
Makes (kinds.Order o) p q = q ≡ with_order p o

abbrev pub IsWhole : Kind → Type 0
IsWhole (kinds.Workers n form) = Unit {0}
IsWhole kinds.Task = ⊥
IsWhole (kinds.Mask m) = Unit {0}
IsWhole (kinds.Order o) = Unit {0}

pub record Formed (text : List ℕ) (at : ℕ) (p : Plan) (form : List (List ℕ) → Option plans.Line) (r : Result Line Malformed) (n : ℕ)
    : Type 0 where
  pub l : plans.Line
  pub fs : List (List ℕ)
  pub formed : form fs ≡ some l
  pub fields : Fields text at fs n false
  pub line : Line
  pub is : r ≡ Ok line
  pub ended : line.more ≡ false
  pub whole : IsWhole line.kind
  pub judged : line.judged ≡ judges l
  pub makes : first_refusal l.asks ≡ none → Makes line.kind p l.plan

-- a number as 32 bits hold it
abbrev pub narrowed : ℕ → ℕ
narrowed n = min n (2 ^ 32 - 1)

-- an order line, as it was read
abbrev pub ordered : Order → Bool → Bool → Line
ordered order misplaced out = record { kind = kinds.Order order; judged = judges_first misplaced out; more = false }

-- the answer, after n looks at the text, for fields that begin at a place and are the line that `form` says
pub data Whole (text : List ℕ) (at : ℕ) (p : Plan) (form : List (List ℕ) → Option plans.Line) (r : Result Line Malformed) (n : ℕ)
    : Type 0 where
  malformed : (more : Bool) → r ≡ wrong_line more → Formless form (first_line (drop at text)) → Reaches text at more n
      → Whole text at p form r n
  formed : Formed text at p form r n → Whole text at p form r n

-- ---- a task's line, of which label and cost are read

-- a task as its T line says it
abbrev pub task_of : List ℕ → ℕ → List Access → Task
task_of label cost xs = record { label = label; cost = cost; accesses = xs; mask = none }

-- a task whose label stands at a place, without accesses
abbrev pub bare : ℕ → List ℕ → ℕ → Placed
bare at label cost = record { at = at; task = task_of label (clipped cost) [] }

-- how its place and its cost are judged
abbrev pub judges_head : Plan → ℕ → Result (Unit {0}) Refusal
judges_head p cost = judged_by (first_refusal (ask (not (at_start p || has_orders p)) Misplaced ∷ ask (leb cost 1000) OutOfRange ∷ []))

pub record Begun (text : List ℕ) (at : ℕ) (p : Plan) (row : Row) (r : Result Line Malformed) (n : ℕ) : Type 0 where
  pub line : Line
  pub is : r ≡ Ok line
  pub label : List ℕ
  pub digits : List ℕ
  pub cost : ℕ
  pub labelled : is_label label ≡ true
  pub number : number_of digits ≡ some cost
  pub fields : Fields text at (label ∷ digits ∷ []) n line.more
  pub stands : Labelled text (bare at label cost)
  pub kept : row ≡ row_of (bare at label cost)
  pub judged : line.judged ≡ judges_head p cost
  pub kind : line.kind ≡ kinds.Task

pub data TaskHead (text : List ℕ) (at : ℕ) (p : Plan) (row : Row) (r : Result Line Malformed) (n : ℕ) : Type 0 where
  malformed : (more : Bool) → r ≡ wrong_line more → Formless (label_and_cost (task_line p)) (first_line (drop at text)) → Reaches text at more n
      → TaskHead text at p row r n
  begun : Begun text at p row r n → TaskHead text at p row r n

-- ---- any line

-- the answer for the line that begins at a place: after its letter and a tab a task's label begins
pub data LineAt (text : List ℕ) (at : ℕ) (p : Plan) (row : Row) (r : Result Line Malformed) (n : ℕ) : Type 0 where
  whole : Whole text at p (line_of_fields p) r n → LineAt text at p row r n
  task : (b : Begun text (at + 2) p row r n) → Fields text at (('T' ∷ []) ∷ b.label ∷ b.digits ∷ []) n b.line.more → LineAt text at p row r n
