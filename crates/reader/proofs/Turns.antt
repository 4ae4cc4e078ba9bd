-- The turns of the reader's two loops: what a text comes to from a line on, and what is read of the line in hand.
use Rattle.std.specs.Prelude.{Result, Ok, Err, ℕ, suc, ◌+◌, ◌-◌, ◌≤◌, ◌<◌, ◌≡◌, refl, Bool, true, false, cond, not, List, [], ◌∷◌, ◌++◌, map, length, drop}
use Rattle.std.proofs.Common.{sym, ap, ◌∙◌, subst, arith, add-one, length-append, length-drop, lt-ltb}
use Rattle.std.proofs.Math.Bool.{and-false}
use Rattle.std.proofs.Math.Option.{Option, none, some}
use Rattle.std.proofs.Math.ListN.{drop_of_length-le}
use mathlib.Core.List.{map-append}
use Rattle.refusals.specs.declared.Refusal.{Refusal}
use Rattle.refusals.specs.declared.Refusal.TheVariants.{Malformed as malformed_text, TextTooLong}
use Rattle.runs.specs.Update.{clash}
use Rattle.runs.specs.Stores.{drop_from}
use Rattle.text.specs.declared.read.Field.{Field}
use Rattle.text.specs.declared.read.Malformed.{Malformed}
use Rattle.text.specs.Text.{line_feed, split, all_of, number_of}
use Rattle.text.specs.LineEnds.{lines_size, line_end, Reaches}
use Rattle.text.proofs.LineEnds.{reaches_on, end_past, lines_more}
use Rattle.text.specs.Fields.{cut, field_of, said, unsaid, First, unended, first, first_line, Fields}
use Rattle.text.proofs.FieldLaws.{some_part, field_length, fields_more, fields_reach, line_parts, line_unended}
use Rattle.plan.specs.declared.form.Form.{Form}
use Rattle.plan.specs.Plan.{Task, Plan, empty_plan, with_workers, with_task, mask_last, with_mask, with_order}
use Rattle.plan.specs.declared.access.Access.{Access}
use Rattle.plan.specs.declared.order.Order.{Order}
use Rattle.plan.specs.Permits.{is_masked}
use Rattle.plan.specs.Line as plans
use Rattle.plan.specs.Line.{'T', access_of, at_start, has_orders, ends_unmasked, after_task, is_label, with_cost}
use Rattle.plan.specs.Line.{line_by, line_of_fields, task_line}
use Rattle.plan.specs.Reading.{Reading, accepted, refused, first_refusal, read_line, read_lines, reading}
use Rattle.plan.proofs.Accepted.{mask_length}
use Rattle.plan.specs.Lengths.{reading_long, reading_short}
use Rattle.plan.specs.PassFields.{held_access, ReadAccess}
use Rattle.kept.specs.Layout as layout
use Rattle.kept.specs.declared.tasks.Row.{Row}
use Rattle.kept.specs.Tasks.{Placed, row_of, Labelled, KeepsTasks}
use Rattle.kept.specs.TaskLaws.{no_tasks, task_kept, mask_kept}
use Rattle.kept.specs.Orders.{KeepsOrders}
use Rattle.kept.specs.OrderLaws.{no_orders_lem, order_kept}
use Rattle.lines.specs.declared.accesses.Accesses.{Accesses}
use Rattle.lines.specs.declared.line.Kind.{Kind}
use Rattle.lines.specs.declared.line.Kind.TheVariants as kinds
use Rattle.lines.specs.declared.line.Line.{Line}
use Rattle.lines.specs.declared.line.Sofar.{Sofar}
use Rattle.lines.specs.Accesses.{with_accesses, Reads}
use Rattle.lines.specs.Lines.{Sums, judged_by, judges, Formless, Makes, IsWhole, Formed, malformed, formed}
use Rattle.lines.specs.Lines.{task_of, bare, judges_head, LineAt, whole, task}
use Rattle.lines.specs.Judging.{judged_after, judged}
use Rattle.lines.proofs.Wholes.{formless_next}
use Rattle.lines.proofs.Touches.{seen, task_judged_lem, task_place, task_room, task_few, task_row_lem}
use Rattle.reader.specs.declared.Fault.{Fault}
use Rattle.reader.specs.declared.ReadPlan.{ReadPlan}
use Rattle.reader.specs.declared.ReadText.{ReadText}
use Rattle.reader.specs.Keeping.{IsMask, Keeps}
use Rattle.reader.specs.Verdict.{no_plan, plan_of, AtEnd, outlined, Lent, Gives}

-- ---- a text from a line on, by that line

refusal_is : (o : Option Refusal) (r : Refusal) → judged_by o ≡ Err r → o ≡ some r
refusal_is none r e = clash (cc)
refusal_is (some f) r e = ap some (cc)

refusal_none : (o : Option Refusal) → judged_by o ≡ Ok tt → o ≡ none
refusal_none none e = refl
refusal_none (some f) e = clash (cc)

module _ (p : Plan) (n : ℕ) (text : List ℕ) (begin : ℕ) where
  -- what the text comes to from line n on
  abbrev pub comes : Reading
  comes = read_lines p n (split line_feed (drop begin text))

  comes_first : (fs : List (List ℕ)) (rest : List ℕ) → first_line (drop begin text) ≡ first fs rest
      → comes ≡ read_line n (line_of_fields p fs) (λ q. read_lines q (suc n) (split line_feed rest))
  unfolding read_lines
  comes_first fs rest e =
      let (part, parts, fields) = line_parts (drop begin text) fs rest e in
      let (y, ys, on) = some_part line_feed rest in
      rw (parts, on, fields)

  -- a line without end, or of no form
  pub comes_formless : begin < length text → Formless (line_of_fields p) (first_line (drop begin text)) → comes ≡ refused malformed_text n
  unfolding read_lines
  comes_formless h f = go (first_line (drop begin text)) refl f
    where
      go : (l : First) → first_line (drop begin text) ≡ l → Formless (line_of_fields p) l → comes ≡ refused malformed_text n
      go unended e f = rw (line_unended (drop begin text) e, drop_from text begin 0 h)
      go (first fs rest) e f = comes_first fs rest e ∙ rw f

  -- a line of its form
  module _ (l : plans.Line) (fs : List (List ℕ)) (next : ℕ) (form : line_of_fields p fs ≡ some l) (so : Fields text begin fs next false) where
    comes_formed : comes ≡ read_line n (some l) (λ q. read_lines q (suc n) (split line_feed (drop next text)))
    comes_formed = comes_first fs (drop next text) so.line ∙ rw form

    comes_refused : (r : Refusal) → judges l ≡ Err r → comes ≡ refused r n
    comes_refused r e = comes_formed ∙ rw (refusal_is (first_refusal l.asks) r e, read_line)

    comes_on : judges l ≡ Ok tt → comes ≡ read_lines l.plan (n + 1) (split line_feed (drop next text))
    comes_on e = comes_formed ∙ rw (add-one n, refusal_none (first_refusal l.asks) e, read_line)

    -- it has a field
    line_forth : begin < next
    unfolding line_of_fields
    line_forth = go fs form so.on
      where
        go : (fs : List (List ℕ)) → line_of_fields p fs ≡ some l → begin + length fs ≤ next → begin < next
        go [] e h = clash (cc)
        go (f ∷ fs) e h = omega arith

-- ---- the line in hand

-- of the line that begins at a place these are read: a task's label, its cost and some accesses
pub record TaskRead (text : List ℕ) (begin : ℕ) (p : Plan) (line : Line) (at : ℕ) (more : Bool) (a : Accesses) (row : Row) : Type 0 where
  pub label : List ℕ
  pub digits : List ℕ
  pub cost : ℕ
  pub fs : List (List ℕ)
  pub xs : List Access
  pub labelled : is_label label ≡ true
  pub number : number_of digits ≡ some cost
  pub each : all_of (map access_of fs) ≡ some xs
  pub fields : Fields text begin (('T' ∷ []) ∷ label ∷ digits ∷ fs) at more
  pub stands : Labelled text (bare (begin + 2) label cost)
  pub reads : Reads (bare (begin + 2) label cost) (seen xs) a row
  pub judges : line.judged ≡ judges_head p cost
  pub kind : line.kind ≡ kinds.Task

-- the line in hand is read up to a place: whole, or a task's
pub data InLine (text : List ℕ) (begin : ℕ) (p : Plan) (line : Line) (at : ℕ) (more : Bool) (a : Accesses) (row : Row) : Type 0 where
  other : Formed text begin p (line_of_fields p) (Ok line) at → more ≡ false → InLine text begin p line at more a row
  tasks : TaskRead text begin p line at more a row → InLine text begin p line at more a row

ok_same : {A E : Type 0} {x y : A} → ◌≡◌ {A = Result A E} (Ok x) (Ok y) → x ≡ y
ok_same e = cc

module _ {text : List ℕ} {begin : ℕ} {p : Plan} {row : Row} {n : ℕ} where
  -- what was looked at of a line that is not of its form leads to a place in it
  pub line_wrong : {m : Malformed} → LineAt text begin p row (Err m) n
      → Formless (line_of_fields p) (first_line (drop begin text)) × Reaches text begin m.goes_on n
  line_wrong {m} (whole (malformed more e f reach)) = let is : m.goes_on ≡ more = cc in (f, rw is reach)
  line_wrong (whole (formed f)) = let no = f.is in clash (cc)
  line_wrong (task b fields) = let no = b.is in clash (cc)

  -- none of the accesses of any other is read yet
  line_begins : {line : Line} {a : Accesses} → LineAt text begin p row (Ok line) n
      → ((t : Placed) → Reads t [] a (row_of (with_accesses t []))) → InLine text begin p line n line.more a row
  unfolding all_of
  line_begins (whole (malformed more e f reach)) start = clash (cc)
  line_begins (whole (formed f)) start = other f (rw (ok_same f.is) f.ended)
  line_begins (task b fields) start =
      let is = ok_same b.is in
      tasks
      (record {
        label = b.label;
        digits = b.digits;
        cost = b.cost;
        fs = [];
        xs = [];
        labelled = b.labelled;
        number = b.number;
        each = refl;
        fields = rw is fields;
        stands = b.stands;
        reads = rw b.kept (start (bare (begin + 2) b.label b.cost));
        judges = rw is b.judged;
        kind = rw is b.kind;
      })

-- whether more is to come, as a test found it
pub found : {text : List ℕ} {begin : ℕ} {p : Plan} {line : Line} {at : ℕ} {more m : Bool} {a : Accesses} {row : Row}
    → InLine text begin p line at more a row → more ≡ m → InLine text begin p line at m a row
found l e = rw e at l

-- ---- one access more

all_more : {A : Type 0} (os : List (Option A)) (xs : List A) (x : A) → all_of os ≡ some xs → all_of (os ++ some x ∷ []) ≡ some (xs ++ x ∷ [])
unfolding all_of
all_more [] xs x e = let none_yet : xs ≡ [] = cc in rw none_yet
all_more (none ∷ os) xs x e = clash (cc)
all_more {A} (some y ∷ os) xs x e = go (all_of os) e (λ ys. all_more os ys x)
  where
    go : (o : Option (List A)) → elim o [ none ↦ none | some ys ↦ some (y ∷ ys) ] ≡ some xs
        → ((ys : List A) → o ≡ some ys → all_of (os ++ some x ∷ []) ≡ some (ys ++ x ∷ []))
        → all_of (some y ∷ (os ++ some x ∷ [])) ≡ some (xs ++ x ∷ [])
    go none e rest = clash (cc)
    go (some ys) e rest = let is : xs ≡ y ∷ ys = cc in rw (rest ys refl, all_of, is)

-- one is not there
all_none : {A : Type 0} (os ps : List (Option A)) → all_of (os ++ none ∷ ps) ≡ none
unfolding all_of
all_none [] ps = refl
all_none (none ∷ os) ps = refl
all_none (some x ∷ os) ps = rw (all_none os ps)

-- a task's line, by its accesses
task_form : (p : Plan) (label digits : List ℕ) (cost : ℕ) → is_label label ≡ true → number_of digits ≡ some cost → (gs : List (List ℕ))
    → line_of_fields p (('T' ∷ []) ∷ label ∷ digits ∷ gs) ≡ with_cost (task_line p) label (some cost) (all_of (map access_of gs))
unfolding line_of_fields line_by
task_form p label digits cost l n gs = rw (l, n)

module _ {text : List ℕ} {begin : ℕ} {p : Plan} {line : Line} {at : ℕ} {a : Accesses} {row : Row} where
  -- where more is to come, the line is a task's
  is_task : InLine text begin p line at true a row → TaskRead text begin p line at true a row
  is_task (other w more) = clash (cc)
  is_task (tasks t) = t

  module _ (so : InLine text begin p line at true a row) where
    abbrev t : TaskRead text begin p line at true a row
    t = is_task so

    -- the line with one field more, which is an access
    more_fields : (x : List ℕ) (more : Bool) (rest : List ℕ) → field_of (drop at text) ≡ cut x more rest
        → Fields text begin (('T' ∷ []) ∷ t.label ∷ t.digits ∷ (t.fs ++ x ∷ [])) (at + (length x + 1)) more
    more_fields = fields_more t.fields

    pub access_read : {field : Field Access} {n : ℕ} → ReadAccess text at (Ok field) n → {b : Accesses} {after : Row}
        → ((u : Placed) (ys : List Access) → Reads u ys a row → Reads u (ys ++ field.value ∷ []) b after)
        → InLine text begin p line n field.more b after
    access_read (unsaid m u reach i) with_access_lem = clash (cc)
    access_read {field} (said x y m rest e s q i) with_access_lem =
        let value : field.value ≡ held_access y = cc in
        let same : field.more ≡ m = cc in
        tasks
        (record {
          label = t.label;
          digits = t.digits;
          cost = t.cost;
          fs = t.fs ++ x ∷ [];
          xs = t.xs ++ y ∷ [];
          labelled = t.labelled;
          number = t.number;
          each = rw (map-append access_of t.fs (x ∷ []), s) (all_more (map access_of t.fs) t.xs y t.each);
          fields = rw (q, same) (more_fields x m rest e);
          stands = t.stands;
          reads =
              rw (map-append held_access t.xs (y ∷ []), ← value)
              (with_access_lem (bare (begin + 2) t.label t.cost) (seen t.xs) t.reads);
          judges = t.judges;
          kind = t.kind;
        })

    -- a field that is no access, and is left where the line goes on or has ended
    pub access_wrong : {m : Malformed} {n : ℕ} → ReadAccess text at (Err m) n
        → Formless (line_of_fields p) (first_line (drop begin text)) × Reaches text begin m.goes_on n
    access_wrong (said x y more rest e s q i) = clash (cc)
    access_wrong {m} (unsaid more u reach i) =
        let same : m.goes_on ≡ more = cc in (
          formless_next (line_of_fields p) text begin t.fields
              (λ x m rest q gs. task_form p t.label t.digits t.cost t.labelled t.number (t.fs ++ x ∷ gs)
              ∙ rw (map-append access_of t.fs (x ∷ gs), rw q at u) (rw (all_none (map access_of t.fs) (map access_of gs)))),
          reaches_on (fields_reach true t.fields) (rw same reach),
        )

-- ---- whether the line before is a task's

ends_more : (ts : List Task) (t : Task) → ends_unmasked (ts ++ t ∷ []) ≡ not (is_masked t)
unfolding ends_unmasked
ends_more [] t = refl
ends_more (u ∷ []) t = refl
ends_more (u ∷ v ∷ ts) t = ends_more (v ∷ ts) t

ends_masked : (m : ℕ) (ts : List Task) → ends_unmasked (mask_last m ts) ≡ false
unfolding ends_unmasked mask_last
ends_masked m [] = refl
ends_masked m (t ∷ []) = refl
ends_masked m (t ∷ u ∷ []) = refl
ends_masked m (t ∷ u ∷ v ∷ ts) = ends_masked m (u ∷ v ∷ ts)

after_task_lem : (p : Plan) (t : Task) → is_masked t ≡ false → has_orders p ≡ false → after_task (with_task p t) ≡ true
after_task_lem p t e h = rw (h, ends_more p.tasks t, e)

after_mask : (p : Plan) (m : ℕ) → after_task (with_mask p m) ≡ false
after_mask p m = rw (ends_masked m p.tasks) (and-false (not (has_orders p)))

after_order : (p : Plan) (o : Order) → after_task (with_order p o) ≡ false
after_order p o = rw (lt-ltb 0 (length (p.orders ++ o ∷ [])) (omega (arith, length-append p.orders (o ∷ []))))

-- ---- a line that has ended

-- what is kept of a line without fault makes q of p
data Adds (text : List ℕ) (line : Line) (row : Row) (p q : Plan) : Type 0 where
  adds_workers : (workers : ℕ) (form : Form) → line.kind ≡ kinds.Workers workers form → workers ≤ 32 → q ≡ with_workers p workers form
      → Adds text line row p q
  adds_task : line.kind ≡ kinds.Task → (t : Placed) → Labelled text t → length t.task.accesses ≤ layout.most_task_accesses
      → row ≡ row_of t → length p.tasks < layout.most_tasks → after_task (with_task p t.task) ≡ true → q ≡ with_task p t.task
      → Adds text line row p q
  adds_mask : (m : ℕ) → line.kind ≡ kinds.Mask m → 0 < length p.tasks → q ≡ with_mask p m → Adds text line row p q
  adds_order : (o : Order) → line.kind ≡ kinds.Order o → q ≡ with_order p o → Adds text line row p q

-- a line that is of its form
record Right (text : List ℕ) (begin : ℕ) (p : Plan) (line : Line) (at : ℕ) (a : Accesses) (row : Row) : Type 0 where
  pub l : plans.Line
  pub fs : List (List ℕ)
  pub form : line_of_fields p fs ≡ some l
  pub fields : Fields text begin fs at false
  pub judges : judged line a (length p.tasks) ≡ judges l
  pub adds : first_refusal l.asks ≡ none → Adds text line row p l.plan

-- only a task's accesses are judged
whole_judged : (j : Result (Unit {0}) Refusal) (k : Kind) → IsWhole k → (a : Accesses) (n : ℕ) → judged_after j k a n ≡ j
whole_judged (Err r) k w a n = refl
whole_judged (Ok x) (kinds.Workers workers form) w a n = refl
whole_judged (Ok x) kinds.Task w a n = absurd w
whole_judged (Ok x) (kinds.Mask m) w a n = refl
whole_judged (Ok x) (kinds.Order o) w a n = refl

module _ {text : List ℕ} {begin : ℕ} {p : Plan} {line : Line} {at : ℕ} {a : Accesses} {row : Row} where
  formed_ended : Formed text begin p (line_of_fields p) (Ok line) at → Right text begin p line at a row
  formed_ended f =
      let is = ok_same f.is in
      record {
        l = f.l;
        fs = f.fs;
        form = f.formed;
        fields = f.fields;
        judges = rw is (whole_judged f.line.judged f.line.kind f.whole a (length p.tasks) ∙ f.judged);
        adds = λ good. rw is (adds_as f.line.kind refl (f.makes good));
      }
    where
      adds_as : (k : Kind) → f.line.kind ≡ k → Makes k p f.l.plan → Adds text f.line row p f.l.plan
      adds_as (kinds.Workers workers form) e (q, low) = adds_workers workers form e low q
      adds_as kinds.Task e m = absurd m
      adds_as (kinds.Mask m) e (q, before) = adds_mask m e before q
      adds_as (kinds.Order o) e q = adds_order o e q

  task_ended : TaskRead text begin p line at false a row → Right text begin p line at a row
  task_ended t =
      record {
        l = task_line p (task_of t.label t.cost t.xs);
        fs = ('T' ∷ []) ∷ t.label ∷ t.digits ∷ t.fs;
        form = task_form p t.label t.digits t.cost t.labelled t.number t.fs ∙ rw t.each;
        fields = t.fields;
        judges = rw (t.kind, t.judges) (task_judged_lem p t.label t.cost t.xs t.reads);
        adds =
            λ good. adds_task t.kind
            (record { at = begin + 2; task = task_of t.label t.cost t.xs }) t.stands
            (task_few p t.label t.cost t.xs t.reads good)
            (task_row_lem p t.label t.cost t.xs (begin + 2) t.reads good)
            (task_room p t.label t.cost t.xs t.reads good)
            (after_task_lem p (task_of t.label t.cost t.xs) refl (task_place p t.label t.cost t.xs t.reads good)) refl;
      }

  ended : InLine text begin p line at false a row → Right text begin p line at a row
  ended (other f m) = formed_ended f
  ended (tasks t) = task_ended t

  -- each byte of it stands before the place
  pub ended_reach : InLine text begin p line at false a row → Reaches text begin false at
  ended_reach so = fields_reach false (ended so).fields

  module _ (n : ℕ) (so : InLine text begin p line at false a row) where
    abbrev x : Right text begin p line at a row
    x = ended so

    -- a line with a fault
    pub line_refused : (r : Refusal) → judged line a (length p.tasks) ≡ Err r → comes p n text begin ≡ refused r n
    line_refused r e = comes_refused p n text begin x.l x.fs at x.form x.fields r (sym x.judges ∙ e)

    -- a line without fault: the plan with it
    line_passes : judged line a (length p.tasks) ≡ Ok tt
        → (q : Plan) × (begin < at) × (at ≤ length text) × (comes p n text begin ≡ comes q (n + 1) text at) × Adds text line row p q
    line_passes e = (
      x.l.plan,
      line_forth p n text begin x.l x.fs at x.form x.fields,
      x.fields.within,
      comes_on p n text begin x.l x.fs at x.form x.fields (sym x.judges ∙ e),
      x.adds (refusal_none (first_refusal x.l.asks) (sym x.judges ∙ e)),
    )

-- ---- the lines so far

-- where line n ends the next one begins
next_line : (text : List ℕ) (n begin at : ℕ) → lines_size n text ≡ line_end text begin → at ≡ line_end text begin
    → lines_size (n + 1) text ≡ line_end text at
next_line text n begin at e is =
    let here : lines_size n text ≡ at = e ∙ sym is in
    rw here at (lines_more n 1 text)

-- a line begins at a place: the lines of p are before it, and are kept in what was lent
pub record AtLine (text : List ℕ) (before : Lent) (s : Sofar) (n at : ℕ) (after : Lent) : Type 0 where
  pub p : Plan
  pub sums : Sums s p
  pub low : p.workers ≤ 32
  pub few : length p.tasks ≤ layout.most_tasks
  pub each : length p.orders ≤ at
  pub number : n ≤ at + 1
  pub inside : at ≤ length text
  pub ends : lines_size n text ≡ line_end text at
  pub rows : KeepsTasks text before.rows p.tasks after.rows
  pub lines : KeepsOrders before.lines p.orders after.lines
  pub so : comes p n text at ≡ read_lines empty_plan 1 (split line_feed text)

module _ {text : List ℕ} {before : Lent} {s : Sofar} {n begin : ℕ} {mid : Lent} (g : AtLine text before s n begin mid) where
  -- the line that begins here is in hand, where what is read of it goes on from its first fields
  pub in_hand_lem : {line : Line} {start : Accesses} {first_row : Row} {k at : ℕ} {more : Bool} {a : Accesses} {row : Row}
      → ((p : Plan) → Sums s p → LineAt text begin p first_row (Ok line) k)
      → ((t : Placed) → Reads t [] start (row_of (with_accesses t [])))
      → ((b : ℕ) (p : Plan) → InLine text b p line k line.more start first_row → InLine text b p line at more a row)
      → InLine text begin g.p line at more a row
  in_hand_lem read none_yet on = on begin g.p (line_begins (read g.p g.sums) none_yet)

  -- q is kept, with one line more
  record Grown (q : Plan) (r : Sofar) (after : Lent) : Type 0 where
    pub sums : Sums r q
    pub low : q.workers ≤ 32
    pub few : length q.tasks ≤ layout.most_tasks
    pub each : length q.orders ≤ length g.p.orders + 1
    pub rows : KeepsTasks text before.rows q.tasks after.rows
    pub lines : KeepsOrders before.lines q.orders after.lines

  module _ {line : Line} {row : Row} {after : Lent} {r : Sofar} (k : Keeps s line.kind row mid after r) where
    grown : {q : Plan} → Adds text line row g.p q → Grown q r after
    grown (adds_workers workers form kind low is) =
        rw (is, rw kind at k.counts)
        (record {
          sums = record { workers = refl; form = refl; tasks = g.sums.tasks; orders = g.sums.orders; after = g.sums.after };
          low = low;
          few = g.few;
          each = omega arith;
          rows = rw (rw kind at k.rows) g.rows;
          lines = rw (rw kind at k.lines) g.lines;
        })
    grown (adds_task kind t label few row_is room after is) =
        rw (is, rw kind at k.counts)
        (record {
          sums =
              record {
                workers = g.sums.workers;
                form = g.sums.form;
                tasks = omega (arith, g.sums.tasks, length-append g.p.tasks (t.task ∷ []));
                orders = g.sums.orders;
                after = sym after;
              };
          low = g.low;
          few = omega (arith, length-append g.p.tasks (t.task ∷ []));
          each = omega arith;
          rows = task_kept g.rows t label few (rw (kind, row_is, g.sums.tasks) at k.rows);
          lines = rw (rw kind at k.lines) g.lines;
        })
    grown (adds_mask m kind last is) =
        rw (is, rw kind at k.counts)
        (record {
          sums =
              record {
                workers = g.sums.workers;
                form = g.sums.form;
                tasks = g.sums.tasks ∙ sym (mask_length m g.p.tasks);
                orders = g.sums.orders;
                after = sym (after_mask g.p m);
              };
          low = g.low;
          few = omega (arith, mask_length m g.p.tasks, g.few);
          each = omega arith;
          rows = mask_kept g.rows m (s.tasks - 1) (omega (arith, g.sums.tasks)) (rw kind at k.rows);
          lines = rw (rw kind at k.lines) g.lines;
        })
    grown (adds_order o kind is) =
        rw (is, rw kind at k.counts)
        (record {
          sums =
              record {
                workers = g.sums.workers;
                form = g.sums.form;
                tasks = g.sums.tasks;
                orders = omega (arith, g.sums.orders, length-append g.p.orders (o ∷ []));
                after = sym (after_order g.p o);
              };
          low = g.low;
          few = g.few;
          each = omega (arith, length-append g.p.orders (o ∷ []));
          rows = rw (rw kind at k.rows) g.rows;
          lines = order_kept g.lines o (rw (kind, g.sums.orders) at k.lines);
        })

    pub line_kept : {at : ℕ} {a : Accesses} → InLine text begin g.p line at false a row → judged line a s.tasks ≡ Ok tt
        → (begin < at) × AtLine text before r (n + 1) at after
    line_kept {at} l e =
        let (q, forth, inside, on, adds) = line_passes n l (rw g.sums.tasks at e) in
        let h = grown adds in (
          forth,
          record {
            p = q;
            sums = h.sums;
            low = h.low;
            few = h.few;
            each = omega (arith, h.each, g.each);
            number = omega (arith, g.number);
            inside = inside;
            ends = next_line text n begin at g.ends (ended_reach l).line;
            rows = h.rows;
            lines = h.lines;
            so = sym on ∙ g.so;
          },
        )

-- ---- the end of the text, or a refusal

-- the lines end with a fault of the line that begins at a place, read up to another, where it goes on or has ended; or all is read
abbrev pub Ends : Plan → ℕ → List ℕ → ℕ → Result ReadPlan Fault → ℕ → Type 0
Ends p n text begin (Ok plan) at = (comes p n text begin ≡ accepted p) × (plan ≡ plan_of p) × (at ≡ length text)
Ends p n text begin (Err f) at = (comes p n text begin ≡ refused f.refusal n) × Reaches text begin f.goes_on at

module _ {text : List ℕ} {before : Lent} {s : Sofar} {n begin : ℕ} {after : Lent} (g : AtLine text before s n begin after) where
  -- all lines are read
  pub ends_whole : length text ≤ begin → (found : Result ReadPlan Fault) → AtEnd g.p found → Ends g.p n text begin found begin
  unfolding read_lines split
  ends_whole end (Ok plan) (begun, is) = (rw (drop_of_length-le text end, begun), is, omega (arith, g.inside))
  ends_whole end (Err f) (none_there, is) =
      rw is (
        rw (drop_of_length-le text end, none_there),
        record { on = omega arith; within = g.inside; line = sym (end_past text begin end) },
      )

  -- what was read leads out of the line, which is not of its form
  pub ends_malformed : begin < length text → {m : Malformed} {f : Fault} → (f.refusal ≡ malformed_text) × (f.goes_on ≡ m.goes_on) → {at : ℕ}
      → Formless (line_of_fields g.p) (first_line (drop begin text)) × Reaches text begin m.goes_on at
      → Ends g.p n text begin (Err f) at
  ends_malformed h (refusal, goes_on) (formless, reach) = rw (refusal, goes_on) (comes_formless g.p n text begin h formless, reach)

  -- it has ended, and has a fault
  pub ends_judged : {line : Line} {at : ℕ} {a : Accesses} {row : Row} → InLine text begin g.p line at false a row → {r : Refusal}
      → judged line a s.tasks ≡ Err r → {f : Fault} → (f.refusal ≡ r) × (f.goes_on ≡ false) → Ends g.p n text begin (Err f) at
  ends_judged so {r} e (refusal, goes_on) = rw (refusal, goes_on) (line_refused n so r (rw g.sums.tasks at e), ended_reach so)

  module _ (short : length text ≤ 65536) where
    as_reading : {y : Reading} (r : ReadText) → comes g.p n text begin ≡ y → Gives text before after r y → Gives text before after r (reading text)
    as_reading r why = subst (Gives text before after r) (sym why ∙ g.so ∙ sym (reading_short text short))

    pub gives_plan : {plan : ReadPlan} {at : ℕ} → Ends g.p n text begin (Ok plan) at
        → Gives text before after (record { plan = Ok plan; looks = at }) (reading text)
    gives_plan (why, is, all) = as_reading _ why (record { accepts = ap Ok is; looks = all; rows = g.rows; lines = g.lines })

    -- the faulty line is looked at up to its end
    pub gives_refused : {f : Fault} {at : ℕ} → Ends g.p n text begin (Err f) at → {looks : ℕ} → looks ≡ cond f.goes_on (line_end text at) at
        → Gives text before after (no_plan f.refusal n looks) (reading text)
    gives_refused {f} (why, reach) all =
        as_reading _ why (
          ap (no_plan f.refusal n) (all ∙ reach.line ∙ sym g.ends),
          (map row_of g.rows.placed, g.rows.stores),
          (g.p.orders, g.lines.stores),
        )

-- a text that is too long
pub gives_too_long : (text : List ℕ) (l : Lent) {r : ReadText} → 65536 < length text → r ≡ no_plan TextTooLong 0 0
    → Gives text l l r (reading text)
unfolding lines_size
gives_too_long text l h e = rw (reading_long text h) (e, ([], refl), ([], refl))

pub gives_outlined : (text : List ℕ) (before after : Lent) (r : ReadText) (x : Reading) → Gives text before after r x → r ≡ outlined text x
gives_outlined text before after r (accepted p) g = λ i. record { plan = g.accepts i; looks = g.looks i }
gives_outlined text before after r (refused f n) g = g.0
