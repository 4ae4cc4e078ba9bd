-- A task's line up to its cost: what was read of it, its row and how it is judged. Assumes nothing.
use Rattle.std.specs.Prelude.{Result, Ok, Err, ℕ, ◌+◌, ◌≤◌, ◌<◌, ◌≡◌, refl, Bool, true, false, cond, not, ◌||◌, List, [], ◌∷◌, length, take, drop, eqb, leb, ltb}
use Rattle.std.specs.Prelude as rust
use Rattle.std.proofs.Common.{sym, ap, ◌∙◌, arith}
use Rattle.std.proofs.Math.Option.{none, some}
use mathlib.Core.Bool.{not-not}
use lib.Dec.{leb-suc-suc}
use borrow.Author.Tests.{eqb-true, eqb-false, lt-ltb}
use Rattle.runs.specs.Tests.{ways}
use Rattle.refusals.specs.declared.Refusal.{Refusal}
use Rattle.text.specs.declared.read.Field.{Field}
use Rattle.text.specs.declared.read.Malformed.{Malformed}
use Rattle.text.specs.declared.read.Number.{Number}
use Rattle.text.specs.Text.{number_of}
use Rattle.text.specs.Fields.{ReadNumber, clipped}
use Rattle.text.proofs.FieldLaws.{fields_none, fields_reach, field_bytes}
use Rattle.plan.specs.Plan.{Task, Plan}
use Rattle.plan.specs.Line as plans
use Rattle.plan.specs.Line.{at_start, has_orders, is_label, label_and_cost, task_line}
use Rattle.plan.specs.PassFields.{label_size, ReadLabel}
use Rattle.kept.specs.declared.tasks.Row.{Row}
use Rattle.kept.specs.Tasks.{spread}
use Rattle.lines.specs.declared.line.Kind.TheVariants as kinds
use Rattle.lines.specs.declared.line.Sofar.{Sofar}
use Rattle.lines.specs.Lines.{Sums, judges_first, judges_head, TaskHead, malformed, begun}
use Rattle.lines.proofs.Wholes.{Left, Told, told, untold}
use Rattle.lines.proofs.Judged.{above_clipped, first_is}

-- ---- the label

size_is : (b : Bool) (size len : ℕ) → cond b (some size) none ≡ some len → (b ≡ true) × (size ≡ len)
size_is true size len e = (refl, cc)
size_is false size len e = absurd (cc)

size_none : (b : Bool) (size : ℕ) → cond b (some size) none ≡ none → b ≡ false
size_none true size e = absurd (cc)
size_none false size e = refl

-- ---- lines that are not of the form

module _ (make : Task → plans.Line) (x : List ℕ) where
  label_none : is_label x ≡ false → (gs : List (List ℕ)) → label_and_cost make (x ∷ gs) ≡ none
  label_none e [] = refl
  label_none e (g ∷ gs) = rw e

  cost_none : (y : List ℕ) → number_of y ≡ none → (gs : List (List ℕ)) → label_and_cost make (x ∷ y ∷ gs) ≡ none
  cost_none y e gs = rw e (ways (is_label x) (λ q. rw q) (λ q. rw q))

abbrev pub ToldLabel : List ℕ → ℕ → Field ℕ → ℕ → Type 0
ToldLabel text at f n = Told (λ n. n) label_size text at [] at f n

module _ {text : List ℕ} {at : ℕ} {p : Plan} {row : Row} {n : ℕ} where
  head_left : {wrong : Malformed} → Left (label_and_cost (task_line p)) text at wrong n → TaskHead text at p row (Err wrong) n
  head_left {wrong} l = malformed wrong.goes_on refl l.formless l.reach

  pub head_unlabelled : at ≤ length text → {wrong : Malformed} → ReadLabel text at (Err wrong) n → TaskHead text at p row (Err wrong) n
  head_unlabelled in_text so =
      head_left (untold (fields_none text at in_text) so (label_and_cost (task_line p))
      (λ x e gs. label_none (task_line p) x (size_none (is_label x) (length x) e) gs))

  pub head_ends : {f : Field ℕ} → ToldLabel text at f n → f.more ≡ false → TaskHead text at p row (Err (record { goes_on = false })) n
  head_ends t e = let so = rw e at t.fields in malformed false refl (rw so.line refl) (fields_reach false so)

  pub head_costless : {f : Field ℕ} {then : ℕ} (t : ToldLabel text at f then) → f.more ≡ true → {wrong : Malformed}
      → ReadNumber text then (Err wrong) n → TaskHead text at p row (Err wrong) n
  head_costless t e so =
      head_left (untold (rw e at t.fields) so (label_and_cost (task_line p)) (λ y q gs. cost_none (task_line p) t.bytes y q gs))

-- ---- a line that is

-- the row of a task without accesses
abbrev pub begun_row : ℕ → ℕ → ℕ → Row
begun_row place size cost = record { place = place; size = size; cost = cost; mask = rust.None; count = 0; accesses = spread [] }

same_row : {place place2 size size2 cost cost2 : ℕ} → place ≡ place2 → size ≡ size2 → cost ≡ cost2
    → begun_row place size cost ≡ begun_row place2 size2 cost2
same_row a b c = rw (a, b, c)

some_is : (n : ℕ) → not (eqb n 0) ≡ ltb 0 n
some_is n =
    ways (eqb n 0) (λ e. rw (eqb-true n 0 e)) (λ e. simp (e, lt-ltb 0 n (omega (arith, eqb-false n 0 e))))

module _ {s : Sofar} {p : Plan} (sums : Sums s p) where
  head_judged : (cost n : ℕ) {misplaced : Bool} {judged : Result (Unit {0}) Refusal} → n ≡ clipped cost
      → misplaced ≡ (eqb s.workers 0 || not (eqb s.orders 0)) → judged ≡ judges_first misplaced (ltb 1000 n) → judged ≡ judges_head p cost
  head_judged cost n is place e =
      e ∙ first_is (not (at_start p || has_orders p)) (leb cost 1000)
      (place ∙ rw (sums.workers, sums.orders, some_is (length p.orders)) (sym (not-not (at_start p || has_orders p))))
      (rw is (above_clipped cost 1001 (omega arith) ∙ ap not (leb-suc-suc cost 1000)))

  pub head_begun : {text : List ℕ} {at : ℕ} {label : Field ℕ} {then : ℕ} (t : ToldLabel text at label then) → label.more ≡ true
      → {cost : Field Number} {n : ℕ} → ReadNumber text then (Ok cost) n → {place : ℕ} → place ≡ at
      → {misplaced : Bool} → misplaced ≡ (eqb s.workers 0 || not (eqb s.orders 0))
      → {judged : Result (Unit {0}) Refusal} → judged ≡ judges_first misplaced (ltb 1000 cost.value.value)
      → TaskHead text at p (begun_row place label.value cost.value.value)
      (Ok (record { kind = kinds.Task; judged = judged; more = cost.more })) n
  head_begun {text} {at} {label} {then} t on {cost} so stands place {judged = judged} e =
      let (formed, size) = size_is (is_label t.bytes) (length t.bytes) t.it t.tells in
      let u = told (rw on at t.fields) so in
      let is : cost.value.value ≡ clipped u.it = ap (λ (k : Number). k.value) u.holds in
      begun (record {
        line = record { kind = kinds.Task; judged = judged; more = cost.more };
        is = refl;
        label = t.bytes;
        digits = u.bytes;
        cost = u.it;
        labelled = formed;
        number = u.tells;
        fields = u.fields;
        stands = field_bytes text at t.bytes label.more t.rest t.cut;
        kept = same_row stands (t.holds ∙ sym size) is;
        judged = head_judged u.it cost.value.value is place e;
        kind = refl;
      })
