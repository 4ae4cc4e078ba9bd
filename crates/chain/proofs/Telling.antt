-- From what is read and linked to the answer. Assumes nothing.
use Rattle.std.specs.Prelude.{Ok, ℕ, ◌≤◌, ◌<◌, ◌≡◌, refl, List, ◌∷◌, map, length, take}
use Rattle.std.proofs.Common.{sym, ap, ◌∙◌, arith, length-take, get_or-take}
use Rattle.refusals.specs.declared.Refusal.{Refusal}
use Rattle.refusals.specs.declared.Refusal.TheVariants.{OutputTooShort}
use Rattle.text.specs.Text.{decimal, line}
use Rattle.text.specs.Writing.{Said, plain, fields, Wrote}
use Rattle.text.specs.WritingLaws.{wrote_as, told_length, wrote_whole}
use Rattle.plan.specs.Plan.{Task, Plan}
use Rattle.plan.specs.Chains.{no_task}
use Rattle.plan.specs.Reading.{Reading, accepted, refused, reading}
use Rattle.plan.proofs.Accepted.{accepted_well_formed}
use Rattle.kept.specs.Layout as layout
use Rattle.kept.specs.declared.tasks.Row.{Row}
use Rattle.kept.specs.Tasks.{blank, TaskIn}
use Rattle.kept.specs.TaskLaws.{tasks_length, has_tasks}
use Rattle.reader.specs.declared.ReadText.{ReadText}
use Rattle.reader.specs.declared.ReadPlan.{ReadPlan}
use Rattle.reader.specs.Verdict.{refused_at, Lent, Gives}
use Rattle.reader.specs.Given.{read_accepted}
use Rattle.tools.specs.Result.{result, of_plan, Outcome, outcome, written}
use Rattle.tools.specs.Written.{written_short, written_whole, written_refused}
use Rattle.chain.specs.declared.link.Link.{Link}
use Rattle.chain.specs.Longest.{longest, chain_line, chain_of}
use Rattle.chain.specs.Links.{Kept, Leads, Known, Starts, Rising}
use Rattle.chain.proofs.Scan.{known_rising}

-- ---- the tasks of a plan that was read

in_front : {text : List ℕ} {t : Task} (rows : List Row) (n i : ℕ) → i < n → TaskIn text rows i t → TaskIn text (take n rows) i t
in_front rows n i l h =
    let same = get_or-take n rows i blank l in
    record {
      label = rw same h.label;
      size = rw same h.size;
      cost = rw same h.cost;
      mask = rw same h.mask;
      count = rw same h.count;
      accesses = rw same h.accesses;
    }

-- there are rows for them, which are theirs
pub kept_tasks : (text : List ℕ) (before after : Lent) (r : ReadText) → Gives text before after r (reading text) → length before.rows ≡ layout.most_tasks
    → (plan : ReadPlan) → r.plan ≡ Ok plan
    → (plan.tasks ≤ length after.rows) × (p : Plan) × (reading text ≡ accepted p) × Kept (take plan.tasks after.rows) p.tasks
kept_tasks text before after r gives room plan e =
    let (p, q, is, says) = read_accepted text before after r gives plan e in
    let formed = accepted_well_formed text p q in
    let few : length p.tasks ≤ layout.most_tasks = formed.tasks_few in
    let has = has_tasks says.rows (omega (arith, few, room)) in
    let rows = tasks_length says.rows in
    let count = length-take (length p.tasks) after.rows in
    rw is (
      omega (arith, few, rows, room),
      p,
      q,
      record {
        text = text;
        tasks = λ i l d. in_front after.rows (length p.tasks) i l (has i l d);
        count = omega (arith, count, few, rows, room);
        few = omega (arith, count, few);
        accesses = λ i l. (formed.tasks i l no_task).accesses_few;
        cheap = λ i l. (formed.tasks i l no_task).cost_low;
      },
    )

-- ---- the line

module _ {ts : List Task} {links : List Link} {first : Link} {n : ℕ} (count : n ≡ length ts) (starts : Starts ts links first) where
  pub leads_longest : Leads links n first.next (longest ts)
  leads_longest = rw count starts.leads

  abbrev numbers : Said
  numbers = fields (decimal first.sum ∷ map decimal (longest ts))

  wrote_line : {out : List ℕ} {r : ℕ} {after : List ℕ} → Wrote out 0 numbers r after → Wrote out 0 (plain (chain_line ts)) r after
  unfolding chain_line
  wrote_line wrote = wrote_as (ap (λ (k : ℕ). line (decimal k ∷ map decimal (longest ts))) (sym starts.sum)) wrote

  -- its length is told by what is written into nothing
  module _ {none none' : List ℕ} {size : ℕ} (told : Wrote none 0 numbers size none') (output : List ℕ) where
    size_told : size ≡ length (chain_line ts)
    size_told = told_length (wrote_line told)

    pub told_short : length output < size → outcome (refused_at OutputTooShort 0) output ≡ written output (result (chain_line ts))
    told_short l = sym (written_short output (chain_line ts) (omega (arith, size_told)))

    pub told_whole : size ≤ length output → {r : ℕ} {after : List ℕ} → Wrote output 0 numbers r after
        → outcome (Ok r) after ≡ written output (result (chain_line ts))
    told_whole l wrote =
        let room : length (chain_line ts) ≤ length output = omega (arith, size_told) in
        rw (told_length (wrote_line wrote), wrote_whole (wrote_line wrote) room) (sym (written_whole output (chain_line ts) room))

-- what the line asks of the links
pub can_put : {rows : List Row} {ts : List Task} {links : List Link} → Kept rows ts → length links ≡ length rows → Known ts links 0
    → (length links ≤ layout.most_tasks) × Rising links × ◌≡◌ {A = ℕ} 0 0
can_put {ts = ts} kept size known = (omega (arith, kept.few), known_rising ts _ (size ∙ kept.count) known, refl)

-- ---- the answer

pub answer_refused : (output text : List ℕ) (x : Refusal) (n : ℕ) → reading text ≡ refused x n
    → outcome (refused_at x n) output ≡ written output (chain_of text)
unfolding chain_of
answer_refused output text x n e = written_refused output (λ p. result (chain_line p.tasks)) x n (reading text) e

pub answer_accepted : (output text : List ℕ) (p : Plan) → reading text ≡ accepted p → (o : Outcome)
    → o ≡ written output (result (chain_line p.tasks)) → o ≡ written output (chain_of text)
unfolding chain_of
answer_accepted output text p e o w = w ∙ sym (ap (λ (y : Reading). written output (of_plan (λ q. result (chain_line q.tasks)) y)) e)
