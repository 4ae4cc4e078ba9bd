-- From a tool's answer to the bytes that its program prints.
use Rattle.std.specs.Prelude as rust
use Rattle.std.specs.Prelude.{ℕ, ◌≤◌, ◌≡◌, refl, List, ◌++◌, length, take, drop}
use Rattle.std.proofs.Common.{sym, ◌∙◌, arith, length-append, take_at, drop_at}
use Rattle.std.proofs.Math.Path.{ap, subst}
use Rattle.refusals.specs.declared.Refused.{Refused}
use Rattle.refusals.specs.Number.{number}
use Rattle.refusals.specs.Line.{refusal_fields}
use Rattle.text.specs.Text.{line}
use Rattle.text.specs.Writing.{plain, fields, Wrote}
use Rattle.text.specs.WritingLaws.{told_length, wrote_whole, wrote_as}
use Rattle.tools.specs.Result.{Result, result, refusal, Outcome, outcome, written, printed}
use Rattle.tools.specs.Written.{written_whole}
use Rattle.tools.specs.Printing.{Shown, Front}

pub front : (n : ℕ) (bs output after : List ℕ) → n ≡ length bs → after ≡ bs ++ drop (length bs) output → Front n bs output after
front n bs output after e q =
    let first : take n after ≡ bs = rw q (take_at bs (drop (length bs) output) n (sym e)) in
    record {
      within = omega (arith, ap length q, length-append bs (drop (length bs) output));
      whole = rw first e;
      bytes = first;
      later = rw q (drop_at bs (drop (length bs) output) n (sym e) ∙ ap (λ (k : ℕ). drop k output) (sym e));
    }

-- a line that was written at the front, where there is room for it
pub line_front : (fs : List (List ℕ)) {n : ℕ} {output after : List ℕ} → Wrote output 0 (fields fs) n after → n ≤ length output
    → Front n (line fs) output after
line_front fs {n} {output} {after} wrote room =
    let plainly : Wrote output 0 (plain (line fs)) n after = wrote_as refl wrote in
    front n (line fs) output after (told_length plainly) (wrote_whole plainly (omega (arith, told_length plainly)))

-- an output that is long enough for every refusal's line, and for the result if there is one, begins in the end with what is to be printed
module _ (output mid after : List ℕ) (a : rust.Result ℕ Refused) (n : ℕ) (shown : Shown a mid n after) (room : 26 ≤ length output) where
  pub prints : (x : Result) → ((bs : List ℕ) → x ≡ result bs → length bs ≤ length output) → outcome a mid ≡ written output x
      → Front n (printed x) output after
  unfolding written
  prints (result bs) long e =
      let w = e ∙ written_whole output bs (long bs refl) in
      let (same, kept) = subst (λ (b : rust.Result ℕ Refused). Shown b mid n after) (ap (λ (o : Outcome). o.answer) w) shown in
      front n bs output after same (kept ∙ ap (λ (o : Outcome). o.output) w)
  prints (refusal r k) long e =
      let kept : mid ≡ output = ap (λ (o : Outcome). o.output) e in
      let (wrote, short) = subst (λ (b : rust.Result ℕ Refused). Shown b mid n after) (ap (λ (o : Outcome). o.answer) e) shown in
      line_front (refusal_fields (number r) k) (rw kept at wrote) (omega arith)
