-- Texts with two faults, read: which one decides. The first faulty line does, and in it the refusals come in the order 1, 3, 2, 4, 5; in a
-- W line in the order 1, 3, 2, 9; in an M line in the order 1, 3, 2, 11.
use Rattle.std.specs.Prelude.{◌≡◌, ℕ, List, [], ◌∷◌, refl}
use Prim.Native.String.{String}
use Rattle.refusals.specs.declared.Refusal.{Refusal}
use Rattle.refusals.specs.declared.Refusal.TheVariants.{Malformed, OutOfRange, Misplaced, TooMany, AddressTwice, TooFewSlots, EmptyMask}
use Rattle.runs.specs.Every.{every}
use Rattle.text.specs.Text.{bytes, all_of, split, value_after, number_of}
use Rattle.plan.specs.Plan.{mask_last}
use Rattle.plan.specs.Line.{repeats, ends_unmasked, access_of, line_by, line_of_fields}
use Rattle.plan.specs.Reading.{refused, first_refusal, read_lines, reading}

pub record Faulty : Type 0 where
  pub text : String
  pub refusal : Refusal
  pub line : ℕ

abbrev pub faulty : String → Refusal → ℕ → Faulty
faulty text refusal line = record { text = text; refusal = refusal; line = line }

abbrev pub AllRefused : List Faulty → Type 0
AllRefused [] = Unit {0}
AllRefused (f ∷ fs) = (reading (bytes f.text) ≡ refused f.refusal f.line) × AllRefused fs

abbrev pub two_faults : List Faulty
two_faults =
    -- 1 and not 3: two fields after an order line; no line feed and no W line
    faulty "W\t1\nR\t1\nT\ta\n" Malformed 3
    ∷ faulty "T\ta\t0" Malformed 1
    -- 1 and not 2: no line feed
    ∷ faulty "W\t33" Malformed 1
    -- 3 and not 2: a T line after an order line, a second W line, an order line before the W line
    ∷ faulty "W\t1\nR\t1\nT\ta\t1001\n" Misplaced 3
    ∷ faulty "W\t1\nW\t33\n" Misplaced 2
    ∷ faulty "R\t0\n" Misplaced 1
    -- 2 and not 4, and not 5
    ∷ faulty "W\t1\nT\ta\t0\tr1\tr2\tr3\tr4\tr65536\n" OutOfRange 2
    ∷ faulty "W\t1\nT\ta\t0\tr65536\tr65536\n" OutOfRange 2
    -- 4 and not 5
    ∷ faulty "W\t1\nT\ta\t0\tr1\tr2\tr3\tr4\tr1\n" TooMany 2
    -- 5 in a line before one that is malformed
    ∷ faulty "W\t1\nT\ta\t0\tr5\tr5\nT\n" AddressTwice 2
    ∷ []

-- by computation
pub two_faults_lem : AllRefused two_faults
unfolding bytes every all_of split value_after number_of access_of line_by line_of_fields repeats first_refusal read_lines reading
two_faults_lem = (refl, (refl, (refl, (refl, (refl, (refl, (refl, (refl, (refl, (refl, tt))))))))))

-- W lines that are not of the first form
abbrev pub workers_faults : List Faulty
workers_faults =
    -- 1 and not 2, and not 9: two numbers, four numbers, a field that is no number, no line feed
    faulty "W\t33\t0\n" Malformed 1
    ∷ faulty "W\t2\t1\t0\t1\n" Malformed 1
    ∷ faulty "W\t2\t1\t-\n" Malformed 1
    ∷ faulty "W\t2\t1\t1" Malformed 1
    -- 1 and not 3
    ∷ faulty "W\t1\nW\t2\t1\n" Malformed 2
    -- 3 and not 2, and not 9
    ∷ faulty "W\t1\nW\t33\t1\t17\n" Misplaced 2
    ∷ faulty "W\t2\t2\t1\nW\t2\t1\t1\n" Misplaced 2
    -- 2 and not 9: each number out of its range
    ∷ faulty "W\t33\t1\t1\n" OutOfRange 1
    ∷ faulty "W\t2\t0\t1\n" OutOfRange 1
    ∷ faulty "W\t66\t65\t1\n" OutOfRange 1
    ∷ faulty "W\t2\t1\t0\n" OutOfRange 1
    ∷ faulty "W\t2\t1\t17\n" OutOfRange 1
    -- 9 in a line before one that is malformed
    ∷ faulty "W\t2\t1\t1\nT\n" TooFewSlots 1
    ∷ []

pub workers_faults_lem : AllRefused workers_faults
unfolding bytes every split value_after number_of line_by line_of_fields first_refusal read_lines reading
workers_faults_lem = (refl, (refl, (refl, (refl, (refl, (refl, (refl, (refl, (refl, (refl, (refl, (refl, (refl, tt)))))))))))))

-- M lines
abbrev pub mask_faults : List Faulty
mask_faults =
    -- 1 and not 3: two numbers before the W line, no number after an order line
    faulty "M\t1\t2\n" Malformed 1
    ∷ faulty "W\t1\nR\t1\nM\n" Malformed 3
    -- 1 and not 2, and not 11: no line feed, two numbers
    ∷ faulty "W\t1\nT\ta\t0\nM\t2" Malformed 3
    ∷ faulty "W\t1\nT\ta\t0\nM\t0\t0\n" Malformed 3
    -- 3: before the W line, directly after it, after an order line, after an M line
    ∷ faulty "M\t1\n" Misplaced 1
    ∷ faulty "W\t2\nM\t1\n" Misplaced 2
    ∷ faulty "W\t2\nT\ta\t0\nR\t1\nM\t1\n" Misplaced 4
    ∷ faulty "W\t2\nT\ta\t0\nM\t1\nM\t1\n" Misplaced 4
    -- and not 2
    ∷ faulty "M\t4294967296\n" Misplaced 1
    ∷ faulty "W\t2\nT\ta\t0\nM\t1\nM\t4\n" Misplaced 4
    -- and not 11
    ∷ faulty "W\t2\nM\t0\n" Misplaced 2
    ∷ faulty "W\t2\nT\ta\t0\nR\t1\nM\t0\n" Misplaced 4
    -- no mask is both out of range and 0: a bit at W is 2, no bit is 11
    ∷ faulty "W\t2\nT\ta\t0\nM\t4\n" OutOfRange 3
    ∷ faulty "W\t2\nT\ta\t0\nM\t0\n" EmptyMask 3
    -- 11 in a line before one that is malformed
    ∷ faulty "W\t2\nT\ta\t0\nM\t0\nT\n" EmptyMask 3
    ∷ []

pub mask_faults_lem : AllRefused mask_faults
unfolding bytes every all_of split value_after number_of mask_last ends_unmasked line_by line_of_fields repeats first_refusal read_lines reading
mask_faults_lem = (refl, (refl, (refl, (refl, (refl, (refl, (refl, (refl, (refl, (refl, (refl, (refl, (refl, (refl, (refl, tt)))))))))))))))
