-- Plans with M lines, read: the mask is that of the task before, at the ends of its range and one past them.
use Rattle.std.specs.Prelude.{ℕ, List, [], ◌∷◌, refl}
use Prim.Native.String.{String}
use Rattle.std.proofs.Math.Option.{Option, none, some}
use Rattle.refusals.specs.declared.Refusal.TheVariants.{OutOfRange, EmptyMask}
use Rattle.runs.specs.Every.{every}
use Rattle.text.specs.Text.{bytes, all_of, split, value_after, number_of}
use Rattle.plan.specs.declared.form.Form.TheVariants.{First}
use Rattle.plan.specs.Plan.{Task, rounds, Plan, mask_last, with_order}
use Rattle.plan.specs.Line.{repeats, ends_unmasked, line_by, line_of_fields}
use Rattle.plan.specs.Reading.{first_refusal, read_lines, reading}
use Rattle.plan.specs.TwoFaults.{Faulty, faulty, AllRefused}
use Rattle.plan.specs.Forms.{Meaning, meaning, AllAccepted}

abbrev named : String → Option ℕ → Task
named label mask = record { label = bytes label; cost = 0; accesses = []; mask = mask }

abbrev planned : ℕ → List Task → Plan
planned n ts = record { workers = n; form = First; tasks = ts; orders = [] }

abbrev pub masks : List Meaning
masks =
    meaning "W\t2\nT\ta\t0\nM\t1\n" (planned 2 (named "a" (some 1) ∷ []))
    ∷ meaning "W\t2\nT\ta\t0\nM\t2\n" (planned 2 (named "a" (some 2) ∷ []))
    ∷ meaning "W\t2\nT\ta\t0\nM\t3\n" (planned 2 (named "a" (some 3) ∷ []))
    -- of two tasks the first, the last, both
    ∷ meaning "W\t2\nT\ta\t0\nM\t1\nT\tb\t0\n" (planned 2 (named "a" (some 1) ∷ named "b" none ∷ []))
    ∷ meaning "W\t2\nT\ta\t0\nT\tb\t0\nM\t2\n" (planned 2 (named "a" none ∷ named "b" (some 2) ∷ []))
    ∷ meaning "W\t2\nT\ta\t0\nM\t1\nT\tb\t0\nM\t2\n" (planned 2 (named "a" (some 1) ∷ named "b" (some 2) ∷ []))
    -- an order line after it
    ∷ meaning "W\t2\nT\ta\t0\nM\t1\nR\t4\n" (with_order (planned 2 (named "a" (some 1) ∷ [])) (rounds 4))
    -- all of 32 workers
    ∷ meaning "W\t32\nT\ta\t0\nM\t4294967295\n" (planned 32 (named "a" (some 4294967295) ∷ []))
    ∷ []

abbrev pub no_masks : List Faulty
no_masks =
    faulty "W\t2\nT\ta\t0\nM\t4\n" OutOfRange 3
    ∷ faulty "W\t32\nT\ta\t0\nM\t4294967296\n" OutOfRange 3
    -- 30 digits
    ∷ faulty "W\t2\nT\ta\t0\nM\t100000000000000000000000000001\n" OutOfRange 3
    ∷ faulty "W\t2\nT\ta\t0\nM\t0\n" EmptyMask 3
    ∷ []

-- by computation
pub masks_read : AllAccepted masks × AllRefused no_masks
unfolding bytes every all_of split value_after number_of mask_last repeats ends_unmasked line_by line_of_fields first_refusal read_lines reading
masks_read = (
  (refl, (refl, (refl, (refl, (refl, (refl, (refl, (refl, tt)))))))),
  (refl, (refl, (refl, (refl, tt)))),
)
