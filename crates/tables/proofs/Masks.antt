-- Masks while they are laid. Assumes nothing.
use Prim.Native.Nat.{ℕ, ◌+◌, ◌*◌, ◌-◌, ◌%◌, ◌^◌, ◌≤◌, ◌<◌}
use Rattle.std.specs.Prelude as rust
use mathlib.Core.Path.{◌≡◌, refl, ap, ◌∙◌}
use mathlib.Core.List.{List}
use mathlib.Core.Option.{Option, none, some}
use native.Mathlib.Omega.{arith}
use native.Mathlib.Nat.{mod-eq_of_lt, one-mul, pow-le-pow_right}
use native.Mathlib.Numerals.{add-one}
use lib.ListN.{length, set}
use Rattle.plan.specs.Plan.{Plan}
use Rattle.plan.specs.PermitLaws.{mask_of, positive}
use Rattle.plan.specs.Reading.{reading, accepted}
use Rattle.tasks.specs.Accesses.{no_task, task_at}
use Rattle.kept.specs.Tasks.{row_at, mask_in, HasTasks}
use Rattle.kept.specs.declared.tasks.Row.{Row}
use Rattle.memory.specs.Layout as layout
use Rattle.tables.specs.Tables.{task_mask, LaidRows}
use Rattle.tables.proofs.Rows.{rows_more}

-- 1 shifted by the number of workers
pub shifted : (W : ℕ) → W ≤ layout.most_workers → 1 * 2 ^ W % 2 ^ 64 ≡ 2 ^ W
shifted W l =
    let once : 1 * 2 ^ W ≡ 2 ^ W = one-mul (2 ^ W) in
    rw once (mod-eq_of_lt (omega (arith, pow-le-pow_right {n = 2} (omega arith) l)))

pub some_shifted : (W : ℕ) → W ≤ layout.most_workers → 1 ≤ 1 * 2 ^ W % 2 ^ 64
some_shifted W l = omega (arith, shifted W l, positive W)

-- the mask of a task, or that of all workers
pub mask_is : (W : ℕ) → W ≤ layout.most_workers → (o : Option ℕ) → {mask : rust.Option ℕ} → mask ≡ mask_in o
    → rust.unwrap_or mask (1 * 2 ^ W % 2 ^ 64 - 1) ≡ mask_of W o
mask_is W l none e = rw e (ap (λ (n : ℕ). n - 1) (shifted W l))
mask_is W l (some m) e = rw e refl

-- one mask more
pub mask_laid : (text : List ℕ) (p : Plan) → reading text ≡ accepted p → (count : ℕ) → count ≡ length p.tasks → (kept : List Row)
    → HasTasks text kept p.tasks → (before masks : List ℕ) (i workers mask : ℕ) (row : Row) → i < count → i < length masks → row ≡ row_at kept i
    → workers ≡ p.workers → ((o : Option ℕ) → row.mask ≡ mask_in o → mask ≡ mask_of workers o)
    → LaidRows 0 i (task_mask p.workers p.tasks) before masks
    → LaidRows 0 (i + 1) (task_mask p.workers p.tasks) before (set masks i mask)
mask_laid text p e count size kept has before masks i workers mask row less room is same laid h =
    let l : i < length p.tasks = omega arith in
    let t = task_at p.tasks i in
    let right : mask ≡ mask_of p.workers t.mask =
    rw same at
    (laid t.mask (ap (λ (r : Row). r.mask) is ∙ (has i l no_task).mask)) in
    rw (add-one i, right) (rows_more 0 i (task_mask p.workers p.tasks) before masks room h)
