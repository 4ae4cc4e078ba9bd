-- Who gave each task: what every list of workers' picks from a fresh start says of the givers.
use Rattle.std.specs.Prelude.{ℕ, suc, ◌≤◌, ◌<◌, ◌≡◌, ◌↔◌, ◌≢◌, List}
use Rattle.std.proofs.Math.Option.{none, some}
use Rattle.std.proofs.Math.ListN.{get_elem?}
use Rattle.tasks.specs.Tasks.{ready, held, stage, is_received}
use Rattle.machine.specs.State.{Setup, looking, start}
use Rattle.machine.specs.Event.{Event}
use Rattle.machine.specs.Step.{after}
use Rattle.machine.specs.Trace.{trace, tally, is_taking, is_handing, handed_with}

-- at place k of the list worker g hands over, and this lets worker v in with task i in its cell
abbrev pub LetsIn : Setup → List ℕ → ℕ → ℕ → ℕ → ℕ → Event → Type 0
LetsIn c ws i g v k e =
    (get_elem? (trace c (start c) ws) k ≡ some (record { by = g; what = e })) × (handed_with e ≡ some (record { by = g; to = v; task = i }))

-- of task i
pub record Givers (c : Setup) (ws : List ℕ) (i : ℕ) : Type 0 where
  -- a giver is a worker
  pub worker : (g : ℕ) → (after c ws).giver i ≡ some g → g < c.workers
  -- while it is new, waiting or ready it has no giver
  pub early : stage ((after c ws).tasks.status i) ≤ stage ready → (after c ws).giver i ≡ none
  -- while it is held, in the cell of worker v and under ticket t, it has one exactly when that ticket is below the tail
  pub held : (v t : ℕ) → v < c.workers → (after c ws).place v ≡ looking t → (after c ws).lock.cell_ticket v ≡ t
      → (after c ws).lock.cell_task v ≡ i
      → ((after c ws).tasks.status i ≡ held) × (((g : ℕ) × ((after c ws).giver i ≡ some g)) ↔ (t < (after c ws).lock.tail))
  -- that is another worker than v, and the list has exactly one hand-over of this task: by that worker, it let v in with the task in its
  -- cell
  pub let_in_lem : (v t : ℕ) → v < c.workers → (after c ws).place v ≡ looking t → (after c ws).lock.cell_ticket v ≡ t
      → (after c ws).lock.cell_task v ≡ i → (g : ℕ) → (after c ws).giver i ≡ some g
      → (g ≢ v) × (tally (is_handing i) (trace c (start c) ws) ≡ 1) × ((k : ℕ) × (e : Event) × LetsIn c ws i g v k e)
  -- once it is run or over it has one
  pub received : is_received ((after c ws).tasks.status i) ≡ 1 → (g : ℕ) × ((after c ws).giver i ≡ some g)
  -- that is the runner itself exactly when its receipt was a taking from the ready list
  pub own : is_received ((after c ws).tasks.status i) ≡ 1
      → ((after c ws).giver i ≡ some ((after c ws).tasks.runner i)) ↔ (tally (is_taking i) (trace c (start c) ws) ≡ 1)
  -- otherwise it is another worker, and the list has exactly one hand-over of this task: by that worker, it let the runner in with the
  -- task in its cell, before the receipt
  pub other : is_received ((after c ws).tasks.status i) ≡ 1 → (g : ℕ) → (after c ws).giver i ≡ some g
      → g ≢ (after c ws).tasks.runner i
      → (tally (is_handing i) (trace c (start c) ws) ≡ 1)
      × ((k : ℕ) × (e : Event) × LetsIn c ws i g ((after c ws).tasks.runner i) k e × (suc k < (after c ws).tasks.receipt i))
