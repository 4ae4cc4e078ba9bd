-- The memory of a run in which no pick has been taken holds the start.
use Rattle.std.specs.Prelude.{ℕ, ◌+◌, ◌*◌, ◌≤◌, ◌<◌, ◌≡◌, refl, List, [], length, take, drop, replicate}
use Rattle.std.proofs.Common.{arith, sym, ap, ◌∙◌}
use Rattle.std.proofs.Math.Option.{none}
use Rattle.std.proofs.Math.ListN.{get_or, length-take, length-drop, get_or-eq_default}
use Rattle.std.proofs.lemmas.List.{get_or-replicate}
use Rattle.std.proofs.Math.Seq.{get_or-take, get_or-drop}
use Rattle.std.proofs.Math.Logic.{⊎_elim}
use Rattle.runs.specs.Update.{order}
use Rattle.runs.specs.Circular.{entries_none}
use Rattle.lock.specs.Lock as L
use Rattle.lock.specs.Arrays.{lock_of}
use Rattle.lock.specs.declared.Ends.{Ends}
use Rattle.tasks.specs.Flags.{no_flag}
use Rattle.tasks.specs.Tasks as T
use Rattle.memory.specs.Layout as layout
use Rattle.memory.specs.Rows.{TaskRows, AccessRows}
use Rattle.memory.specs.declared.rows.TaskRow.{TaskRow}
use Rattle.memory.specs.declared.rows.AccessRow.{AccessRow}
use Rattle.memory.specs.Memory.{fresh_tally}
use Rattle.memory.specs.Starting as tasks
use Rattle.machine.specs.State.{Setup, idle, start}
use Rattle.steps.specs.Layout.{share_size, station_size, place_at, queued_at, queue_from, queue_slots, most_workers, shares_size, READY}
use Rattle.steps.specs.Memory.{share, part, station, Stationed, Given, Masked, Holds}
use Rattle.steps.specs.declared.Counts.{Counts}
use Rattle.steps.specs.declared.device.Device.{Device}
use Rattle.scheduler.specs.Lent.{memory}

abbrev pub fresh_counts : Ends → (workers slots capacity tasks : ℕ) → Counts
fresh_counts ends workers slots capacity tasks =
    record {
      ends = ends;
      workers = workers;
      slots = slots;
      capacity = capacity;
      ready_at = 0;
      ready = 0;
      picks = 0;
      tally = fresh_tally tasks;
    }

-- ---- a store whose shares are all zeros

module _ (store : List ℕ) (long : shares_size ≤ length store) (zeros : take shares_size store ≡ replicate shares_size 0) (w : ℕ)
    (few : w < most_workers) where
  zero_store : (k : ℕ) → k < shares_size → get_or store k 0 ≡ 0
  zero_store k l =
      sym (get_or-take shares_size store k 0 l) ∙ ap (λ (xs : List ℕ). get_or xs k 0) zeros ∙ get_or-replicate shares_size k 0 0 l

  share_long : length (share store w) ≡ share_size
  unfolding share
  share_long = omega (arith, length-take share_size (drop (w * share_size) store), length-drop (w * share_size) store)

  zero_share : (k : ℕ) → get_or (share store w) k 0 ≡ 0
  unfolding share
  zero_share k =
      ⊎_elim
      (λ (l : k < share_size).
      get_or-take share_size (drop (w * share_size) store) k 0 l ∙ get_or-drop (w * share_size) store k 0
      ∙ zero_store (w * share_size + k) (omega arith))
      (λ (l : share_size ≤ k). get_or-eq_default (share store w) 0 (omega (arith, share_long)))
      (order k share_size)

  zero_station : (k : ℕ) → k < station_size → get_or (station (share store w)) k 0 ≡ 0
  zero_station k l = get_or-take station_size (share store w) k 0 l ∙ zero_share k

  -- the worker is idle, and its queue is empty
  starts_idle : Stationed (station (share store w)) idle []
  starts_idle =
      record {
        long = omega (arith, share_long, length-take station_size (share store w));
        place = zero_station place_at (omega arith);
        queue = rw (zero_station queued_at (omega arith))
            (entries_none (λ k. get_or (station (share store w)) (queue_from + k) 0) queue_slots 0);
      }

  zero_part : (k : ℕ) → get_or (part (share store w)) k 0 ≡ 0
  zero_part k = get_or-drop station_size (share store w) k 0 ∙ zero_share (station_size + k)

  part_long : length (part (share store w)) ≡ layout.part
  part_long = omega (arith, share_long, length-drop station_size (share store w))

-- ---- and a device with no giver and with the plan's masks

module _ (c : Setup) (few : c.workers ≤ most_workers) where
  pub starts : (ends : Ends) (wait registrations tickets cells : List ℕ) (device : Device) (rows : List TaskRow) (accesses : List AccessRow) (store : List ℕ)
      → shares_size ≤ length store → take shares_size store ≡ replicate shares_size 0
      → Given (length c.tasks) device.givers (λ _. none) → Masked c.workers c.tasks device.masks
      → lock_of c.slots ends.head.0 ends.tail.0 wait registrations tickets cells ≡ L.start c.slots
      → TaskRows c.tasks rows (λ _. 0) (λ _. T.new) (λ _. 0) (λ _. 0) (λ _. 0) → AccessRows c.tasks accesses (λ _. no_flag)
      → Holds c
      (memory (fresh_counts ends c.workers c.slots c.capacity (length c.tasks)) wait registrations tickets cells device rows
      accesses)
      (share store) (start c)
  unfolding start
  starts ends wait registrations tickets cells device rows accesses store long zeros givers masks lock task_rows_lem access_rows_lem =
      record {
        lock = lock;
        tasks = tasks.starts c.workers c.tasks rows accesses (λ v. part (share store v)) task_rows_lem access_rows_lem
            (λ v l. tasks.part_starts (part (share store v)) (part_long store long zeros v (omega arith))
            (zero_part store long zeros v (omega arith)));
        device = record {
          workers = refl;
          slots = refl;
          capacity = refl;
          stationed = λ v l. starts_idle store long zeros v (omega arith);
          slotted = λ v l. tt;
          ready_at_lem = omega arith;
          ready = entries_none (λ k. get_or device.ready k 0) READY 0;
          givers = givers;
          masks = masks;
        };
        picks = refl;
      }
