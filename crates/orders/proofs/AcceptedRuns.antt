-- What holds of every accepted plan: under every list of picks, and under those of its own order lines.
use Rattle.std.specs.Prelude.{ℕ, ◌+◌, ◌*◌, ◌^◌, ◌≤◌, ◌<◌, min, ◌≡◌, refl, ◌⊎◌, true, false, List, length, take}
use Rattle.std.proofs.Common.{◌∙◌, inl, inr, ⊎_elim, arith, length-take, take-take}
use Rattle.std.proofs.Math.ListN.{get_or-eq_default}
use Rattle.runs.specs.Update.{order}
use Rattle.runs.specs.Picks.{Picks, Regular}
use Rattle.lock.proofs.Promise as Lock
use Rattle.plan.specs.Plan.{slots_of, Plan}
use Rattle.plan.specs.Reading.{accepted, reading}
use Rattle.plan.specs.Orders.{picks_of_all, OnlyRounds, picks_up_to}
use Rattle.plan.specs.Chains.{Chain, chain_cost}
use Rattle.plan.specs.Accepted.{WellFormed}
use Rattle.plan.proofs.Accepted.{accepted_well_formed}
use Rattle.plan.specs.Permits.{any_masked}
use Rattle.plan.specs.PermitLaws.{some_permitted}
use Rattle.tasks.specs.Accesses.{task_at}
use Rattle.machine.specs.State.{start}
use Rattle.machine.specs.Step.{finished}
use Rattle.machine.specs.Unmasked.{after_before}
use Rattle.machine.proofs.Unmasked.{unmasked_runs}
use Rattle.machine.specs.Ranges.{Sized}
use Rattle.machine.proofs.Safety as Safety
use Rattle.machine.specs.Safety.Invariant.{Playable}
use Rattle.machine.specs.Figures.{waiting_figure, finishing_figure}
use Rattle.machine.specs.WholeRuns.{WholeRun}
use Rattle.machine.proofs.WholeRuns.{whole_runs}
use Rattle.machine.specs.Givers.{Givers}
use Rattle.machine.proofs.Givers.{givers}
use Rattle.machine.specs.Leaders.{Leaders}
use Rattle.machine.proofs.Leaders.{leaders}
use Rattle.machine.specs.Chains.{Chains}
use Rattle.machine.proofs.Chains.{chains}
use Rattle.orders.specs.Reached.{setup_of, reached}
use Rattle.orders.specs.Picked.{picks_below}
use Rattle.orders.specs.Turns.{picked_in_turn}
use Rattle.orders.proofs.Sizes.{picks_few}

-- head and all wait slots start at the number of slots, the tail one above
pub start_values : (p : Plan) (k : ℕ) → let l = (start (setup_of p)).lock in
    (l.head ≡ slots_of p.form) × (l.tail ≡ slots_of p.form + 1) × (l.wait k ≡ slots_of p.form)
unfolding start
start_values p k =
    let (head, tail) = Lock.start_ends (slots_of p.form) in
    (head, omega (arith, tail), (Lock.start_slots (slots_of p.form) k).0)

-- both figures are those of the workers and the tasks, whatever the form
pub same_figures : (p q : Plan) → p.workers ≡ q.workers → p.tasks ≡ q.tasks → (B d : ℕ)
    → (waiting_figure (setup_of p) B d ≡ waiting_figure (setup_of q) B d) × (finishing_figure (setup_of p) B ≡ finishing_figure (setup_of q) B)
same_figures p q workers tasks B d = rw (workers, tasks) (refl, refl)

module _ (text : List ℕ) (p : Plan) (e : reading text ≡ accepted p) where
  formed : WellFormed p
  formed = accepted_well_formed text p e

  pub playable : Playable (setup_of p)
  playable =
      record {
        workers = formed.workers_some;
        ring = formed.slots_enough;
        room = formed.capacity_some;
        distinct = λ i l. (formed.tasks i l _).addresses_once;
        runnable = λ i l. some_permitted p.workers (task_at p.tasks i) formed.workers_some (formed.tasks i l _).mask_formed;
      }

  -- demand 3, for every list of picks of the plan's workers
  pub accepted_runs : (ws : List ℕ) → Picks p.workers ws → WholeRun (setup_of p) ws
  accepted_runs ws h = whole_runs (setup_of p) playable ws h

  -- and so for the picks of its own order lines, cut at a limit
  pub own_picks : (limit : ℕ) → Picks p.workers (picks_up_to limit p)
  own_picks limit = picks_below limit p formed

  pub own_run : (limit : ℕ) → WholeRun (setup_of p) (picks_up_to limit p)
  own_run limit = accepted_runs (picks_up_to limit p) (own_picks limit)

  -- who gave each task, likewise
  pub accepted_givers : (ws : List ℕ) → Picks p.workers ws → (i : ℕ) → Givers (setup_of p) ws i
  accepted_givers ws h = givers (setup_of p) playable ws h

  pub own_givers : (limit i : ℕ) → Givers (setup_of p) (picks_up_to limit p) i
  own_givers limit = accepted_givers (picks_up_to limit p) (own_picks limit)

  -- who leads the lock, likewise
  pub accepted_leaders : (ws : List ℕ) → Picks p.workers ws → Leaders (setup_of p) ws
  accepted_leaders ws h = leaders (setup_of p) playable ws h

  pub own_leaders : (limit : ℕ) → Leaders (setup_of p) (picks_up_to limit p)
  own_leaders limit = accepted_leaders (picks_up_to limit p) (own_picks limit)

  -- how many picks chains take at the least, likewise
  pub accepted_chains : (ws : List ℕ) → Picks p.workers ws → Chains (setup_of p) ws
  accepted_chains ws h = chains (setup_of p) playable ws h

  pub own_chains : (limit : ℕ) → Chains (setup_of p) (picks_up_to limit p)
  own_chains limit = accepted_chains (picks_up_to limit p) (own_picks limit)

  -- under R lines alone a finished run took at least W times the cost of every chain, and W more for each task of it
  pub own_at_least : OnlyRounds p.orders → (limit : ℕ) → finished (setup_of p) (reached p limit) ≡ true
      → (xs : List ℕ) → Chain p.tasks xs → p.workers * (chain_cost p.tasks xs + length xs) ≤ (reached p limit).picks
  own_at_least only limit = (own_chains limit).in_turn_lem (picked_in_turn limit p formed.workers_some only)

  -- without M lines a run is what it was before there were masks, pick for pick
  pub own_unmasked : any_masked p.tasks ≡ false → (limit : ℕ) → reached p limit ≡ after_before (setup_of p) (picks_up_to limit p)
  own_unmasked none limit = unmasked_runs (setup_of p) none (picks_up_to limit p)

  -- at most four accesses in a task, also past the last
  pub few_accesses : (i : ℕ) → length (task_at p.tasks i).accesses ≤ 4
  few_accesses i =
      ⊎_elim (λ (l : i < length p.tasks). (formed.tasks i l _).accesses_few)
      (λ (l : length p.tasks ≤ i).
      rw (get_or-eq_default p.tasks (record { label = _; cost = 0; accesses = _; mask = _ }) l) (omega arith))
      (order i (length p.tasks))

  -- picks, head and tail of the state that a run reaches stay far below 2^64
  pub numbers_small : (limit : ℕ)
      → ((reached p limit).picks < 2 ^ 42) × ((reached p limit).lock.head < 2 ^ 43) × ((reached p limit).lock.tail < 2 ^ 43)
  numbers_small limit =
      let (a, b) = Safety.picks_counted (setup_of p) playable (picks_up_to limit p) (own_picks limit) in
      let (h, t, _) = Safety.ends_bounded (setup_of p) playable (picks_up_to limit p) (own_picks limit) in
      let few = picks_few text p e limit in
      let slots = formed.slots_few in
      (omega arith, omega arith, omega arith)

  -- picks stop at the limit, the end of the order or when finished, whichever is first: each one taken finds a state that isn't finished
  pub own_taken : (limit : ℕ)
      → (((reached p limit).picks ≡ min limit (length (picks_of_all p.workers p.orders)))
      ⊎ (finished (setup_of p) (reached p limit) ≡ true))
      × ((n : ℕ) → n < (reached p limit).picks → finished (setup_of p) (reached p n) ≡ false)
  own_taken limit =
      let all = picks_of_all p.workers p.orders in
      let (a, b) = Safety.picks_counted (setup_of p) playable (picks_up_to limit p) (own_picks limit) in
      let (stops, goes_on_lem) = Safety.taken_until (setup_of p) playable (picks_up_to limit p) (own_picks limit) in (
        ⊎_elim (λ e. inl (e ∙ length-take limit all)) inr stops,
        λ n l.
            let front : take n (picks_up_to limit p) ≡ picks_up_to n p = take-take n limit all (omega (arith, length-take limit all)) in
            rw front at (goes_on_lem n l),
      )

  -- where the finishing figure applies the run is finished, with no more picks taken than that
  pub own_finish : (limit B : ℕ) → Regular p.workers B (picks_up_to limit p) → finishing_figure (setup_of p) B ≤ length (picks_up_to limit p)
      → (finished (setup_of p) (reached p limit) ≡ true) × ((reached p limit).picks ≤ finishing_figure (setup_of p) B)
  own_finish limit B g l = let (e, k, _) = (own_run limit).finishing B g l in (e, k)

  -- the plan is within the sizes that the layout in memory has room for
  pub sized : Sized (setup_of p)
  sized =
      record {
        workers = formed.workers_few;
        ring = omega (arith, formed.workers_some, formed.slots_enough);
        slots = formed.slots_few;
        capacity = formed.capacity_few;
        tasks = formed.tasks_few;
        accesses = few_accesses;
        masks = λ i l. (formed.tasks i l _).mask_formed;
      }
