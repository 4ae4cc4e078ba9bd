-- The paper's starred examples, as a table and one theorem over it.
use Rattle.std.specs.Prelude.{ℕ, ◌^◌, ◌-◌, ◌≡◌, refl, Bool, true, false, List, [], ◌∷◌, map, length}
use Prim.Native.String.{String}
use Rattle.text.specs.Text.{bytes}
use Rattle.plan.specs.Reading.{Reading, accepted, refused, reading}
use Rattle.plan.specs.Orders.{numbers_from, picks_up_to}
use Rattle.tasks.specs.Accesses.{accesses}
use Rattle.tasks.specs.Flags.{flag_number}
use Rattle.machine.specs.Step.{finished}
use Rattle.orders.specs.Reached.{setup_of, reached}
use Rattle.bench.specs.Answer.{printed}
use Rattle.bench.specs.Computed.{computed}

-- a plan text, and what the paper says of it
pub data Example : Type 0 where
  -- the program prints this
  prints : String → String → Example
  -- it is finished in the end, and the accesses have these flags
  ends : String → List ℕ → Example
  -- these workers are picked
  picks : String → List ℕ → Example

-- whether the state after the whole order is finished, its flags, and the picks of the order; no and none for a text that is refused
unfoldable pub finished_for : Reading → Bool
finished_for (accepted p) = finished (setup_of p) (reached p (2 ^ 64 - 1))
finished_for (refused r n) = false

unfoldable pub flags_for : Reading → List ℕ
flags_for (accepted p) = map (λ a. flag_number ((reached p (2 ^ 64 - 1)).tasks.flags a)) (numbers_from 0 (length (accesses p.tasks)))
flags_for (refused r n) = []

unfoldable pub picks_for : Reading → List ℕ
picks_for (accepted p) = picks_up_to (2 ^ 64 - 1) p
picks_for (refused r n) = []

abbrev pub Holds : Example → Type 0
Holds (prints text answer) = printed (bytes text) ≡ bytes answer
Holds (ends text flags) = (finished_for (reading (bytes text)) ≡ true) × (flags_for (reading (bytes text)) ≡ flags)
Holds (picks text workers) = picks_for (reading (bytes text)) ≡ workers

abbrev pub AllHold : List Example → Type 0
AllHold [] = Unit {0}
AllHold (e ∷ es) = Holds e × AllHold es

abbrev pub starred : List Example
starred =
    prints "" "X\t3\t1\n"
    ∷ prints "W\t0\n" "X\t2\t1\n"
    ∷ prints "W\t1\n" "E\tfinished\t0\t0\nL\t64\t65\t-\n"
    ∷ prints "W\t1\nT\ta\t0\n" "E\topen\t0\t1\nT\t0\ta\tnew\t-\t-\t-\t-\nL\t64\t65\t-\n"
    ∷ prints "W\t1\nT\ta\t0\nR\t20\n" "E\tfinished\t10\t1\nT\t0\ta\tover\t0\t8\t10\t0\nL\t65\t66\t-\n"
    ∷ prints "W\t2\nT\ta\t0\nP\t1\t3\nP\t0\t5\nP\t1\t4\nP\t0\t2\n" "E\tfinished\t14\t2\nT\t0\ta\tover\t0\t13\t14\t1\nL\t66\t66\t1\n"
    ∷ prints "W\t2\nT\ta\t0\nP\t1\t3\n" "E\topen\t3\t2\nT\t0\ta\tnew\t-\t-\t-\t-\nL\t65\t65\t1\n"
    ∷ prints "W\t2\nT\ta\t0\nP\t1\t7\n" "E\topen\t7\t2\nT\t0\ta\tnew\t-\t-\t-\t-\nL\t65\t66\t-\n"
    ∷ picks "W\t4\nS\t0\t1\n" (2 ∷ [])
    ∷ prints "W\t1\nT\ta\t0\tr5\tr5\n" "X\t5\t2\n"
    ∷ prints "W\t1\nT\ta\t0\tr1\tr2\tr3\tr4\tr1\n" "X\t4\t2\n"
    ∷ ends "W\t1\nT\ta\t0\tw5\nT\tb\t0\tr5\nR\t60\n" (63 ∷ 7 ∷ [])
    ∷ []

-- each of them holds, by computation
pub examples : AllHold starred
unfolding computed finished_for flags_for picks_for
examples = (refl, (refl, (refl, (refl, (refl, (refl, (refl, (refl, (refl, (refl, (refl, ((refl, refl), tt))))))))))))

-- a task in a cell has no giver before the hand-over that lets its taker in, and has it from then on, before the taker has looked
abbrev pub held_ones : List Example
held_ones =
    prints "W\t2\nT\ta\t0\nP\t1\t3\nP\t0\t5\nP\t1\t3\n" "E\topen\t11\t2\nT\t0\ta\theld\t-\t-\t-\t-\nL\t66\t65\t1\n"
    ∷ prints "W\t2\nT\ta\t0\nP\t1\t3\nP\t0\t5\nP\t1\t4\n" "E\topen\t12\t2\nT\t0\ta\theld\t-\t-\t-\t1\nL\t66\t66\t1\n"
    ∷ []

pub givers_shown : AllHold held_ones
unfolding computed
givers_shown = (refl, (refl, tt))

-- the second form: as many slots as workers, one fewer, the lock's start values, the listing on a ring of two slots, and a queue of one
-- task that is full at pick 6, so that pick 7 tries the lock and owns it; in the first form pick 7 takes a ticket to wait with
abbrev pub with_sizes : List Example
with_sizes =
    prints "W\t2\t2\t1\n" "E\tfinished\t0\t0\nL\t2\t3\t-\n"
    ∷ prints "W\t2\t1\t1\n" "X\t9\t1\n"
    ∷ prints "W\t32\t64\t8\n" "E\tfinished\t0\t0\nL\t64\t65\t-\n"
    ∷ prints "W\t2\t2\t1\nT\ta\t0\nP\t1\t3\nP\t0\t5\nP\t1\t4\nP\t0\t2\n" "E\tfinished\t14\t2\nT\t0\ta\tover\t0\t13\t14\t1\nL\t4\t4\t1\n"
    ∷ prints "W\t1\t1\t1\nT\ta\t0\nT\tb\t0\nR\t7\n" "E\topen\t7\t2\nT\t0\ta\tready\t-\t-\t-\t-\nT\t1\tb\tready\t-\t-\t-\t-\nL\t2\t2\t0\n"
    ∷ prints "W\t1\nT\ta\t0\nT\tb\t0\nR\t7\n" "E\topen\t7\t2\nT\t0\ta\tready\t-\t-\t-\t-\nT\t1\tb\tready\t-\t-\t-\t-\nL\t65\t65\t>0\n"
    ∷ []

pub sizes_shown : AllHold with_sizes
unfolding computed
sizes_shown = (refl, (refl, (refl, (refl, (refl, (refl, tt))))))

-- masks: the waiter is served with the task that it may run, past one for the owner; an owner that may not run the one ready task
-- takes none; a mask of all workers changes nothing of the listing; what is turned away
abbrev pub with_masks : List Example
with_masks =
    prints "W\t2\nT\ta\t0\nM\t1\nT\tb\t0\nM\t2\nP\t0\t9\nP\t1\t2\nP\t0\t3\n"
    "E\topen\t14\t2\nT\t0\ta\tready\t-\t-\t-\t-\nT\t1\tb\theld\t-\t-\t-\t-\nL\t66\t65\t0\n"
    ∷ prints "W\t2\nT\ta\t0\nM\t3\nP\t1\t3\nP\t0\t5\nP\t1\t4\nP\t0\t2\n" "E\tfinished\t14\t2\nT\t0\ta\tover\t0\t13\t14\t1\nL\t66\t66\t1\n"
    ∷ prints "W\t2\nT\ta\t0\nM\t1\nP\t0\t3\nP\t1\t6\n" "E\topen\t9\t1\nT\t0\ta\tready\t-\t-\t-\t-\nL\t65\t65\t1\n"
    ∷ prints "W\t2\nT\ta\t0\nM\t0\n" "X\t11\t3\n"
    ∷ prints "W\t2\nT\ta\t0\nM\t4\n" "X\t2\t3\n"
    ∷ prints "W\t2\nM\t1\n" "X\t3\t2\n"
    ∷ []

pub masks_shown : AllHold with_masks
unfolding computed
masks_shown = (refl, (refl, (refl, (refl, (refl, (refl, tt))))))

-- free or spoken for: worker 1 has a ticket whose turn has come, and isn't registered; it is; the listing, worker 0 being served: worker 1
-- leaves, and the lock is free though worker 0 has yet to look; worker 2 has the next ticket, and is due though worker 0 has yet to look; and
-- a finished run keeps who is due
abbrev pub spoken_for : List Example
spoken_for =
    prints "W\t2\nT\ta\t0\nP\t1\t1\n" "E\topen\t1\t2\nT\t0\ta\tnew\t-\t-\t-\t-\nL\t65\t65\t>1\n"
    ∷ prints "W\t2\nT\ta\t0\nP\t1\t2\n" "E\topen\t2\t2\nT\t0\ta\tnew\t-\t-\t-\t-\nL\t65\t65\t>1\n"
    ∷ prints "W\t2\nT\ta\t0\nP\t1\t3\nP\t0\t5\nP\t1\t6\n" "E\topen\t14\t2\nT\t0\ta\theld\t-\t-\t-\t1\nL\t66\t67\t-\n"
    ∷ prints "W\t3\nT\ta\t0\nP\t1\t3\nP\t0\t5\nP\t2\t1\nP\t1\t7\n" "E\topen\t16\t3\nT\t0\ta\theld\t-\t-\t-\t1\nL\t67\t67\t>2\n"
    ∷ prints "W\t2\nT\ta\t0\nP\t1\t3\nP\t0\t4\nP\t1\t9\n" "E\tfinished\t12\t2\nT\t0\ta\tover\t1\t10\t12\t1\nL\t66\t66\t>0\n"
    ∷ []

pub spoken_for_shown : AllHold spoken_for
unfolding computed
spoken_for_shown = (refl, (refl, (refl, (refl, (refl, tt)))))
