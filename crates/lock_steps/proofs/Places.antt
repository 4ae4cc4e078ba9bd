-- A worker's place in its share: what its number says, and a share in which it goes to another.
use Prim.Native.Nat.{ℕ, ◌<◌}
use native.Mathlib.Omega.{arith}
use mathlib.Core.Path.{◌≡◌, sym, ap, subst, ◌∙◌}
use mathlib.Core.List.{List, [], ◌∷◌, ◌++◌}
use lib.ListN.{length, get_or, set, length-set}
use lib.Seq.{get_or-set_same}
use Rattle.machine.specs.State.{for_serving, for_adding, Place, idle, trying, registering, looking, draining, serving, handing, leaving}
use Rattle.memory.specs.declared.rows.TaskRow.{TaskRow}
use Rattle.steps.specs.Layout.{share_size, station_size, slot_at}
use Rattle.steps.specs.Codes.{Coded}
use Rattle.steps.specs.Memory.{part, station, Stationed, moved}
use Rattle.steps.proofs.Parts.{station_at, station_of, part_of, lent_part, with_part, station_long, part_lent, part_back, station_still}
use Rattle.lock_steps.specs.Going.{Gone, ReceivedBy, Received}

-- the place that has code k and number a
abbrev pub place_of : ℕ → ℕ → Place
place_of k a =
    get_or
    (idle
    ∷ trying
    ∷ registering a
    ∷ looking a
    ∷ serving a
    ∷ handing a
    ∷ leaving
    ∷ draining for_serving a
    ∷ draining for_adding a
    ∷ [])
    k
    idle

pub decoded : (k a : ℕ) (p : Place) → Coded k a p → p ≡ place_of k a
decoded k a idle h = rw h
decoded k a trying h = rw h
decoded k a (registering t) h = rw (h.0, h.1)
decoded k a (looking t) h = rw (h.0, h.1)
decoded k a (draining for_serving x) h = rw (h.0, h.1)
decoded k a (draining for_adding x) h = rw (h.0, h.1)
decoded k a (serving n) h = rw (h.0, h.1)
decoded k a (handing n) h = rw (h.0, h.1)
decoded k a leaving h = rw h

-- the device's part is lent to the worker that goes, and given back as z
pub gone : (own z : List ℕ) (k a : ℕ) → length own ≡ share_size → length z ≡ length (station own)
    → ((p to : Place) (queue : List ℕ) → Stationed (station own) p queue → Coded k a to → Stationed z to queue)
    → Gone own (z ++ part own) k a
gone own z k a long back goes =
    let z_long = back ∙ station_long own long in
    record {
      kept = part_of z (part own) z_long;
      there = λ p to queue h coded. rw (station_of z (part own) z_long) (goes p to queue h coded);
    }

-- it has noted a slot there
pub noted : (own z : List ℕ) (k a slot : ℕ) → length own ≡ share_size → z ≡ set (moved (station own) k a) slot_at slot
    → get_or (z ++ part own) slot_at 0 ≡ slot
noted own z k a slot long is =
    let went = moved (station own) k a in
    let room : slot_at < length went = simp length-set (omega (arith, station_long own long)) in
    let z_long : length z ≡ station_size = rw is (simp length-set (station_long own long)) in
    sym (station_at (z ++ part own) slot_at (omega arith))
    ∙ ap (λ (xs : List ℕ). get_or xs slot_at 0) (station_of z (part own) z_long ∙ is)
    ∙ get_or-set_same went slot_at slot 0 room

-- the tasks' part is lent, to receive a task, and given back as y; then the worker goes
pub received : (own y : List ℕ) → length own ≡ share_size → (rows after : List TaskRow) (next : List ℕ) (task w time k : ℕ)
    → ReceivedBy rows (lent_part own) after y task w time
    → Gone (with_part own y) next k 0 → Received rows own after next task w time k
received own y long rows after next task w time k does goes =
    let back = goes.kept ∙ part_back own long y in
    record {
      does = subst (λ (before : List ℕ). ReceivedBy rows before after (part next) task w time) (sym (part_lent own long))
          (λ m. rw back (does m));
      there = λ p to queue h coded. goes.there p to queue (rw (station_still own long y) h) coded;
    }
