-- `work::post_done` meets its contract: DONE is posted to the accesses before this one.
use Prim.Native.Nat.{ℕ, ◌-◌}
use mathlib.Core.List.{List, ◌++◌}
use Rattle.tasks.specs.Tasks.{Message, Stand}
use Rattle.memory.specs.Shares.{Stored}
use Rattle.duties.proofs.Working.{dones_from}
use Rattle.duties.proofs.work.post_done.Given as goal

abbrev pub invariant-loop-access : goal.invariant-loop-access
invariant-loop-access l =
    (p : Stand) (mail : List Message) (adds : List ℕ) → Stored l.initial.own p mail adds
    → Stored l.own p (mail ++ dones_from l.first (l.access - l.first)) adds
