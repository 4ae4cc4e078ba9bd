-- The definitions that a computed run opens, by one name: a proof that says `unfolding computing` has runs computed by the checker.
use Rattle.runs.specs.Update.{upd}
use Rattle.runs.specs.Below.{every_below}
use Rattle.runs.specs.Searches.{last_below, first_from}
use Rattle.runs.specs.Traces as Traces
use Rattle.lock.specs.Lock as L
use Rattle.lock.specs.History as LH
use Rattle.plan.specs.Orders.{numbers_from, times}
use Rattle.plan.specs.Permits.{is_set, permits, any_masked}
use Rattle.tasks.specs.Accesses.{accesses, task_of, first, reader, same_address, prev, next}
use Rattle.tasks.specs.Flags.{passes_read, passes_write, satisfied}
use Rattle.tasks.specs.Tasks as T
use Rattle.tasks.specs.History as Th
use Rattle.tasks.specs.Duties.{duty, creating}
use Rattle.tasks.specs.Playing as P
use Rattle.machine.specs.State.{start}
use Rattle.machine.specs.Ready.{arrive, choose}
use Rattle.machine.specs.Event.{handed, idling, serving_or_taking, standing_at}
use Rattle.machine.specs.Step.{next_drain, step, after}

unfoldable pub computing : Unit {0}
unfolding upd every_below Traces.pick L.start L.take_ticket L.join L.worker_in L.register L.turn L.hand_over L.front L.tells L.is_free L.fill
    L.look LH.after numbers_from times last_below first_from accesses task_of first reader same_address prev next passes_read passes_write
    satisfied T.start Th.lowered Th.link_message Th.passed Th.done_messages Th.after duty creating P.finished start handed idling
    is_set permits any_masked arrive choose serving_or_taking standing_at next_drain step after
computing = tt
