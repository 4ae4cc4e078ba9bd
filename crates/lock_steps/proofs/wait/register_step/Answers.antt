-- `wait::register_step` meets its contract.
use mathlib.Core.Path.{◌∙◌}
use Rattle.steps.proofs.Acting.{own_long}
use Rattle.lock_steps.proofs.Stepping.{acting}
use Rattle.lock_steps.proofs.Waiting.{register_acts}
use Rattle.lock_steps.proofs.wait.register_step.Goals as goal

pub wait_at-requires : goal.wait_at-requires
wait_at-requires c =
    own_long c.requires.0.1

pub returns : goal.returns
returns c m =
    let register = c.register in
    let waits = c.wait_at in
    acting waits.new.own (λ a.
    register_acts a c.requires.1 register.new.registrations (register.ensures.registrations, register.ensures.lock) waits.new.own waits.ensures.gone
    (waits.ensures.slot ∙ c.slot-slot.ensures.0))
