-- A place as a number k and what it speaks of.
use Rattle.std.specs.Prelude.{ℕ, ◌≡◌}
use Rattle.machine.specs.State.{for_serving, for_adding, Place, idle, trying, registering, looking, draining, serving, handing, leaving}
use Rattle.steps.specs.Layout.{IDLE, TRYING, REGISTERING, LOOKING, DRAINING_TO_SERVE, DRAINING_TO_ADD, SERVING, HANDING, LEAVING}

abbrev pub Coded : ℕ → ℕ → Place → Type 0
Coded k a idle = k ≡ IDLE
Coded k a trying = k ≡ TRYING
Coded k a (registering t) = (k ≡ REGISTERING) × (a ≡ t)
Coded k a (looking t) = (k ≡ LOOKING) × (a ≡ t)
Coded k a (draining for_serving x) = (k ≡ DRAINING_TO_SERVE) × (a ≡ x)
Coded k a (draining for_adding x) = (k ≡ DRAINING_TO_ADD) × (a ≡ x)
Coded k a (serving n) = (k ≡ SERVING) × (a ≡ n)
Coded k a (handing n) = (k ≡ HANDING) × (a ≡ n)
Coded k a leaving = k ≡ LEAVING
