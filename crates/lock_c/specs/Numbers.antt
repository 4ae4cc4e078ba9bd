-- The lock's answers as a kind and a value. A kind of 0 is left for a refusal.
use Rattle.std.specs.Prelude.{ℕ, ◌≡◌}
use Rattle.std.proofs.Math.Option.{Option, none, some}
use Rattle.lock.specs.Lock.{Look, not_yet, receives, owns}

abbrev pub look_kind : Look → ℕ
look_kind not_yet = 1
look_kind (receives task) = 2
look_kind owns = 3

abbrev pub look_value : Look → ℕ
look_value not_yet = 0
look_value (receives task) = task
look_value owns = 0

abbrev pub TellsLook : ℕ → ℕ → Look → Type 0
TellsLook kind value look = (kind ≡ look_kind look) × (value ≡ look_value look)

abbrev pub front_kind : Option ℕ → ℕ
front_kind none = 1
front_kind (some worker) = 2

abbrev pub front_value : Option ℕ → ℕ
front_value none = 0
front_value (some worker) = worker

abbrev pub TellsFront : ℕ → ℕ → Option ℕ → Type 0
TellsFront kind value front = (kind ≡ front_kind front) × (value ≡ front_value front)
