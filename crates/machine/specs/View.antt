-- What is known of the state at each event. Proofs about steps go by these cases and take no place or test apart again.
use Rattle.std.specs.Prelude.{ℕ, ◌≤◌, ◌<◌, ◌≡◌, ◌⊎◌, ◌≢◌, true, false, List, [], ◌∷◌, length}
use Rattle.std.proofs.Math.Option.{some}
use Rattle.lock.specs.Lock as L
use Rattle.tasks.specs.Tasks as T
use Rattle.tasks.specs.History.{Duty, CanMind}
use Rattle.machine.specs.State.{Setup, Purpose, idle, trying, registering, looking, draining, serving, handing, leaving, State}
use Rattle.machine.specs.Event.{Event, minds, pushes, finds_full, tries_and_owns, tries_in_vain, takes_ticket, registers, waits, receives, owns, drains, fills, takes, takes_none, hands_over, leaves, most_served, may, handed_by}
use Rattle.machine.specs.Ready.{nothing, choose, Chosen}

-- idle, with nothing in hand and an empty mailbox
pub record AtRest (s : State) (w : ℕ) : Type 0 where
  pub place : s.place w ≡ idle
  pub stand : s.stand w ≡ T.free
  pub mail : s.tasks.mail w ≡ []

-- every task is created
abbrev pub AllCreated : Setup → State → Type 0
AllCreated c s = (n : ℕ) × (s.tasks.creation ≡ T.opening n) × (length c.tasks ≤ n)

pub data Does (c : Setup) (s : State) (w : ℕ) : Event → Type 0 where
  does_mind : (d : Duty) → s.place w ≡ idle → CanMind c.workers c.tasks s.tasks (s.stand w) w d → Does c s w (minds d)
  does_push : (i : ℕ) (is : List ℕ) → AtRest s w → s.tasks.adds w ≡ i ∷ is → length (s.queue w) < c.capacity → Does c s w (pushes i is)
  does_find_full : (i : ℕ) (is : List ℕ) → AtRest s w → s.tasks.adds w ≡ i ∷ is → c.capacity ≤ length (s.queue w) → Does c s w finds_full
  does_win : s.place w ≡ trying → L.is_free s.lock ≡ true → Does c s w tries_and_owns
  does_fail : s.place w ≡ trying → L.is_free s.lock ≡ false → Does c s w tries_in_vain
  does_take_ticket : AtRest s w → s.tasks.adds w ≡ [] → (w ≢ 0) ⊎ AllCreated c s → Does c s w takes_ticket
  does_register : (t : ℕ) → s.place w ≡ registering t → Does c s w (registers t)
  does_wait : (t : ℕ) → s.place w ≡ looking t → L.look c.slots s.lock t w ≡ L.not_yet → Does c s w waits
  does_receive : (t i : ℕ) → s.place w ≡ looking t → L.look c.slots s.lock t w ≡ L.receives i → Does c s w (receives t i)
  does_own : (t : ℕ) → s.place w ≡ looking t → L.look c.slots s.lock t w ≡ L.owns → Does c s w (owns t)
  does_drain : (p : Purpose) (k : ℕ) → s.place w ≡ draining p k → Does c s w (drains p k)
  does_fill : (n v i : ℕ) (is : List ℕ) → s.place w ≡ serving n → Chosen (may c v) s.ready_list i is
      → L.front c.slots s.lock ≡ some v → n < most_served c → Does c s w (fills n v i is)
  does_take : (n i : ℕ) (is : List ℕ) → s.place w ≡ serving n → Chosen (may c w) s.ready_list i is → Does c s w (takes i is)
  does_take_none : (n : ℕ) → s.place w ≡ serving n → choose (may c w) s.ready_list ≡ nothing → Does c s w takes_none
  does_hand_over : (n : ℕ) → s.place w ≡ handing n → Does c s w (hands_over n (handed_by c s w))
  does_leave : s.place w ≡ leaving → Does c s w (leaves (handed_by c s w))
