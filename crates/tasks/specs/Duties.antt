-- What a worker does with the tasks whatever its device is, and in which order: it tells, delivers, works, ends, and creates.
use Rattle.std.specs.Prelude.{ℕ, zero, suc, ◌≤◌, ◌≡◌, Bool, length}
use Rattle.std.proofs.Math.Path.{refl}
use Rattle.std.proofs.Math.Bool.{true, false}
use mathlib.Core.List.{List, [], ◌∷◌}
use Rattle.std.proofs.Math.Option.{Option, none, some}
use Rattle.std.proofs.Math.Dec.{ltb}
use Rattle.std.proofs.Common.{ltb-true, ltb-false}
use Rattle.plan.specs.Plan.{Task}
use Rattle.tasks.specs.Accesses.{first}
use Rattle.tasks.specs.Tasks.{Message, Stand, free, telling, working, Creation, opening, linking, Tasks}
use Rattle.tasks.specs.History.{Duty, opens, links, closes, delivers, tells, works, ends, CanMind, can_open, can_link, can_close}
use Rattle.tasks.specs.History.{can_deliver, can_tell, can_work, can_end}

-- what a worker that stands so, with this mailbox, does before all else
unfoldable pub duty : Stand → List Message → Option Duty
duty free [] = none
duty free (m ∷ ms) = some (delivers m ms)
duty (telling a f) ms = some (tells a f)
duty (working i zero) ms = some (ends i)
duty (working i (suc n)) ms = some (works i n)

-- how creating the tasks goes on; nothing is left after the last
unfoldable pub creating : List Task → Creation → Option Duty
creating ts (opening i) = elim (ltb i (length ts)) [ true ↦ some (opens i) | false ↦ none ]
creating ts (linking i a) = elim (ltb a (first ts (suc i))) [ true ↦ some (links i a) | false ↦ some (closes i) ]

-- what is known then
module _ (W : ℕ) (ts : List Task) (t : Tasks) (x : Stand) (w : ℕ) where
  pub data Duties : Option Duty → Type 0 where
    at_rest : x ≡ free → t.mail w ≡ [] → Duties none
    has_duty : {d : Duty} → CanMind W ts t x w d → Duties (some d)

  pub data Creates : Option Duty → Type 0 where
    created : (n : ℕ) → t.creation ≡ opening n → length ts ≤ n → Creates none
    creates : {d : Duty} → CanMind W ts t x w d → Creates (some d)

  pub duties : (y : Stand) → x ≡ y → (ms : List Message) → t.mail w ≡ ms → Duties (duty y ms)
  unfolding duty
  duties free p [] e = at_rest p e
  duties free p (m ∷ ms) e = has_duty (can_deliver m ms p e)
  duties (telling a f) p ms e = has_duty (can_tell a f p)
  duties (working i zero) p ms e = has_duty (can_end i p)
  duties (working i (suc n)) p ms e = has_duty (can_work i n p)

  pub creating_goes : x ≡ free → t.mail w ≡ [] → (y : Creation) → t.creation ≡ y → Creates (creating ts y)
  unfolding creating
  creating_goes p q (opening i) e = go (ltb i (length ts)) refl
    where
      go : (b : Bool) → ltb i (length ts) ≡ b → Creates (elim b [ true ↦ some (opens i) | false ↦ none ])
      go true z = creates (can_open i e (ltb-true _ _ z))
      go false z = created i e (ltb-false _ _ z)
  creating_goes p q (linking i a) e = go (ltb a (first ts (suc i))) refl
    where
      go : (b : Bool) → ltb a (first ts (suc i)) ≡ b → Creates (elim b [ true ↦ some (links i a) | false ↦ some (closes i) ])
      go true z = creates (can_link i a e (ltb-true _ _ z) p q)
      go false z = creates (can_close i a e (ltb-false _ _ z))
