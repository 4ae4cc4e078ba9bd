-- What the numbers of a part, and of the creation of tasks, say a worker is to do with the tasks.
use Rattle.std.specs.Prelude.{ℕ, zero, suc, ◌<◌, ◌≡◌, ◌⊎◌, Bool, List, [], ◌∷◌, length, get_or, Some, None}
use Rattle.std.proofs.Common.{arith, ⊎_elim}
use Rattle.std.proofs.Math.Path.{refl}
use Rattle.std.proofs.Math.Bool.{true, false}
use Rattle.std.proofs.Math.Option.{none, some}
use Rattle.std.proofs.Math.Dec.{ltb}
use Rattle.runs.specs.Update.{clash}
use Rattle.runs.specs.Stores.{none_of, first_of}
use Rattle.plan.specs.Plan.{Task}
use Rattle.tasks.specs.Accesses.{first}
use Rattle.tasks.specs.Tasks.{Message, Stand, free, telling, working, Creation, opening, linking}
use Rattle.tasks.specs.History.{Duty, opens, links, closes, delivers, tells, works, ends}
use Rattle.tasks.specs.Duties.{duty, creating}
use Rattle.memory.specs.Layout as layout
use Rattle.memory.specs.Codes.{Coded, Making}
use Rattle.memory.specs.Shares.{Stored}
use Rattle.memory.specs.ShareLaws.{free_at, mail_count_lem, adds_count_lem}
use Rattle.memory.specs.Memory.{to_create}
use Rattle.memory.specs.declared.tally.Tally.{Tally}

a_duty : (x : Stand) (ms : List Message) (k a b : ℕ) → Coded k a b x → (layout.free < k) ⊎ (0 < length ms)
    → (d : Duty) × (duty x ms ≡ some d)
unfolding duty
a_duty free [] k a b h u = absurd (⊎_elim (λ (l : layout.free < k). omega arith) (λ (l : 0 < 0). omega arith) u)
a_duty free (m ∷ ms) k a b h u = (delivers m ms, refl)
a_duty (telling x f) ms k a b h u = (tells x f, refl)
a_duty (working i zero) ms k a b h u = (ends i, refl)
a_duty (working i (suc n)) ms k a b h u = (works i n, refl)

no_duty : (x : Stand) (ms : List Message) → x ≡ free → ms ≡ [] → duty x ms ≡ none
unfolding duty
no_duty x ms e z = rw (e, z)

module _ {own : List ℕ} {x : Stand} {ms : List Message} {js : List ℕ} (h : Stored own x ms js) where
  pub has_duty : (layout.free < get_or own layout.stand 0) ⊎ (0 < get_or own layout.mail_count 0) → (d : Duty) × (duty x ms ≡ some d)
  has_duty has = a_duty x ms (get_or own layout.stand 0) _ _ h.stand (rw (mail_count_lem h) at has)

  pub free_of_duty : get_or own layout.stand 0 ≡ layout.free → get_or own layout.mail_count 0 ≡ 0 → duty x ms ≡ none
  free_of_duty stand mail =
      no_duty x ms (free_at (get_or own layout.stand 0) _ _ x h.stand stand) (none_of ms (omega (arith, mail_count_lem h, mail)))

  pub nothing_to_add : get_or own layout.adds_count 0 ≡ 0 → js ≡ []
  nothing_to_add z = none_of js (omega (arith, adds_count_lem h, z))

  pub first_to_add : 0 < get_or own layout.adds_count 0 → (i : ℕ) × (is : List ℕ) × (js ≡ i ∷ is)
  first_to_add l = first_of js (omega (arith, adds_count_lem h, l))

-- ---- creating

module _ (ts : List Task) (n : Tally) (all : n.tasks ≡ length ts) where
  to_open : (i : ℕ) → n.task ≡ i → n.access ≡ None → to_create n ≡ ltb i (length ts)
  unfolding to_create
  to_open i e z = rw (to_create, z, all, e)

  to_link : (a : ℕ) → n.access ≡ Some a → to_create n ≡ true
  unfolding to_create
  to_link a z = rw (to_create, z)

  pub creates : (x : Creation) → Making n.task n.access x → to_create n ≡ true → (d : Duty) × (creating ts x ≡ some d)
  unfolding creating
  creates (opening i) made e = (opens i, rw (creating, ← to_open i made.0 made.1, e))
  creates (linking i a) made e = go (ltb a (first ts (suc i))) refl
    where
      go : (b : Bool) → ltb a (first ts (suc i)) ≡ b → (d : Duty) × (elim b [ true ↦ some (links i a) | false ↦ some (closes i) ] ≡ some d)
      go true z = (links i a, refl)
      go false z = (closes i, refl)

  pub all_created : (x : Creation) → Making n.task n.access x → to_create n ≡ false → creating ts x ≡ none
  unfolding creating
  all_created (opening i) made e = rw (creating, ← to_open i made.0 made.1, e)
  all_created (linking i a) made e = clash (let z = to_link a made.1 in cc)
