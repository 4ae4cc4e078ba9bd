-- What the numbers of a part say: whether the worker is free, and how many messages and tasks to add there are.
use Rattle.std.specs.Prelude.{ℕ, ◌≡◌, refl, List, length, get_or}
use Rattle.std.proofs.Common.{arith, sym, ap, ◌∙◌}
use Rattle.std.proofs.lemmas.List.{length-map}
use Rattle.runs.specs.Circular.{entries_length}
use Rattle.tasks.specs.Tasks.{Message, Stand, free, telling, working}
use Rattle.memory.specs.Layout as layout
use Rattle.memory.specs.Codes.{Coded, letter}
use Rattle.memory.specs.Shares.{mail_slot, add_slot, Stored}

pub free_at : (k a b : ℕ) (x : Stand) → Coded k a b x → k ≡ layout.free → x ≡ free
free_at k a b free h e = refl
free_at k a b (telling y f) h e = absurd (omega arith)
free_at k a b (working i n) h e = absurd (omega arith)

module _ {own : List ℕ} {p : Stand} {ms : List Message} {js : List ℕ} (h : Stored own p ms js) where
  pub adds_count_lem : get_or own layout.adds_count 0 ≡ length js
  adds_count_lem = sym (entries_length (add_slot own) layout.add_room (get_or own layout.adds_at 0) (get_or own layout.adds_count 0))
      ∙ ap length h.adds

  pub mail_count_lem : get_or own layout.mail_count 0 ≡ length ms
  mail_count_lem =
      sym (entries_length (mail_slot own) layout.mail_room (get_or own layout.mail_at 0) (get_or own layout.mail_count 0)) ∙ ap length h.mail
      ∙ length-map ms letter
