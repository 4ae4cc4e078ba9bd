-- A worker in its part, after stores to single numbers of the part.
use Rattle.std.specs.Prelude.{ℕ, ◌+◌, ◌-◌, ◌*◌, ◌%◌, ◌≤◌, ◌<◌, ◌≡◌, refl, ◌≢◌, false, List, [], ◌∷◌, ◌++◌, map, length, get_or, set, eqb, Option, Some, None}
use Rattle.std.proofs.Common.{sym, ap, ◌∙◌, arith, add-one, mod-eq_of_lt, length-set, get_or-set_same, get_or-set_other}
use Rattle.std.proofs.lemmas.List.{map-append, set-get_or}
use Rattle.std.proofs.lemmas.Bool.{eqb-false}
use Rattle.runs.specs.Circular.{entries, entries_mod, entries_pop, entries_same, entries_push}
use Rattle.tasks.specs.Tasks.{Message, Stand, working}
use Rattle.memory.specs.Layout as layout
use Rattle.memory.specs.Codes.{Coded, code_of, coded_by, letter}
use Rattle.memory.specs.Shares.{mail_slot, add_slot, Stored, standing, added, oldest_add, without_add, posted, oldest_mail, without_mail}
use Rattle.memory.specs.declared.share.Letter.{Letter}

-- the lists of a part, whatever its stand; what lies in the mailbox need not come from messages
pub record Lists (own : List ℕ) (ls : List Letter) (js : List ℕ) : Type 0 where
  pub long : length own ≡ layout.part
  pub adds_at_lem : get_or own layout.adds_at 0 < layout.add_room
  pub adds : entries (add_slot own) layout.add_room (get_or own layout.adds_at 0) (get_or own layout.adds_count 0) ≡ js
  pub mail_at_lem : get_or own layout.mail_at 0 < layout.mail_room
  pub mail : entries (mail_slot own) layout.mail_room (get_or own layout.mail_at 0) (get_or own layout.mail_count 0) ≡ ls

lists : {own : List ℕ} {p : Stand} {ms : List Message} {js : List ℕ} → Stored own p ms js → Lists own (map letter ms) js
lists h = record { long = h.long; adds_at_lem = h.adds_at_lem; adds = h.adds; mail_at_lem = h.mail_at_lem; mail = h.mail }

-- the three numbers of a stand
abbrev StandIn : List ℕ → Stand → Type 0
StandIn own p = Coded (get_or own layout.stand 0) (get_or own layout.about 0) (get_or own layout.left 0) p

stored : {own : List ℕ} {p : Stand} {ms : List Message} {js : List ℕ} → StandIn own p → Lists own (map letter ms) js → Stored own p ms js
stored c h = record { long = h.long; stand = c; adds_at_lem = h.adds_at_lem; adds = h.adds; mail_at_lem = h.mail_at_lem; mail = h.mail }

-- a sender in its number, read back
pub code_back : (o : Option ℕ) → coded_by (code_of o) ≡ o
code_back None = refl
code_back (Some n) = refl

letter_equal : {a b : Letter} → a.to ≡ b.to → a.flags ≡ b.flags → a.sender ≡ b.sender → a ≡ b
letter_equal first second third = λ t. record { to = first t; flags = second t; sender = third t }

-- the numbers of a slot of the mailbox
abbrev letter_at : ℕ → ℕ
letter_at k = layout.mail_slots + layout.mail_slot * k

abbrev add_at : ℕ → ℕ
add_at k = layout.add_slots + k

-- a store to number i
module _ (own : List ℕ) (i v : ℕ) where
  kept : (k : ℕ) → k ≢ i → get_or (set own i v) k 0 ≡ get_or own k 0
  kept k other = get_or-set_other own i k v 0 other

  -- between numerals, where the test computes
  pub still : (k : ℕ) → eqb k i ≡ false → get_or (set own i v) k 0 ≡ get_or own k 0
  still k other = kept k (eqb-false k i other)

  stand_kept : (p : Stand) → layout.left < i → StandIn own p → StandIn (set own i v) p
  stand_kept p far h =
      rw (kept layout.stand (λ e. omega arith), kept layout.about (λ e. omega arith), kept layout.left (λ e. omega arith)) h

  adds_kept : (at n : ℕ) → ((k : ℕ) → k < n → add_at ((at + k) % layout.add_room) ≢ i)
      → entries (add_slot (set own i v)) layout.add_room at n ≡ entries (add_slot own) layout.add_room at n
  adds_kept at n free =
      entries_same layout.add_room (add_slot (set own i v)) (add_slot own) at n (λ k h. kept (add_at ((at + k) % layout.add_room)) (free k h))

  slot_kept : (k : ℕ) → ((j : ℕ) → j < layout.mail_slot → letter_at k + j ≢ i) → mail_slot (set own i v) k ≡ mail_slot own k
  slot_kept k free =
      letter_equal (kept _ (free layout.mail_to (omega arith))) (kept _ (free layout.mail_flags (omega arith)))
      (ap coded_by (kept _ (free layout.mail_sender (omega arith))))

  mail_kept : (at n : ℕ) → ((k : ℕ) → k < n → (j : ℕ) → j < layout.mail_slot → letter_at ((at + k) % layout.mail_room) + j ≢ i)
      → entries (mail_slot (set own i v)) layout.mail_room at n ≡ entries (mail_slot own) layout.mail_room at n
  mail_kept at n free =
      entries_same layout.mail_room (mail_slot (set own i v)) (mail_slot own) at n (λ k h. slot_kept ((at + k) % layout.mail_room) (free k h))

-- the laws of a store, by the number that it goes to
module _ {own : List ℕ} {ls : List Letter} {js : List ℕ} (h : Lists own ls js) where
  now : (k v : ℕ) → k < layout.part → get_or (set own k v) k 0 ≡ v
  now k v small = get_or-set_same own k v 0 (omega (arith, h.long))

  -- none of the numbers of the lists, and no entry
  lists_free : (i v : ℕ) → ((k : ℕ) → layout.adds_at ≤ k → k ≤ layout.mail_count → k ≢ i)
      → ((k : ℕ) → k < get_or own layout.adds_count 0 → add_at ((get_or own layout.adds_at 0 + k) % layout.add_room) ≢ i)
      → ((k : ℕ) → k < get_or own layout.mail_count 0 → (j : ℕ) → j < layout.mail_slot
      → letter_at ((get_or own layout.mail_at 0 + k) % layout.mail_room) + j ≢ i)
      → Lists (set own i v) ls js
  lists_free i v heads adds mail =
      let head : (k : ℕ) → layout.adds_at ≤ k → k ≤ layout.mail_count → get_or (set own i v) k 0 ≡ get_or own k 0 =
      λ k from to. kept own i v k (heads k from to) in
      let adds_at_lem = head layout.adds_at (omega arith) (omega arith) in
      let adds_count_lem = head layout.adds_count (omega arith) (omega arith) in
      let mail_at_lem = head layout.mail_at (omega arith) (omega arith) in
      let mail_count_lem = head layout.mail_count (omega arith) (omega arith) in
      record {
        long = simp length-set h.long;
        adds_at_lem = rw adds_at_lem h.adds_at_lem;
        adds = rw (adds_at_lem, adds_count_lem) (adds_kept own i v (get_or own layout.adds_at 0) (get_or own layout.adds_count 0) adds ∙ h.adds);
        mail_at_lem = rw mail_at_lem h.mail_at_lem;
        mail = rw (mail_at_lem, mail_count_lem) (mail_kept own i v (get_or own layout.mail_at 0) (get_or own layout.mail_count 0) mail ∙ h.mail);
      }

  lists_stand : (i v : ℕ) → i ≤ layout.left → Lists (set own i v) ls js
  lists_stand i v small = lists_free i v (λ k from to e. omega arith) (λ k below e. omega arith) (λ k below j few e. omega arith)

  -- the lists have other ends, and the slots are as they were
  lists_head : (new : List ℕ) (a m b l : ℕ) → length new ≡ layout.part → ((k : ℕ) → layout.mail_count < k → get_or new k 0 ≡ get_or own k 0)
      → get_or new layout.adds_at 0 ≡ a → get_or new layout.adds_count 0 ≡ m → get_or new layout.mail_at 0 ≡ b → get_or new layout.mail_count 0 ≡ l
      → a < layout.add_room → b < layout.mail_room
      → Lists new (entries (mail_slot own) layout.mail_room b l) (entries (add_slot own) layout.add_room a m)
  lists_head new a m b l long slots adds_at_lem adds_count_lem mail_at_lem mail_count_lem small_a small_b =
      let letters : (k : ℕ) → mail_slot new k ≡ mail_slot own k =
      λ k. letter_equal (slots _ (omega arith)) (slots _ (omega arith)) (ap coded_by (slots _ (omega arith))) in
      record {
        long = long;
        adds_at_lem = rw adds_at_lem small_a;
        adds = rw (adds_at_lem, adds_count_lem) (entries_same layout.add_room (add_slot new) (add_slot own) a m (λ k h. slots _ (omega arith)));
        mail_at_lem = rw mail_at_lem small_b;
        mail = rw (mail_at_lem, mail_count_lem) (entries_same layout.mail_room (mail_slot new) (mail_slot own) b l
            (λ k h. letters ((b + k) % layout.mail_room)));
      }

  lists_adds_from : (a n : ℕ) → a < layout.add_room
      → Lists (set (set own layout.adds_at a) layout.adds_count n) ls (entries (add_slot own) layout.add_room a n)
  lists_adds_from a n small =
      let one = set own layout.adds_at a in
      let new = set one layout.adds_count n in
      let other : (k : ℕ) → eqb k layout.adds_at ≡ false → eqb k layout.adds_count ≡ false → get_or new k 0 ≡ get_or own k 0 =
      λ k x y. still one layout.adds_count n k y ∙ still own layout.adds_at a k x in
      let slots : (k : ℕ) → layout.mail_count < k → get_or new k 0 ≡ get_or own k 0 =
      λ k far. kept one layout.adds_count n k (λ e. omega arith) ∙ kept own layout.adds_at a k (λ e. omega arith) in
      let at : get_or new layout.adds_at 0 ≡ a = still one layout.adds_count n layout.adds_at refl ∙ now layout.adds_at a (omega arith) in
      let count : get_or new layout.adds_count 0 ≡ n = get_or-set_same one layout.adds_count n 0 (simp length-set (omega (arith, h.long))) in
      rw (← h.mail)
      (lists_head new a n (get_or own layout.mail_at 0) (get_or own layout.mail_count 0) (simp length-set h.long) slots at count
      (other layout.mail_at refl refl) (other layout.mail_count refl refl) small h.mail_at_lem)

  lists_mail_from : (b n : ℕ) → b < layout.mail_room
      → Lists (set (set own layout.mail_at b) layout.mail_count n) (entries (mail_slot own) layout.mail_room b n) js
  lists_mail_from b n small =
      let one = set own layout.mail_at b in
      let new = set one layout.mail_count n in
      let other : (k : ℕ) → eqb k layout.mail_at ≡ false → eqb k layout.mail_count ≡ false → get_or new k 0 ≡ get_or own k 0 =
      λ k x y. still one layout.mail_count n k y ∙ still own layout.mail_at b k x in
      let slots : (k : ℕ) → layout.mail_count < k → get_or new k 0 ≡ get_or own k 0 =
      λ k far. kept one layout.mail_count n k (λ e. omega arith) ∙ kept own layout.mail_at b k (λ e. omega arith) in
      let at : get_or new layout.mail_at 0 ≡ b = still one layout.mail_count n layout.mail_at refl ∙ now layout.mail_at b (omega arith) in
      let count : get_or new layout.mail_count 0 ≡ n = get_or-set_same one layout.mail_count n 0 (simp length-set (omega (arith, h.long))) in
      rw (← h.adds)
      (lists_head new (get_or own layout.adds_at 0) (get_or own layout.adds_count 0) b n (simp length-set h.long) slots
      (other layout.adds_at refl refl) (other layout.adds_count refl refl) at count h.adds_at_lem small)

  lists_adds : (n : ℕ) → Lists (set own layout.adds_count n) ls (entries (add_slot own) layout.add_room (get_or own layout.adds_at 0) n)
  lists_adds n = rw (set-get_or own layout.adds_at 0) at (lists_adds_from (get_or own layout.adds_at 0) n h.adds_at_lem)

  lists_mail : (n : ℕ) → Lists (set own layout.mail_count n) (entries (mail_slot own) layout.mail_room (get_or own layout.mail_at 0) n) js
  lists_mail n = rw (set-get_or own layout.mail_at 0) at (lists_mail_from (get_or own layout.mail_at 0) n h.mail_at_lem)

module _ {own : List ℕ} {p : Stand} {ms : List Message} {js : List ℕ} (h : Stored own p ms js) where
  pub stored_stand : (a b c : ℕ) (to : Stand) → Coded a b c to → Stored (standing own a b c) to ms js
  stored_stand a b c to coded =
      let one = set own layout.stand a in
      let two = set one layout.about b in
      let new = set two layout.left c in
      let first = lists_stand (lists h) layout.stand a (omega arith) in
      let second = lists_stand first layout.about b (omega arith) in
      let is_stand : get_or new layout.stand 0 ≡ a =
      still two layout.left c layout.stand refl ∙ still one layout.about b layout.stand refl
      ∙ get_or-set_same own layout.stand a 0 (omega (arith, h.long)) in
      let is_about : get_or new layout.about 0 ≡ b =
      still two layout.left c layout.about refl ∙ get_or-set_same one layout.about b 0 (omega (arith, first.long)) in
      let is_left : get_or new layout.left 0 ≡ c = get_or-set_same two layout.left c 0 (omega (arith, second.long)) in
      stored (rw (is_stand, is_about, is_left) coded) (lists_stand second layout.left c (omega arith))

  pub stored_add : (v : ℕ) → get_or own layout.adds_count 0 < layout.add_room → Stored (added own v) p ms (js ++ v ∷ [])
  stored_add v room =
      let at = get_or own layout.adds_at 0 in
      let n = get_or own layout.adds_count 0 in
      let i = add_at ((at + n) % layout.add_room) in
      let new = set own i v in
      let free : Lists new (map letter ms) js =
      lists_free (lists h) i v (λ k from to e. omega arith) (λ k below e. omega arith) (λ k below j few e. omega arith) in
      let last : add_slot new ((at + n) % layout.add_room) ≡ v = get_or-set_same own i v 0 (omega (arith, h.long)) in
      let more : entries (add_slot new) layout.add_room at (n + 1) ≡ js ++ v ∷ [] =
      rw (add-one n, ← h.adds) (entries_push (add_slot own) (add_slot new) layout.add_room at n v (omega arith) room last
      (λ k below other. kept own i v (add_at k) (λ e. other (omega arith)))) in
      stored (stand_kept new layout.adds_count (n + 1) p (omega arith) (stand_kept own i v p (omega arith) h.stand))
      (rw (kept own i v layout.adds_at (λ e. omega arith), more) at (lists_adds free (n + 1)))

pub stored_worked : {own : List ℕ} {i n : ℕ} {ms : List Message} {js : List ℕ} → Stored own (working i n) ms js → (left : ℕ)
    → Stored (set own layout.left left) (working i left) ms js
stored_worked {own} {i} h left =
    rw (set-get_or own layout.stand 0, set-get_or own layout.about 0) at
    (stored_stand h (get_or own layout.stand 0) (get_or own layout.about 0) left (working i left) (h.stand.0, h.stand.1, refl))

pub stored_take_add : {own : List ℕ} {p : Stand} {ms : List Message} {i : ℕ} {js : List ℕ} → Stored own p ms (i ∷ js)
    → (oldest_add own ≡ i) × Stored (without_add own) p ms js
stored_take_add {own} {p} {ms} {i} {js} h =
    let at = get_or own layout.adds_at 0 in
    let n = get_or own layout.adds_count 0 in
    let next = (at + 1) % layout.add_room in
    let new = set own layout.adds_at next in
    let pop = entries_pop (add_slot own) layout.add_room at n i js h.adds in
    let slot : at % layout.add_room ≡ at = mod-eq_of_lt h.adds_at_lem in
    let fewer : entries (add_slot own) layout.add_room next (n - 1) ≡ js =
    entries_mod (add_slot own) layout.add_room (at + 1) (n - 1) ∙ rw (add-one at) pop.2 in (
      rw slot at pop.1,
      stored (stand_kept new layout.adds_count (n - 1) p (omega arith) (stand_kept own layout.adds_at next p (omega arith) h.stand))
          (rw fewer at (lists_adds_from (lists h) next (n - 1) (omega arith))),
    )

pub stored_take_mail : {own : List ℕ} {p : Stand} {m : Message} {ms : List Message} {js : List ℕ} → Stored own p (m ∷ ms) js
    → (letter m ≡ oldest_mail own) × Stored (without_mail own) p ms js
stored_take_mail {own} {p} {m} {ms} {js} h =
    let at = get_or own layout.mail_at 0 in
    let n = get_or own layout.mail_count 0 in
    let next = (at + 1) % layout.mail_room in
    let new = set own layout.mail_at next in
    let pop = entries_pop (mail_slot own) layout.mail_room at n (letter m) (map letter ms) h.mail in
    let slot : at % layout.mail_room ≡ at = mod-eq_of_lt h.mail_at_lem in
    let oldest : mail_slot own at ≡ letter m = rw slot at pop.1 in
    let fewer : entries (mail_slot own) layout.mail_room next (n - 1) ≡ map letter ms =
    entries_mod (mail_slot own) layout.mail_room (at + 1) (n - 1) ∙ rw (add-one at) pop.2 in (
      sym oldest,
      stored (stand_kept new layout.mail_count (n - 1) p (omega arith) (stand_kept own layout.mail_at next p (omega arith) h.stand))
          (rw fewer at (lists_mail_from (lists h) next (n - 1) (omega arith))),
    )

-- a number of the slot behind the last letter
module _ {own : List ℕ} {p : Stand} {ms : List Message} {js : List ℕ} (h : Stored own p ms js)
    (room : get_or own layout.mail_count 0 < layout.mail_room) where
  stored_letter : (i v j : ℕ) → j < layout.mail_slot
      → i ≡ letter_at ((get_or own layout.mail_at 0 + get_or own layout.mail_count 0) % layout.mail_room) + j → Stored (set own i v) p ms js
  stored_letter i v j few is =
      stored (stand_kept own i v p (omega arith) h.stand)
      (lists_free (lists h) i v (λ k from to e. omega arith) (λ k below e. omega arith) (λ k below x low e. omega arith))

module _ {own : List ℕ} {p : Stand} {ms : List Message} {js : List ℕ} (h : Stored own p ms js)
    (room : get_or own layout.mail_count 0 < layout.mail_room) where
  pub stored_post : (a b : ℕ) (c : Option ℕ) (m : Message) → letter m ≡ record { to = a; flags = b; sender = c }
      → Stored (posted own a b c) p (ms ++ m ∷ []) js
  stored_post a b c m is =
      let at = get_or own layout.mail_at 0 in
      let n = get_or own layout.mail_count 0 in
      let r = (at + n) % layout.mail_room in
      let i = letter_at r in
      let one = set own (i + layout.mail_to) a in
      let two = set one (i + layout.mail_flags) b in
      let code = code_of c in
      let new = set two (i + layout.mail_sender) code in
      let at1 : get_or one layout.mail_at 0 ≡ at = kept own (i + layout.mail_to) a layout.mail_at (λ e. omega arith) in
      let n1 : get_or one layout.mail_count 0 ≡ n = kept own (i + layout.mail_to) a layout.mail_count (λ e. omega arith) in
      let at2 : get_or two layout.mail_at 0 ≡ at = kept one (i + layout.mail_flags) b layout.mail_at (λ e. omega arith) ∙ at1 in
      let n2 : get_or two layout.mail_count 0 ≡ n = kept one (i + layout.mail_flags) b layout.mail_count (λ e. omega arith) ∙ n1 in
      let at3 : get_or new layout.mail_at 0 ≡ at = kept two (i + layout.mail_sender) code layout.mail_at (λ e. omega arith) ∙ at2 in
      let first = stored_letter h room (i + layout.mail_to) a layout.mail_to (omega arith) refl in
      let second = stored_letter first (rw n1 room) (i + layout.mail_flags) b layout.mail_flags (omega arith) (rw (at1, n1) refl) in
      let third = stored_letter second (rw n2 room) (i + layout.mail_sender) code layout.mail_sender (omega arith) (rw (at2, n2) refl) in
      let to : get_or new (i + layout.mail_to) 0 ≡ a =
      kept two (i + layout.mail_sender) code (i + layout.mail_to) (λ e. omega arith)
      ∙ kept one (i + layout.mail_flags) b (i + layout.mail_to) (λ e. omega arith)
      ∙ get_or-set_same own (i + layout.mail_to) a 0 (omega (arith, h.long)) in
      let flags : get_or new (i + layout.mail_flags) 0 ≡ b =
      kept two (i + layout.mail_sender) code (i + layout.mail_flags) (λ e. omega arith)
      ∙ get_or-set_same one (i + layout.mail_flags) b 0 (omega (arith, first.long)) in
      let sender : coded_by (get_or new (i + layout.mail_sender) 0) ≡ c =
      rw (get_or-set_same two (i + layout.mail_sender) code 0 (omega (arith, second.long))) (code_back c) in
      let old : (k : ℕ) → k < layout.mail_room → k ≢ r → mail_slot new k ≡ mail_slot own k =
      λ k below other. slot_kept two (i + layout.mail_sender) code k (λ x low e. other (omega arith))
      ∙ slot_kept one (i + layout.mail_flags) b k (λ x low e. other (omega arith))
      ∙ slot_kept own (i + layout.mail_to) a k (λ x low e. other (omega arith)) in
      let more : entries (mail_slot new) layout.mail_room at (n + 1) ≡ map letter (ms ++ m ∷ []) =
      rw (add-one n, map-append, ← h.mail) (entries_push (mail_slot own) (mail_slot new) layout.mail_room at n (letter m) (omega arith)
      room (letter_equal to flags sender ∙ sym is) old) in
      stored (stand_kept new layout.mail_count (n + 1) p (omega arith) third.stand) (rw (at3, more) at (lists_mail (lists third) (n + 1)))
