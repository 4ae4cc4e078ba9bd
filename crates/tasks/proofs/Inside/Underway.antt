-- Messages under way and notices pending, counted by what they bring.
use Prim.Native.Nat.{ℕ, zero, suc, ◌+◌, ◌-◌, ◌≤◌, ◌<◌}
use Rattle.std.specs.Prelude.{◌≡◌, ◌⊎◌, ◌≢◌, Bool, ◌&&◌}
use Rattle.std.proofs.Math.Path.{refl, sym}
use Rattle.std.proofs.Common.{ap, ◌∙◌, inl, inr}
use Rattle.std.proofs.Math.Bool.{true, false}
use mathlib.Core.List.{List, [], ◌∷◌, ◌++◌, map}
use Rattle.std.proofs.Math.Option.{Option, none, some}
use native.Mathlib.Omega.{arith}
use Rattle.std.proofs.Math.Dec.{eqb}
use borrow.Author.Tests.{eq-eqb, ne_eqb, eqb-true, eqb-false}
use Rattle.runs.specs.Update.{same, order, upd, upd_same, upd_other}
use Rattle.runs.specs.Sums.{sum, sum_zeros, sum_upd, le_sum, two_sum}
use Rattle.plan.specs.Orders.{numbers_from}
use Rattle.tasks.specs.Accesses.{reader, next}
use Rattle.tasks.specs.Flags.{Flags, granting, DONE, passes_read, passes_write}
use Rattle.plan.specs.Plan.{Task}
use Rattle.tasks.specs.Tasks.{Message, Stand, free, telling, working}
use Rattle.tasks.specs.History.{plain, passed, here}

pub here_same : (a b x : ℕ) → a ≡ b → here a b x ≡ x
unfolding here
here_same a b x e = rw (eq-eqb a b e, here)

pub here_other : (a b x : ℕ) → a ≢ b → here a b x ≡ 0
unfolding here
here_other a b x e = rw (ne_eqb a b e, here)

pub here_zero : (a b : ℕ) → here a b 0 ≡ 0
here_zero a b = go (same a b)
  where
    go : (a ≡ b) ⊎ (a ≢ b) → here a b 0 ≡ 0
    go (inl e) = here_same a b 0 e
    go (inr e) = here_other a b 0 e

-- a measure that is x more at a
pub upd_more : {A : Type 0} (m : A → ℕ) (f : ℕ → A) (a : ℕ) (y : A) (x : ℕ) → m y ≡ m (f a) + x → (b : ℕ)
    → m (upd f a y b) ≡ m (f b) + here b a x
upd_more m f a y x h b = go (same b a)
  where
    go : (b ≡ a) ⊎ (b ≢ a) → m (upd f a y b) ≡ m (f b) + here b a x
    go (inl e) = rw (e, upd_same, here_same a a x refl) h
    go (inr e) = rw (upd_other, here_other b a x e) (omega arith)

-- ---- messages

-- what the messages of a list come to
unfoldable pub weigh : (Message → ℕ) → List Message → ℕ
weigh f [] = 0
weigh f (m ∷ ms) = f m + weigh f ms

-- of a flag, what a message brings to access a, and what it brings from access a as sender
abbrev pub toward : (Flags → ℕ) → ℕ → Message → ℕ
toward flag a m = here a m.to (flag m.flags)

abbrev pub by_sender : ℕ → Option ℕ → ℕ → ℕ
by_sender a none x = 0
by_sender a (some b) x = here a b x

abbrev pub out_of : (Flags → ℕ) → ℕ → Message → ℕ
out_of flag a m = by_sender a m.sender (flag m.flags)

-- over all mailboxes
abbrev pub under_way : ℕ → (Message → ℕ) → (ℕ → List Message) → ℕ
under_way W f mail = sum W (λ k. weigh f (mail k))

weigh_nil : (f : Message → ℕ) → weigh f [] ≡ 0
unfolding weigh
weigh_nil f = refl

weigh_cons : (f : Message → ℕ) (m : Message) (ms : List Message) → weigh f (m ∷ ms) ≡ f m + weigh f ms
unfolding weigh
weigh_cons f m ms = refl

weigh_append : (f : Message → ℕ) (xs ys : List Message) → weigh f (xs ++ ys) ≡ weigh f xs + weigh f ys
unfolding weigh
weigh_append f [] ys = omega arith
weigh_append f (x ∷ xs) ys = omega (arith, weigh_append f xs ys)

module _ (W : ℕ) (f : Message → ℕ) (mail : ℕ → List Message) where
  pub way_empty : ((v : ℕ) → v < W → mail v ≡ []) → under_way W f mail ≡ 0
  way_empty h = sum_zeros W (λ k. weigh f (mail k)) (λ k l. ap (weigh f) (h k l) ∙ weigh_nil f)

  module _ (w : ℕ) (l : w < W) where
    -- messages are posted
    pub way_posted : (ms : List Message) → under_way W f (upd mail w (mail w ++ ms)) ≡ under_way W f mail + weigh f ms
    way_posted ms = omega (arith, sum_upd W (weigh f) mail w (mail w ++ ms) l, weigh_append f (mail w) ms)

    pub way_posted_one : (m : Message) → under_way W f (upd mail w (mail w ++ m ∷ [])) ≡ under_way W f mail + f m
    way_posted_one m = omega (arith, way_posted (m ∷ []), weigh_cons f m [], weigh_nil f)

    -- the oldest is delivered, others are posted
    pub way_delivered : (m : Message) (ms ps : List Message) → mail w ≡ m ∷ ms
        → under_way W f (upd mail w (ms ++ ps)) + f m ≡ under_way W f mail + weigh f ps
    way_delivered m ms ps e =
        omega (arith, sum_upd W (weigh f) mail w (ms ++ ps) l, weigh_append f ms ps, ap (weigh f) e ∙ weigh_cons f m ms)

    -- a message anywhere in a mailbox
    pub way_carried : (xs : List Message) (m : Message) (ys : List Message) → mail w ≡ xs ++ m ∷ ys → f m ≤ under_way W f mail
    way_carried xs m ys e =
        omega (arith, le_sum W (λ k. weigh f (mail k)) w l, ap (weigh f) e ∙ weigh_append f xs (m ∷ ys), weigh_cons f m ys)

    -- two messages in one mailbox
    pub way_two : (xs : List Message) (m : Message) (ys : List Message) (n : Message) (zs : List Message)
        → mail w ≡ xs ++ (m ∷ (ys ++ n ∷ zs)) → f m + f n ≤ under_way W f mail
    way_two xs m ys n zs e =
        omega (
          arith,
          le_sum W (λ k. weigh f (mail k)) w l,
          ap (weigh f) e ∙ weigh_append f xs (m ∷ (ys ++ n ∷ zs)),
          weigh_cons f m (ys ++ n ∷ zs),
          weigh_append f ys (n ∷ zs),
          weigh_cons f n zs,
        )

    -- and in two
    pub way_apart : (v : ℕ) → v < W → w ≢ v → (xs : List Message) (m : Message) (ys : List Message) → mail w ≡ xs ++ m ∷ ys
        → (us : List Message) (n : Message) (vs : List Message) → mail v ≡ us ++ n ∷ vs → f m + f n ≤ under_way W f mail
    way_apart v k ne xs m ys d us n vs e =
        omega (
          arith,
          two_sum W (λ k. weigh f (mail k)) w v l k ne,
          ap (weigh f) d ∙ weigh_append f xs (m ∷ ys),
          weigh_cons f m ys,
          ap (weigh f) e ∙ weigh_append f us (n ∷ vs),
          weigh_cons f n vs,
        )

-- what a delivery passes on counts as its one message would
module _ (ts : List Task) (a : ℕ) (e f : Flags) where
  abbrev pub pass_message : Message
  pass_message =
      record {
        to = next ts a;
        flags = granting (passes_read (reader ts a) f - passes_read (reader ts a) e) (passes_write f - passes_write e);
        sender = some a;
      }

  pub weigh_passed : (h : Message → ℕ) → (pass_message.flags.read ≡ 0 → pass_message.flags.write ≡ 0 → h pass_message ≡ 0)
      → weigh h (passed ts a e f) ≡ h pass_message
  unfolding passed weigh
  weigh_passed h z = go (eqb pass_message.flags.read 0) refl (eqb pass_message.flags.write 0) refl
    where
      go : (s : Bool) → eqb pass_message.flags.read 0 ≡ s → (t : Bool) → eqb pass_message.flags.write 0 ≡ t
          → weigh h (elim (s && t) [ true ↦ [] | false ↦ pass_message ∷ [] ]) ≡ h pass_message
      go true p true q = sym (z (eqb-true _ 0 p) (eqb-true _ 0 q))
      go true p false q = omega arith
      go false p true q = omega arith
      go false p false q = omega arith

  -- and a property of it is one of that message where a flag passes
  pub passed_all : (P : List Message → Type 0) → P [] → (1 ≤ pass_message.flags.read + pass_message.flags.write → P (pass_message ∷ []))
      → P (passed ts a e f)
  unfolding passed
  passed_all P empty one = go (eqb pass_message.flags.read 0) refl (eqb pass_message.flags.write 0) refl
    where
      go : (s : Bool) → eqb pass_message.flags.read 0 ≡ s → (t : Bool) → eqb pass_message.flags.write 0 ≡ t
          → P (elim (s && t) [ true ↦ [] | false ↦ pass_message ∷ [] ])
      go true p true q = empty
      go true p false q = one (omega (arith, eqb-false pass_message.flags.write 0 q))
      go false p true q = one (omega (arith, eqb-false pass_message.flags.read 0 p))
      go false p false q = one (omega (arith, eqb-false pass_message.flags.read 0 p))

-- ---- the DONE messages of a task

abbrev pub dones : ℕ → ℕ → List Message
dones k n = map (λ a. plain a DONE) (numbers_from k n)

pub weigh_dones_none : (f : Message → ℕ) (k n : ℕ) → ((b : ℕ) → f (plain b DONE) ≡ 0) → weigh f (dones k n) ≡ 0
unfolding weigh numbers_from
weigh_dones_none f k zero h = refl
weigh_dones_none f k (suc n) h = omega (arith, h k, weigh_dones_none f (suc k) n h)

module _ (a : ℕ) where
  weigh_dones_out : (k n : ℕ) → (a < k) ⊎ (k + n ≤ a) → weigh (toward (λ f. f.done) a) (dones k n) ≡ 0
  unfolding weigh numbers_from
  weigh_dones_out k zero o = refl
  weigh_dones_out k (suc n) (inl o) = omega (arith, here_other a k 1 (omega arith), weigh_dones_out (suc k) n (inl (omega arith)))
  weigh_dones_out k (suc n) (inr o) = omega (arith, here_other a k 1 (omega arith), weigh_dones_out (suc k) n (inr (omega arith)))

  weigh_dones_in : (k n : ℕ) → k ≤ a → a < k + n → weigh (toward (λ f. f.done) a) (dones k n) ≡ 1
  unfolding weigh numbers_from
  weigh_dones_in k zero l u = absurd (omega arith)
  weigh_dones_in k (suc n) l u = go (same a k) (λ q. weigh_dones_in (suc k) n q (omega arith))
    where
      go : (a ≡ k) ⊎ (a ≢ k) → (suc k ≤ a → weigh (toward (λ f. f.done) a) (dones (suc k) n) ≡ 1)
          → here a k 1 + weigh (toward (λ f. f.done) a) (dones (suc k) n) ≡ 1
      go (inl e) h = omega (arith, here_same a k 1 e, weigh_dones_out (suc k) n (inl (omega arith)))
      go (inr e) h = omega (arith, here_other a k 1 e, h (omega arith))

  -- 1 for each of the n numbers from k on
  pub weigh_dones : (k n : ℕ) (x : ℕ) → (k ≤ a → a < k + n → x ≡ 1) → ((a < k) ⊎ (k + n ≤ a) → x ≡ 0)
      → weigh (toward (λ f. f.done) a) (dones k n) ≡ x
  weigh_dones k n x within outside = go (order a k) (order a (k + n))
    where
      go : (a < k) ⊎ (k ≤ a) → (a < k + n) ⊎ (k + n ≤ a) → weigh (toward (λ f. f.done) a) (dones k n) ≡ x
      go (inl p) q = weigh_dones_out k n (inl p) ∙ sym (outside (inl p))
      go (inr p) (inl q) = weigh_dones_in k n p q ∙ sym (within p q)
      go (inr p) (inr q) = weigh_dones_out k n (inr q) ∙ sym (outside (inr q))

-- ---- notices

-- of a flag, what a worker that stands so tells access a
abbrev pub tells : (Flags → ℕ) → ℕ → Stand → ℕ
tells flag a free = 0
tells flag a (telling b f) = here a b (flag f)
tells flag a (working i n) = 0

abbrev pub pending : ℕ → (Flags → ℕ) → (ℕ → Stand) → ℕ → ℕ
pending W flag st a = sum W (λ k. tells flag a (st k))
