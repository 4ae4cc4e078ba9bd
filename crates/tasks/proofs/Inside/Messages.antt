-- No message is lost and none is sent twice: for each access and flag, the flag set and the messages under way that bring it
-- come to 1 where the flag is due, and to 0 where it is not.
use Rattle.std.specs.Prelude.{ℕ, suc, ◌+◌, ◌-◌, ◌≤◌, ◌<◌, min, ◌≡◌, refl, ◌⊎◌, ◌≢◌, List, [], ◌∷◌, ◌++◌, length}
use Rattle.std.proofs.Common.{ap, ◌∙◌, inl, inr}
use Rattle.std.proofs.Math.Option.{Option, none, some}
use native.Mathlib.Omega.{arith}
use Rattle.runs.specs.Update.{order}
use Rattle.runs.specs.Sums.{le_sum, sum_zeros}
use Rattle.plan.specs.Plan.{Task}
use Rattle.runs.specs.Counts.{one_le}
use Rattle.tasks.specs.Tasks.{is_over, is_ended, Made, Sound, Message, Stand, free, telling, working, Status, Creation, opening}
use Rattle.tasks.specs.Tasks.{linking, Tasks, start, linked}
use Rattle.tasks.specs.Flags.{Once, NoneTwice, RightsOnly, Flags, granting, no_flag, sent, with}
use Rattle.tasks.specs.Accesses.{task_of, first, reader, prev, next, total}
use Rattle.tasks.proofs.Inside.LinkLaws.{Links}
use Rattle.tasks.proofs.Inside.Rights.{Right, to_read, to_write, granted, sent_of, passes, passes_next, passes_none, granted_none}
use Rattle.tasks.proofs.Inside.Rights.{sent_granting}
use Rattle.tasks.proofs.Inside.Underway.{here_same, toward, out_of, under_way, way_empty, way_carried, way_two, way_apart, tells}
use Rattle.tasks.proofs.Inside.Underway.{pending}

abbrev pub All : (Message → Type 0) → List Message → Type 0
All P [] = Unit {0}
All P (m ∷ ms) = P m × All P ms

pub all_append : (P : Message → Type 0) (xs ys : List Message) → All P xs → All P ys → All P (xs ++ ys)
all_append P [] ys a b = b
all_append P (x ∷ xs) ys (h, t) b = (h, all_append P xs ys t b)

all_amid : (P : Message → Type 0) (xs : List Message) (m : Message) (ys : List Message) → All P (xs ++ m ∷ ys) → P m
all_amid P [] m ys (h, t) = h
all_amid P (x ∷ xs) m ys (h, t) = all_amid P xs m ys t

-- a sound message brings no SENT flag
pub unsent_of : {ts : List Task} {m : Message} → Sound ts m → (r : Right) → sent_of r m.flags ≡ 0
unsent_of g to_read = g.unsent.0
unsent_of g to_write = g.unsent.1

-- a notice is to an access and tells of READ or WRITE
abbrev pub Told : List Task → Stand → Type 0
Told ts free = Unit {0}
Told ts (telling b f) = (b < total ts) × RightsOnly f
Told ts (working i n) = Unit {0}

-- whether a right is due at access a, l being linked: to the first of an address when it is linked,
-- to another when the one before passes it on
abbrev pub due : ℕ → (ℕ → ℕ) → Option ℕ → ℕ → ℕ
due l f none a = min 1 (l - a)
due l f (some b) a = f b

abbrev pub passing : List Task → (ℕ → Flags) → Right → ℕ → ℕ
passing ts flags r a = passes r (reader ts a) (flags a)

pub record MessagesOf (W : ℕ) (ts : List Task) (st : ℕ → Stand) (mail : ℕ → List Message) (flags : ℕ → Flags) (status : ℕ → Status)
    (creation : Creation) : Type 0 where
  pub made : Made ts creation
  -- READ and WRITE
  pub grants : (r : Right) (a : ℕ) → a < total ts
      → granted r (flags a) + under_way W (toward (granted r) a) mail ≡ due (linked ts creation) (passing ts flags r) (prev ts a) a
  -- NEXT where the successor is linked, DONE where the task is over
  pub nexts : (a : ℕ) → a < total ts
      → (flags a).next + under_way W (toward (λ f. f.next) a) mail ≡ min 1 (linked ts creation - next ts a)
  pub dones : (a : ℕ) → a < total ts
      → (flags a).done + under_way W (toward (λ f. f.done) a) mail ≡ is_ended (status (task_of ts a))
  -- SENT flags, the notices to come with them, and the pass messages not delivered yet: what the access has passed on
  pub sents : (r : Right) (a : ℕ)
      → sent_of r (flags a) + pending W (granted r) st a + under_way W (out_of (granted r) a) mail ≡ passing ts flags r a
  pub sound : (v : ℕ) → All (Sound ts) (mail v)
  pub told : (v : ℕ) → Told ts (st v)
  pub beyond : (a : ℕ) → total ts ≤ a → flags a ≡ no_flag

abbrev pub Messages : ℕ → List Task → Tasks → (ℕ → Stand) → Type 0
Messages W ts s st = MessagesOf W ts st s.mail s.flags s.status s.creation

-- what is linked is an access
pub linked_within : (ts : List Task) → Links ts → (x : Creation) → Made ts x → linked ts x ≤ total ts
linked_within ts laws (opening i) m = omega (arith, laws.first_mono i (length ts) m, laws.first_all (length ts) (omega arith))
linked_within ts laws (linking i a) (l, lo, hi) =
    omega (arith, laws.first_mono (suc i) (length ts) l, laws.first_all (length ts) (omega arith))

-- ---- the theorems

module _ (W : ℕ) (ts : List Task) (laws : Links ts) where
  -- at the start nothing is due and nothing is there
  pub messages_start : Messages W ts start (λ _. free)
  unfolding start
  messages_start =
      record {
        made = omega arith;
        grants = λ r a l. omega (arith, granted_none r, none_way (toward (granted r) a), nothing_due r a (prev ts a));
        nexts = λ a l. omega (arith, none_way (toward (λ f. f.next) a), laws.first_zero);
        dones = λ a l. omega (arith, none_way (toward (λ f. f.done) a));
        sents = λ r a.
            omega (
              arith,
              sent_granting r 0 0,
              sum_zeros W (λ k. 0) (λ k l. refl),
              none_way (out_of (granted r) a),
              passes_none r (reader ts a),
            );
        sound = λ v. tt;
        told = λ v. tt;
        beyond = λ a l. refl;
      }
    where
      none_way : (f : Message → ℕ) → under_way W f (λ k. []) ≡ 0
      none_way f = way_empty W f (λ k. []) (λ v l. refl)

      nothing_due : (r : Right) (a : ℕ) (o : Option ℕ) → due (first ts 0) (passing ts (λ b. no_flag) r) o a ≡ 0
      nothing_due r a none = omega (arith, laws.first_zero)
      nothing_due r a (some b) = passes_none r (reader ts b)

  module _ (s : Tasks) (st : ℕ → Stand) (i : Messages W ts s st) where
    next_once : (a : ℕ) → a < total ts → (s.flags a).next + under_way W (toward (λ f. f.next) a) s.mail ≤ 1
    next_once a l = omega (arith, i.nexts a l)

    done_once : (a : ℕ) → a < total ts → (s.flags a).done + under_way W (toward (λ f. f.done) a) s.mail ≤ 1
    done_once a l = omega (arith, i.dones a l, one_le (is_over (s.status (task_of ts a))))

    passing_once : (r : Right) (a : ℕ) → a < total ts → passing ts s.flags r a ≤ 1
    passing_once r a l = omega (arith, next_once a l, passes_next r (reader ts a) (s.flags a))

    pub granted_once : (r : Right) (a : ℕ) → a < total ts → granted r (s.flags a) + under_way W (toward (granted r) a) s.mail ≤ 1
    granted_once r a l = rw (i.grants r a l) (go (prev ts a) refl)
      where
        go : (o : Option ℕ) → prev ts a ≡ o → due (linked ts s.creation) (passing ts s.flags r) o a ≤ 1
        go none e = omega arith
        go (some b) e = passing_once r b (omega (arith, (laws.prev_some b a e).0))

    -- READ and WRITE of an access that is not linked are not due: they are not set and not under way
    pub granted_unlinked : (r : Right) (a : ℕ) → a < total ts → linked ts s.creation ≤ a
        → granted r (s.flags a) + under_way W (toward (granted r) a) s.mail ≡ 0
    granted_unlinked r a l u = i.grants r a l ∙ go (prev ts a) refl
      where
        go : (o : Option ℕ) → prev ts a ≡ o → due (linked ts s.creation) (passing ts s.flags r) o a ≡ 0
        go none e = omega arith
        go (some b) e =
            omega (
              arith,
              passes_next r (reader ts b) (s.flags b),
              i.nexts b (omega (arith, (laws.prev_some b a e).0)),
              laws.prev_next b a l e,
            )

    -- every flag is 0 or 1
    pub flags_once : (a : ℕ) → Once (s.flags a)
    flags_once a = go (order a (total ts))
      where
        go : (a < total ts) ⊎ (total ts ≤ a) → Once (s.flags a)
        go (inl l) =
            record {
              read = omega (arith, granted_once to_read a l);
              write = omega (arith, granted_once to_write a l);
              done = omega (arith, done_once a l);
              next = omega (arith, next_once a l);
              sent_read = omega (arith, i.sents to_read a, passing_once to_read a l);
              sent_write = omega (arith, i.sents to_write a, passing_once to_write a l);
            }
        go (inr l) =
            rw (i.beyond a l)
            (record {
              read = omega arith;
              write = omega arith;
              done = omega arith;
              next = omega arith;
              sent_read = omega arith;
              sent_write = omega arith;
            })

    -- what a notice tells of is not marked as sent
    sent_once : (w : ℕ) → w < W → (a : ℕ) (f : Flags) → st w ≡ telling a f → a < total ts → (r : Right)
        → sent_of r (s.flags a) + granted r f ≤ 1
    sent_once w hw a f p l r =
        omega (
          arith,
          i.sents r a,
          passing_once r a l,
          le_sum W (λ k. tells (granted r) a (st k)) w hw,
          ap (tells (granted r) a) p,
          here_same a a (granted r f) refl,
        )

    -- a notice is to an access, and tells of each flag once
    pub notice_once : (w : ℕ) → w < W → (a : ℕ) (f : Flags) → st w ≡ telling a f → (a < total ts) × Once f
    notice_once w hw a f p = (
      to.0,
      record {
        read = bounded to_read;
        write = bounded to_write;
        done = omega (arith, ap (λ (g : Flags). g.done) only);
        next = omega (arith, ap (λ (g : Flags). g.next) only);
        sent_read = omega (arith, ap (λ (g : Flags). g.sent_read) only);
        sent_write = omega (arith, ap (λ (g : Flags). g.sent_write) only);
      },
    )
      where
        to : (a < total ts) × RightsOnly f
        to = rw p at (i.told w)

        only : f ≡ granting f.read f.write
        only = to.1.1

        bounded : (r : Right) → granted r f ≤ 1
        bounded r = omega (arith, sent_once w hw a f p to.0 r)

    -- and sets no flag that is set
    pub notice_new : (w : ℕ) → w < W → (a : ℕ) (f : Flags) → st w ≡ telling a f → Once (with (s.flags a) (sent f))
    notice_new w hw a f p =
        let l : a < total ts = (notice_once w hw a f p).0 in
        let old = flags_once a in
        record {
          read = omega (arith, old.read);
          write = omega (arith, old.write);
          done = omega (arith, old.done);
          next = omega (arith, old.next);
          sent_read = omega (arith, sent_once w hw a f p l to_read);
          sent_write = omega (arith, sent_once w hw a f p l to_write);
        }

    module _ (w : ℕ) (hw : w < W) (xs : List Message) (m : Message) (ys : List Message) (e : s.mail w ≡ xs ++ m ∷ ys) where
      pub message_sound : Sound ts m
      message_sound = all_amid (Sound ts) xs m ys (rw e at (i.sound w))

      -- a message under way repeats no flag that is set
      pub no_repeat : NoneTwice (s.flags m.to) m.flags
      no_repeat =
          record {
            read = omega (arith, amid (granted to_read), granted_once to_read m.to message_sound.to);
            write = omega (arith, amid (granted to_write), granted_once to_write m.to message_sound.to);
            done = omega (arith, amid (λ f. f.done), done_once m.to message_sound.to);
            next = omega (arith, amid (λ f. f.next), next_once m.to message_sound.to);
          }
        where
          amid : (f : Flags → ℕ) → f m.flags ≤ under_way W (toward f m.to) s.mail
          amid f = omega (arith, way_carried W (toward f m.to) s.mail w hw xs m ys e, here_same m.to m.to (f m.flags) refl)

      -- two that are counted together repeat none of each other's
      both : (n : Message) → m.to ≡ n.to → ((f : Message → ℕ) → f m + f n ≤ under_way W f s.mail) → NoneTwice m.flags n.flags
      both n q h =
          record {
            read = omega (arith, together (granted to_read), granted_once to_read m.to message_sound.to);
            write = omega (arith, together (granted to_write), granted_once to_write m.to message_sound.to);
            done = omega (arith, together (λ f. f.done), done_once m.to message_sound.to);
            next = omega (arith, together (λ f. f.next), next_once m.to message_sound.to);
          }
        where
          together : (f : Flags → ℕ) → f m.flags + f n.flags ≤ under_way W (toward f m.to) s.mail
          together f =
              omega (arith, h (toward f m.to), here_same m.to m.to (f m.flags) refl, here_same m.to n.to (f n.flags) q)

      -- no two messages under way carry the same flag to the same access: in two mailboxes
      pub no_two : (v : ℕ) → v < W → w ≢ v → (us : List Message) (n : Message) (vs : List Message) → s.mail v ≡ us ++ n ∷ vs
          → m.to ≡ n.to → NoneTwice m.flags n.flags
      no_two v hv ne us n vs d q = both n q (λ f. way_apart W f s.mail w hw v hv ne xs m ys e us n vs d)

    -- and in one
    pub no_two_in : (w : ℕ) → w < W → (xs : List Message) (m : Message) (ys : List Message) (n : Message) (zs : List Message)
        → s.mail w ≡ xs ++ (m ∷ (ys ++ n ∷ zs))
        → m.to ≡ n.to → NoneTwice m.flags n.flags
    no_two_in w hw xs m ys n zs e q = both w hw xs m (ys ++ n ∷ zs) e n q (λ f. way_two W f s.mail w hw xs m ys n zs e)
