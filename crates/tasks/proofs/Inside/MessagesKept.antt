-- Every operation keeps what holds of messages and flags.
use Prim.Native.Nat.{ℕ, zero, suc, ◌+◌, ◌-◌, ◌≤◌, ◌<◌, min}
use Rattle.std.specs.Prelude.{◌≡◌, ◌⊎◌, ◌≢◌, List, [], ◌∷◌, ◌++◌, length}
use Rattle.std.proofs.Math.Path.{refl, sym, ap}
use Rattle.std.proofs.Common.{◌∙◌, inl, inr}
use Rattle.std.proofs.Math.Option.{Option, none, some, none-ne-some as none_some, some-injective as some_same}
use native.Mathlib.Omega.{arith}
use Rattle.runs.specs.Update.{same, order, upd, upd_same, upd_other, upd_all}
use Rattle.runs.specs.Sums.{sum_upd}
use Rattle.plan.specs.Orders.{numbers_from}
use Rattle.tasks.specs.Accesses.{task_of, task_at, first, reader, prev, next, total}
use Rattle.tasks.specs.Flags.{Flags, granting, no_flag, DONE, NEXT, sent, with, RightsOnly}
use Rattle.plan.specs.Plan.{Task}
use Rattle.tasks.specs.Tasks.{is_ended, Made, Sound, Message, Stand, free, telling, working, Status, waiting, ready, held, running}
use Rattle.tasks.specs.Tasks.{over, Creation, opening, linking, Tasks, is_running, opened, linked}
use Rattle.tasks.proofs.Inside.Messages.{unsent_of, All, all_append, Told, due, passing, MessagesOf, Messages, linked_within}
use Rattle.tasks.specs.History.{Op, plain, lowered, link_message, passed, done_messages, notice_of, after, stand_after, Can, can_mind}
use Rattle.tasks.specs.History.{can_open, can_link, can_close, can_deliver, can_tell, can_give, can_hold, can_take, can_receive}
use Rattle.tasks.specs.History.{can_work, can_end}
use Rattle.tasks.proofs.Inside.Lowered.{lowered_cases}
use Rattle.tasks.proofs.Inside.Counting.{Counts, counts_waiting, given_ready}
use Rattle.tasks.proofs.Inside.LinkLaws.{Links}
use Rattle.tasks.proofs.Inside.Rights.{Right, to_read, to_write, granted, sent_of, passes, passes_next, passes_with, passes_sent}
use Rattle.tasks.proofs.Inside.Rights.{granted_with, sent_with, granted_sent, sent_sent, granted_both, granted_done, granted_next}
use Rattle.tasks.specs.History.{here}
use Rattle.tasks.proofs.Inside.Underway.{here_same, here_other, here_zero, upd_more, weigh, toward, by_sender, out_of, under_way}
use Rattle.tasks.proofs.Inside.Underway.{way_posted, way_posted_one, way_delivered, way_carried, pass_message, weigh_passed, passed_all}
use Rattle.tasks.proofs.Inside.Underway.{dones, weigh_dones, weigh_dones_none, tells, pending}

-- ---- what one thing changed keeps

module _ (W : ℕ) (ts : List Task) (st : ℕ → Stand) (mail : ℕ → List Message) (flags : ℕ → Flags) (status : ℕ → Status) (creation : Creation)
    (i : MessagesOf W ts st mail flags status creation) where
  -- a worker stands otherwise, with the same to tell
  moves : (w : ℕ) → w < W → (q : Stand) → ((f : Flags → ℕ) (a : ℕ) → tells f a q ≡ tells f a (st w)) → Told ts q
      → MessagesOf W ts (upd st w q) mail flags status creation
  moves w l q z t =
      record {
        made = i.made;
        grants = i.grants;
        nexts = i.nexts;
        dones = i.dones;
        sents = λ r a. omega (arith, i.sents r a, sum_upd W (tells (granted r) a) st w q l, z (granted r) a);
        sound = i.sound;
        told = upd_all (λ v x. Told ts x) st w q t (λ v ne. i.told v);
        beyond = i.beyond;
      }

  -- the status of a task that is not over becomes another than over
  restated : (j : ℕ) (x : Status) → is_ended (status j) ≡ 0 → is_ended x ≡ 0 → MessagesOf W ts st mail flags (upd status j x) creation
  restated j x z y =
      record {
        made = i.made;
        grants = i.grants;
        nexts = i.nexts;
        dones = λ a l. i.dones a l ∙ sym (stays (task_of ts a));
        sents = i.sents;
        sound = i.sound;
        told = i.told;
        beyond = i.beyond;
      }
    where
      stays : (k : ℕ) → is_ended (upd status j x k) ≡ is_ended (status k)
      stays k = omega (arith, upd_more is_ended status j x 0 (omega arith) k, here_zero k j)

  -- creating goes on and links nothing
  recreated : (x : Creation) → Made ts x → linked ts x ≡ linked ts creation → MessagesOf W ts st mail flags status x
  recreated x m e =
      record {
        made = m;
        grants = λ r a l. i.grants r a l ∙ ap (λ n. due n (passing ts flags r) (prev ts a) a) (sym e);
        nexts = λ a l. i.nexts a l ∙ ap (λ n. min 1 (n - next ts a)) (sym e);
        dones = i.dones;
        sents = i.sents;
        sound = i.sound;
        told = i.told;
        beyond = i.beyond;
      }

-- ---- one delivery

module _ (W : ℕ) (ts : List Task) (laws : Links ts) (st : ℕ → Stand) (mail : ℕ → List Message) (flags : ℕ → Flags) (status : ℕ → Status)
    (creation : Creation)
    (i : MessagesOf W ts st mail flags status creation) (w : ℕ) (hw : w < W) (m : Message) (ms : List Message) (p : st w ≡ free)
    (q : mail w ≡ m ∷ ms) where
  delivered_sound : Sound ts m
  delivered_sound = (rw q at (i.sound w)).0

  abbrev raised : Flags
  raised = with (flags m.to) m.flags

  abbrev pass : Message
  pass = pass_message ts m.to (flags m.to) raised

  abbrev flags' : ℕ → Flags
  flags' = upd flags m.to raised

  abbrev mail' : ℕ → List Message
  mail' = upd mail w (ms ++ passed ts m.to (flags m.to) raised)

  abbrev st' : ℕ → Stand
  st' = upd st w (notice_of m m.sender)

  -- a flag moves from the mailbox to its access; what passes on comes under way
  arrives : (f : Flags → ℕ) → f raised ≡ f (flags m.to) + f m.flags
      → (pass.flags.read ≡ 0 → pass.flags.write ≡ 0 → f pass.flags ≡ 0) → (a : ℕ)
      → f (flags' a) + under_way W (toward f a) mail'
      ≡ f (flags a) + under_way W (toward f a) mail + here a (next ts m.to) (f pass.flags)
  arrives f add z a =
      omega (
        arith,
        upd_more f flags m.to raised (f m.flags) add a,
        way_delivered W (toward f a) mail w hw m ms (passed ts m.to (flags m.to) raised) q,
        weigh_passed ts m.to (flags m.to) raised (toward f a)
            (λ x y. ap (here a (next ts m.to)) (z x y) ∙ here_zero a (next ts m.to)),
      )

  pass_grants : (r : Right) → granted r pass.flags ≡ passes r (reader ts m.to) raised - passing ts flags r m.to
  pass_grants to_read = refl
  pass_grants to_write = refl

  pass_nothing : (r : Right) → pass.flags.read ≡ 0 → pass.flags.write ≡ 0 → granted r pass.flags ≡ 0
  pass_nothing to_read x y = x
  pass_nothing to_write x y = y

  passing_rises : (r : Right) (b : ℕ) → passing ts flags' r b ≡ passing ts flags r b + here b m.to (granted r pass.flags)
  passing_rises r b = go (same b m.to)
    where
      go : (b ≡ m.to) ⊎ (b ≢ m.to) → passing ts flags' r b ≡ passing ts flags r b + here b m.to (granted r pass.flags)
      go (inl e) =
          rw (e, upd_same, here_same m.to m.to (granted r pass.flags) refl)
          (omega (arith, pass_grants r, passes_with r (reader ts m.to) (flags m.to) m.flags))
      go (inr e) = rw (upd_other, here_other b m.to (granted r pass.flags) e) (omega arith)

  -- what is due rises at the successor by what passes
  due_rises : (f g : ℕ → ℕ) (x : ℕ) → ((b : ℕ) → g b ≡ f b + here b m.to x) → (a : ℕ) → a < total ts
      → due (linked ts creation) g (prev ts a) a ≡ due (linked ts creation) f (prev ts a) a + here a (next ts m.to) x
  due_rises f g x h a l = go (prev ts a) refl
    where
      back : a ≡ next ts m.to → prev ts a ≡ some m.to
      back t = laws.next_prev m.to a delivered_sound.to l (sym t)

      go : (y : Option ℕ) → prev ts a ≡ y → due (linked ts creation) g y a ≡ due (linked ts creation) f y a + here a (next ts m.to) x
      go none z = omega (arith, here_other a (next ts m.to) x (λ t. none_some m.to (sym z ∙ back t)))
      go (some b) z = at (same b m.to)
        where
          at : (b ≡ m.to) ⊎ (b ≢ m.to) → g b ≡ f b + here a (next ts m.to) x
          at (inl t) =
              omega (
                arith,
                h b,
                here_same b m.to x t,
                here_same a (next ts m.to) x (sym (laws.prev_next m.to a l (z ∙ ap some t))),
              )
          at (inr t) =
              omega (arith, h b, here_other b m.to x t, here_other a (next ts m.to) x (λ u. t (some_same b m.to (sym z ∙ back u))))

  deliver_grants : (r : Right) (a : ℕ) → a < total ts
      → granted r (flags' a) + under_way W (toward (granted r) a) mail' ≡ due (linked ts creation) (passing ts flags' r) (prev ts a) a
  deliver_grants r a l =
      omega (
        arith,
        arrives (granted r) (granted_with r (flags m.to) m.flags) (pass_nothing r) a,
        due_rises (passing ts flags r) (passing ts flags' r) (granted r pass.flags) (passing_rises r) a l,
        i.grants r a l,
      )

  -- the notice takes the place of the message
  notice_of_lem : (f : Flags → ℕ) (a : ℕ) (o : Option ℕ) → tells f a (notice_of m o) ≡ by_sender a o (f m.flags)
  notice_of_lem f a none = refl
  notice_of_lem f a (some b) = refl

  deliver_sents : (r : Right) (a : ℕ)
      → sent_of r (flags' a) + pending W (granted r) st' a + under_way W (out_of (granted r) a) mail' ≡ passing ts flags' r a
  deliver_sents r a =
      omega (
        arith,
        upd_more (sent_of r) flags m.to raised 0 (omega (arith, sent_with r (flags m.to) m.flags, unsent_of delivered_sound r)) a,
        here_zero a m.to,
        sum_upd W (tells (granted r) a) st w (notice_of m m.sender) hw,
        ap (tells (granted r) a) p,
        notice_of_lem (granted r) a m.sender,
        way_delivered W (out_of (granted r) a) mail w hw m ms (passed ts m.to (flags m.to) raised) q,
        weigh_passed ts m.to (flags m.to) raised (out_of (granted r) a)
            (λ x y. ap (here a m.to) (pass_nothing r x y) ∙ here_zero a m.to),
        passing_rises r a,
        i.sents r a,
      )

  linked_below : linked ts creation ≤ total ts
  linked_below = linked_within ts laws creation i.made

  pass_sound : 1 ≤ pass.flags.read + pass.flags.write → Sound ts pass
  pass_sound h =
      let at_next : next ts m.to < total ts =
      omega (
        arith,
        way_carried W (toward (λ f. f.next) m.to) mail w hw [] m ms q,
        here_same m.to m.to m.flags.next refl,
        i.nexts m.to delivered_sound.to,
        linked_below,
        passes_next to_read (reader ts m.to) raised,
        passes_next to_write (reader ts m.to) raised,
      ) in
      record {
        to = at_next;
        brings = omega arith;
        unsent = (refl, refl);
        from = λ b e. (omega (arith, some_same m.to b e, delivered_sound.to), (h, refl));
      }

  deliver_told : (o : Option ℕ) → ((b : ℕ) → o ≡ some b → (b < total ts) × RightsOnly m.flags) → Told ts (notice_of m o)
  deliver_told none h = tt
  deliver_told (some b) h = h b refl

  keeps_deliver : MessagesOf W ts st' mail' flags' status creation
  keeps_deliver =
      record {
        made = i.made;
        grants = deliver_grants;
        nexts = λ a l. omega (arith, arrives (λ f. f.next) refl (λ x y. refl) a, here_zero a (next ts m.to), i.nexts a l);
        dones = λ a l. omega (arith, arrives (λ f. f.done) refl (λ x y. refl) a, here_zero a (next ts m.to), i.dones a l);
        sents = deliver_sents;
        sound = upd_all (λ v x. All (Sound ts) x) mail w _
            (all_append (Sound ts) ms _ (rw q at (i.sound w)).1
            (passed_all ts m.to (flags m.to) raised (All (Sound ts)) tt (λ h. (pass_sound h, tt))))
            (λ v ne. i.sound v);
        told = upd_all (λ v x. Told ts x) st w _ (deliver_told m.sender delivered_sound.from) (λ v ne. i.told v);
        beyond =
            upd_all (λ a f. total ts ≤ a → f ≡ no_flag) flags m.to raised (λ h. absurd (omega (arith, delivered_sound.to)))
            (λ a ne. i.beyond a);
      }

-- ---- one link

module _ (W : ℕ) (ts : List Task) (laws : Links ts) (st : ℕ → Stand) (mail : ℕ → List Message) (flags : ℕ → Flags) (status : ℕ → Status)
    (t x : ℕ)
    (i : MessagesOf W ts st mail flags status (linking t x)) (w : ℕ) (hw : w < W) (h : x < first ts (suc t)) where
  link_in : x < total ts
  link_in = omega (arith, linked_within ts laws (linking t (suc x)) (i.made.0, omega (arith, i.made.1), h))

  -- an access is the successor of the one before it only
  first_next : prev ts x ≡ none → (b : ℕ) → b < total ts → min 1 (suc x - next ts b) ≡ min 1 (x - next ts b)
  first_next q b l = go (same (next ts b) x)
    where
      go : (next ts b ≡ x) ⊎ (next ts b ≢ x) → min 1 (suc x - next ts b) ≡ min 1 (x - next ts b)
      go (inl e) = absurd (none_some b (sym q ∙ laws.next_prev b x l link_in e))
      go (inr e) = omega arith

  later_next : (d : ℕ) → prev ts x ≡ some d → (b : ℕ) → b < total ts → min 1 (suc x - next ts b) ≡ min 1 (x - next ts b) + here b d 1
  later_next d q b l = go (same b d)
    where
      go : (b ≡ d) ⊎ (b ≢ d) → min 1 (suc x - next ts b) ≡ min 1 (x - next ts b) + here b d 1
      go (inl e) = omega (arith, here_same b d 1 e, ap (next ts) e ∙ laws.prev_next d x link_in q)
      go (inr e) =
          let ne : next ts b ≢ x = λ z. e (some_same b d (sym (laws.next_prev b x l link_in z) ∙ q)) in
          omega (arith, here_other b d 1 e)

  first_due : prev ts x ≡ none → (f : ℕ → ℕ) (b : ℕ) → due (suc x) f (prev ts b) b ≡ due x f (prev ts b) b + here b x 1
  first_due q f b = go (prev ts b) refl (same b x)
    where
      go : (o : Option ℕ) → prev ts b ≡ o → (b ≡ x) ⊎ (b ≢ x) → due (suc x) f o b ≡ due x f o b + here b x 1
      go none e (inl z) = omega (arith, here_same b x 1 z)
      go none e (inr z) = omega (arith, here_other b x 1 z)
      go (some d) e (inl z) = absurd (none_some d (sym q ∙ ap (prev ts) (sym z) ∙ e))
      go (some d) e (inr z) = omega (arith, here_other b x 1 z)

  later_due : (d : ℕ) → prev ts x ≡ some d → (f : ℕ → ℕ) (b : ℕ) → due (suc x) f (prev ts b) b ≡ due x f (prev ts b) b
  later_due d q f b = go (prev ts b) refl
    where
      go : (o : Option ℕ) → prev ts b ≡ o → due (suc x) f o b ≡ due x f o b
      go none e = let ne : b ≢ x = λ z. none_some d (sym e ∙ ap (prev ts) z ∙ q) in omega arith
      go (some y) e = refl

  link_made : Made ts (linking t (suc x))
  link_made = (i.made.0, omega (arith, i.made.1), h)

  abbrev posting : Message → ℕ → List Message
  posting m = upd mail w (mail w ++ m ∷ [])

  one_more : (m : Message) (f : Flags → ℕ) (b : ℕ)
      → under_way W (toward f b) (posting m) ≡ under_way W (toward f b) mail + here b m.to (f m.flags)
  one_more m f b = way_posted_one W (toward f b) mail w hw m

  link_sound : (m : Message) → Sound ts m → (v : ℕ) → All (Sound ts) (posting m v)
  link_sound m g =
      upd_all (λ v y. All (Sound ts) y) mail w (mail w ++ m ∷ []) (all_append (Sound ts) (mail w) (m ∷ []) (i.sound w) (g, tt))
      (λ v ne. i.sound v)

  keeps_first : prev ts x ≡ none → MessagesOf W ts st (posting (plain x (granting 1 1))) flags status (linking t (suc x))
  keeps_first q =
      let m : Message = plain x (granting 1 1) in
      record {
        made = link_made;
        grants = λ r a l.
            omega (arith, i.grants r a l, one_more m (granted r) a, ap (here a x) (granted_both r), first_due q (passing ts flags r) a);
        nexts = λ a l. omega (arith, i.nexts a l, one_more m (λ f. f.next) a, here_zero a x, first_next q a l);
        dones = λ a l. omega (arith, i.dones a l, one_more m (λ f. f.done) a, here_zero a x);
        sents = λ r a. omega (arith, i.sents r a, way_posted_one W (out_of (granted r) a) mail w hw m);
        sound = link_sound m (record { to = link_in; brings = omega arith; unsent = (refl, refl); from = λ b e. absurd (none_some b e) });
        told = i.told;
        beyond = i.beyond;
      }

  keeps_later : (d : ℕ) → prev ts x ≡ some d → MessagesOf W ts st (posting (plain d NEXT)) flags status (linking t (suc x))
  keeps_later d q =
      let m : Message = plain d NEXT in
      record {
        made = link_made;
        grants = λ r a l.
            omega (
              arith,
              i.grants r a l,
              one_more m (granted r) a,
              ap (here a d) (granted_next r) ∙ here_zero a d,
              later_due d q (passing ts flags r) a,
            );
        nexts = λ a l. omega (arith, i.nexts a l, one_more m (λ f. f.next) a, later_next d q a l);
        dones = λ a l. omega (arith, i.dones a l, one_more m (λ f. f.done) a, here_zero a d);
        sents = λ r a. omega (arith, i.sents r a, way_posted_one W (out_of (granted r) a) mail w hw m);
        sound =
            link_sound m
            (record {
              to = omega (arith, (laws.prev_some d x q).0, link_in);
              brings = omega arith;
              unsent = (refl, refl);
              from = λ b e. absurd (none_some b e);
            });
        told = i.told;
        beyond = i.beyond;
      }

  keeps_link : MessagesOf W ts st (posting (link_message ts x)) flags status (linking t (suc x))
  unfolding link_message
  keeps_link = go (prev ts x) refl
    where
      go : (o : Option ℕ) → prev ts x ≡ o
          → MessagesOf W ts st (posting (elim o [ none ↦ plain x (granting 1 1) | some b ↦ plain b NEXT ])) flags status (linking t (suc x))
      go none q = keeps_first q
      go (some d) q = keeps_later d q

-- ---- a notice, and the end of a task

module _ (W : ℕ) (ts : List Task) (laws : Links ts) (st : ℕ → Stand) (mail : ℕ → List Message) (flags : ℕ → Flags) (status : ℕ → Status)
    (creation : Creation)
    (i : MessagesOf W ts st mail flags status creation) (w : ℕ) (hw : w < W) where
  module _ (b : ℕ) (g : Flags) (p : st w ≡ telling b g) where
    -- only the SENT flags change
    untouched : (f : Flags → ℕ) → f (with (flags b) (sent g)) ≡ f (flags b) → (a : ℕ)
        → f (upd flags b (with (flags b) (sent g)) a) ≡ f (flags a)
    untouched f h a = omega (arith, upd_more f flags b (with (flags b) (sent g)) 0 (omega arith) a, here_zero a b)

    notify_passing : (r : Right) (a : ℕ) → passing ts (upd flags b (with (flags b) (sent g))) r a ≡ passing ts flags r a
    notify_passing r a = untouched (passes r (reader ts a)) (passes_sent r (reader ts a) (flags b) g) a

    same_due : (f g : ℕ → ℕ) → ((a : ℕ) → g a ≡ f a) → (l : ℕ) (o : Option ℕ) (a : ℕ) → due l g o a ≡ due l f o a
    same_due f g h l none a = refl
    same_due f g h l (some d) a = h d

    keeps_notify : MessagesOf W ts (upd st w free) mail (upd flags b (with (flags b) (sent g))) status creation
    keeps_notify =
        let (in_plan, rights) = to in
        record {
          made = i.made;
          grants = λ r a l.
              omega (
                arith,
                i.grants r a l,
                untouched (granted r) (omega (arith, granted_with r (flags b) (sent g), granted_sent r g)) a,
                same_due (passing ts flags r) (passing ts (upd flags b (with (flags b) (sent g))) r) (notify_passing r) (linked ts creation)
                    (prev ts a) a,
              );
          nexts = λ a l. omega (arith, i.nexts a l, untouched (λ f. f.next) (omega arith) a);
          dones = λ a l. omega (arith, i.dones a l, untouched (λ f. f.done) (omega arith) a);
          sents = λ r a.
              omega (
                arith,
                i.sents r a,
                upd_more (sent_of r) flags b (with (flags b) (sent g)) (granted r g)
                    (omega (arith, sent_with r (flags b) (sent g), sent_sent r g)) a,
                sum_upd W (tells (granted r) a) st w free hw,
                ap (tells (granted r) a) p,
                notify_passing r a,
              );
          sound = i.sound;
          told = upd_all (λ v x. Told ts x) st w free tt (λ v ne. i.told v);
          beyond = upd_all (λ a f. total ts ≤ a → f ≡ no_flag) flags b _ (λ h. absurd (omega arith)) (λ a ne. i.beyond a);
        }
      where
        to : (b < total ts) × RightsOnly g
        to = rw p at (i.told w)

  module _ (j : ℕ) (z : is_ended (status j) ≡ 0) (in_plan : j < length ts) where
    abbrev size : ℕ
    size = length (task_at ts j).accesses

    abbrev ended_mail : ℕ → List Message
    ended_mail = upd mail w (mail w ++ dones (first ts j) size)

    more : (f : Message → ℕ) → under_way W f ended_mail ≡ under_way W f mail + weigh f (dones (first ts j) size)
    more f = way_posted W f mail w hw (dones (first ts j) size)

    -- a flag other than DONE
    no_more : (f : Message → ℕ) → ((b : ℕ) → f (plain b DONE) ≡ 0) → under_way W f ended_mail ≡ under_way W f mail
    no_more f h = omega (arith, more f, weigh_dones_none f (first ts j) size h)

    -- DONE to the accesses of the task
    posts_done : (a : ℕ) → a < total ts → weigh (toward (λ f. f.done) a) (dones (first ts j) size) ≡ here (task_of ts a) j 1
    posts_done a l =
        weigh_dones a (first ts j) size (here (task_of ts a) j 1)
        (λ lo hi. here_same (task_of ts a) j 1 (laws.of_task a j in_plan lo (omega (arith, laws.first_suc j in_plan))))
        (λ o. here_other (task_of ts a) j 1 (λ e. outside o (rw e at (laws.task_of_lem a l))))
      where
        outside : (a < first ts j) ⊎ (first ts j + size ≤ a) → (j < length ts) × (first ts j ≤ a) × (a < first ts (suc j)) → ⊥
        outside (inl o) (x, lo, hi) = omega arith
        outside (inr o) (x, lo, hi) = omega (arith, laws.first_suc j in_plan)

    dones_sound : (k n : ℕ) → k + n ≤ total ts → All (Sound ts) (dones k n)
    unfolding numbers_from
    dones_sound k zero h = tt
    dones_sound k (suc n) h = (
      record { to = omega arith; brings = omega arith; unsent = (refl, refl); from = λ b e. absurd (none_some b e) },
      dones_sound (suc k) n (omega arith),
    )

    fits : first ts j + size ≤ total ts
    fits = omega (arith, laws.first_suc j in_plan, laws.first_mono (suc j) (length ts) in_plan, laws.first_all (length ts) (omega arith))

    posted_end : MessagesOf W ts st ended_mail flags (upd status j over) creation
    posted_end =
        record {
          made = i.made;
          grants = λ r a l.
              omega (arith, i.grants r a l, no_more (toward (granted r) a) (λ b. ap (here a b) (granted_done r) ∙ here_zero a b));
          nexts = λ a l. omega (arith, i.nexts a l, no_more (toward (λ f. f.next) a) (λ b. here_zero a b));
          dones = λ a l.
              omega (
                arith,
                i.dones a l,
                more (toward (λ f. f.done) a),
                posts_done a l,
                upd_more is_ended status j over 1 (omega arith) (task_of ts a),
              );
          sents = λ r a. omega (arith, i.sents r a, no_more (out_of (granted r) a) (λ b. refl));
          sound =
              upd_all (λ v x. All (Sound ts) x) mail w _
              (all_append (Sound ts) (mail w) _ (i.sound w) (dones_sound (first ts j) size fits)) (λ v ne. i.sound v);
          told = i.told;
          beyond = i.beyond;
        }

-- ---- every operation

module _ (W : ℕ) (ts : List Task) (laws : Links ts) (s : Tasks) (st : ℕ → Stand) (counts : Counts ts s.count s.status s.creation)
    (i : Messages W ts s st) (w : ℕ) (hw : w < W) where
  -- a count that falls makes a task ready at most, and only one that waits
  lowered_keeps : (t : Tasks) (x : ℕ → Stand) (j n : ℕ) → (0 < t.count j → is_ended (t.status j) ≡ 0) → Messages W ts t x
      → Messages W ts (lowered t w j n) x
  lowered_keeps t x j n z h =
      lowered_cases (λ r. Messages W ts r x) t w j n
      (λ l e. restated W ts x t.mail t.flags t.status t.creation h j ready (z l) refl) (λ d. h)

  -- a task with a count above 0 is not over
  counted_open : (j : ℕ) → 0 < s.count j → is_ended (s.status j) ≡ 0
  counted_open j l = ap is_ended (counts_waiting counts j l)

  -- w stands otherwise
  goes : (q : Stand) → ((f : Flags → ℕ) (a : ℕ) → tells f a q ≡ tells f a (st w)) → Told ts q
      → {mail : ℕ → List Message} {flags : ℕ → Flags} {status : ℕ → Status} {creation : Creation}
      → MessagesOf W ts st mail flags status creation → MessagesOf W ts (upd st w q) mail flags status creation
  goes q z p {mail} {flags} {status} {creation} h = moves W ts st mail flags status creation h w hw q z p

  stays : {mail : ℕ → List Message} {flags : ℕ → Flags} {status : ℕ → Status} {creation : Creation}
      → MessagesOf W ts st mail flags status creation → MessagesOf W ts (upd st w (st w)) mail flags status creation
  stays h = goes (st w) (λ f a. refl) (i.told w) h

  becomes : (j : ℕ) (x : Status) → {y : Status} → s.status j ≡ y → is_ended y ≡ 0 → is_ended x ≡ 0
      → MessagesOf W ts st s.mail s.flags (upd s.status j x) s.creation
  becomes j x e z y = restated W ts st s.mail s.flags s.status s.creation i j x (ap is_ended e ∙ z) y

  -- a task that runs is one of the plan's
  in_plan : (j : ℕ) → s.status j ≡ running → j < length ts
  in_plan j e = go (order j (opened s.creation))
    where
      go : (j < opened s.creation) ⊎ (opened s.creation ≤ j) → j < length ts
      go (inl l) = omega (arith, counts.within)
      go (inr l) = absurd (omega (arith, ap is_running (sym e ∙ counts.uncreated j l)))

  pub messages_keep : ((j n : ℕ) → st w ≡ working j n → s.status j ≡ running) → (time : ℕ) {op : Op} → Can W ts s (st w) w op
      → Messages W ts (after ts time s w op) (upd st w (stand_after ts (st w) op))
  unfolding after done_messages
  messages_keep work time (can_mind (can_open j e l)) =
      stays
      (recreated W ts st s.mail s.flags (upd s.status j waiting) s.creation
      (becomes j waiting (counts.uncreated j (omega (arith, ap opened e))) refl refl)
      (linking j (first ts j)) (l, omega arith, laws.first_mono j (suc j) (omega arith)) (ap (linked ts) (sym e)))
  messages_keep work time (can_mind (can_link j a e l p q)) =
      stays (keeps_link W ts laws st s.mail s.flags s.status j a (rw e at i) w hw l)
  messages_keep work time (can_mind (can_close j a e l)) =
      let m : Made ts (linking j a) = rw e at i.made in
      stays
      (lowered_keeps _ st j 1 (counted_open j)
      (recreated W ts st s.mail s.flags s.status s.creation i (opening (suc j)) m.0 (omega (arith, ap (linked ts) e))))
  messages_keep work time (can_mind (can_deliver m ms p q)) =
      lowered_keeps _ _ (task_of ts m.to) _ (counted_open (task_of ts m.to))
      (keeps_deliver W ts laws st s.mail s.flags s.status s.creation i w hw m ms p q)
  messages_keep work time (can_mind (can_tell a f p)) =
      keeps_notify W ts laws st s.mail s.flags s.status s.creation i w hw a f p
  messages_keep work time (can_give j js p) = stays i
  messages_keep work time (can_hold j g) = stays (becomes j held (given_ready W s j g) refl refl)
  messages_keep work time (can_take j p q g) =
      goes (working j (task_at ts j).cost) (λ f a. sym (ap (tells f a) p)) tt (becomes j running (given_ready W s j g) refl refl)
  messages_keep work time (can_receive j p q e) =
      goes (working j (task_at ts j).cost) (λ f a. sym (ap (tells f a) p)) tt (becomes j running e refl refl)
  messages_keep work time (can_mind (can_work j n p)) = goes (working j n) (λ f a. sym (ap (tells f a) p)) tt i
  messages_keep work time (can_mind (can_end j p)) =
      let e : s.status j ≡ running = work j 0 p in
      goes free (λ f a. sym (ap (tells f a) p)) tt
      (posted_end W ts laws st s.mail s.flags s.status s.creation i w hw j (ap is_ended e) (in_plan j e))
