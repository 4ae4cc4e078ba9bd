-- A task that is ready or later has every earlier conflicting task over.
use Rattle.std.specs.Prelude.{ℕ, zero, suc, ◌+◌, ◌≤◌, ◌<◌, ◌≡◌, refl, ◌⊎◌, ◌≢◌, Bool, true, false, not, ◌&&◌, ◌||◌, List, [], ◌∷◌, eqb, length, get_or}
use Rattle.std.proofs.Common.{sym, ◌∙◌, inl, inr, ⊎_elim, true≢false, arith, eqb-true}
use Rattle.std.proofs.Math.Option.{Option, none, some}
use Rattle.std.proofs.lemmas.Bool.{not-true}
use Rattle.runs.specs.Update.{same, order}
use Rattle.runs.specs.Every.{every}
use Rattle.plan.specs.Plan.{Task}
use Rattle.plan.specs.declared.access.Access.{Access}
use Rattle.plan.specs.Chains.{conflict}
use Rattle.tasks.specs.Accesses.{no_access, task_of, task_at, access_at, first, reader, prev, total, addr}
use Rattle.tasks.specs.Flags.{satisfied}
use Rattle.tasks.specs.Tasks.{Stand, over, Tasks, linked, past_waiting}
use Rattle.tasks.proofs.Inside.Links.{access_of}
use Rattle.tasks.proofs.Inside.LinkLaws.{Links}
use Rattle.tasks.proofs.Inside.Statuses.{at_stage_lem}
use Rattle.tasks.proofs.Inside.Rights.{Right, to_read, to_write, granted, passes_granted, passes_read_done, passes_write_done}
use Rattle.tasks.proofs.Inside.Rights.{satisfied_le}
use Rattle.tasks.proofs.Inside.Underway.{toward, under_way}
use Rattle.tasks.proofs.Inside.Messages.{due, passing, Messages}
use Rattle.tasks.proofs.Inside.Counting.{Counts, Counting, released}

-- ---- two tasks that conflict have two accesses that do

-- an element that fails a test not passed by all
fails : {A : Type 0} (f : A → Bool) (d : A) (xs : List A) → every f xs ≡ false → (k : ℕ) × (k < length xs) × (f (get_or xs k d) ≡ false)
unfolding every
fails f d [] e = absurd (true≢false e)
fails f d (x ∷ xs) e = go (f x) refl (fails f d xs)
  where
    go : (b : Bool) → f x ≡ b → (every f xs ≡ false → (k : ℕ) × (k < length xs) × (f (get_or xs k d) ≡ false))
        → (k : ℕ) × (k < suc (length xs)) × (f (get_or (x ∷ xs) k d) ≡ false)
    go false q ih = (0, omega arith, q)
    go true q ih = let (k, l, p) = ih (rw q at e) in (suc k, omega arith, p)

both_true : (x y : Bool) → not (x && y) ≡ false → (x ≡ true) × (y ≡ true)
both_true true true e = (refl, refl)
both_true true false e = absurd (true≢false e)
both_true false y e = absurd (true≢false e)

one_true : (x y : Bool) → (x || y) ≡ true → (x ≡ true) ⊎ (y ≡ true)
one_true true y e = inl refl
one_true false y e = inr e

writer : (ts : List Task) (a : ℕ) → (access_at ts a).writes ≡ true → reader ts a ≡ 0
unfolding reader
writer ts a e = rw e refl

-- an access of either task, with one address, of which one writes
pub record Conflict (ts : List Task) (i j : ℕ) : Type 0 where
  pub a : ℕ
  pub b : ℕ
  pub of_i : (first ts i ≤ a) × (a < first ts (suc i))
  pub of_j : (first ts j ≤ b) × (b < first ts (suc j))
  pub shared : addr ts a ≡ addr ts b
  pub writes : (reader ts a ≡ 0) ⊎ (reader ts b ≡ 0)

pub conflicts : (ts : List Task) → Links ts → (i j : ℕ) → i < length ts → j < length ts → conflict (task_at ts i) (task_at ts j) ≡ true
    → Conflict ts i j
unfolding conflict
conflicts ts laws i j li lj e =
    let (k, lk, h) = fails _ no_access (task_at ts i).accesses (not-true _ e) in
    let (n, ln, g) = fails _ no_access (task_at ts j).accesses h in
    let x : Access = access_at ts (first ts i + k) in
    let y : Access = access_at ts (first ts j + n) in
    let t : not (eqb x.address y.address && (x.writes || y.writes)) ≡ false =
    rw (access_of ts i k li lk, access_of ts j n lj ln) g in
    let (p, q) = both_true (eqb x.address y.address) (x.writes || y.writes) t in
    record {
      a = first ts i + k;
      b = first ts j + n;
      of_i = (omega arith, omega (arith, laws.first_suc i li));
      of_j = (omega arith, omega (arith, laws.first_suc j lj));
      shared = eqb-true _ _ p;
      writes =
          ⊎_elim (λ (f : x.writes ≡ true). inl (writer ts (first ts i + k) f))
          (λ (f : y.writes ≡ true). inr (writer ts (first ts j + n) f)) (one_true x.writes y.writes q);
    }

-- ---- along one address

module _ (W : ℕ) (ts : List Task) (laws : Links ts) (s : Tasks) (st : ℕ → Stand) (i : Messages W ts s st) where
  -- an access that is DONE is of a task that is over
  pub done_over : (a : ℕ) → a < total ts → 1 ≤ (s.flags a).done → s.status (task_of ts a) ≡ over
  done_over a l h = at_stage_lem (s.status (task_of ts a)) over (omega (arith, i.dones a l))

  -- the accesses of an address before a are the one before a and those before that one; d bounds a
  along : (r : Right) (P : ℕ → Type 0) → ((b : ℕ) → b < total ts → 1 ≤ passing ts s.flags r b → P b)
      → (d a : ℕ) → a < d → a < total ts → 1 ≤ granted r (s.flags a) → (b : ℕ) → b < a → addr ts b ≡ addr ts a → P b
  along r P h zero a f l g b o e = absurd (omega arith)
  along r P h (suc d) a f l g b o e = go (prev ts a) refl (i.grants r a l) (λ x. along r P h d x)
    where
      go : (y : Option ℕ) → prev ts a ≡ y
          → granted r (s.flags a) + under_way W (toward (granted r) a) s.mail
          ≡ due (linked ts s.creation) (passing ts s.flags r) y a
          → ((x : ℕ) → x < d → x < total ts → 1 ≤ granted r (s.flags x) → (b : ℕ) → b < x → addr ts b ≡ addr ts x → P b)
          → P b
      go none z v ih = absurd (laws.prev_none a z b o e)
      go (some x) z v ih = let (lt, eq, between) = laws.prev_some x a z in at lt eq between (same b x)
        where
          at : x < a → addr ts x ≡ addr ts a → ((y : ℕ) → x < y → y < a → addr ts y ≢ addr ts a) → (b ≡ x) ⊎ (b ≢ x) → P b
          at lt eq between (inl t) = rw t (h x (omega arith) (omega arith))
          at lt eq between (inr t) =
              ih x (omega arith) (omega arith) (omega (arith, passes_granted r (reader ts x) (s.flags x))) b (before (order b x))
              (e ∙ sym eq)
            where
              before : (b < x) ⊎ (x ≤ b) → b < x
              before (inl p) = p
              before (inr p) = absurd (between b (omega arith) o e)

  -- READ at a: every earlier writer of its address is DONE
  pub read_after : (a : ℕ) → a < total ts → 1 ≤ (s.flags a).read → (b : ℕ) → b < a → addr ts b ≡ addr ts a → reader ts b ≡ 0
      → 1 ≤ (s.flags b).done
  read_after a l h b o e =
      along to_read (λ x. reader ts x ≡ 0 → 1 ≤ (s.flags x).done) (λ x lx p q. omega (arith, passes_read_done (reader ts x) (s.flags x)))
      (suc a) a (omega arith) l h b o e

  -- WRITE at a: every earlier access of its address is DONE
  pub write_after : (a : ℕ) → a < total ts → 1 ≤ (s.flags a).write → (b : ℕ) → b < a → addr ts b ≡ addr ts a → 1 ≤ (s.flags b).done
  write_after a l h b o e =
      along to_write (λ x. 1 ≤ (s.flags x).done) (λ x lx p. omega (arith, passes_write_done (s.flags x))) (suc a) a (omega arith) l h b o e

-- a task that is ready, held, running or over has every earlier task that conflicts with it over
pub earlier_over : (W : ℕ) (ts : List Task) → Links ts → (s : Tasks) (st : ℕ → Stand) → Counts ts s.count s.status s.creation
    → Messages W ts s st → Counting ts s
    → (i j : ℕ) → i < j → j < length ts → conflict (task_at ts i) (task_at ts j) ≡ true → past_waiting (s.status j) ≡ 1 → s.status i ≡ over
earlier_over W ts laws s st tasks messages counting i j o l e p =
    rw (laws.of_task a i (omega arith) x.of_i.0 x.of_i.1)
    at (done_over W ts laws s st messages a (omega (arith, before, in_plan)) (go x.writes))
  where
    x : Conflict ts i j
    x = conflicts ts laws i j (omega arith) l e

    a : ℕ
    a = x.a

    b : ℕ
    b = x.b

    before : a < b
    before = omega (arith, x.of_i.1, x.of_j.0, laws.first_mono (suc i) j o)

    in_plan : b < total ts
    in_plan = omega (arith, x.of_j.1, laws.first_mono (suc j) (length ts) l, laws.first_all (length ts) (omega arith))

    fine : 1 ≤ satisfied (reader ts b) (s.flags b)
    fine = (released W ts laws s st tasks messages counting j p).satisfied b x.of_j.0 x.of_j.1

    go : (reader ts a ≡ 0) ⊎ (reader ts b ≡ 0) → 1 ≤ (s.flags a).done
    go (inl z) =
        read_after W ts laws s st messages b in_plan (omega (arith, fine, (satisfied_le (reader ts b) (s.flags b)).0)) a before
        x.shared z
    go (inr z) =
        write_after W ts laws s st messages b in_plan (omega (arith, fine, (satisfied_le (reader ts b) (s.flags b)).1)) a before
        x.shared
