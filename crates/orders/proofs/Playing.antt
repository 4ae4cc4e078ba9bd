-- The picks of one order line, taken one at a time in what is lent.
use Prim.Native.Nat.{ℕ, suc, ◌≤◌, ◌<◌}
use native.Mathlib.Omega.{arith}
use mathlib.Core.Path.{◌≡◌, refl, sym, ap, ◌∙◌}
use mathlib.Core.Bool.{true, false}
use mathlib.Core.List.{List}
use lib.ListN.{length, drop}
use Rattle.picks.specs.declared.Source.{Source}
use Rattle.picks.specs.declared.Drawn.{Drawn}
use Rattle.picks.specs.Sources.{Formed, Draws}
use Rattle.machine.specs.State.{Setup, State, picked}
use Rattle.machine.specs.Step.{step, finished}
use Rattle.machine.specs.Ranges.{Fit}
use Rattle.machine.proofs.Safety.Traces.{step_picks}
use Rattle.steps.specs.Layout.{shares_size}
use Rattle.steps.specs.Memory.{share, Memory, Holds}
use Rattle.orders.specs.Limited.{drawn_to, Under}
use Rattle.orders.specs.Played.{LineAble, LinePlayed}
use Rattle.orders.proofs.Limits.{drawn_full, drawn_finished, pick_fits, under_pick, drawn_pick}

-- ---- the store keeps its length, and what follows the shares

pub record Kept (store₀ store : List ℕ) : Type 0 where
  pub size : length store ≡ length store₀
  pub later : drop shares_size store ≡ drop shares_size store₀

pub kept_start : {store : List ℕ} → Kept store store
kept_start = record { size = refl; later = refl }

pub kept_more : {store₀ store then : List ℕ} → Kept store₀ store → Kept store then → Kept store₀ then
kept_more k l = record { size = l.size ∙ k.size; later = l.later ∙ k.later }

pub kept_room : {store₀ store : List ℕ} → Kept store₀ store → shares_size ≤ length store₀ → shares_size ≤ length store
kept_room k l = omega (arith, k.size)

-- ---- the picks of a line

-- a state that is held now, from which what is left of the line comes to the same as the whole line from s₀
pub record Reaches (c : Setup) (end : ℕ) (s₀ : State) (line₀ : Source) (m : Memory) (store : List ℕ) (line : Source) : Type 0 where
  pub s : State
  pub under : Under c s end line
  pub holds : Holds c m (share store) s
  pub comes_to : drawn_to c end s line ≡ drawn_to c end s₀ line₀

-- whatever state was held before the line, one that it reaches is held now
pub record Goes (end : ℕ) (m₀ : Memory) (store₀ : List ℕ) (line₀ : Source) (m : Memory) (store : List ℕ) (line : Source) : Type 0 where
  pub kept : Kept store₀ store
  pub reaches : (c : Setup) (s₀ : State) → Under c s₀ end line₀ → Holds c m₀ (share store₀) s₀ → Reaches c end s₀ line₀ m store line

pub goes_start : {end : ℕ} {m : Memory} {store : List ℕ} {line : Source} → Goes end m store line m store line
goes_start = record { kept = kept_start; reaches = λ c s u h. record { s = s; under = u; holds = h; comes_to = refl } }

-- the line is played
abbrev pub Comes : ℕ → Memory → List ℕ → Source → Memory → List ℕ → Type 0
Comes end m₀ store₀ line₀ m store = LinePlayed end line₀ m₀ store₀ m store × (drop shares_size store ≡ drop shares_size store₀)

-- after a step of worker w
abbrev pub Stepped : Memory → List ℕ → ℕ → Memory → List ℕ → Type 0
Stepped m store w n then =
    (c : Setup) (s : State) → Holds c m (share store) s → Fit c (picked s) w → Holds c n (share then) (step c s w)

-- the worker drawn is one of the plan, whose step can be taken
module _ {end : ℕ} {m : Memory} {store : List ℕ} {line : Source} (a : LineAble end line m store) where
  pub able_formed : Formed m.counts.workers line
  able_formed = rw a.holds.device.workers a.under.formed

  module _ (below : m.counts.picks < end) (drawn : Drawn) (d : Draws m.counts.workers line drawn) where
    pub able_fits : Fit a.c (picked a.s) drawn.worker
    able_fits =
        pick_fits a.c end a.s line a.under (rw a.holds.picks at below) drawn (rw a.holds.device.workers at d)

    -- and it is counted
    pub able_counts : {n : Memory} {shares : ℕ → List ℕ} → Holds a.c n shares (step a.c a.s drawn.worker)
        → n.counts.picks ≡ suc m.counts.picks
    able_counts h = h.picks ∙ step_picks a.c a.s drawn.worker ∙ ap suc (sym a.holds.picks)

module _ {end : ℕ} {m₀ : Memory} {store₀ : List ℕ} {line₀ : Source} {m : Memory} {store : List ℕ} {line : Source}
    (g : Goes end m₀ store₀ line₀ m store line) where
  pub still_able : LineAble end line₀ m₀ store₀ → LineAble end line m store
  still_able a =
      let r = g.reaches a.c a.s a.under a.holds in
      record {
        room = kept_room g.kept a.room;
        c = a.c;
        s = r.s;
        under = r.under;
        holds = r.holds;
      }

  -- where no pick is taken any more, the state is what the line comes to
  comes : ((c : Setup) (s : State) → Holds c m (share store) s → drawn_to c end s line ≡ s) → Comes end m₀ store₀ line₀ m store
  comes ends =
      (λ c s₀ u h. let r = g.reaches c s₀ u h in rw (sym r.comes_to ∙ ends c r.s r.holds) r.holds, g.kept.later)

  pub comes_full : end ≤ m.counts.picks → Comes end m₀ store₀ line₀ m store
  comes_full l = comes (λ c s h. drawn_full c end s line (rw h.picks at l))

  pub comes_finished : ((c : Setup) (s : State) → Holds c m (share store) s → true ≡ finished c s) → Comes end m₀ store₀ line₀ m store
  comes_finished e = comes (λ c s h. drawn_finished c end s line (sym (e c s h)))

  -- one pick more
  pub goes_pick : m.counts.picks < end → ((c : Setup) (s : State) → Holds c m (share store) s → false ≡ finished c s)
      → (drawn : Drawn) → Draws m.counts.workers line drawn → {n : Memory} {then : List ℕ} → Kept store then
      → Stepped m store drawn.worker n then → Goes end m₀ store₀ line₀ n then drawn.source
  goes_pick below goes_on_lem drawn d kept one =
      record {
        kept = kept_more g.kept kept;
        reaches = λ c s₀ u h.
            let r = g.reaches c s₀ u h in
            let own : Draws c.workers line drawn = rw r.holds.device.workers at d in
            let lower : r.s.picks < end = rw r.holds.picks at below in
            record {
              s = step c r.s drawn.worker;
              under = under_pick c end r.s line r.under lower drawn own;
              holds = one c r.s r.holds (pick_fits c end r.s line r.under lower drawn own);
              comes_to = drawn_pick c end r.s line r.under lower drawn own (sym (goes_on_lem c r.s r.holds)) ∙ r.comes_to;
            };
      }
