-- A share in the store, and its two parts, lent and given back.
use Prim.Native.Nat.{ℕ, ◌+◌, ◌*◌, ◌<◌}
use native.Mathlib.Omega.{arith}
use mathlib.Core.Path.{◌≡◌, sym, ◌∙◌}
use mathlib.Core.List.{List, [], ◌++◌, append-nil}
use lib.ListN.{length, get_or, take, drop, length-take, length-drop, drop_of_length-le}
use lib.Seq.{take_all, take_at, drop_at, get_or-take, get_or-drop}
use Rattle.runs.specs.Update.{upd, map_upd}
use Rattle.steps.specs.Layout.{share_size, station_size, part_size}
use Rattle.steps.specs.Memory.{share, station, part}

-- a number of a share, where the store has it
pub share_at : (store : List ℕ) (w i : ℕ) → i < share_size → get_or (share store w) i 0 ≡ get_or store (w * share_size + i) 0
unfolding share
share_at store w i small =
    get_or-take share_size (drop (w * share_size) store) i 0 small ∙ get_or-drop (w * share_size) store i 0

pub station_at : (own : List ℕ) (k : ℕ) → k < station_size → get_or (station own) k 0 ≡ get_or own k 0
station_at own k l = get_or-take station_size own k 0 l

pub part_at : (own : List ℕ) (k : ℕ) → get_or (part own) k 0 ≡ get_or own (station_size + k) 0
part_at own k = get_or-drop station_size own k 0

-- a share made of two parts
module _ (z y : List ℕ) (long : length z ≡ station_size) where
  pub station_of : station (z ++ y) ≡ z
  station_of = take_at z y station_size long

  pub part_of : part (z ++ y) ≡ y
  part_of = drop_at z y station_size long

-- the tasks' parts of all shares
pub parts_upd : (shares : ℕ → List ℕ) (w : ℕ) (next : List ℕ)
    → ◌≡◌ {A = ℕ → List ℕ} (λ v. part (upd shares w next v)) (upd (λ v. part (shares v)) w (part next))
parts_upd shares w next = map_upd part shares w next

-- the tasks' part as it is lent, and the share once that is back as y; the device's part is lent as it stands
abbrev pub lent_part : List ℕ → List ℕ
lent_part own = take part_size (drop station_size own)

abbrev pub with_part : List ℕ → List ℕ → List ℕ
with_part own y = take station_size own ++ (y ++ drop part_size (drop station_size own))

module _ (own : List ℕ) (long : length own ≡ share_size) where
  pub station_long : length (station own) ≡ station_size
  station_long = omega (arith, length-take station_size own, long)

  part_long : length (part own) ≡ part_size
  part_long = omega (arith, length-drop station_size own, long)

  pub part_lent : part own ≡ lent_part own
  part_lent = sym (take_all part_size (part own) (omega (arith, part_long)))

  pub part_back : (y : List ℕ) → part (with_part own y) ≡ y
  part_back y =
      let past : drop part_size (part own) ≡ [] = drop_of_length-le (part own) {i = part_size} (omega (arith, part_long)) in
      part_of (station own) (y ++ drop part_size (part own)) station_long ∙ rw (past, append-nil)

  pub station_still : (y : List ℕ) → station (with_part own y) ≡ station own
  station_still y = station_of (station own) (y ++ drop part_size (part own)) station_long
