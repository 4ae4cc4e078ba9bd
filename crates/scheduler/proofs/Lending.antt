-- A worker's share, or the device's part of it, lent out of the store: what is lent, and the store once it is back.
use Prim.Native.Nat.{ℕ, ◌+◌, ◌-◌, ◌*◌, ◌≤◌, ◌<◌}
use native.Mathlib.Omega.{arith}
use mathlib.Core.Path.{◌≡◌, sym, ap, ◌∙◌}
use mathlib.Core.Logic.{◌≢◌, ⊎_elim}
use mathlib.Core.List.{List, ◌++◌, append_assoc}
use lib.ListN.{length, take, drop, length-append, length-take, length-drop, take-append-drop}
use lib.Seq.{length-take-le, take-append-le, drop-append-le, take_at, drop_at, drop-drop, take-take}
use Rattle.runs.specs.Update.{order, upd, upd_only}
use Rattle.steps.specs.Layout.{share_size, station_size, most_workers, shares_size}
use Rattle.steps.specs.Memory.{share, part, station}

-- the list s with the k numbers from a on replaced by y, as a loan of s[a..a + k] gives it back
abbrev pub put : ℕ → ℕ → List ℕ → List ℕ → List ℕ
put a k s y = take a s ++ (y ++ drop k (drop a s))

-- a part that lies in the first of two lists
part_front : (b n : ℕ) (xs ys : List ℕ) → b + n ≤ length xs → take n (drop b (xs ++ ys)) ≡ take n (drop b xs)
part_front b n xs ys h =
    let inside : n ≤ length (drop b xs) = simp length-drop (omega arith) in
    rw (drop-append-le b xs ys (omega arith), take-append-le n (drop b xs) ys inside)

module _ (a k : ℕ) (s y : List ℕ) (fits : a + k ≤ length s) (long : length y ≡ k) where
  front : length (take a s) ≡ a
  front = length-take-le a s (omega arith)

  put_length : length (put a k s y) ≡ length s
  put_length = simp (length-append, length-drop, front) (omega arith)

  put_before : (b n : ℕ) → b + n ≤ a → take n (drop b (put a k s y)) ≡ take n (drop b s)
  put_before b n before =
      let inside : b + n ≤ length (take a s) = rw front before in
      let old = rw (take-append-drop a s) at (part_front b n (take a s) (drop a s) inside) in
      part_front b n (take a s) (y ++ drop k (drop a s)) inside ∙ sym old

  put_same : take k (drop a (put a k s y)) ≡ y
  put_same = rw (drop_at (take a s) (y ++ drop k (drop a s)) a front) (take_at y (drop k (drop a s)) k long)

  put_past : (m : ℕ) → a + k ≤ m → drop m (put a k s y) ≡ drop m s
  put_past m past =
      let whole : length (take a s ++ y) ≡ a + k = simp (length-append, front, long) in
      let rest : drop (a + k) (put a k s y) ≡ drop (a + k) s =
      rw (← append_assoc (take a s) y (drop k (drop a s))) (drop_at (take a s ++ y) (drop k (drop a s)) (a + k) whole ∙ drop-drop k a s) in
      let split : m ≡ a + k + (m - (a + k)) = omega arith in
      rw split (sym (drop-drop (m - (a + k)) (a + k) (put a k s y)) ∙ ap (drop (m - (a + k))) rest ∙ drop-drop (m - (a + k)) (a + k) s)

-- where the share of worker w starts, with the device's part of it, where that part ends, and where the share does
abbrev from : ℕ → ℕ
from w = w * share_size

abbrev device_end : ℕ → ℕ
device_end w = w * share_size + station_size

abbrev end : ℕ → ℕ
end w = w * share_size + share_size

-- the share as the code lends it, and the device's part of it
abbrev lent : List ℕ → ℕ → List ℕ
lent store w = take (end w - from w) (drop (from w) store)

abbrev lent_device : List ℕ → ℕ → List ℕ
lent_device store w = take (device_end w - from w) (drop (from w) store)

-- the shares, but z for the device's part of worker w
abbrev pub with_station : (ℕ → List ℕ) → ℕ → List ℕ → ℕ → List ℕ
with_station shares w z = upd shares w (z ++ part (shares w))

module _ (store : List ℕ) (w : ℕ) (few : w < most_workers) (long : shares_size ≤ length store) where
  pub share_length : length (share store w) ≡ share_size
  unfolding share
  share_length = length-take-le share_size (drop (from w) store) (simp length-drop (omega arith))

  -- the code writes the length of a part as its end less its start
  size : end w - from w ≡ share_size
  size = omega arith

  size_device : device_end w - from w ≡ station_size
  size_device = omega arith

  -- ---- what is lent

  pub share_lent : lent store w ≡ share store w
  unfolding share
  share_lent = rw size

  pub station_lent : lent_device store w ≡ station (share store w)
  unfolding share
  station_lent = rw size_device (sym (take-take station_size share_size (drop (from w) store) (omega arith)))

  -- ---- the store with another share

  module _ (y : List ℕ) (fits : length y ≡ share_size) where
    abbrev whole : List ℕ
    whole = put (from w) share_size store y

    whole_length : length whole ≡ length store
    whole_length = put_length (from w) share_size store y (omega arith) fits

    -- what the store has behind the shares
    whole_later : drop shares_size whole ≡ drop shares_size store
    whole_later = put_past (from w) share_size store y (omega arith) fits shares_size (omega arith)

    whole_shares : share whole ≡ upd (share store) w y
    unfolding share
    whole_shares = upd_only (share store) w y (share whole) (put_same (from w) share_size store y (omega arith) fits) other
      where
        other : (v : ℕ) → v ≢ w → share whole v ≡ share store v
        other v apart =
            ⊎_elim
            (λ (less : v < w). put_before (from w) share_size store y (omega arith) fits (from v) share_size (omega arith))
            (λ (most : w ≤ v). ap (take share_size) (put_past (from w) share_size store y (omega arith) fits (from v) (omega arith)))
            (order v w)

  -- ---- the store once a share is back

  module _ (y : List ℕ) (back : length y ≡ length (lent store w)) where
    long_back : length y ≡ share_size
    long_back = back ∙ ap length share_lent ∙ share_length

    abbrev returned : List ℕ
    returned = put (from w) (end w - from w) store y

    pub returned_shares : share returned ≡ upd (share store) w y
    returned_shares = rw size (whole_shares y long_back)

    pub returned_later : drop shares_size returned ≡ drop shares_size store
    returned_later = rw size (whole_later y long_back)

  -- ---- and once the device's part of one is back

  device_put : (z : List ℕ) → put (from w) station_size store z ≡ put (from w) share_size store (z ++ part (share store w))
  unfolding share
  device_put z =
      let own = drop (from w) store in
      let inside : station_size ≤ length (take share_size own) = omega (arith, share_length) in
      let behind : drop station_size own ≡ drop station_size (take share_size own) ++ drop share_size own =
      rw (take-append-drop share_size own) at (drop-append-le station_size (take share_size own) (drop share_size own) inside) in
      rw (append_assoc, behind)

  module _ (z : List ℕ) (back : length z ≡ length (lent_device store w)) where
    abbrev own_with : List ℕ
    own_with = z ++ part (share store w)

    long_with : length own_with ≡ share_size
    long_with =
        let own = share store w in
        let long_z : length z ≡ length (station own) = back ∙ ap length station_lent in
        omega (arith, length-append z (part own), long_z, length-take station_size own, length-drop station_size own, share_length)

    abbrev replaced : List ℕ
    replaced = put (from w) (device_end w - from w) store z

    pub replaced_length : length replaced ≡ length store
    replaced_length = rw (size_device, device_put z) (whole_length own_with long_with)

    pub replaced_shares : share replaced ≡ with_station (share store) w z
    replaced_shares = rw (size_device, device_put z) (whole_shares own_with long_with)

    pub replaced_later : drop shares_size replaced ≡ drop shares_size store
    replaced_later = rw (size_device, device_put z) (whole_later own_with long_with)

-- the device's part of worker k lent, and then that of worker w, which may be the same
module _ (store : List ℕ) (k w : ℕ) (low : k < most_workers) (few : w < most_workers) (long : shares_size ≤ length store)
    (one : List ℕ) (back : length one ≡ length (lent_device store k)) where
  abbrev first : List ℕ
  first = put (from k) (device_end k - from k) store one

  first_long : shares_size ≤ length first
  first_long = omega (arith, replaced_length store k low long one back)

  pub second_lent : lent_device first w ≡ station (with_station (share store) k one w)
  second_lent = station_lent first w few first_long ∙ ap (λ (f : ℕ → List ℕ). station (f w)) (replaced_shares store k low long one back)

  module _ (two : List ℕ) (back2 : length two ≡ length (lent_device first w)) where
    abbrev second : List ℕ
    second = put (from w) (device_end w - from w) first two

    pub both_shares : share second ≡ with_station (with_station (share store) k one) w two
    both_shares =
        replaced_shares first w few first_long two back2
        ∙ ap (λ (f : ℕ → List ℕ). with_station f w two) (replaced_shares store k low long one back)

    pub both_later : drop shares_size second ≡ drop shares_size store
    both_later = replaced_later first w few first_long two back2 ∙ replaced_later store k low long one back
