-- Writes one after the other are one write; how far a field goes.
use Rattle.std.specs.Prelude.{ℕ, ◌+◌, ◌^◌, ◌≤◌, ◌<◌, ◌≡◌, refl, List, [], ◌∷◌, ◌++◌, length, take, drop, get_or, set}
use Rattle.std.proofs.Common.{sym, ap, ◌∙◌, append_assoc, arith, add-zero, zero-add, add-one, length-append, take-suc, length-take-le}
use Rattle.std.proofs.lemmas.List.Edits.{sets, sets-eq}
use Rattle.std.proofs.Math.Seq.{length-sets, set_out}
use Rattle.runs.specs.Stores.{sets_append}
use Rattle.text.specs.Text.{tab, line_feed, line}
use Rattle.text.specs.Writing.{Said, plain, field, fields, said, Ends, Wrote}

-- nothing is written
pub wrote_none : {out : List ℕ} {at : ℕ} → Wrote out at (plain []) at out
wrote_none {at = at} = record { place = sym (add-zero at); stores = refl }

-- the same bytes, said in another way
pub wrote_as : {out : List ℕ} {at : ℕ} {x y : Said} {next : ℕ} {after : List ℕ} → said y ≡ said x
    → Wrote out at x next after → Wrote out at y next after
wrote_as e w = record { place = rw e w.place; stores = rw e w.stores }

pub wrote_same : {out : List ℕ} {at : ℕ} {f g : List ℕ} {end next : ℕ} {after : List ℕ}
    → Wrote out at (field g end) next after → f ≡ g → Wrote out at (field f end) next after
wrote_same w e = rw e w

-- what begins with x has no earlier end than x
pub ends_first : {at : ℕ} {x z : Said} (ys : List ℕ) → said z ≡ said x ++ ys → Ends at z → Ends at x
ends_first {x = x} {z = z} ys e h = record { short = omega (arith, h.short, ap length e, length-append (said x) ys) }

module _ {out : List ℕ} {at : ℕ} {x : Said} {next : ℕ} {mid : List ℕ} (w : Wrote out at x next mid) where
  pub wrote_length : length mid ≡ length out
  wrote_length = ap length w.stores ∙ length-sets out at (said x)

  module _ {y z : Said} (e : said z ≡ said x ++ said y) where
    pub wrote_then : {end : ℕ} {after : List ℕ} → Wrote mid next y end after → Wrote out at z end after
    wrote_then v =
        record {
          place = v.place ∙ omega (arith, w.place, length-append (said x) (said y), ap length e);
          stores =
              v.stores
              ∙ ap (λ (m : List ℕ). sets m next (said y)) w.stores
              ∙ ap (λ (k : ℕ). sets (sets out at (said x)) k (said y)) w.place
              ∙ sym (sets_append (said x) (said y) out at)
              ∙ ap (sets out at) (sym e);
        }

    -- what follows x has the same end
    pub ends_rest : Ends at z → Ends next y
    ends_rest h = record { short = omega (arith, h.short, w.place, length-append (said x) (said y), ap length e) }

-- ---- a byte, and a copy, a byte a turn: so many are copied

-- a byte, where the array reaches and where it has ended
module _ {out : List ℕ} {at byte : ℕ} where
  pub wrote_inside : Wrote out at (plain (byte ∷ [])) (at + 1) (set out at byte)
  wrote_inside = record { place = refl; stores = refl }

  pub wrote_outside : length out ≤ at → Wrote out at (plain (byte ∷ [])) (at + 1) out
  wrote_outside h = record { place = refl; stores = sym (set_out out at byte h) }

pub record Copied (bytes out : List ℕ) (at : ℕ) (after : List ℕ) (next i : ℕ) : Type 0 where
  pub inside : i ≤ length bytes
  pub wrote : Wrote out at (plain (take i bytes)) next after

pub copied_place : {bytes out : List ℕ} {at : ℕ} {after : List ℕ} {next i : ℕ} → Copied bytes out at after next i → next ≡ at + i
copied_place {bytes} {i = i} h = h.wrote.place ∙ omega (arith, length-take-le i bytes h.inside)

pub copied_more : {bytes out : List ℕ} {at : ℕ} {after : List ℕ} {next i next' : ℕ} {after' : List ℕ}
    → Copied bytes out at after next i → i < length bytes → Wrote after next (plain (get_or bytes i 0 ∷ [])) next' after'
    → Copied bytes out at after' next' (i + 1)
copied_more {bytes} {i = i} h k byte =
    record { inside = omega arith; wrote = wrote_then h.wrote (rw (add-one i, take-suc bytes i 0 k)) byte }

-- ---- the fields of a line

line_more : (f g : List ℕ) (gs : List (List ℕ)) → line (f ∷ g ∷ gs) ≡ (f ++ tab ∷ []) ++ line (g ∷ gs)
unfolding line
line_more f g gs = sym (append_assoc f (tab ∷ []) (line (g ∷ gs)))

line_one : (f : List ℕ) → line (f ∷ []) ≡ f ++ line_feed ∷ []
unfolding line
line_one f = refl

pub wrote_field : {out : List ℕ} {at : ℕ} {f g : List ℕ} {gs : List (List ℕ)} {next : ℕ} {mid : List ℕ} {end : ℕ} {after : List ℕ}
    → Wrote out at (field f tab) next mid → Wrote mid next (fields (g ∷ gs)) end after → Wrote out at (fields (f ∷ g ∷ gs)) end after
wrote_field {f = f} {g} {gs} w v = wrote_then w (line_more f g gs) v

pub wrote_last : {out : List ℕ} {at : ℕ} {f : List ℕ} {end next : ℕ} {after : List ℕ}
    → Wrote out at (field f end) next after → end ≡ line_feed → Wrote out at (fields (f ∷ [])) next after
wrote_last {f = f} {end} w e = wrote_as (line_one f ∙ ap (λ (b : ℕ). f ++ b ∷ []) (sym e)) w

-- ---- how far a field of so many bytes at most goes

module _ {at : ℕ} {f : List ℕ} {end : ℕ} (n : ℕ) (h : length f ≤ n) where
  pub short_ends : at + (n + 1) < 2 ^ 64 → Ends at (field f end)
  short_ends k = record { short = omega (arith, length-append f (end ∷ [])) }

  pub short_next : {out : List ℕ} {next : ℕ} {after : List ℕ} → Wrote out at (field f end) next after → next ≤ at + (n + 1)
  short_next w = omega (arith, w.place, length-append f (end ∷ []))

-- ---- length first, then bytes: what is written at the front tells its length, and stands there whole where there is room for it

module _ {bs out : List ℕ} {n : ℕ} {after : List ℕ} (w : Wrote out 0 (plain bs) n after) where
  pub told_length : n ≡ length bs
  told_length = w.place ∙ zero-add (length bs)

  pub wrote_whole : length bs ≤ length out → after ≡ bs ++ drop (length bs) out
  wrote_whole h = rw (zero-add (length bs)) at (w.stores ∙ sets-eq bs out 0 (omega arith))
