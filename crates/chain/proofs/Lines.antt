-- The line of a chain, field by field, as the links lead. Assumes nothing.
use Rattle.std.specs.Prelude.{ℕ, ◌≤◌, ◌<◌, ◌≡◌, cond, List, [], ◌∷◌, ◌++◌, map, ltb}
use Rattle.std.proofs.Common.{refl, sym, ap, ◌∙◌, arith, append_assoc, lt-ltb, le-ltb}
use mathlib.Core.List.{append-nil}
use Rattle.text.specs.Text.{tab, line_feed, decimal, line}
use Rattle.text.specs.Writing.{Said, plain, field, fields, said, Wrote}
use Rattle.text.specs.WritingLaws.{wrote_none, wrote_then}
use Rattle.chain.specs.declared.link.Link.{Link}
use Rattle.chain.specs.Links.{next_of, Leads}

-- what is left to write of the numbers of a chain
abbrev pub left : List ℕ → Said
left [] = plain []
left (x ∷ xs) = fields (map decimal (x ∷ xs))

-- what ends a field, by the numbers that follow it
abbrev end_of : List ℕ → ℕ
end_of [] = line_feed
end_of (x ∷ xs) = tab

-- a first field, and what is left after it
field_left : (f : List ℕ) (xs : List ℕ) → line (f ∷ map decimal xs) ≡ (f ++ end_of xs ∷ []) ++ said (left xs)
unfolding line
field_left f [] = sym (append-nil (f ++ line_feed ∷ []))
field_left f (x ∷ xs) = sym (append_assoc f (tab ∷ []) (line (decimal x ∷ map decimal xs)))

module _ (links : List Link) (n : ℕ) where
  end_of_lem : (next : ℕ) (xs : List ℕ) → Leads links n next xs → cond (ltb next n) tab line_feed ≡ end_of xs
  end_of_lem next [] e = rw (le-ltb next n (omega arith)) refl
  end_of_lem next (x ∷ xs) (e, l, h) = rw (lt-ltb next n (omega arith)) refl

  -- a field is written, and its end is right: what is left is what follows
  module _ {out mid after : List ℕ} {at begin end : ℕ} {f : List ℕ} {e : ℕ} (next : ℕ) (wrote : Wrote out at (field f e) begin mid)
      (ends : e ≡ cond (ltb next n) tab line_feed) (xs : List ℕ) (leads : Leads links n next xs) (rest : Wrote mid begin (left xs) end after)
    where
      pub wrote_first : Wrote out at (fields (f ∷ map decimal xs)) end after
      wrote_first =
          wrote_then wrote (field_left f xs ∙ ap (λ (b : ℕ). (f ++ b ∷ []) ++ said (left xs)) (sym (ends ∙ end_of_lem next xs leads))) rest

  -- after some fields: the numbers that follow, which end as the whole line does
  pub record Going (whole : List ℕ → ℕ → Type 0) (out : List ℕ) (at end : ℕ) : Type 0 where
    pub rest : List ℕ
    pub leads : Leads links n at rest
    pub ends : (after : List ℕ) (last : ℕ) → Wrote out end (left rest) last after → whole after last

  pub going_start : {out : List ℕ} {at end : ℕ} (xs : List ℕ) → Leads links n at xs
      → Going (λ after last. Wrote out end (left xs) last after) out at end
  going_start xs leads = record { rest = xs; leads = leads; ends = λ after last wrote. wrote }

  pub going_on : {whole : List ℕ → ℕ → Type 0} {out mid : List ℕ} {at end begin : ℕ} {e : ℕ} → at < n → Going whole out at end
      → Wrote out end (field (decimal at) e) begin mid → e ≡ cond (ltb (next_of links at) n) tab line_feed
      → Going whole mid (next_of links at) begin
  going_on {whole} {out} {mid} {at} {end} {begin} low going wrote ends = go going.rest going.leads going.ends
    where
      go : (xs : List ℕ) → Leads links n at xs → ((after : List ℕ) (last : ℕ) → Wrote out end (left xs) last after → whole after last)
          → Going whole mid (next_of links at) begin
      go [] e h = absurd (omega arith)
      go (x ∷ xs) (e, l, leads) h =
          let on : Leads links n (next_of links at) xs = rw e leads in
          record {
            rest = xs;
            leads = on;
            ends = λ after last rest. h after last (rw (← e) (wrote_first (next_of links at) wrote ends xs on rest));
          }

  pub going_done : {whole : List ℕ → ℕ → Type 0} {out : List ℕ} {at end : ℕ} → n ≤ at → Going whole out at end → whole out end
  going_done {whole} {out} {at} {end} high going = go going.rest going.leads going.ends
    where
      go : (xs : List ℕ) → Leads links n at xs → ((after : List ℕ) (last : ℕ) → Wrote out end (left xs) last after → whole after last)
          → whole out end
      go [] e h = h out end wrote_none
      go (x ∷ xs) (e, l, leads) h = absurd (omega arith)
