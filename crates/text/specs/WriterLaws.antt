-- Writers: writes one after the other are one write, the fields of a line among them; how far a field goes. Assumes nothing.
use Rattle.std.specs.Prelude.{ℕ, ◌+◌, ◌≤◌, ◌≡◌, List, [], ◌∷◌, ◌++◌, length}
use Rattle.std.proofs.Common.{◌∙◌}
use Rattle.text.specs.declared.write.Writer.{Writer}
use Rattle.text.specs.Text.{tab, line_feed}
use Rattle.text.specs.Writing.{Said, plain, field, fields, said, Ends}
use Rattle.text.specs.WritingLaws.{wrote_as, wrote_same, wrote_then, wrote_field, wrote_last, ends_rest, short_next}
use Rattle.text.specs.Writers.{Writes}

module _ {w v : Writer} where
  -- the same bytes, said in another way
  pub writes_as : {x y : Said} → said y ≡ said x → Writes w x v → Writes w y v
  writes_as e h = record { wrote = wrote_as e h.wrote; same = h.same }

  pub writes_same : {f g : List ℕ} {end : ℕ} → Writes w (field g end) v → f ≡ g → Writes w (field f end) v
  writes_same h e = record { wrote = wrote_same h.wrote e; same = h.same }

  module _ {u : Writer} where
    pub writes_then : {x y z : Said} → Writes w x v → said z ≡ said x ++ said y → Writes v y u → Writes w z u
    writes_then h e k = record { wrote = wrote_then h.wrote e k.wrote; same = k.same ∙ h.same }

    -- ---- the fields of a line

    pub writes_field : {f g : List ℕ} {gs : List (List ℕ)} → Writes w (field f tab) v → Writes v (fields (g ∷ gs)) u
        → Writes w (fields (f ∷ g ∷ gs)) u
    writes_field h k = record { wrote = wrote_field h.wrote k.wrote; same = k.same ∙ h.same }

  pub writes_last : {f : List ℕ} {end : ℕ} → Writes w (field f end) v → end ≡ line_feed → Writes w (fields (f ∷ [])) v
  writes_last h e = record { wrote = wrote_last h.wrote e; same = h.same }

  -- what follows x has the same end
  pub writes_rest : {x y z : Said} → Writes w x v → said z ≡ said x ++ said y → Ends w.at z → Ends v.at y
  writes_rest h e k = ends_rest h.wrote e k

  -- ---- how far a field goes, of which so many bytes are known

  pub writes_next : (n : ℕ) {f : List ℕ} {end : ℕ} → length f ≤ n → Writes w (field f end) v → v.at ≤ w.at + (n + 1)
  writes_next n l h = short_next n l h.wrote
