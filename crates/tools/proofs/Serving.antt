-- What a program prints for the first bytes of its input, where it makes of these what it makes of the whole.
use Rattle.std.specs.Prelude.{ℕ, ◌≡◌, List, take, OnOk, IfSome, Result, Ok, Err, Option, None, Some}
use Rattle.std.proofs.Common.{◌∙◌, subst, ap}
use Rattle.std.specs.Io.KnownBytes.{Appends}

pub serves : {T E : Type 0} (r : Result T E) (known before after : Option (List ℕ)) (make : List ℕ → List ℕ) (k m : ℕ) (got out : List ℕ)
    → m ≡ k → IfSome known (λ text. got ≡ take m text) → ((text : List ℕ) → make (take k text) ≡ make text)
    → out ≡ make got → OnOk r (Appends before after out)
    → OnOk r (IfSome known (λ text. Appends before after (make text)))
serves (Ok u) None before after make k m got out size front cut made wrote = _
serves (Ok u) (Some text) before after make k m got out size front cut made wrote =
    subst (Appends before after) (made ∙ ap make (front ∙ ap (λ (n : ℕ). take n text) size) ∙ cut text) wrote
serves (Err e) known before after make k m got out size front cut made wrote = _
