-- What is asked of a program's answer, which puts what it prints for a text at the front of an output, and gives how many bytes that is.
use Rattle.std.specs.Prelude.{ℕ, ◌≤◌, ◌≡◌, List, length, take}
use Rattle.std.specs.Fn.{Once}
use denote.Ref.{Bor, MutBor}

module _ {F : Type 0} (g : Once F (Bor (List ℕ) × (MutBor (List ℕ) × Unit {0})) (ℕ × (MutBor (List ℕ) × Unit {0}))) (f : F) (output : List ℕ) where
  -- it may be called with any text and this output, and ends within the output
  pub record Takes : Type 0 where
    pub may : (text : Bor (List ℕ)) (lent : MutBor (List ℕ)) → lent.now ≡ output → g.pre f (text, (lent, tt))
    pub within : (text : Bor (List ℕ)) (lent left : MutBor (List ℕ)) (n : ℕ) → lent.now ≡ output
        → g.post f (text, (lent, tt)) (n, (left, tt)) → n ≤ length left.now

  -- what it prints for a text
  pub record Prints (printed : List ℕ → List ℕ) : Type 0 where
    pub at : (text : Bor (List ℕ)) (lent left : MutBor (List ℕ)) (n : ℕ) → lent.now ≡ output
        → g.post f (text, (lent, tt)) (n, (left, tt)) → take n left.now ≡ printed text.now
