-- How long a line is.
use Rattle.std.specs.Prelude.{ℕ, ◌+◌, ◌≡◌, List, [], ◌∷◌, length}
use Rattle.std.proofs.Common.{◌∙◌, arith, length-append}
use Rattle.text.specs.Text.{tab, line_feed, line}

one : (f : List ℕ) → length (line (f ∷ [])) ≡ length f + 1
unfolding line
one f = length-append f (line_feed ∷ [])

more : (f g : List ℕ) (gs : List (List ℕ)) → length (line (f ∷ g ∷ gs)) ≡ length f + 1 + length (line (g ∷ gs))
unfolding line
more f g gs = length-append f (tab ∷ line (g ∷ gs)) ∙ omega arith

pub length_2 : (a b : List ℕ) → length (line (a ∷ b ∷ [])) ≡ length a + length b + 2
length_2 a b = omega (arith, more a b [], one b)

pub length_3 : (a b c : List ℕ) → length (line (a ∷ b ∷ c ∷ [])) ≡ length a + length b + length c + 3
length_3 a b c = omega (arith, more a b (c ∷ []), length_2 b c)

pub length_4 : (a b c d : List ℕ) → length (line (a ∷ b ∷ c ∷ d ∷ [])) ≡ length a + length b + length c + length d + 4
length_4 a b c d = omega (arith, more a b (c ∷ d ∷ []), length_3 b c d)

pub length_8 : (a b c d e f g h : List ℕ)
    → length (line (a ∷ b ∷ c ∷ d ∷ e ∷ f ∷ g ∷ h ∷ []))
    ≡ length a + length b + length c + length d + length e + length f + length g + length h + 8
length_8 a b c d e f g h =
    omega (
      arith,
      more a b (c ∷ d ∷ e ∷ f ∷ g ∷ h ∷ []),
      more b c (d ∷ e ∷ f ∷ g ∷ h ∷ []),
      more c d (e ∷ f ∷ g ∷ h ∷ []),
      more d e (f ∷ g ∷ h ∷ []),
      length_4 e f g h,
    )
