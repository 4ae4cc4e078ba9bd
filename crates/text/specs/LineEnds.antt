-- Where the lines of a text end, and how far a reading has come in one.
use Rattle.std.specs.Prelude.{false, ℕ, zero, suc, ◌+◌, ◌≤◌, ◌≡◌, Bool, cond, List, [], ◌∷◌, eqb, ltb, length, drop, get_or, Option, Some, None}
use Rattle.text.specs.Text.{line_feed}

-- the bytes of a text's first n lines, with their line feeds
unfoldable pub lines_size : ℕ → List ℕ → ℕ
lines_size zero text = 0
lines_size (suc n) [] = 0
lines_size (suc n) (b ∷ bs) = suc (cond (eqb b line_feed) (lines_size n bs) (lines_size (suc n) bs))

-- the place after the line that a place is in
abbrev pub line_end : List ℕ → ℕ → ℕ
line_end text at = at + lines_size 1 (drop at text)

-- what is seen past a text's end: no byte
abbrev pub NONE : ℕ
NONE = 256

-- what a look sees: the byte there, or none past the end
abbrev pub seen_at : List ℕ → ℕ → Option ℕ
seen_at text at = cond (ltb at (length text)) (Some (get_or text at NONE)) None

-- what is seen is a line feed
abbrev pub is_line_feed : Option ℕ → Bool
is_line_feed None = false
is_line_feed (Some b) = eqb b line_feed

-- the place after a look at this one: past the end there is no byte to look at
abbrev pub after_look : List ℕ → ℕ → ℕ
after_look text at = cond (ltb at (length text)) (at + 1) at

-- a reading that began at a place has come to another, `next`, in the same line: the line goes on there, or has ended before it
pub record Reaches (text : List ℕ) (at : ℕ) (more : Bool) (next : ℕ) : Type 0 where
  pub on : at ≤ next
  pub within : next ≤ length text
  pub line : cond more (line_end text next) next ≡ line_end text at
