-- An exported function takes any arguments: those that fit are accepted, any others are refused.
pub data Answered (fits yes no : Type 0) : Type 0 where
  accepted : fits → yes → Answered fits yes no
  refused : (fits → ⊥) → no → Answered fits yes no
