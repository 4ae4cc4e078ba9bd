-- The length of a text is tested first.
use Rattle.std.specs.Prelude.{◌≡◌, ℕ, ◌<◌, ◌≤◌, List, length}
use Rattle.std.proofs.Common.{lt-ltb, le-ltb}
use Rattle.refusals.specs.declared.Refusal.TheVariants.{TextTooLong}
use Rattle.text.specs.Text.{line_feed, split}
use Rattle.plan.specs.Plan.{empty_plan}
use Rattle.plan.specs.Reading.{refused, read_lines, reading}

module _ (text : List ℕ) where
  pub reading_long : 65536 < length text → reading text ≡ refused TextTooLong 0
  unfolding reading
  reading_long l = simp (lt-ltb 65536 (length text) l)

  pub reading_short : length text ≤ 65536 → reading text ≡ read_lines empty_plan 1 (split line_feed text)
  unfolding reading
  reading_short l = simp (le-ltb 65536 (length text) l)
