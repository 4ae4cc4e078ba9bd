-- READ and WRITE as one: what is said of both is said once, with the right that is meant.
use Rattle.std.specs.Prelude.{ℕ, ◌+◌, ◌≤◌, min, max, ◌≡◌, refl}
use Rattle.std.proofs.Common.{arith, add-zero}
use Rattle.tasks.specs.Flags.{Flags, granting, no_flag, DONE, NEXT, sent, with, passes_read, passes_write, satisfied}

pub data Right : Type 0 where
  to_read : Right
  to_write : Right

abbrev pub granted : Right → Flags → ℕ
granted to_read f = f.read
granted to_write f = f.write

abbrev pub sent_of : Right → Flags → ℕ
sent_of to_read f = f.sent_read
sent_of to_write f = f.sent_write

abbrev pub passes : Right → ℕ → Flags → ℕ
passes to_read reader f = passes_read reader f
passes to_write reader f = passes_write f

min_mono : (a b c d : ℕ) → a ≤ c → b ≤ d → min a b ≤ min c d
min_mono a b c d h k = omega arith

max_mono : (q c d : ℕ) → c ≤ d → max q c ≤ max q d
max_mono q c d h = omega arith

-- what passes is no more than each condition
pub passes_granted : (r : Right) (q : ℕ) (f : Flags) → passes r q f ≤ granted r f
unfolding passes_read passes_write
passes_granted to_read q f = omega arith
passes_granted to_write q f = omega arith

pub passes_next : (r : Right) (q : ℕ) (f : Flags) → passes r q f ≤ f.next
unfolding passes_read passes_write
passes_next to_read q f = omega arith
passes_next to_write q f = omega arith

pub passes_read_done : (q : ℕ) (f : Flags) → passes_read q f ≤ q + f.done
unfolding passes_read
passes_read_done q f = omega arith

pub passes_write_done : (f : Flags) → passes_write f ≤ f.done
unfolding passes_write
passes_write_done f = omega arith

-- it rises with the flags, and the SENT flags have no part in it
pub passes_with : (r : Right) (q : ℕ) (e m : Flags) → passes r q e ≤ passes r q (with e m)
unfolding passes_read passes_write
passes_with to_read q e m = min_mono _ _ _ _ (min_mono _ _ _ _ (omega arith) (omega arith)) (max_mono _ _ _ (omega arith))
passes_with to_write q e m = min_mono _ _ _ _ (min_mono _ _ _ _ (omega arith) (omega arith)) (omega arith)

pub passes_sent : (r : Right) (q : ℕ) (e f : Flags) → passes r q (with e (sent f)) ≡ passes r q e
unfolding passes_read passes_write
passes_sent to_read q e f = rw (add-zero e.next, add-zero e.read, add-zero e.done) refl
passes_sent to_write q e f = rw (add-zero e.next, add-zero e.write, add-zero e.done) refl

-- with all flags set it passes
pub passes_one : (r : Right) (q : ℕ) (f : Flags) → granted r f ≡ 1 → f.next ≡ 1 → f.done ≡ 1 → 1 ≤ passes r q f
unfolding passes_read passes_write
passes_one to_read q f a b c = omega arith
passes_one to_write q f a b c = omega arith

pub passes_none : (r : Right) (q : ℕ) → passes r q no_flag ≡ 0
passes_none r q = omega (arith, passes_next r q no_flag)

-- delivery is addition
pub granted_with : (r : Right) (e m : Flags) → granted r (with e m) ≡ granted r e + granted r m
granted_with to_read e m = refl
granted_with to_write e m = refl

pub sent_with : (r : Right) (e m : Flags) → sent_of r (with e m) ≡ sent_of r e + sent_of r m
sent_with to_read e m = refl
sent_with to_write e m = refl

-- which rights a message grants

pub granted_sent : (r : Right) (f : Flags) → granted r (sent f) ≡ 0
granted_sent to_read f = refl
granted_sent to_write f = refl

pub sent_sent : (r : Right) (f : Flags) → sent_of r (sent f) ≡ granted r f
sent_sent to_read f = refl
sent_sent to_write f = refl

pub granted_both : (r : Right) → granted r (granting 1 1) ≡ 1
granted_both to_read = refl
granted_both to_write = refl

pub granted_none : (r : Right) → granted r no_flag ≡ 0
granted_none to_read = refl
granted_none to_write = refl

pub granted_done : (r : Right) → granted r DONE ≡ 0
granted_done to_read = refl
granted_done to_write = refl

pub granted_next : (r : Right) → granted r NEXT ≡ 0
granted_next to_read = refl
granted_next to_write = refl

pub sent_granting : (r : Right) (x y : ℕ) → sent_of r (granting x y) ≡ 0
sent_granting to_read x y = refl
sent_granting to_write x y = refl

-- ---- satisfied

pub satisfied_le : (q : ℕ) (f : Flags) → (satisfied q f ≤ f.read) × (satisfied q f ≤ q + f.write)
unfolding satisfied
satisfied_le q f = omega arith

pub satisfied_with : (q : ℕ) (e m : Flags) → satisfied q e ≤ satisfied q (with e m)
unfolding satisfied
satisfied_with q e m = min_mono _ _ _ _ (omega arith) (max_mono _ _ _ (omega arith))

pub satisfied_sent : (q : ℕ) (e f : Flags) → satisfied q (with e (sent f)) ≡ satisfied q e
unfolding satisfied
satisfied_sent q e f = rw (add-zero e.read, add-zero e.write) refl

pub satisfied_one : (q : ℕ) (f : Flags) → f.read ≡ 1 → f.write ≡ 1 → 1 ≤ satisfied q f
unfolding satisfied
satisfied_one q f a b = omega arith
