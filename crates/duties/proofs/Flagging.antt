-- Flags in their number: which remainder is which flag, and what passes on or is satisfied by it.
use Prim.Native.Nat.{ℕ, ◌+◌, ◌-◌, ◌*◌, ◌/◌, ◌%◌, ◌<◌}
use native.Mathlib.Omega.{arith}
use mathlib.Core.Path.{◌≡◌}
use mathlib.Core.Logic.{◌≢◌}
use Rattle.tasks.specs.Flags.{Flags, flag_number, with, passes_read, passes_write, satisfied, Once}
use Rattle.duties.specs.FromTasks.{reads_more, writes_more}

module _ (f : Flags) (h : Once f) (n : ℕ) (is : n ≡ flag_number f) where
  pub number_small : n < 64
  number_small = omega (arith, h)

  next_bit : n / 8 % 2 ≡ f.next
  next_bit = omega (arith, h)

  done_bit : n / 4 % 2 ≡ f.done
  done_bit = omega (arith, h)

  pub rights_of : n % 4 ≡ f.read + 2 * f.write
  rights_of = omega (arith, h)

  read_bit : n % 2 ≡ f.read
  read_bit = omega (arith, h)

  module _ (q : ℕ) where
    -- no successor, or over, or a reader, or a writer that is not over
    pub passing_closed : n / 8 % 2 ≡ 0 → 0 ≡ passes_read q f + 2 * passes_write f
    unfolding passes_read passes_write
    passing_closed z = omega (arith, next_bit)

    pub passing_over : n / 8 % 2 ≢ 0 → n / 4 % 2 ≡ 1 → n % 4 ≡ passes_read q f + 2 * passes_write f
    unfolding passes_read passes_write
    passing_over x d =
        let next : f.next ≡ 1 = omega (arith, next_bit, h.next) in
        let done : f.done ≡ 1 = omega (arith, done_bit) in
        let a = h.read in
        let b = h.write in
        rw (rights_of, next, done) (omega arith)

    pub passing_reader : n / 8 % 2 ≢ 0 → n / 4 % 2 ≢ 1 → q ≡ 1 → n % 2 ≡ passes_read q f + 2 * passes_write f
    unfolding passes_read passes_write
    passing_reader x d e =
        let next : f.next ≡ 1 = omega (arith, next_bit, h.next) in
        let done : f.done ≡ 0 = omega (arith, done_bit, h.done) in
        let a = h.read in
        rw (read_bit, next, done, e) (omega arith)

    pub passing_none : n / 4 % 2 ≢ 1 → q ≡ 0 → 0 ≡ passes_read q f + 2 * passes_write f
    unfolding passes_read passes_write
    passing_none d e =
        let done : f.done ≡ 0 = omega (arith, done_bit, h.done) in
        rw (done, e) (omega arith)

    pub satisfied_reader : q ≡ 1 → n % 2 ≡ satisfied q f
    unfolding satisfied
    satisfied_reader e = let a = h.read in rw (read_bit, e) (omega arith)

    pub satisfied_both : q ≡ 0 → n % 4 ≡ 3 → 1 ≡ satisfied q f
    unfolding satisfied
    satisfied_both e b = let r = h.read in let w = h.write in let s = rights_of in rw e (omega arith)

    pub satisfied_not : q ≡ 0 → n % 4 ≢ 3 → 0 ≡ satisfied q f
    unfolding satisfied
    satisfied_not e b = let r = h.read in let w = h.write in let s = rights_of in rw e (omega arith)

-- what passes on rises with the flags, so differences add up
pub passes_more : (q : ℕ) (e m : Flags)
    → passes_read q (with e m) + 2 * passes_write (with e m) - (passes_read q e + 2 * passes_write e)
    ≡ passes_read q (with e m) - passes_read q e + 2 * (passes_write (with e m) - passes_write e)
passes_more q e m = omega (arith, reads_more q e m, writes_more e m)
