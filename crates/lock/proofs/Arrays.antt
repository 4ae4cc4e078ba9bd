-- What a store into an array makes of the lock that lies there.
use mathlib.Core.Path.{◌≡◌, fun_ext}
use mathlib.Core.Logic.{⊎_elim}
use mathlib.Core.List.{List}
use Prim.Native.Nat.{ℕ, ◌+◌, ◌%◌, ◌≤◌, ◌<◌}
use native.Mathlib.Numerals.{add-one}
use native.Mathlib.Nat.{mod-lt}
use native.Mathlib.Omega.{arith}
use lib.ListN.{length, get_or, set, replicate, length-replicate, get_or-replicate, get_or-eq_default}
use Rattle.runs.specs.Update.{order, array_upd}
use Rattle.lock.specs.Lock.{EMPTY, start, take_ticket, join, register, hand_over, fill}
use Rattle.lock.specs.Arrays.{lock_of}

-- an array that holds `a` everywhere
all_same : (n a : ℕ) → ◌≡◌ {A = ℕ → ℕ} (λ k. get_or (replicate n a) k a) (λ _. a)
all_same n a =
    fun_ext (λ k.
    ⊎_elim (λ (l : k < n). get_or-replicate n k a a l)
    (λ (l : n ≤ k). get_or-eq_default (replicate n a) a (omega (arith, length-replicate n a)))
    (order k n))

-- each array filled from end to end
abbrev pub filled : List ℕ → ℕ → List ℕ
filled l a = replicate (length l) a

pub start_lock : (N : ℕ) (wait registrations tickets tasks : List ℕ)
    → lock_of N N (N + 1) (filled wait N) (filled registrations EMPTY) (filled tickets EMPTY) (filled tasks EMPTY) ≡ start N
unfolding start
start_lock N wait registrations tickets tasks =
    λ i. record {
      head = N;
      tail = add-one N i;
      wait = all_same (length wait) N i;
      registration = all_same (length registrations) EMPTY i;
      cell_ticket = all_same (length tickets) EMPTY i;
      cell_task = all_same (length tasks) EMPTY i;
    }

module _ (N head tail : ℕ) (wait registrations tickets tasks : List ℕ) where
  pub take_lock : lock_of N (head + 1) tail wait registrations tickets tasks
      ≡ take_ticket (lock_of N head tail wait registrations tickets tasks)
  unfolding take_ticket
  take_lock = rw add-one

  pub register_lock : (ticket worker : ℕ) → 0 < N → N ≤ length registrations
      → lock_of N head tail wait (set registrations (ticket % N) (join ticket worker)) tickets tasks
      ≡ register N (lock_of N head tail wait registrations tickets tasks) ticket worker
  unfolding register
  register_lock ticket worker some fits =
      λ i. record {
        head = head;
        tail = tail;
        wait = λ k. get_or wait k N;
        registration = array_upd registrations (ticket % N) (join ticket worker) 0 (omega (arith, mod-lt ticket some)) i;
        cell_ticket = λ k. get_or tickets k 0;
        cell_task = λ k. get_or tasks k 0;
      }

  pub hand_over_lock : 0 < N → N ≤ length wait
      → lock_of N head (tail + 1) (set wait (tail % N) tail) registrations tickets tasks
      ≡ hand_over N (lock_of N head tail wait registrations tickets tasks)
  unfolding hand_over
  hand_over_lock some fits = λ i. record {
    head = head;
    tail = add-one tail i;
    wait = array_upd wait (tail % N) tail N (omega (arith, mod-lt tail some)) i;
    registration = λ k. get_or registrations k 0;
    cell_ticket = λ k. get_or tickets k 0;
    cell_task = λ k. get_or tasks k 0;
  }

  pub fill_lock : (worker task : ℕ) → worker < length tickets → worker < length tasks
      → lock_of N head tail wait registrations (set tickets worker tail) (set tasks worker task)
      ≡ fill (lock_of N head tail wait registrations tickets tasks) worker task
  unfolding fill
  fill_lock worker task h k = λ i. record {
    head = head;
    tail = tail;
    wait = λ k. get_or wait k N;
    registration = λ k. get_or registrations k 0;
    cell_ticket = array_upd tickets worker tail 0 h i;
    cell_task = array_upd tasks worker task 0 k i;
  }
