-- Sums: term by term, in either order, and of the one test that holds.
use Prim.Native.Nat.{ℕ, zero, suc, ◌+◌, ◌≤◌, ◌<◌}
use native.Mathlib.Omega.{arith}
use mathlib.Core.Path.{◌≡◌, refl, ap₂}
use mathlib.Core.Bool.{Bool, true, false}
use lib.Dec.{ltb, eqb}
use borrow.Author.Tests.{ltb-true, ltb-false, lt-ltb, eqb-true, ne_eqb}
use Rattle.sets.specs.Sums.{sum_of, one_if}

pub sum_le : (f g : ℕ → ℕ) (n : ℕ) → ((i : ℕ) → i < n → f i ≤ g i) → sum_of f n ≤ sum_of g n
unfolding sum_of
sum_le f g zero h = omega arith
sum_le f g (suc n) h = omega (arith, sum_le f g n (λ i l. h i (omega arith)), h n (omega arith))

pub sum_same : (f g : ℕ → ℕ) (n : ℕ) → ((i : ℕ) → i < n → f i ≡ g i) → sum_of f n ≡ sum_of g n
unfolding sum_of
sum_same f g zero h = refl
sum_same f g (suc n) h = ap₂ ◌+◌ (sum_same f g n (λ i l. h i (omega arith))) (h n (omega arith))

-- a term is no more than the sum
pub sum_term : (f : ℕ → ℕ) (n i : ℕ) → i < n → f i ≤ sum_of f n
unfolding sum_of
sum_term f zero i l = absurd (omega arith)
sum_term f (suc n) i l = by (ltb i n) refl (sum_term f n i)
  where
    at : (k : ℕ) → i ≡ k → f i ≤ f k
    at k e = rw e (omega arith)

    by : (b : Bool) → ltb i n ≡ b → (i < n → f i ≤ sum_of f n) → f i ≤ sum_of f n + f n
    by true h more = omega (arith, more (ltb-true i n h))
    by false h more = let e : i ≡ n = omega (arith, ltb-false i n h) in omega (arith, at n e)

-- fewer terms are no more
pub sum-fewer : (f : ℕ → ℕ) (n m : ℕ) → n ≤ m → sum_of f n ≤ sum_of f m
unfolding sum_of
sum-fewer f n zero l = let z : n ≡ 0 = omega arith in rw z (omega arith)
sum-fewer f n (suc m) l = by (ltb m n) refl (sum-fewer f n m)
  where
    by : (b : Bool) → ltb m n ≡ b → (n ≤ m → sum_of f n ≤ sum_of f m) → sum_of f n ≤ sum_of f m + f m
    by true h more = let e : n ≡ suc m = omega (arith, ltb-true m n h) in rw e (omega arith)
    by false h more = omega (arith, more (ltb-false m n h))

pub sum_first : (f : ℕ → ℕ) (n : ℕ) → sum_of f (suc n) ≡ f 0 + sum_of (λ i. f (suc i)) n
unfolding sum_of
sum_first f zero = omega arith
sum_first f (suc n) = omega (arith, sum_first f n)

pub sum_zero : (n : ℕ) → sum_of (λ i. 0) n ≡ 0
unfolding sum_of
sum_zero zero = refl
sum_zero (suc n) = omega (arith, sum_zero n)

pub sum_ones : (n : ℕ) → sum_of (λ i. 1) n ≡ n
unfolding sum_of
sum_ones zero = refl
sum_ones (suc n) = omega (arith, sum_ones n)

-- no more than n of n tests hold
pub tests_few : (test : ℕ → Bool) (n : ℕ) → sum_of (λ i. one_if (test i)) n ≤ n
unfolding sum_of
tests_few test zero = omega arith
tests_few test (suc n) = by (test n) (tests_few test n)
  where
    by : (b : Bool) → sum_of (λ i. one_if (test i)) n ≤ n → sum_of (λ i. one_if (test i)) n + one_if b ≤ suc n
    by true more = omega arith
    by false more = omega arith

-- what each of them gives where it holds is given where their sum is not 0
pub some_test : (Given : Type 0) (test : ℕ → Bool) (n : ℕ) → ((i : ℕ) → i < n → test i ≡ true → Given) →
    0 < sum_of (λ i. one_if (test i)) n → Given
unfolding sum_of
some_test Given test zero h some = absurd (omega arith)
some_test Given test (suc n) h some = by (test n) refl some (some_test Given test n (λ i l. h i (omega arith)))
  where
    by : (b : Bool) → test n ≡ b → 0 < sum_of (λ i. one_if (test i)) n + one_if b → (0 < sum_of (λ i. one_if (test i)) n → Given) → Given
    by true t some more = h n (omega arith) t
    by false t some more = more (omega arith)

pub sum_plus : (f g : ℕ → ℕ) (n : ℕ) → sum_of (λ i. f i + g i) n ≡ sum_of f n + sum_of g n
unfolding sum_of
sum_plus f g zero = refl
sum_plus f g (suc n) = omega (arith, sum_plus f g n)

pub sum_swap : (f : ℕ → ℕ → ℕ) (m n : ℕ) → sum_of (λ i. sum_of (f i) n) m ≡ sum_of (λ j. sum_of (λ i. f i j) m) n
unfolding sum_of
sum_swap f zero n = let z : sum_of (λ j. 0) n ≡ 0 = sum_zero n in omega arith
sum_swap f (suc m) n =
    let more = sum_swap f m n in
    let two = sum_plus (λ j. sum_of (λ i. f i j) m) (f m) n in
    omega arith

-- at most one of the numbers from 1 on is x, and none if x is 0
none_yet : (x n : ℕ) → n < x → sum_of (λ m. one_if (eqb x (m + 1))) n ≡ 0
unfolding sum_of
none_yet x zero h = refl
none_yet x (suc n) h = rw (ne_eqb x (n + 1) (λ e. omega arith)) (omega (arith, none_yet x n (omega arith)))

at_most_one : (x n : ℕ) → sum_of (λ m. one_if (eqb x (m + 1))) n ≤ 1
unfolding sum_of
at_most_one x zero = omega arith
at_most_one x (suc n) = by (eqb x (n + 1)) refl (at_most_one x n)
  where
    by : (b : Bool) → eqb x (n + 1) ≡ b → sum_of (λ m. one_if (eqb x (m + 1))) n ≤ 1 → sum_of (λ m. one_if (eqb x (m + 1))) n + one_if b ≤ 1
    by true h more = let e : x ≡ n + 1 = eqb-true x (n + 1) h in omega (arith, none_yet x n (omega arith))
    by false h more = omega arith

of_none : (n : ℕ) → sum_of (λ m. one_if (eqb 0 (m + 1))) n ≡ 0
unfolding sum_of
of_none zero = refl
of_none (suc n) = rw (ne_eqb 0 (n + 1) (λ e. omega arith)) (omega (arith, of_none n))

pub one_of_them : (x n : ℕ) → sum_of (λ m. one_if (eqb x (m + 1))) n ≤ one_if (ltb 0 x)
one_of_them zero n = omega (arith, of_none n)
one_of_them (suc x) n = rw (lt-ltb 0 (suc x) (omega arith)) (at_most_one (suc x) n)
