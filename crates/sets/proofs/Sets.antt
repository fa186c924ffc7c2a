-- Who is in a set: in none, in that of one message, in either of two and in both; and how many there are.
use Prim.Native.Nat.{ℕ, zero, suc, ◌+◌, ◌-◌, ◌*◌, ◌/◌, ◌%◌, ◌^◌, ◌<◌, min, max}
use mathlib.Core.Path.{◌≡◌, refl, sym, ◌∙◌, ap}
use mathlib.Core.Bool.{Bool, true, false, ◌&&◌, ◌||◌}
use native.Mathlib.Nat.{zero-div, div-eq_of_lt, div_self, mul-mod_left}
use native.Mathlib.Omega.{arith}
use lib.Dec.{ltb, eqb}
use lib.Bits.{bit_and, bit_or, and_shr, or_shr, and_step, or_step}
use lib.Count.{ones, ones_step}
use lib.Pow.{pow_pos, pow-lt, pow-add, shl-shr, shr-shr}
use borrow.Author.Tests.{ltb-true, ltb-false, eq-eqb, ne_eqb}
use Rattle.sets.specs.Sums.{sum_of, one_if}
use Rattle.sets.specs.Sets.{has, IsEither, IsBoth}

-- nobody is in the empty set
pub has-none : (n : ℕ) → has 0 n ≡ false
unfolding has
has-none n = rw (zero-div (2 ^ n))

-- so it is that of an entry that names none of them
pub none_named : (w n : ℕ) → (w ≡ n + 1 → ⊥) → has 0 n ≡ eqb w (n + 1)
none_named w n other = has-none n ∙ sym (ne_eqb w (n + 1) other)

-- in that of one message only she is
pub has_one : (m n : ℕ) → has (2 ^ m) n ≡ eqb n m
unfolding has
has_one m n = by (ltb m n) refl (ltb n m) refl
  where
    same : (k : ℕ) → k ≡ m → 2 ^ m / 2 ^ k ≡ 1
    same k e = rw e (div_self (pow_pos m))

    lower : n < m → 2 ^ m / 2 ^ n ≡ 2 ^ (m - n - 1) * 2
    lower l =
        let e : m ≡ (m - n - 1 + 1) + n = omega arith in
        ap (λ (k : ℕ). 2 ^ k / 2 ^ n) e
        ∙ ap (λ (x : ℕ). x / 2 ^ n) (pow-add 2 (m - n - 1 + 1) n)
        ∙ shl-shr (2 ^ (m - n - 1 + 1)) n
        ∙ pow-add 2 (m - n - 1) 1

    by : (b : Bool) → ltb m n ≡ b → (d : Bool) → ltb n m ≡ d → eqb (2 ^ m / 2 ^ n % 2) 1 ≡ eqb n m
    by true h d g = rw (div-eq_of_lt (pow-lt (ltb-true m n h)), ne_eqb n m (λ e. omega (arith, ltb-true m n h)))
    by false h true g = rw (lower (ltb-true n m g), mul-mod_left (2 ^ (m - n - 1)) 2, ne_eqb n m (λ e. omega (arith, ltb-true n m g)))
    by false h false g =
        let e : n ≡ m = omega (arith, ltb-false m n h, ltb-false n m g) in
        rw (same n e, eq-eqb n m e)

pub turned : (a b : Bool) → (a || b) ≡ (b || a)
turned true true = refl
turned true false = refl
turned false true = refl
turned false false = refl

-- digits are 0 or 1
or_digits : (p q : ℕ) → p < 2 → q < 2 → eqb (max p q) 1 ≡ (eqb p 1 || eqb q 1)
or_digits zero zero l k = refl
or_digits zero (suc zero) l k = refl
or_digits (suc zero) zero l k = refl
or_digits (suc zero) (suc zero) l k = refl
or_digits (suc (suc p)) q l k = absurd (omega arith)
or_digits zero (suc (suc q)) l k = absurd (omega arith)
or_digits (suc zero) (suc (suc q)) l k = absurd (omega arith)

and_digits : (p q : ℕ) → p < 2 → q < 2 → eqb (min p q) 1 ≡ (eqb p 1 && eqb q 1)
and_digits zero zero l k = refl
and_digits zero (suc zero) l k = refl
and_digits (suc zero) zero l k = refl
and_digits (suc zero) (suc zero) l k = refl
and_digits (suc (suc p)) q l k = absurd (omega arith)
and_digits zero (suc (suc q)) l k = absurd (omega arith)
and_digits (suc zero) (suc (suc q)) l k = absurd (omega arith)

one_digit : (p : ℕ) → p < 2 → p ≡ one_if (eqb p 1)
one_digit zero l = refl
one_digit (suc zero) l = refl
one_digit (suc (suc p)) l = absurd (omega arith)

pub has_either : (a b : ℕ) → IsEither a b (bit_or a b)
unfolding has
has_either a b n =
    let x = a / 2 ^ n in
    let y = b / 2 ^ n in
    let low : bit_or x y % 2 ≡ max (x % 2) (y % 2) = omega (arith, or_step x y) in
    rw (or_shr a b n, low) (or_digits (x % 2) (y % 2) (omega arith) (omega arith))

pub has_both : (a b : ℕ) → IsBoth a b (bit_and a b)
unfolding has
has_both a b n =
    let x = a / 2 ^ n in
    let y = b / 2 ^ n in
    let low : bit_and x y % 2 ≡ min (x % 2) (y % 2) = omega (arith, and_step x y) in
    rw (and_shr a b n, low) (and_digits (x % 2) (y % 2) (omega arith) (omega arith))

-- the digits that are 1 are the first k of them and those above
pub ones_sum : (a k : ℕ) → ones a ≡ sum_of (λ m. one_if (has a m)) k + ones (a / 2 ^ k)
unfolding sum_of has
ones_sum a zero = let e : a / 1 ≡ a = omega arith in rw e (omega arith)
ones_sum a (suc k) =
    let x = a / 2 ^ k in
    let half : x / 2 ≡ a / 2 ^ suc k = shr-shr a k 1 ∙ ap (λ (j : ℕ). a / 2 ^ j) (omega arith) in
    let more : ones x ≡ x % 2 + ones (a / 2 ^ suc k) = ones_step x ∙ ap (λ (y : ℕ). x % 2 + ones y) half in
    omega (arith, ones_sum a k, one_digit (x % 2) (omega arith))
