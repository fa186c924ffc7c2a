-- Laws of a number in decimal: a digit alone, a digit after others, and how many digits there are.
use Prim.Native.Nat.{ℕ, zero, suc, ◌+◌, ◌*◌, ◌/◌, ◌%◌, ◌^◌, ◌≤◌, ◌<◌}
use mathlib.Core.Path.{◌≡◌, refl, sym, ◌∙◌, ap}
use mathlib.Core.Bool.{Bool, true, false}
use mathlib.Core.List.{List, [], ◌∷◌, ◌++◌}
use native.Mathlib.Omega.{arith}
use native.Mathlib.Nat.{pow-suc}
use lib.Dec.{ltb}
use lib.ListN.{length, length-append}
use borrow.Author.Tests.{lt-ltb, le-ltb, ltb-true, ltb-false}
use Rattle.scope.specs.Lines.{digits, decimal}

digits-small : (most n : ℕ) → n < 10 → digits (suc most) n ≡ (48 + n) ∷ []
unfolding digits
digits-small most n h = rw (lt-ltb n 10 h)

digits_large : (most n : ℕ) → 10 ≤ n → digits (suc most) n ≡ digits most (n / 10) ++ ((48 + n % 10) ∷ [])
unfolding digits
digits_large most n h = rw (le-ltb n 10 h)

-- room for more digits than there are changes nothing
digits-enough : (most n : ℕ) → n < 10 ^ suc most → digits (suc (suc most)) n ≡ digits (suc most) n
digits-enough zero n h = digits-small 1 n h ∙ sym (digits-small 0 n h)
digits-enough (suc most) n h = by (ltb n 10) refl (digits-enough most (n / 10))
  where
    by : (t : Bool) → ltb n 10 ≡ t → (n / 10 < 10 ^ suc most → digits (suc (suc most)) (n / 10) ≡ digits (suc most) (n / 10)) →
        digits (suc (suc (suc most))) n ≡ digits (suc (suc most)) n
    by true e r = let l = ltb-true n 10 e in digits-small (suc (suc most)) n l ∙ sym (digits-small (suc most) n l)
    by false e r =
        let l = ltb-false n 10 e in
        let p : 10 ^ suc (suc most) ≡ 10 ^ suc most * 10 = pow-suc 10 (suc most) in
        digits_large (suc (suc most)) n l
        ∙ ap (λ (ds : List ℕ). ds ++ ((48 + n % 10) ∷ [])) (r (omega arith))
        ∙ sym (digits_large (suc most) n l)

pub decimal-small : (n : ℕ) → n < 10 → decimal n ≡ (48 + n) ∷ []
decimal-small n h = digits-small 19 n h

pub decimal_large : (n : ℕ) → 10 ≤ n → n < 2 ^ 64 → decimal n ≡ decimal (n / 10) ++ ((48 + n % 10) ∷ [])
decimal_large n h l =
    digits_large 19 n h ∙ ap (λ (ds : List ℕ). ds ++ ((48 + n % 10) ∷ [])) (sym (digits-enough 18 (n / 10) (omega arith)))

digits-none : (n : ℕ) → digits zero n ≡ []
unfolding digits
digits-none n = refl

-- a number below 10 ^ k has at most k digits
digits-most : (most n k : ℕ) → n < 10 ^ suc k → length (digits most n) ≤ suc k
digits-most zero n k h = let e = ap length (digits-none n) in omega arith
digits-most (suc most) n zero h =
    let e = ap length (digits-small most n h) in
    omega arith
digits-most (suc most) n (suc k) h = by (ltb n 10) refl (digits-most most (n / 10) k)
  where
    by : (t : Bool) → ltb n 10 ≡ t → (n / 10 < 10 ^ suc k → length (digits most (n / 10)) ≤ suc k) →
        length (digits (suc most) n) ≤ suc (suc k)
    by true e r = let l = ap length (digits-small most n (ltb-true n 10 e)) in omega arith
    by false e r =
        let p : 10 ^ suc (suc k) ≡ 10 ^ suc k * 10 = pow-suc 10 (suc k) in
        let q : length (digits most (n / 10)) ≤ suc k = r (omega arith) in
        let l = ap length (digits_large most n (ltb-false n 10 e)) in
        let a = length-append (digits most (n / 10)) ((48 + n % 10) ∷ []) in
        omega arith

pub decimal-most : (n k : ℕ) → n < 10 ^ suc k → length (decimal n) ≤ suc k
decimal-most n k h = digits-most 20 n k h

-- and no number has more than 20
digits-all : (most n : ℕ) → length (digits most n) ≤ most
digits-all zero n = let e = ap length (digits-none n) in omega arith
digits-all (suc most) n = by (ltb n 10) refl (digits-all most (n / 10))
  where
    by : (t : Bool) → ltb n 10 ≡ t → length (digits most (n / 10)) ≤ most → length (digits (suc most) n) ≤ suc most
    by true e r = let l = ap length (digits-small most n (ltb-true n 10 e)) in omega arith
    by false e r =
        let l = ap length (digits_large most n (ltb-false n 10 e)) in
        let a = length-append (digits most (n / 10)) ((48 + n % 10) ∷ []) in
        omega arith

pub decimal-all : (n : ℕ) → length (decimal n) ≤ 20
decimal-all n = digits-all 20 n
