-- Bits and numbers, each law once over the width: a number and its bits say each other, and so do bytes and their bits.
use Prim.Native.Nat.{ℕ, zero, suc, ◌+◌, ◌*◌, ◌/◌, ◌%◌, ◌^◌, ◌≤◌, ◌<◌}
use mathlib.Core.Path.{◌≡◌, refl, sym, ◌∙◌, ap}
use mathlib.Core.List.{List, [], ◌∷◌, ◌++◌, append_assoc}
use native.Mathlib.Nat.{zero-add, suc-add, add_comm, pow-suc, mod-one, mul-add-div_right, mod-eq_of_lt, zero-div}
use native.Mathlib.Omega.{arith}
use lib.ListN.{length, get_or, take, drop, replicate, length-append, length-drop, take-append-drop}
use lib.Seq.{take_at, drop_at, take-nil, drop-nil, take-append-add, drop-append-add, get_or-drop, length-take-le, sets, sets-eq}
use lib.Pow.{pow_pos, shr-shr, mod-pow-add, high}
use Rattle.scope.specs.Bits.{bits_of, bits, number_from, field_at, bytes_of}

-- every number of a list is a bit, or a byte
abbrev pub AreBits : List ℕ → Type 0
AreBits bs = (i : ℕ) → get_or bs i 0 < 2

abbrev pub AreBytes : List ℕ → Type 0
AreBytes s = (i : ℕ) → get_or s i 0 < 256

pub length-bits_of : (w x : ℕ) → length (bits_of w x) ≡ w
unfolding bits_of
length-bits_of zero x = refl
length-bits_of (suc w) x = ap suc (length-bits_of w x)

-- the bits of a number are the bits of its high part, then those of its low part
pub bits_split : (a k x : ℕ) → bits_of (a + k) x ≡ bits_of a (x / 2 ^ k) ++ bits_of k x
unfolding bits_of
bits_split zero k x = rw zero-add
bits_split (suc a) k x =
    let e : x / 2 ^ k / 2 ^ a ≡ x / 2 ^ (a + k) = shr-shr x k a ∙ ap (λ (n : ℕ). x / 2 ^ n) (add_comm k a) in
    rw (suc-add, e, bits_split a k x)

-- bits above the width do not count
pub bits-low : (w y x : ℕ) → bits_of w (y * 2 ^ w + x) ≡ bits_of w x
unfolding bits_of
bits-low zero y x = refl
bits-low (suc w) y x =
    let e : y * 2 ^ suc w + x ≡ y * 2 * 2 ^ w + x = rw pow-suc (omega arith) in
    let d : (y * 2 * 2 ^ w + x) / 2 ^ w % 2 ≡ x / 2 ^ w % 2 = rw (mul-add-div_right (pow_pos w) (y * 2) x) (omega arith) in
    rw (e, d, bits-low w (y * 2) x)

-- the number that bits say: those before them count double for each
pub number_append : (a : ℕ) (xs ys : List ℕ) → number_from a (xs ++ ys) ≡ number_from (number_from a xs) ys
unfolding number_from
number_append a [] ys = refl
number_append a (x ∷ xs) ys = number_append (a * 2 + x) xs ys

pub number-from : (a : ℕ) (bs : List ℕ) → number_from a bs ≡ a * 2 ^ length bs + number_from 0 bs
unfolding number_from
number-from a [] = omega arith
number-from a (b ∷ bs) =
    let e = number-from (a * 2 + b) bs in
    let f = number-from (0 * 2 + b) bs in
    rw pow-suc (omega arith)

pub number-less : (bs : List ℕ) → AreBits bs → number_from 0 bs < 2 ^ length bs
unfolding number_from
number-less [] h = omega arith
number-less (b ∷ bs) h =
    let e = number-from (0 * 2 + b) bs in
    let less = number-less bs (λ i. h (suc i)) in
    by b (h 0) e less
  where
    by : (b : ℕ) → b < 2 → number_from (0 * 2 + b) bs ≡ (0 * 2 + b) * 2 ^ length bs + number_from 0 bs → number_from 0 bs < 2 ^ length bs →
        number_from (0 * 2 + b) bs < 2 ^ suc (length bs)
    by zero l e less = rw pow-suc (omega arith)
    by (suc zero) l e less = rw pow-suc (omega arith)
    by (suc (suc b)) l e less = absurd (omega arith)

-- "bits_of, then number_from": what is left is the number's low part
pub number-bits : (a w x : ℕ) → number_from a (bits_of w x) ≡ a * 2 ^ w + x % 2 ^ w
unfolding bits_of number_from
number-bits a zero x = omega (arith, mod-one x)
number-bits a (suc w) x =
    let e = number-bits (a * 2 + x / 2 ^ w % 2) w x in
    let d : x % 2 ^ (1 + w) ≡ x / 2 ^ w % 2 * 2 ^ w + x % 2 ^ w = mod-pow-add x 1 w in
    let s : 1 + w ≡ suc w = omega arith in
    let d' : x % 2 ^ suc w ≡ x / 2 ^ w % 2 * 2 ^ w + x % 2 ^ w = rw s at d in
    rw (d', pow-suc) (omega arith)

pub number-bits_of : (w x : ℕ) → x < 2 ^ w → number_from 0 (bits_of w x) ≡ x
number-bits_of w x h = let e = number-bits 0 w x in omega (arith, mod-eq_of_lt h)

-- "number_from, then bits_of": the bits themselves
pub bits-number : (a : ℕ) (bs : List ℕ) → AreBits bs → bits_of (length bs) (number_from a bs) ≡ bs
unfolding bits_of number_from
bits-number a [] h = refl
bits-number a (b ∷ bs) h =
    let e : number_from (a * 2 + b) bs / 2 ^ length bs ≡ a * 2 + b =
    rw (number-from (a * 2 + b) bs) (high (a * 2 + b) (length bs) (number-less bs (λ i. h (suc i)))) in
    let d : (a * 2 + b) % 2 ≡ b = omega (arith, h 0) in
    rw (bits-number (a * 2 + b) bs (λ i. h (suc i)), e, d)

-- bits and bytes are what they are called
pub are-bits_of : (w x : ℕ) → AreBits (bits_of w x)
unfolding bits_of
are-bits_of zero x i = omega arith
are-bits_of (suc w) x zero = omega arith
are-bits_of (suc w) x (suc i) = are-bits_of w x i

pub are-append : (xs ys : List ℕ) → AreBits xs → AreBits ys → AreBits (xs ++ ys)
are-append [] ys h g i = g i
are-append (x ∷ xs) ys h g zero = h zero
are-append (x ∷ xs) ys h g (suc i) = are-append xs ys (λ j. h (suc j)) g i

pub are-bits : (s : List ℕ) → AreBits (bits s)
unfolding bits
are-bits [] i = omega arith
are-bits (b ∷ s) i = are-append (bits_of 8 b) (bits s) (are-bits_of 8 b) (are-bits s) i

pub are-drop : (n : ℕ) (bs : List ℕ) → AreBits bs → AreBits (drop n bs)
are-drop n bs h i = rw (get_or-drop n bs i 0) (h (n + i))

pub are-take : (n : ℕ) (bs : List ℕ) → AreBits bs → AreBits (take n bs)
are-take zero bs h i = omega arith
are-take (suc n) [] h i = omega arith
are-take (suc n) (b ∷ bs) h zero = h zero
are-take (suc n) (b ∷ bs) h (suc i) = are-take n bs (λ j. h (suc j)) i

pub length-bits : (s : List ℕ) → length (bits s) ≡ 8 * length s
unfolding bits
length-bits [] = refl
length-bits (b ∷ s) = let e = length-bits s in simp (length-append, length-bits_of) (omega arith)

pub bits-append : (s t : List ℕ) → bits (s ++ t) ≡ bits s ++ bits t
unfolding bits
bits-append [] t = refl
bits-append (b ∷ s) t = rw (bits-append s t, append_assoc)

pub bits-drop : (n : ℕ) (s : List ℕ) → bits (drop n s) ≡ drop (8 * n) (bits s)
unfolding bits
bits-drop zero s = refl
bits-drop (suc n) [] = sym (drop-nil (8 * suc n))
bits-drop (suc n) (b ∷ s) =
    let e : 8 * suc n ≡ length (bits_of 8 b) + 8 * n = rw length-bits_of (omega arith) in
    rw (e, drop-append-add) (bits-drop n s)

pub bits-take : (n : ℕ) (s : List ℕ) → bits (take n s) ≡ take (8 * n) (bits s)
unfolding bits
bits-take zero s = refl
bits-take (suc n) [] = sym (take-nil (8 * suc n))
bits-take (suc n) (b ∷ s) =
    let e : 8 * suc n ≡ length (bits_of 8 b) + 8 * n = rw length-bits_of (omega arith) in
    rw (e, take-append-add, bits-take n s)

-- bytes from their bits, and bits from their bytes
pub bytes_bits : (s : List ℕ) → AreBytes s → bytes_of (length s) (bits s) ≡ s
unfolding bits bytes_of
bytes_bits [] h = refl
bytes_bits (b ∷ s) h =
    rw (
      take_at (bits_of 8 b) (bits s) 8 (length-bits_of 8 b),
      drop_at (bits_of 8 b) (bits s) 8 (length-bits_of 8 b),
      number-bits_of 8 b (h 0),
      bytes_bits s (λ i. h (suc i)),
    )

pub bits-bytes : (n : ℕ) (bs : List ℕ) → length bs ≡ 8 * n → AreBits bs → bits (bytes_of n bs) ≡ bs
unfolding bits bytes_of
bits-bytes zero [] e h = refl
bits-bytes zero (b ∷ bs) e h = absurd (omega arith)
bits-bytes (suc n) bs e h =
    let l : length (take 8 bs) ≡ 8 = length-take-le 8 bs (omega arith) in
    let one : bits_of 8 (number_from 0 (take 8 bs)) ≡ take 8 bs =
    ap (λ (k : ℕ). bits_of k (number_from 0 (take 8 bs))) (sym l) ∙ bits-number 0 (take 8 bs) (are-take 8 bs h) in
    let d : length (drop 8 bs) ≡ 8 * n = rw length-drop (omega arith) in
    rw (one, bits-bytes n (drop 8 bs) d (are-drop 8 bs h)) (take-append-drop 8 bs)

pub length-bytes_of : (n : ℕ) (bs : List ℕ) → length (bytes_of n bs) ≡ n
unfolding bytes_of
length-bytes_of zero bs = refl
length-bytes_of (suc n) bs = ap suc (length-bytes_of n (drop 8 bs))

-- zero bits
pub bits_zero : (w : ℕ) → bits_of w 0 ≡ replicate w 0
unfolding bits_of
bits_zero zero = refl
bits_zero (suc w) = let e : 0 / 2 ^ w ≡ 0 = zero-div (2 ^ w) in rw (e, bits_zero w)

-- the number in a field fits its width, and its bits are those of the list
pub length_part : (bs : List ℕ) (p w : ℕ) → p + w ≤ length bs → length (take w (drop p bs)) ≡ w
length_part bs p w h = length-take-le w (drop p bs) (rw length-drop (omega arith))

pub field_small : (bs : List ℕ) (p w : ℕ) → AreBits bs → p + w ≤ length bs → field_at bs p w < 2 ^ w
field_small bs p w h l =
    let less = number-less (take w (drop p bs)) (are-take w (drop p bs) (are-drop p bs h)) in
    rw (length_part bs p w l) at less

pub field_bits : (bs : List ℕ) (p w : ℕ) → AreBits bs → p + w ≤ length bs → bits_of w (field_at bs p w) ≡ take w (drop p bs)
field_bits bs p w h l =
    ap (λ (k : ℕ). bits_of k (field_at bs p w)) (sym (length_part bs p w l))
    ∙ bits-number 0 (take w (drop p bs)) (are-take w (drop p bs) (are-drop p bs h))

-- what was put into a field is read from it
pub put_get : (bs : List ℕ) (p w x : ℕ) → p + w ≤ length bs → x < 2 ^ w → field_at (sets bs p (bits_of w x)) p w ≡ x
put_get bs p w x l h =
    let long : length (bits_of w x) ≡ w = length-bits_of w x in
    let front : length (take p bs) ≡ p = length-take-le p bs (omega arith) in
    rw (
      sets-eq (bits_of w x) bs p (rw length-bits_of l),
      append_assoc (take p bs) (bits_of w x) (drop (p + length (bits_of w x)) bs),
      drop_at (take p bs) (bits_of w x ++ drop (p + length (bits_of w x)) bs) p front,
      take_at (bits_of w x) (drop (p + length (bits_of w x)) bs) w long,
    )
    (number-bits_of w x h)
