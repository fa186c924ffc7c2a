-- The three bytes that a field can touch, as one number: what is read from it and what is written back, in bits. A list is first
-- made longer by three zero bytes, so that three bytes are always there; they change nothing in the bits that the list has.
use Prim.Native.Nat.{ℕ, zero, suc, ◌+◌, ◌-◌, ◌*◌, ◌/◌, ◌%◌, ◌^◌, ◌≤◌, ◌<◌}
use mathlib.Core.Path.{◌≡◌, refl, sym, ◌∙◌, ap}
use mathlib.Core.List.{List, [], ◌∷◌, ◌++◌, append_assoc, append-nil}
use native.Mathlib.Nat.{le_trans, div-mul-le_self, div-le_self, mod-lt, add_comm}
use native.Mathlib.Numerals.{add-one, add-two}
use native.Mathlib.Omega.{arith}
use lib.ListN.{length, get_or, take, drop, set, length-append, length-drop, take-append-drop}
use lib.Seq.{take_at, drop_at, drop-cons, drop-drop, length-take-le, take-append-le, drop-append-le, take-append_seam, sets, sets-eq}
use lib.Pow.{pow_pos, shr-shr, high, split}
use Rattle.scope.specs.Bits.{bits_of, bits, number_from, field_at}
use Rattle.bits.specs.Word.{word_at, mixed, Within}
use Rattle.bits.proofs.Laws.{length-bits_of, bits_split, bits-low, number-bits, length-bits, bits-append, bits-take, AreBytes}

-- a number put together from its parts keeps within the machine's word
pub parts_most : (old k w : ℕ) → old / k / w * w ≤ old
parts_most old k w = le_trans (div-mul-le_self (old / k) w) (div-le_self old k)

-- three bytes are the 24 bits of one number
pub three_bytes : (a b c : ℕ) → b < 256 → c < 256 → bits (a ∷ b ∷ c ∷ []) ≡ bits_of 24 (a * 65536 + b * 256 + c)
unfolding bits
three_bytes a b c hb hc =
    let x = a * 65536 + b * 256 + c in
    let e : x / 2 ^ 16 ≡ a = omega arith in
    let f : x / 2 ^ 8 ≡ a * 2 ^ 8 + b = omega arith in
    let g : x ≡ (a * 256 + b) * 2 ^ 8 + c = omega arith in
    let one : bits_of 24 x ≡ bits_of 8 a ++ bits_of 16 x = bits_split 8 16 x ∙ ap (λ (y : ℕ). bits_of 8 y ++ bits_of 16 x) e in
    let two : bits_of 16 x ≡ bits_of 8 b ++ bits_of 8 x =
    bits_split 8 8 x ∙ ap (λ (y : ℕ). bits_of 8 y ++ bits_of 8 x) f ∙ ap (λ (y : List ℕ). y ++ bits_of 8 x) (bits-low 8 a b) in
    let last : bits_of 8 x ≡ bits_of 8 c = ap (bits_of 8) g ∙ bits-low 8 (a * 256 + b) c in
    rw (one, two, last, append-nil)

-- the bytes of a number's 24 lowest bits
pub three_of : (n : ℕ) → bits (n / 65536 % 256 ∷ n / 256 % 256 ∷ n % 256 ∷ []) ≡ bits_of 24 n
three_of n =
    let x = n / 65536 % 256 * 65536 + n / 256 % 256 * 256 + n % 256 in
    let e : n ≡ n / 16777216 * 2 ^ 24 + x = omega arith in
    three_bytes (n / 65536 % 256) (n / 256 % 256) (n % 256) (omega arith) (omega arith)
    ∙ sym (ap (bits_of 24) e ∙ bits-low 24 (n / 16777216) x)

-- 24 bits as r bits, a field of w bits and the k lowest
pub window : (r w k n : ℕ) → r + (w + k) ≡ 24 → bits_of 24 n ≡ bits_of r (n / 2 ^ (w + k)) ++ (bits_of w (n / 2 ^ k) ++ bits_of k n)
window r w k n h =
    ap (λ (m : ℕ). bits_of m n) (sym h) ∙ bits_split r (w + k) n ∙ ap (λ (l : List ℕ). bits_of r (n / 2 ^ (w + k)) ++ l) (bits_split w k n)

-- and with another number in that field
pub window_mixed : (r w k n v : ℕ) → r + (w + k) ≡ 24 → v < 2 ^ w →
    bits_of 24 (mixed n k w v) ≡ bits_of r (n / 2 ^ (w + k)) ++ (bits_of w v ++ bits_of k n)
window_mixed r w k n v h less =
    let m = mixed n k w v in
    let top : m / 2 ^ k ≡ n / 2 ^ k / 2 ^ w * 2 ^ w + v = high (n / 2 ^ k / 2 ^ w * 2 ^ w + v) k (mod-lt n (pow_pos k)) in
    let e : m / 2 ^ (w + k) ≡ n / 2 ^ (w + k) =
    ap (λ (j : ℕ). m / 2 ^ j) (add_comm w k) ∙ sym (shr-shr m k w) ∙ ap (λ (y : ℕ). y / 2 ^ w) top
    ∙ high (n / 2 ^ k / 2 ^ w) w less ∙ shr-shr n k w ∙ ap (λ (j : ℕ). n / 2 ^ j) (add_comm k w) in
    let field : bits_of w (m / 2 ^ k) ≡ bits_of w v = ap (bits_of w) top ∙ bits-low w (n / 2 ^ k / 2 ^ w) v in
    let last : bits_of k m ≡ bits_of k n =
    bits-low k (n / 2 ^ k / 2 ^ w * 2 ^ w + v) (n % 2 ^ k)
    ∙ sym (ap (bits_of k) (sym (split n k)) ∙ bits-low k (n / 2 ^ k) (n % 2 ^ k)) in
    window r w k m h ∙ rw (e, field, last)

-- three zero bytes more
abbrev pad : List ℕ → List ℕ
pad s = s ++ (0 ∷ 0 ∷ 0 ∷ [])

pad_get_d : (s : List ℕ) (i : ℕ) → get_or (pad s) i 0 ≡ get_or s i 0
pad_get_d [] zero = refl
pad_get_d [] (suc zero) = refl
pad_get_d [] (suc (suc zero)) = refl
pad_get_d [] (suc (suc (suc i))) = refl
pad_get_d (b ∷ s) zero = refl
pad_get_d (b ∷ s) (suc i) = pad_get_d s i

-- stores past an end do not count
take-set : (n : ℕ) (l : List ℕ) (i a : ℕ) → take n (set l i a) ≡ set (take n l) i a
take-set zero l i a = refl
take-set (suc n) [] i a = refl
take-set (suc n) (x ∷ l) zero a = refl
take-set (suc n) (x ∷ l) (suc i) a = ap (λ (t : List ℕ). x ∷ t) (take-set n l i a)

pub take_sets : (n : ℕ) (l : List ℕ) (i : ℕ) (vs : List ℕ) → take n (sets l i vs) ≡ sets (take n l) i vs
take_sets n l i [] = refl
take_sets n l i (v ∷ vs) = take_sets n (set l i v) (suc i) vs ∙ ap (λ (t : List ℕ). sets t (suc i) vs) (take-set n l i v)

three_at : (l : List ℕ) (i : ℕ) → i + 3 ≤ length l →
    l ≡ take i l ++ ((get_or l i 0 ∷ get_or l (suc i) 0 ∷ get_or l (suc (suc i)) 0 ∷ []) ++ drop (i + 3) l)
three_at l i h =
    let e : i + 3 ≡ suc (suc (suc i)) = omega arith in
    sym (take-append-drop i l)
    ∙ ap (λ (t : List ℕ). take i l ++ t)
    (drop-cons l i 0 (omega arith)
    ∙ ap (λ (t : List ℕ). get_or l i 0 ∷ t) (drop-cons l (suc i) 0 (omega arith))
    ∙ ap (λ (t : List ℕ). get_or l i 0 ∷ get_or l (suc i) 0 ∷ t) (drop-cons l (suc (suc i)) 0 (omega arith))
    ∙ ap (λ (n : ℕ). get_or l i 0 ∷ get_or l (suc i) 0 ∷ get_or l (suc (suc i)) 0 ∷ drop n l) (sym e))

module _ (s : List ℕ) (p w : ℕ) (fits : Within s p w) (bytes : AreBytes s) where
  -- the bits of the field that are not in its last byte, and those below it
  abbrev pub below : ℕ
  below = 24 - p % 8 - w

  abbrev pub front : List ℕ
  front = bits (take (p / 8) (pad s)) ++ bits_of (p % 8) (word_at s (p / 8) / 2 ^ (w + below))

  abbrev pub back : List ℕ
  back = bits_of below (word_at s (p / 8)) ++ bits (drop (p / 8 + 3) (pad s))

  near : p / 8 + 3 ≤ length (pad s)
  near = rw length-append (omega (arith, fits.inside))

  pub front_length : length front ≡ p
  front_length =
      let e : length (take (p / 8) (pad s)) ≡ p / 8 = length-take-le (p / 8) (pad s) (omega (arith, near)) in
      rw (
        length-append (bits (take (p / 8) (pad s))) (bits_of (p % 8) (word_at s (p / 8) / 2 ^ (w + below))),
        length-bits (take (p / 8) (pad s)),
        e,
        length-bits_of (p % 8) (word_at s (p / 8) / 2 ^ (w + below)),
      )
      (omega arith)

  sum : p % 8 + (w + below) ≡ 24
  sum = omega (arith, fits.narrow)

  around : (n : ℕ) (v : List ℕ) → bits_of 24 n ≡ bits_of (p % 8) (word_at s (p / 8) / 2 ^ (w + below)) ++ (v ++ bits_of below (word_at s (p / 8))) →
      bits (take (p / 8) (pad s)) ++ (bits_of 24 n ++ bits (drop (p / 8 + 3) (pad s))) ≡ front ++ (v ++ back)
  around n v e = rw e (simp append_assoc)

  -- the bits of the padded bytes, around the field
  pub parted : bits (pad s) ≡ front ++ (bits_of w (word_at s (p / 8) / 2 ^ below) ++ back)
  parted =
      let i = p / 8 in
      let a = get_or (pad s) i 0 in
      let b = get_or (pad s) (suc i) 0 in
      let c = get_or (pad s) (suc (suc i)) 0 in
      let eb : b ≡ get_or s (i + 1) 0 = pad_get_d s (suc i) ∙ ap (λ (n : ℕ). get_or s n 0) (sym (add-one i)) in
      let ec : c ≡ get_or s (i + 2) 0 = pad_get_d s (suc (suc i)) ∙ ap (λ (n : ℕ). get_or s n 0) (sym (add-two i)) in
      let word : a * 65536 + b * 256 + c ≡ word_at s i = rw (pad_get_d s i, eb, ec) in
      let three : bits (a ∷ b ∷ c ∷ []) ≡ bits_of 24 (word_at s i) =
      three_bytes a b c (rw eb (bytes (i + 1))) (rw ec (bytes (i + 2))) ∙ ap (bits_of 24) word in
      ap bits (three_at (pad s) i near)
      ∙ bits-append (take i (pad s)) ((a ∷ b ∷ c ∷ []) ++ drop (i + 3) (pad s))
      ∙ ap (λ (t : List ℕ). bits (take i (pad s)) ++ t) (bits-append (a ∷ b ∷ c ∷ []) (drop (i + 3) (pad s)))
      ∙ ap (λ (t : List ℕ). bits (take i (pad s)) ++ (t ++ bits (drop (i + 3) (pad s)))) three
      ∙ around (word_at s i) (bits_of w (word_at s i / 2 ^ below)) (window (p % 8) w below (word_at s i) sum)

  -- what is read
  pub read_law : word_at s (p / 8) / 2 ^ below % 2 ^ w ≡ field_at (bits s) p w
  read_law =
      let x = word_at s (p / 8) / 2 ^ below in
      let z : List ℕ = 0 ∷ 0 ∷ 0 ∷ [] in
      let inl : p ≤ length (bits s) = rw length-bits (omega (arith, fits.inside)) in
      let inr : w ≤ length (drop p (bits s)) = rw (length-drop, length-bits) (omega (arith, fits.inside)) in
      let same : take w (drop p (bits (pad s))) ≡ take w (drop p (bits s)) =
      rw (bits-append s z, drop-append-le p (bits s) (bits z) inl, take-append-le w (drop p (bits s)) (bits z) inr) in
      let there : take w (drop p (bits (pad s))) ≡ bits_of w x =
      rw (parted, drop_at front (bits_of w x ++ back) p front_length, take_at (bits_of w x) back w (length-bits_of w x)) in
      let e = number-bits 0 w x in
      let f : number_from 0 (bits_of w x) ≡ x % 2 ^ w = omega arith in
      sym (ap (number_from 0) (sym same ∙ there) ∙ f)

  -- what is written
  pub write_law : (v n : ℕ) → v < 2 ^ w → n ≡ mixed (word_at s (p / 8)) below w v →
      bits (sets s (p / 8) (n / 65536 % 256 ∷ n / 256 % 256 ∷ n % 256 ∷ [])) ≡ sets (bits s) p (bits_of w v)
  write_law v n less e =
      let i = p / 8 in
      let x = word_at s i / 2 ^ below in
      let cs = n / 65536 % 256 ∷ n / 256 % 256 ∷ n % 256 ∷ [] in
      let z : List ℕ = 0 ∷ 0 ∷ 0 ∷ [] in
      let field_length = length-bits_of w x in
      let put_length = length-bits_of w v in
      let pads : take (length s) (pad s) ≡ s = take-append_seam s z in
      let after : bits (sets (pad s) i cs) ≡ front ++ (bits_of w v ++ back) =
      ap bits (sets-eq cs (pad s) i near)
      ∙ ap bits (append_assoc (take i (pad s)) cs (drop (i + 3) (pad s)))
      ∙ bits-append (take i (pad s)) (cs ++ drop (i + 3) (pad s))
      ∙ ap (λ (t : List ℕ). bits (take i (pad s)) ++ t) (bits-append cs (drop (i + 3) (pad s)))
      ∙ ap (λ (t : List ℕ). bits (take i (pad s)) ++ (t ++ bits (drop (i + 3) (pad s)))) (three_of n)
      ∙ around n (bits_of w v) (ap (bits_of 24) e ∙ window_mixed (p % 8) w below (word_at s i) v sum less) in
      let whole : length (front ++ (bits_of w x ++ back)) ≡ p + (w + length back) =
      rw (length-append front (bits_of w x ++ back), front_length, length-append (bits_of w x) back, field_length) in
      let put : sets (front ++ (bits_of w x ++ back)) p (bits_of w v) ≡ front ++ (bits_of w v ++ back) =
      sets-eq (bits_of w v) (front ++ (bits_of w x ++ back)) p (rw (whole, put_length) (omega arith))
      ∙ rw (
        put_length,
        take_at front (bits_of w x ++ back) p front_length,
        ← drop-drop w p (front ++ (bits_of w x ++ back)),
        drop_at front (bits_of w x ++ back) p front_length,
        drop_at (bits_of w x) back w field_length,
        append_assoc,
      ) in
      let all : bits (sets (pad s) i cs) ≡ sets (bits (pad s)) p (bits_of w v) = after ∙ sym put ∙
      ap (λ (t : List ℕ). sets t p (bits_of w v)) (sym parted) in
      ap (λ (t : List ℕ). bits (sets t i cs)) (sym pads)
      ∙ ap bits (sym (take_sets (length s) (pad s) i cs))
      ∙ bits-take (length s) (sets (pad s) i cs)
      ∙ ap (take (8 * length s)) all
      ∙ take_sets (8 * length s) (bits (pad s)) p (bits_of w v)
      ∙ ap (λ (t : List ℕ). sets t p (bits_of w v)) (sym (bits-take (length s) (pad s)) ∙ ap bits pads)
