-- Printed and read back: a number in decimal is read as that number, and what is read was printed so.
use Prim.Native.Nat.{ℕ, zero, suc, ◌+◌, ◌-◌, ◌*◌, ◌/◌, ◌%◌, ◌^◌, ◌≤◌, ◌<◌}
use mathlib.Core.Path.{◌≡◌, refl, sym, ◌∙◌, ap}
use mathlib.Core.Bool.{Bool, true, false, cond, ◌||◌}
use mathlib.Core.List.{List, [], ◌∷◌, ◌++◌, append_assoc, append-nil}
use native.Mathlib.Omega.{arith}
use native.Mathlib.Nat.{pow-suc}
use lib.ListN.{length, get_or, take, drop, length-append, length-drop}
use lib.Dec.{ltb}
use borrow.Author.Tests.{lt-ltb, le-leb, ltb-true, ltb-false}
use Rattle.scope.specs.Lines.{decimal, is_digit}
use Rattle.text.specs.Reading.{goes_on, size_from, value_from, size_at, value_at, Reads}
use Rattle.text.specs.declared.Number.{Number}
use Rattle.text.proofs.Decimal.{decimal-small, decimal_large}
use Rattle.text.proofs.Going.{goes_digit, goes-more}

-- Whatever goes along with a number digit by digit goes along with a number in decimal.
module _ {A : Type 0} (most : ℕ) (f : Bool → ℕ → List ℕ → A)
    (step : (begun : Bool) (a b : ℕ) (s : List ℕ) → goes_on most begun a b ≡ true → f begun a (b ∷ s) ≡ f true (a * 10 + (b - 48)) s) where
  first : (n : ℕ) (s : List ℕ) → n < 10 → n ≤ most → f false 0 ((48 + n) ∷ s) ≡ f true n s
  first n s h l =
      let e : 0 * 10 + (48 + n - 48) ≡ n = omega arith in
      step false 0 (48 + n) s (rw (le-leb 48 (48 + n) (omega arith), le-leb (48 + n) 57 (omega arith), e, le-leb n most l))
      ∙ ap (λ (x : ℕ). f true x s) e

  more : (a d : ℕ) (s : List ℕ) → 0 < a → d < 10 → a * 10 + d ≤ most → f true a ((48 + d) ∷ s) ≡ f true (a * 10 + d) s
  more a d s p h l =
      let e : 48 + d - 48 ≡ d = omega arith in
      step true a (48 + d) s
      (rw (le-leb 48 (48 + d) (omega arith), le-leb (48 + d) 57 (omega arith), e, lt-ltb 0 a p, le-leb (a * 10 + d) most l))
      ∙ ap (λ (x : ℕ). f true (a * 10 + x) s) e

  along : (k n : ℕ) (s : List ℕ) → n < 10 ^ suc k → n < 2 ^ 64 → n ≤ most → f false 0 (decimal n ++ s) ≡ f true n s
  along zero n s h u l = ap (λ (t : List ℕ). f false 0 (t ++ s)) (decimal-small n h) ∙ first n s h l
  along (suc k) n s h u l = by (ltb n 10) refl (along k (n / 10) ((48 + n % 10) ∷ s))
    where
      by : (t : Bool) → ltb n 10 ≡ t →
          (n / 10 < 10 ^ suc k → n / 10 < 2 ^ 64 → n / 10 ≤ most → f false 0 (decimal (n / 10) ++ ((48 + n % 10) ∷ s)) ≡ f true
          (n / 10) ((48 + n % 10) ∷ s)) →
          f false 0 (decimal n ++ s) ≡ f true n s
      by true e rest =
          let small = ltb-true n 10 e in
          ap (λ (t : List ℕ). f false 0 (t ++ s)) (decimal-small n small) ∙ first n s small l
      by false e rest =
          let large = ltb-false n 10 e in
          let p : 10 ^ suc (suc k) ≡ 10 ^ suc k * 10 = pow-suc 10 (suc k) in
          let whole : n / 10 * 10 + n % 10 ≡ n = omega arith in
          ap (λ (t : List ℕ). f false 0 (t ++ s)) (decimal_large n large u)
          ∙ ap (f false 0) (append_assoc (decimal (n / 10)) ((48 + n % 10) ∷ []) s)
          ∙ rest (omega arith) (omega arith) (omega arith)
          ∙ more (n / 10) (n % 10) s (omega arith) (omega arith) (omega arith)
          ∙ ap (λ (x : ℕ). f true x s) whole

  -- and with the digits of any text, up to the byte that does not go on with the number
  pub run_along : (begun : Bool) (a : ℕ) (s : List ℕ) →
      f begun a s ≡ f (begun || ltb 0 (size_from most begun a s)) (value_from most begun a s) (drop (size_from most begun a s) s)
  unfolding size_from value_from
  run_along true a [] = refl
  run_along false a [] = refl
  run_along begun a (b ∷ s) = by begun (goes_on most begun a b) refl (run_along true (a * 10 + (b - 48)) s)
    where
      by : (begun t : Bool) → goes_on most begun a b ≡ t →
          f true (a * 10 + (b - 48)) s ≡ f true (value_from most true (a * 10 + (b - 48)) s)
          (drop (size_from most true (a * 10 + (b - 48)) s) s) →
          f begun a (b ∷ s) ≡ f (begun || ltb 0 (size_from most begun a (b ∷ s))) (value_from most begun a (b ∷ s))
          (drop (size_from most begun a (b ∷ s)) (b ∷ s))
      by true true g rest = step true a b s g ∙ rw g rest
      by true false g rest = rw g
      by false true g rest =
          step false a b s g ∙ rw (g, lt-ltb 0 (suc (size_from most true (a * 10 + (b - 48)) s)) (omega arith)) rest
      by false false g rest = rw g

  -- for every number that is told
  pub number_along : (n : ℕ) (s : List ℕ) → n < 2 ^ 64 → n ≤ most → f false 0 (decimal n ++ s) ≡ f true n s
  number_along n s u l = along 19 n s (omega arith) u l

-- the two steps of a digit
value-step : (most : ℕ) (begun : Bool) (a b : ℕ) (s : List ℕ) → goes_on most begun a b ≡ true →
    value_from most begun a (b ∷ s) ≡ value_from most true (a * 10 + (b - 48)) s
unfolding value_from
value-step most begun a b s g = rw g

size_step : (most : ℕ) (begun : Bool) (a b : ℕ) (s : List ℕ) → goes_on most begun a b ≡ true →
    size_from most begun a (b ∷ s) ≡ suc (size_from most true (a * 10 + (b - 48)) s)
unfolding size_from
size_step most begun a b s g = rw g

-- where the text goes on with something else
value_stop : (most : ℕ) (begun : Bool) (a b : ℕ) (s : List ℕ) → goes_on most begun a b ≡ false → value_from most begun a (b ∷ s) ≡ a
unfolding value_from
value_stop most begun a b s g = rw g

size_stop : (most : ℕ) (begun : Bool) (a b : ℕ) (s : List ℕ) → goes_on most begun a b ≡ false → size_from most begun a (b ∷ s) ≡ 0
unfolding size_from
size_stop most begun a b s g = rw g

-- a byte that is no digit goes on with no number
other_stops : (most : ℕ) (begun : Bool) (a b : ℕ) → is_digit b ≡ false → goes_on most begun a b ≡ false
other_stops most begun a b e = rw e

-- a number that is printed before another byte is read as that number, and whole
module _ (most n mark : ℕ) (s : List ℕ) (u : n < 2 ^ 64) (l : n ≤ most) (m : is_digit mark ≡ false) where
  pub value-back : value_from most false 0 (decimal n ++ (mark ∷ s)) ≡ n
  value-back = number_along most (value_from most) (value-step most) n (mark ∷ s) u l ∙
      value_stop most true n mark s (other_stops most true n mark m)

  abbrev left : Bool → ℕ → List ℕ → ℕ
  left begun a t = length t - size_from most begun a t

  left_step : (begun : Bool) (a b : ℕ) (t : List ℕ) → goes_on most begun a b ≡ true → left begun a (b ∷ t) ≡ left true (a * 10 + (b - 48)) t
  left_step begun a b t g = let e = size_step most begun a b t g in omega arith

  pub size_back : size_from most false 0 (decimal n ++ (mark ∷ s)) ≡ length (decimal n)
  size_back =
      let e : left false 0 (decimal n ++ (mark ∷ s)) ≡ left true n (mark ∷ s) = number_along most left left_step n (mark ∷ s) u l in
      let z = size_stop most true n mark s (other_stops most true n mark m) in
      let a = length-append (decimal n) (mark ∷ s) in
      omega arith

-- what is read was printed so
module _ (most : ℕ) (u : most < 2 ^ 64) where
  more-printed : (a : ℕ) (s : List ℕ) → a ≤ most → decimal a ++ take (size_from most true a s) s ≡ decimal (value_from most true a s)
  unfolding size_from value_from
  more-printed a [] l = append-nil (decimal a)
  more-printed a (b ∷ s) l = by (goes_on most true a b) refl (more-printed (a * 10 + (b - 48)) s)
    where
      by : (t : Bool) → goes_on most true a b ≡ t →
          (a * 10 + (b - 48) ≤ most →
          decimal (a * 10 + (b - 48)) ++ take (size_from most true (a * 10 + (b - 48)) s) s ≡ decimal
          (value_from most true (a * 10 + (b - 48)) s)) →
          decimal a ++ take (size_from most true a (b ∷ s)) (b ∷ s) ≡ decimal (value_from most true a (b ∷ s))
      by true g rest =
          let d = goes_digit most true a b g in
          let p = goes-more most a b g in
          let low = d.low in
          let high = d.high in
          let n = a * 10 + (b - 48) in
          let front : n / 10 ≡ a = omega arith in
          let back : 48 + n % 10 ≡ b = omega arith in
          let digits : decimal n ≡ decimal a ++ (b ∷ []) =
          decimal_large n (omega arith) (omega (arith, d.fits)) ∙ rw (front, back)
          in
          rw (g, ← append_assoc (decimal a) (b ∷ []) (take (size_from most true n s) s), ← digits) (rest d.fits)
      by false g rest = rw g (append-nil (decimal a))

  pub number-printed : (s : List ℕ) → 0 < size_from most false 0 s → take (size_from most false 0 s) s ≡ decimal (value_from most false 0 s)
  unfolding size_from value_from
  number-printed [] h = absurd (omega arith)
  number-printed (b ∷ s) h = by (goes_on most false 0 b) refl h
    where
      by : (t : Bool) → goes_on most false 0 b ≡ t → 0 < cond t (suc (size_from most true (0 * 10 + (b - 48)) s)) 0 →
          take (size_from most false 0 (b ∷ s)) (b ∷ s) ≡ decimal (value_from most false 0 (b ∷ s))
      by true g k =
          let d = goes_digit most false 0 b g in
          let low = d.low in
          let high = d.high in
          let is : 0 * 10 + (b - 48) ≡ b - 48 = omega arith in
          let back : 48 + (b - 48) ≡ b = omega arith in
          let digits : decimal (b - 48) ≡ b ∷ [] = decimal-small (b - 48) (omega arith) ∙ rw back in
          rw (g, is) (ap (λ (t : List ℕ). t ++ take (size_from most true (b - 48) s) s) (sym digits) ∙
          more-printed (b - 48) s (omega (arith, d.fits)))
      by false g k = absurd (omega arith)

-- the byte behind a number does not go on with it
pub number_stops : (most : ℕ) (begun : Bool) (a : ℕ) (s : List ℕ) → size_from most begun a s < length s →
    goes_on most (begun || ltb 0 (size_from most begun a s)) (value_from most begun a s) (get_or s (size_from most begun a s) 0) ≡ false
unfolding size_from value_from
number_stops most begun a [] h = absurd (omega arith)
number_stops most begun a (b ∷ s) h = by begun (goes_on most begun a b) refl (number_stops most true (a * 10 + (b - 48)) s) h
  where
    by : (begun t : Bool) → goes_on most begun a b ≡ t →
        (size_from most true (a * 10 + (b - 48)) s < length s →
        goes_on most true (value_from most true (a * 10 + (b - 48)) s) (get_or s (size_from most true (a * 10 + (b - 48)) s) 0) ≡ false) →
        size_from most begun a (b ∷ s) < suc (length s) →
        goes_on most (begun || ltb 0 (size_from most begun a (b ∷ s))) (value_from most begun a (b ∷ s))
        (get_or (b ∷ s) (size_from most begun a (b ∷ s)) 0) ≡ false
    by true true g rest h = rw g (rest (let e = size_step most true a b s g in omega arith))
    by true false g rest h = rw (g, g)
    by false true g rest h =
        rw (g, lt-ltb 0 (suc (size_from most true (a * 10 + (b - 48)) s)) (omega arith))
        (rest (let e = size_step most false a b s g in omega arith))
    by false false g rest h = rw (g, g)

-- a number that is read lies within its text and is small
size-within : (most : ℕ) (begun : Bool) (a : ℕ) (s : List ℕ) → size_from most begun a s ≤ length s
unfolding size_from
size-within most begun a [] = omega arith
size-within most begun a (b ∷ s) = by (goes_on most begun a b) (size-within most true (a * 10 + (b - 48)) s)
  where
    by : (t : Bool) → size_from most true (a * 10 + (b - 48)) s ≤ length s →
        cond t (suc (size_from most true (a * 10 + (b - 48)) s)) 0 ≤ suc (length s)
    by true h = omega arith
    by false h = omega arith

value-small : (most : ℕ) (begun : Bool) (a : ℕ) (s : List ℕ) → a ≤ most → value_from most begun a s ≤ most
unfolding value_from
value-small most begun a [] h = h
value-small most begun a (b ∷ s) h = by (goes_on most begun a b) refl (value-small most true (a * 10 + (b - 48)) s)
  where
    by : (t : Bool) → goes_on most begun a b ≡ t → (a * 10 + (b - 48) ≤ most → value_from most true (a * 10 + (b - 48)) s ≤ most) →
        cond t (value_from most true (a * 10 + (b - 48)) s) a ≤ most
    by true g rest = rest (goes_digit most begun a b g).fits
    by false g rest = h

-- the number at an index
abbrev pub number_read : ℕ → List ℕ → ℕ → Number
number_read most text i = record { value = value_at most text i; next = i + size_at most text i }

pub read_here : (most : ℕ) (text : List ℕ) (i : ℕ) → Reads most text i (number_read most text i)
read_here most text i =
    let w = size-within most false 0 (drop i text) in
    let d = length-drop i text in
    record { value = refl; next = refl; small = value-small most false 0 (drop i text) (omega arith); within = omega arith }
