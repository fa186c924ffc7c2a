-- A number of at most 63 as it is read by `text`, and what document 01 has there: the same bytes and the same value, or none; a digit
-- behind a single one shows that there is none.
use Prim.Native.Nat.{ℕ, ◌+◌, ◌-◌, ◌*◌, ◌/◌, ◌%◌, ◌≤◌, ◌<◌}
use mathlib.Core.Path.{◌≡◌, refl, sym, ◌∙◌, ap}
use mathlib.Core.Bool.{Bool, true, false, ◌&&◌}
use mathlib.Core.List.{List, [], ◌∷◌}
use native.Mathlib.Omega.{arith}
use lib.ListN.{length, get_or, take, drop, length-drop, get_or-eq_default}
use lib.Seq.{drop-cons, get_or-drop, length-take-le}
use lib.Dec.{ltb, leb}
use borrow.Author.Tests.{lt-ltb, le-leb, ltb-true, ltb-false, leb-false}
use Rattle.scope.specs.Lines.{byte_at, decimal, is_digit, number_at, number_size}
use Rattle.text.specs.Reading.{goes_on, size_from, size_at, Reads}
use Rattle.text.specs.declared.Number.{Number}
use Rattle.text.proofs.Decimal.{decimal-small}
use Rattle.text.proofs.Read.{number-printed, number_stops}
use Rattle.cut_lines.specs.Reads.{Found}
use Rattle.cut_lines.proofs.Forms.{digit_low, digit_high, size_none, size_one, size_zero, size_large, size_two, value_one, value_two}
use Rattle.cut_lines.proofs.Round.{Bytes, stand-bytes, bytes-first, decimal_two, digit_is}

-- what is read at an index and what document 01 has there
pub data Meets (text : List ℕ) (i : ℕ) (r : Number) : Type 0 where
  none : number_size text i ≡ 0 → r.next ≡ i → Meets text i r
  cut_off : number_size text i ≡ 0 → r.next ≡ i + 1 → is_digit (byte_at text (i + 1)) ≡ true → Meets text i r
  one : number_size text i ≡ 1 → r.next ≡ i + 1 → r.value ≡ number_at text i → is_digit (byte_at text (i + 1)) ≡ false → Meets text i r
  two : number_size text i ≡ 2 → r.next ≡ i + 2 → r.value ≡ number_at text i → Meets text i r

module _ (text : List ℕ) (i : ℕ) where
  -- a digit is always read
  digit_read : i < length text → is_digit (byte_at text i) ≡ true → 0 < size_at 63 text i
  unfolding size_from
  digit_read h d =
      let low = digit_low (byte_at text i) d in
      let high = digit_high (byte_at text i) d in
      let small : 0 * 10 + (byte_at text i - 48) ≤ 63 = omega arith in
      let goes : goes_on 63 false 0 (byte_at text i) ≡ true = rw (d, le-leb (0 * 10 + (byte_at text i - 48)) 63 small) in
      rw (drop-cons text i 0, goes) (omega arith)

  no_digit : size_at 63 text i ≡ 0 → is_digit (byte_at text i) ≡ false
  no_digit z = by (ltb i (length text)) (is_digit (byte_at text i)) refl refl
    where
      by : (t u : Bool) → ltb i (length text) ≡ t → is_digit (byte_at text i) ≡ u → is_digit (byte_at text i) ≡ false
      by true true e d = absurd (let s = digit_read (ltb-true i (length text) e) d in omega arith)
      by true false e d = d
      by false u e d = ap is_digit (get_or-eq_default text 0 (ltb-false i (length text) e))

  module _ (r : Number) (p : Reads 63 text i r) where
    abbrev size : ℕ
    size = size_at 63 text i

    meets_none : size ≡ 0 → Meets text i r
    meets_none z = none (size_none (byte_at text i) (byte_at text (i + 1)) (no_digit z)) (let n = p.next in omega arith)

    module _ (some : 0 < size) where
      printed : take size (drop i text) ≡ decimal r.value
      printed = number-printed 63 (omega arith) (drop i text) some ∙ ap decimal (sym p.value)

      long : length (decimal r.value) ≡ size
      long =
          let w = p.within in
          let n = p.next in
          let d = length-drop i text in
          sym (ap length printed) ∙ length-take-le size (drop i text) (omega arith)

      stand : Bytes text i (decimal r.value)
      stand = stand-bytes text i (decimal r.value) (ap (λ (k : ℕ). take k (drop i text)) long ∙ printed)

      -- the byte behind does not go on with it
      behind : (t : Bool) → ltb 0 size ≡ t → r.next < length text → goes_on 63 t r.value (byte_at text r.next) ≡ false
      behind t begun h =
          let n = p.next in
          let d = length-drop i text in
          let byte : get_or (drop i text) size 0 ≡ byte_at text r.next = get_or-drop i text size 0 ∙ ap (byte_at text) (sym n) in
          rw (p.value, ← byte, ← begun) (number_stops 63 false 0 (drop i text) (omega arith))

      meets_one : r.value < 10 → Meets text i r
      meets_one h =
          let digits = decimal-small r.value h in
          let n = p.next in
          let l = long in
          let e = ap length digits in
          let next : r.next ≡ i + 1 = omega arith in
          let first : byte_at text i ≡ 48 + r.value = bytes-first text i (48 + r.value) [] (rw digits at stand) in
          let d : is_digit (byte_at text i) ≡ true = ap is_digit first ∙ digit_is r.value h in
          by (is_digit (byte_at text (i + 1))) refl first d next
        where
          by : (t : Bool) → is_digit (byte_at text (i + 1)) ≡ t → byte_at text i ≡ 48 + r.value → is_digit (byte_at text i) ≡ true →
              r.next ≡ i + 1 → Meets text i r
          by false u first d next =
              let s : number_size text i ≡ 1 = size_one (byte_at text i) (byte_at text (i + 1)) d u in
              let v : number_at text i ≡ byte_at text i - 48 = value_one (byte_at text i) (byte_at text (i + 1)) u in
              one s next (omega arith) u
          by true u first d next =
              let low = digit_low (byte_at text (i + 1)) u in
              let inside : r.next < length text = inside_of (ltb r.next (length text)) refl low next in
              let other : goes_on 63 true r.value (byte_at text (i + 1)) ≡ false = rw next at (behind true (lt-ltb 0 size some) inside) in
              cut_off (small (ltb 0 r.value) (leb (r.value * 10 + (byte_at text (i + 1) - 48)) 63) refl refl first d u
              (rw u at other)) next u
            where
              inside_of : (t : Bool) → ltb r.next (length text) ≡ t → 48 ≤ byte_at text (i + 1) → r.next ≡ i + 1 → r.next < length text
              inside_of true e low next = ltb-true r.next (length text) e
              inside_of false e low next =
                  let z : byte_at text r.next ≡ 0 = get_or-eq_default text 0 (ltb-false r.next (length text) e) in
                  let z' : byte_at text (i + 1) ≡ 0 = rw next at z in
                  absurd (omega arith)

              small : (t w : Bool) → ltb 0 r.value ≡ t → leb (r.value * 10 + (byte_at text (i + 1) - 48)) 63 ≡ w →
                  byte_at text i ≡ 48 + r.value → is_digit (byte_at text i) ≡ true → is_digit (byte_at text (i + 1)) ≡ true →
                  (ltb 0 r.value && leb (r.value * 10 + (byte_at text (i + 1) - 48)) 63) ≡ false → number_size text i ≡ 0
              small false w e f first d u stop =
                  let z = ltb-false 0 r.value e in
                  size_zero (byte_at text i) (byte_at text (i + 1)) u (omega arith)
              small true false e f first d u stop =
                  let big = leb-false (r.value * 10 + (byte_at text (i + 1) - 48)) 63 f in
                  size_large (byte_at text i) (byte_at text (i + 1)) d u (omega arith)
              small true true e f first d u stop =
                  let no' : ◌≡◌ {A = Bool} true false = rw (e, f) at stop in
                  let z : ◌≡◌ {A = ℕ} 0 1 = cc in
                  absurd (omega arith)

      meets_two : 10 ≤ r.value → Meets text i r
      meets_two h =
          let digits = decimal_two r.value h p.small in
          let n = p.next in
          let l = long in
          let e = ap length digits in
          let both : Bytes text i ((48 + r.value / 10) ∷ (48 + r.value % 10) ∷ []) = rw digits at stand in
          let first : byte_at text i ≡ 48 + r.value / 10 = bytes-first text i (48 + r.value / 10) ((48 + r.value % 10) ∷ []) both in
          let second : byte_at text (i + 1) ≡ 48 + r.value % 10 = both 1 (omega arith) in
          let small = p.small in
          let d : is_digit (byte_at text i) ≡ true = ap is_digit first ∙ digit_is (r.value / 10) (omega arith) in
          let u : is_digit (byte_at text (i + 1)) ≡ true = ap is_digit second ∙ digit_is (r.value % 10) (omega arith) in
          let s : number_size text i ≡ 2 = size_two (byte_at text i) (byte_at text (i + 1)) d u (omega arith) (omega arith) in
          let v : number_at text i ≡ (byte_at text i - 48) * 10 + (byte_at text (i + 1) - 48) =
          value_two (byte_at text i) (byte_at text (i + 1)) u in
          two s (omega arith) (omega arith)

    pub meets : Meets text i r
    meets = by (ltb 0 size) (ltb r.value 10) refl refl
      where
        by : (t u : Bool) → ltb 0 size ≡ t → ltb r.value 10 ≡ u → Meets text i r
        by false u e f = let z = ltb-false 0 size e in meets_none (omega arith)
        by true true e f = meets_one (ltb-true 0 size e) (ltb-true r.value 10 f)
        by true false e f = meets_two (ltb-true 0 size e) (ltb-false r.value 10 f)

-- so `number` tells it
pub number_none : (text : List ℕ) (i : ℕ) → size_at 63 text i ≡ 0 → number_size text i ≡ 0
number_none text i z = size_none (byte_at text i) (byte_at text (i + 1)) (no_digit text i z)

module _ (text : List ℕ) (i : ℕ) (r : Number) (p : Reads 63 text i r) where
  pub found-cut : r.next ≡ i + 1 → is_digit (byte_at text (i + 1)) ≡ true → number_size text i ≡ 0
  found-cut e d = by (meets text i r p)
    where
      by : Meets text i r → number_size text i ≡ 0
      by (none s n) = s
      by (cut_off s n u) = s
      by (one s n v u) = absurd (let z : true ≡ false = sym d ∙ u in let y : ◌≡◌ {A = ℕ} 0 1 = cc in omega arith)
      by (two s n v) = absurd (omega arith)

  -- where there is a number that is not cut off
  module _ (some : 0 < size_at 63 text i) where
    begins : r.next ≡ i → ⊥
    begins e = let n = p.next in omega arith

    pub found_one : r.next ≡ i + 1 → is_digit (byte_at text (i + 1)) ≡ false → Found text i r
    found_one e d = by (meets text i r p)
      where
        by : Meets text i r → Found text i r
        by (none s n) = absurd (begins n)
        by (cut_off s n u) = absurd (let z : true ≡ false = sym u ∙ d in let y : ◌≡◌ {A = ℕ} 0 1 = cc in omega arith)
        by (one s n v u) = record { some = omega arith; next = omega arith; value = v; near = omega arith; small = p.small }
        by (two s n v) = absurd (omega arith)

    pub found-other : (r.next ≡ i + 1 → ⊥) → Found text i r
    found-other e = by (meets text i r p)
      where
        by : Meets text i r → Found text i r
        by (none s n) = absurd (begins n)
        by (cut_off s n u) = absurd (e n)
        by (one s n v u) = absurd (e n)
        by (two s n v) = record { some = omega arith; next = omega arith; value = v; near = omega arith; small = p.small }
