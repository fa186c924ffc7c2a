-- Laws of a number that is read: one step of a digit, and the end.
use Prim.Native.Nat.{ℕ, suc, ◌+◌, ◌-◌, ◌*◌, ◌≤◌, ◌<◌}
use mathlib.Core.Path.{◌≡◌, refl}
use mathlib.Core.Bool.{Bool, true, false, not, ◌&&◌, ◌||◌}
use mathlib.Core.List.{List, [], ◌∷◌}
use native.Mathlib.Omega.{arith}
use native.Mathlib.Numerals.{add-one}
use lib.ListN.{length, drop, drop_of_length-le}
use lib.Seq.{drop-cons}
use lib.Dec.{ltb, leb}
use borrow.Author.Tests.{lt-ltb, le-ltb, leb-true, ltb-true}
use Rattle.scope.specs.Lines.{byte_at}
use Rattle.text.specs.Reading.{goes_on, size_from, value_from, size_at, value_at, Reads}

-- tests that hold together hold each
and_split : (a b : Bool) → (a && b) ≡ true → (a ≡ true) × (b ≡ true)
and_split true b e = (refl, e)
and_split false b e = let z : ◌≡◌ {A = ℕ} 0 1 = cc in absurd (omega arith)

-- a digit that goes on with a number: which bytes it can be, what the number then is at most, and that there is no needless zero
pub record Digit (most a b : ℕ) : Type 0 where
  pub low : 48 ≤ b
  pub high : b ≤ 57
  pub fits : a * 10 + (b - 48) ≤ most

pub goes_digit : (most : ℕ) (begun : Bool) (a b : ℕ) → goes_on most begun a b ≡ true → Digit most a b
goes_digit most begun a b g =
    let one = and_split (leb 48 b && leb b 57) ((not begun || ltb 0 a) && leb (a * 10 + (b - 48)) most) g in
    let digit = and_split (leb 48 b) (leb b 57) one.0 in
    let rest = and_split (not begun || ltb 0 a) (leb (a * 10 + (b - 48)) most) one.1 in
    record { low = leb-true 48 b digit.0; high = leb-true b 57 digit.1; fits = leb-true (a * 10 + (b - 48)) most rest.1 }

pub goes-more : (most a b : ℕ) → goes_on most true a b ≡ true → 0 < a
goes-more most a b g =
    let one = and_split (leb 48 b && leb b 57) (ltb 0 a && leb (a * 10 + (b - 48)) most) g in
    ltb-true 0 a (and_split (ltb 0 a) (leb (a * 10 + (b - 48)) most) one.1).0

-- A loop that has read a part of the number at index `at`: it says `value` so far, and `next` is the index behind it.
pub record Going (most : ℕ) (text : List ℕ) (at value next : ℕ) : Type 0 where
  pub from : at ≤ next
  pub within : next ≤ at + (length text - at)
  pub small : value ≤ most
  pub is : value_from most (ltb at next) value (drop next text) ≡ value_at most text at
  pub size : next + size_from most (ltb at next) value (drop next text) ≡ at + size_at most text at

-- the loop has stopped: it has read the whole number, if there is one
pub record Stopped (most : ℕ) (text : List ℕ) (at value next : ℕ) : Type 0 where
  pub is : value ≡ value_at most text at
  pub size : next ≡ at + size_at most text at

module _ (most : ℕ) (text : List ℕ) (at : ℕ) where
  pub going-first : Going most text at 0 at
  going-first =
      let none : ltb at at ≡ false = le-ltb at at (omega arith) in
      record { from = omega arith; within = omega arith; small = omega arith; is = rw none; size = rw none }

  module _ (value next : ℕ) (g : Going most text at value next) where
    pub going_more : next < length text → (b : ℕ) → b ≡ byte_at text next → goes_on most (ltb at next) value b ≡ true →
        Going most text at (value * 10 + (b - 48)) (next + 1)
    unfolding size_from value_from
    going_more h b p goes =
        let from = g.from in
        let begun : ltb at (next + 1) ≡ true = lt-ltb at (next + 1) (omega arith) in
        let cons : drop next text ≡ b ∷ drop (next + 1) text = rw (add-one, p, drop-cons text next 0) in
        let within = g.within in
        let is : value_from most (ltb at next) value (b ∷ drop (next + 1) text) ≡ value_at most text at = rw cons at g.is in
        let size : next + size_from most (ltb at next) value (b ∷ drop (next + 1) text) ≡ at + size_at most text at = rw cons at g.size in
        let is' : value_from most true (value * 10 + (b - 48)) (drop (next + 1) text) ≡ value_at most text at = rw goes at is in
        let size' : next + suc (size_from most true (value * 10 + (b - 48)) (drop (next + 1) text)) ≡ at + size_at most
        text at = rw goes at size in
        record {
          from = omega arith;
          within = omega arith;
          small = (goes_digit most (ltb at next) value b goes).fits;
          is = rw begun is';
          size = rw begun (omega arith);
        }

    pub going_stops : next < length text → (b : ℕ) → b ≡ byte_at text next → goes_on most (ltb at next) value b ≡ false →
        Stopped most text at value next
    unfolding size_from value_from
    going_stops h b p goes =
        let cons : drop next text ≡ b ∷ drop (next + 1) text = rw (add-one, p, drop-cons text next 0) in
        let is : value_from most (ltb at next) value (b ∷ drop (next + 1) text) ≡ value_at most text at = rw cons at g.is in
        let size : next + size_from most (ltb at next) value (b ∷ drop (next + 1) text) ≡ at + size_at most text at = rw cons at g.size in
        let is' : value ≡ value_at most text at = rw goes at is in
        let size' : next + 0 ≡ at + size_at most text at = rw goes at size in
        record { is = is'; size = omega arith }

    pub going-ends : length text ≤ next → Stopped most text at value next
    unfolding size_from value_from
    going-ends h =
        let none : drop next text ≡ [] = drop_of_length-le text h in
        let is : value ≡ value_at most text at = rw none at g.is in
        let size : next + 0 ≡ at + size_at most text at = rw none at g.size in
        record { is = is; size = omega arith }

    -- so where it has read no byte there is no number, and else it has read one
    module _ (s : Stopped most text at value next) where
      pub number_none : next ≡ at → size_at most text at ≡ 0
      number_none e = let n = s.size in omega arith

      pub number_some : (next ≡ at → ⊥) → (0 < size_at most text at) × Reads most text at (record { value = value; next = next })
      number_some e =
          let n = s.size in
          (omega arith, record { value = s.is; next = n; small = g.small; within = g.within })
