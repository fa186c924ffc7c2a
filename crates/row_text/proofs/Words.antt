-- Laws of the numbers of a text: what is left of them at an index, for each thing that a byte can do, and at the end.
use Prim.Native.Nat.{ℕ, ◌+◌, ◌-◌, ◌*◌, ◌≤◌, ◌<◌}
use mathlib.Core.Path.{◌≡◌, refl, sym, ◌∙◌, ap}
use mathlib.Core.Bool.{Bool, true, false}
use mathlib.Core.List.{List, [], ◌∷◌, ◌++◌}
use native.Mathlib.Omega.{arith}
use lib.ListN.{length, get_or, drop, length-drop, drop_of_length-le}
use lib.Seq.{drop-drop, get_or-drop}
use lib.Dec.{ltb}
use borrow.Author.Tests.{lt-ltb, le-ltb}
use Rattle.scope.specs.Lines.{byte_at}
use Rattle.text.specs.Reading.{goes_on, size_at, value_at, Reads}
use Rattle.text.specs.declared.Number.{Number}
use Rattle.text.proofs.Read.{run_along, number_stops, number_read, read_here}
use Rattle.row_text.specs.Rows.{ends, no_number, numbers_from}
use Rattle.row_text.proofs.Lines.{drop_more}

-- a digit that goes on with a number
pub from_digit : (begun : Bool) (a b : ℕ) (text : List ℕ) → goes_on 65535 begun a b ≡ true →
    numbers_from begun a (b ∷ text) ≡ numbers_from true (a * 10 + (b - 48)) text
unfolding numbers_from
from_digit begun a b text g = rw g

module _ (text : List ℕ) (begun : Bool) (a i : ℕ) where
  module _ (h : i < length text) (b : ℕ) (is : b ≡ get_or text i 0) where
    pub from-ends : goes_on 65535 begun a b ≡ false → ends begun b ≡ true → numbers_from begun a (drop i text) ≡ (a ∷ []) ++ numbers_from
        false 0 (drop (i + 1) text)
    unfolding numbers_from
    from-ends g e = rw (drop_more text i h, ← is, g, e)

    pub from-bad : goes_on 65535 begun a b ≡ false → ends begun b ≡ false → numbers_from begun a (drop i text) ≡ (no_number ∷ []) ++ []
    unfolding numbers_from
    from-bad g e = rw (drop_more text i h, ← is, g, e)

  module _ (h : length text ≤ i) where
    pub from_last : begun ≡ true → numbers_from begun a (drop i text) ≡ (a ∷ []) ++ []
    unfolding numbers_from
    from_last e = rw (drop_of_length-le text h, e)

    pub from-none : begun ≡ false → numbers_from begun a (drop i text) ≡ []
    unfolding numbers_from
    from-none e = rw (drop_of_length-le text h, e)

-- the numbers of a text from index i on, where a number was read
module _ (text : List ℕ) (i : ℕ) (r : Number) (p : Reads 65535 text i r) where
  abbrev size : ℕ
  size = size_at 65535 text i

  along : (begun : Bool) → ltb 0 size ≡ begun → numbers_from false 0 (drop i text) ≡ numbers_from begun r.value (drop r.next text)
  along begun e =
      run_along 65535 numbers_from from_digit false 0 (drop i text)
      ∙ ap (λ (t : Bool). numbers_from t (value_at 65535 text i) (drop size (drop i text))) e
      ∙ ap (λ (v : ℕ). numbers_from begun v (drop size (drop i text))) (sym p.value)
      ∙ ap (numbers_from begun r.value) (drop-drop size i text ∙ ap (λ (k : ℕ). drop k text) (sym p.next))

  stops : (begun : Bool) → ltb 0 size ≡ begun → r.next < length text → goes_on 65535 begun r.value (byte_at text r.next) ≡ false
  stops begun e h =
      let n = p.next in
      let l = length-drop i text in
      let byte : get_or (drop i text) size 0 ≡ byte_at text r.next = get_or-drop i text size 0 ∙ ap (byte_at text) (sym n) in
      rw (p.value, ← byte, ← e) (number_stops 65535 false 0 (drop i text) (omega arith))

  word_none : i < length text → r.next ≡ i → numbers_from false 0 (drop i text) ≡ (no_number ∷ []) ++ []
  word_none h e =
      let n = p.next in
      let none : ltb 0 size ≡ false = le-ltb 0 size (omega arith) in
      along false none ∙ from-bad text false r.value r.next (omega arith) (byte_at text r.next) refl
      (stops false none (omega arith)) refl

  module _ (some : 0 < size_at 65535 text i) where
    begun : ltb 0 size ≡ true
    begun = lt-ltb 0 size some

    pub word_last : length text ≤ r.next → numbers_from false 0 (drop i text) ≡ (r.value ∷ []) ++ []
    word_last h = along true begun ∙ from_last text true r.value r.next h refl

    module _ (h : r.next < length text) (b : ℕ) (is : b ≡ byte_at text r.next) where
      pub word_ends : ends true b ≡ true → numbers_from false 0 (drop i text) ≡ (r.value ∷ []) ++ numbers_from false 0 (drop (r.next + 1) text)
      word_ends e = along true begun ∙ from-ends text true r.value r.next h b is (rw is (stops true begun h)) e

      pub word_bad : ends true b ≡ false → numbers_from false 0 (drop i text) ≡ (no_number ∷ []) ++ []
      word_bad e = along true begun ∙ from-bad text true r.value r.next h b is (rw is (stops true begun h)) e

-- and where there is none
pub no_word : (text : List ℕ) (i : ℕ) → i < length text → size_at 65535 text i ≡ 0 → numbers_from false 0 (drop i text) ≡ (no_number ∷ []) ++ []
no_word text i h z = word_none text i (number_read 65535 text i) (read_here 65535 text i) h (omega arith)
