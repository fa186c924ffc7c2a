-- Laws of a word that is compared from the front, at its byte j.
use Prim.Native.Nat.{ℕ, ◌+◌, ◌≤◌, ◌<◌}
use mathlib.Core.Path.{◌≡◌, ◌∙◌, ap}
use mathlib.Core.Bool.{true, false, ◌&&◌}
use mathlib.Core.List.{List}
use native.Mathlib.Omega.{arith}
use native.Mathlib.Numerals.{add-one}
use lib.ListN.{length, get_or, drop, drop_of_length-le}
use lib.Seq.{drop-cons}
use lib.Dec.{eqb}
use borrow.Author.Tests.{eq-eqb, ne_eqb}
use Rattle.scope.specs.Lines.{byte_at}
use Rattle.text.specs.Reading.{stands}

module _ (text : List ℕ) (i : ℕ) (word : List ℕ) where
  pub stands-first : stands text (i + 0) (drop 0 word) ≡ stands text i word
  stands-first = let e : i + 0 ≡ i = omega arith in ap (λ (k : ℕ). stands text k word) e

  pub stands-more : (j : ℕ) → j < length word →
      stands text (i + j) (drop j word) ≡ (eqb (byte_at text (i + j)) (get_or word j 0) && stands text (i + (j + 1)) (drop (j + 1) word))
  unfolding stands
  stands-more j h =
      let e : i + j + 1 ≡ i + (j + 1) = omega arith in
      ap (stands text (i + j)) (drop-cons word j 0 h) ∙ rw (e, add-one j)

  module _ (j b : ℕ) (h : j < length word) (p : b ≡ byte_at text (i + j)) where
    pub stands-not : (b ≡ get_or word j 0 → ⊥) → stands text (i + j) (drop j word) ≡ false
    stands-not n = stands-more j h ∙ rw (← p, ne_eqb b (get_or word j 0) n)

    pub stands-next : b ≡ get_or word j 0 → stands text (i + j) (drop j word) ≡ stands text (i + (j + 1)) (drop (j + 1) word)
    stands-next e = stands-more j h ∙ rw (← p, eq-eqb b (get_or word j 0) e)

  pub stands-done : (j : ℕ) → length word ≤ j → stands text (i + j) (drop j word) ≡ true
  unfolding stands
  stands-done j h = rw (drop_of_length-le word h)
