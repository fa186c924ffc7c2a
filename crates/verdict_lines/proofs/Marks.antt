-- A number with the byte after it, and then more: the text that `put_number` lays, as the lines of document 01 are written.
use Prim.Native.Nat.{ℕ, ◌+◌, ◌<◌, ◌≤◌}
use mathlib.Core.Path.{◌≡◌, sym, ◌∙◌, ap}
use mathlib.Core.List.{List, [], ◌∷◌, ◌++◌, append_assoc}
use native.Mathlib.Numerals.{add-one}
use lib.ListN.{length, get_or, drop, drop_of_length-le}
use lib.Seq.{drop-cons}
use Rattle.scope.specs.Lines.{decimal, spaced}
use Rattle.text.specs.Text.{Told, Puts}
use Rattle.text.proofs.Laid.{told-first, told-rest, then}

module _ (n x : ℕ) where
  apart : (more : List ℕ) → decimal n ++ (x ∷ more) ≡ (decimal n ++ (x ∷ [])) ++ more
  apart more = sym (append_assoc (decimal n) (x ∷ []) more)

  pub first-told : (more : List ℕ) {i : ℕ} → Told i (decimal n ++ (x ∷ more)) → Told i (decimal n ++ (x ∷ []))
  first-told more h = told-first (decimal n ++ (x ∷ [])) more (rw (apart more) at h)

  module _ {b c : List ℕ} {i j : ℕ} (p : Puts (decimal n ++ (x ∷ [])) b c i j) where
    pub rest-told : (more : List ℕ) → Told i (decimal n ++ (x ∷ more)) → Told j more
    rest-told more h = told-rest p more (rw (apart more) at h)

    pub mark-then : {more d : List ℕ} {k : ℕ} → Puts more c d j k → Puts (decimal n ++ (x ∷ more)) b d i k
    mark-then {more} q = rw (apart more) (then p q)

-- numbers, each after a space: one, and those after it
pub spaced-more : (ns : List ℕ) (i : ℕ) → i < length ns → spaced (drop i ns) ≡ (32 ∷ []) ++ (decimal (get_or ns i 0) ++ spaced (drop (i + 1) ns))
unfolding spaced
spaced-more ns i h = ap spaced (drop-cons ns i 0 h) ∙ rw (add-one i)

pub spaced-done : (ns : List ℕ) (i : ℕ) → length ns ≤ i → spaced (drop i ns) ≡ []
unfolding spaced
spaced-done ns i h = rw (drop_of_length-le ns h)
