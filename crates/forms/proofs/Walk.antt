-- One law for each way that a loop over the fields can go, over the bits of a file. What is left gives the whole answer.
use Prim.Native.Nat.{ℕ, zero, suc, ◌+◌, ◌≤◌, ◌<◌}
use mathlib.Core.Path.{◌≡◌, refl}
use mathlib.Core.List.{List, [], ◌∷◌}
use lib.ListN.{length}
use borrow.Author.Tests.{le-leb, lt-leb, eq-eqb, ne_eqb}
use Rattle.scope.specs.declared.Fields.{Fields}
use Rattle.scope.specs.Outcome.{gives, refuse}
use Rattle.scope.specs.Fields.{width, step}
use Rattle.scope.specs.Bits.{field_at}
use Rattle.scope.specs.File.{walk_bits, fields_of}

-- the bits of a file, from bit p on, with n turns at most
module _ (bs : List ℕ) (s : Fields) (p n : ℕ) where
  pub bits-end : width s ≡ 0 → walk_bits n s p bs ≡ gives p
  unfolding walk_bits
  bits-end w = by n
    where
      by : (n : ℕ) → walk_bits n s p bs ≡ gives p
      by zero = rw (eq-eqb (width s) 0 w)
      by (suc n) = rw (eq-eqb (width s) 0 w)

  pub bits-short : (width s ≡ 0 → ⊥) → length bs < p + width s → walk_bits n s p bs ≡ refuse 2 p
  unfolding walk_bits
  bits-short w l = by n
    where
      by : (n : ℕ) → walk_bits n s p bs ≡ refuse 2 p
      by zero = rw (ne_eqb (width s) 0 w)
      by (suc n) = rw (ne_eqb (width s) 0 w, lt-leb (p + width s) (length bs) l)

  pub bits-step : (width s ≡ 0 → ⊥) → p + width s ≤ length bs →
      walk_bits (suc n) s p bs ≡ walk_bits n (step s (field_at bs p (width s))) (p + width s) bs
  unfolding walk_bits
  bits-step w l = rw (ne_eqb (width s) 0 w, le-leb (p + width s) (length bs) l)

  pub fields_end : width s ≡ 0 → fields_of n s p bs ≡ []
  unfolding fields_of
  fields_end w = by n
    where
      by : (n : ℕ) → fields_of n s p bs ≡ []
      by zero = refl
      by (suc n) = rw (eq-eqb (width s) 0 w)

  pub fields_short : (width s ≡ 0 → ⊥) → length bs < p + width s → fields_of n s p bs ≡ []
  unfolding fields_of
  fields_short w l = by n
    where
      by : (n : ℕ) → fields_of n s p bs ≡ []
      by zero = refl
      by (suc n) = rw (ne_eqb (width s) 0 w, lt-leb (p + width s) (length bs) l)

  pub fields_step : (width s ≡ 0 → ⊥) → p + width s ≤ length bs →
      fields_of (suc n) s p bs ≡ field_at bs p (width s) ∷ fields_of n (step s (field_at bs p (width s))) (p + width s) bs
  unfolding fields_of
  fields_step w l = rw (ne_eqb (width s) 0 w, le-leb (p + width s) (length bs) l)
