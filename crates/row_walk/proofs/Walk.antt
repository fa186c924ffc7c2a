-- One law for each way that a walk over the fields of a row can go. What is left gives the whole answer.
use Prim.Native.Nat.{ℕ, ◌+◌, ◌^◌, ◌≤◌, ◌<◌}
use mathlib.Core.Path.{◌≡◌, refl, sym, ap}
use mathlib.Core.List.{List, [], ◌∷◌}
use native.Mathlib.Numerals.{add-one}
use native.Mathlib.Omega.{arith}
use lib.ListN.{length, get_or, drop, drop_of_length-le}
use lib.Seq.{drop-cons}
use borrow.Author.Tests.{lt-ltb, le-ltb, eq-eqb, ne_eqb}
use Rattle.scope.specs.declared.Fields.{Fields}
use Rattle.scope.specs.Outcome.{gives, refuse}
use Rattle.scope.specs.Fields.{width, step, opening, edition}
use Rattle.scope.specs.Row.{walk_from, walk_row}

-- a row, from index i on
module _ (row : List ℕ) (s : Fields) (i : ℕ) where
  pub from_end : length row ≤ i → width s ≡ 0 → walk_from s i (drop i row) ≡ gives i
  unfolding walk_from
  from_end l w = rw (drop_of_length-le row l, eq-eqb (width s) 0 w)

  pub from-short : length row ≤ i → (width s ≡ 0 → ⊥) → walk_from s i (drop i row) ≡ refuse 2 i
  unfolding walk_from
  from-short l w = rw (drop_of_length-le row l, ne_eqb (width s) 0 w)

  pub from_more : i < length row → width s ≡ 0 → walk_from s i (drop i row) ≡ refuse 4 i
  unfolding walk_from
  from_more l w = rw (drop-cons row i 0 l, eq-eqb (width s) 0 w)

  pub from_large : i < length row → (width s ≡ 0 → ⊥) → 2 ^ width s ≤ get_or row i 0 → walk_from s i (drop i row) ≡ refuse 3 i
  unfolding walk_from
  from_large l w v = rw (drop-cons row i 0 l, ne_eqb (width s) 0 w, le-ltb (get_or row i 0) (2 ^ width s) v)

  pub from_step : i < length row → (width s ≡ 0 → ⊥) → get_or row i 0 < 2 ^ width s →
      walk_from s i (drop i row) ≡ walk_from (step s (get_or row i 0)) (i + 1) (drop (i + 1) row)
  unfolding walk_from
  from_step l w v =
      rw (drop-cons row i 0 l, ne_eqb (width s) 0 w, lt-ltb (get_or row i 0) (2 ^ width s) v)
      (ap (λ (n : ℕ). walk_from (step s (get_or row i 0)) (i + 1) (drop n row)) (sym (add-one i)))

-- a row's first number
pub row-none : (row : List ℕ) → length row ≡ 0 → walk_row row ≡ refuse 2 0
unfolding walk_row
row-none [] l = refl
row-none (v ∷ row) l = absurd (omega arith)

pub row-edition : (row : List ℕ) → 0 < length row → (get_or row 0 0 ≡ edition → ⊥) → walk_row row ≡ refuse 1 0
unfolding walk_row
row-edition [] l h = absurd (omega arith)
row-edition (v ∷ row) l h = rw (ne_eqb v 1 h)

pub row_opens : (row : List ℕ) → 0 < length row → get_or row 0 0 ≡ edition → walk_row row ≡ walk_from opening 1 (drop 1 row)
unfolding walk_row
row_opens [] l h = absurd (omega arith)
row_opens (v ∷ row) l h = rw (eq-eqb v 1 h)
