-- The sums of plans one after another, and that their order does not matter: parts may change places, and so may neighbours anywhere.
use Prim.Native.Nat.{ℕ, zero, suc, ◌+◌, ◌≤◌}
use mathlib.Core.Path.{◌≡◌, refl}
use mathlib.Core.Bool.{Bool, true, false, cond, ◌&&◌}
use mathlib.Core.List.{List, [], ◌∷◌, ◌++◌}
use native.Mathlib.Omega.{arith}
use lib.ListN.{length}
use lib.Dec.{eqb}
use borrow.Author.Tests.{le-ltb}
use Rattle.scope.specs.Shelf.{Rated, has_figure, loss, unharmed, loss_sum, sum_lines}
use Rattle.sheet_lines.specs.Tally.{rated}

-- what one plan adds
abbrev pub counted : ℕ → Rated → ℕ
counted k p = cond (has_figure k p && eqb (loss k p) 0) 1 0

abbrev pub lost_by : ℕ → Rated → ℕ
lost_by k p = cond (has_figure k p) (loss k p) 0

module _ (k : ℕ) where
  pub unharmed-append : (xs ys : List Rated) → unharmed k (xs ++ ys) ≡ unharmed k xs + unharmed k ys
  unfolding unharmed
  unharmed-append [] ys = omega arith
  unharmed-append (p ∷ xs) ys = let r = unharmed-append xs ys in omega arith

  pub loss-append : (xs ys : List Rated) → loss_sum k (xs ++ ys) ≡ loss_sum k xs + loss_sum k ys
  unfolding loss_sum
  loss-append [] ys = omega arith
  loss-append (p ∷ xs) ys = let r = loss-append xs ys in omega arith

  unharmed_two : (p q : Rated) (ys : List Rated) → unharmed k (p ∷ q ∷ ys) ≡ counted k p + (counted k q + unharmed k ys)
  unfolding unharmed
  unharmed_two p q ys = refl

  loss_two : (p q : Rated) (ys : List Rated) → loss_sum k (p ∷ q ∷ ys) ≡ lost_by k p + (lost_by k q + loss_sum k ys)
  unfolding loss_sum
  loss_two p q ys = refl

  -- one plan more, after the others
  pub unharmed-more : (ps : List Rated) (p : Rated) → unharmed k (ps ++ (p ∷ [])) ≡ unharmed k ps + counted k p
  unfolding unharmed
  unharmed-more ps p = let a = unharmed-append ps (p ∷ []) in omega arith

  pub loss-more : (ps : List Rated) (p : Rated) → loss_sum k (ps ++ (p ∷ [])) ≡ loss_sum k ps + lost_by k p
  unfolding loss_sum
  loss-more ps p = let a = loss-append ps (p ∷ []) in omega arith

  -- no more plans lose nothing than there are
  pub unharmed-most : (ps : List Rated) → unharmed k ps ≤ length ps
  unfolding unharmed
  unharmed-most [] = omega arith
  unharmed-most (p ∷ ps) = by (has_figure k p && eqb (loss k p) 0) (unharmed-most ps)
    where
      by : (t : Bool) → unharmed k ps ≤ length ps → cond t 1 0 + unharmed k ps ≤ suc (length ps)
      by true h = omega arith
      by false h = omega arith

  module _ (xs ys : List Rated) where
    pub unharmed_parts : unharmed k (xs ++ ys) ≡ unharmed k (ys ++ xs)
    unharmed_parts = let a = unharmed-append xs ys in let b = unharmed-append ys xs in omega arith

    pub loss_parts : loss_sum k (xs ++ ys) ≡ loss_sum k (ys ++ xs)
    loss_parts = let a = loss-append xs ys in let b = loss-append ys xs in omega arith

    module _ (p q : Rated) where
      pub unharmed_swap : unharmed k (xs ++ (p ∷ q ∷ ys)) ≡ unharmed k (xs ++ (q ∷ p ∷ ys))
      unharmed_swap =
          let a = unharmed-append xs (p ∷ q ∷ ys) in
          let b = unharmed-append xs (q ∷ p ∷ ys) in
          let c = unharmed_two p q ys in
          let d = unharmed_two q p ys in
          omega arith

      pub loss_swap : loss_sum k (xs ++ (p ∷ q ∷ ys)) ≡ loss_sum k (xs ++ (q ∷ p ∷ ys))
      loss_swap =
          let a = loss-append xs (p ∷ q ∷ ys) in
          let b = loss-append xs (q ∷ p ∷ ys) in
          let c = loss_two p q ys in
          let d = loss_two q p ys in
          omega arith

-- the lines follow from the sums
pub same-sums : (ps qs : List Rated) → ((k : ℕ) → unharmed k ps ≡ unharmed k qs) → ((k : ℕ) → loss_sum k ps ≡ loss_sum k qs) →
    (k n : ℕ) → sum_lines ps k n ≡ sum_lines qs k n
unfolding sum_lines
same-sums ps qs u l k zero = refl
same-sums ps qs u l k (suc n) = rw (u k, l k, same-sums ps qs u l (k + 1) n)

module _ (xs ys : List Rated) (k n : ℕ) where
  pub lines_parts : sum_lines (xs ++ ys) k n ≡ sum_lines (ys ++ xs) k n
  lines_parts = same-sums (xs ++ ys) (ys ++ xs) (λ j. unharmed_parts j xs ys) (λ j. loss_parts j xs ys) k n

  pub lines_swap : (p q : Rated) → sum_lines (xs ++ (p ∷ q ∷ ys)) k n ≡ sum_lines (xs ++ (q ∷ p ∷ ys)) k n
  lines_swap p q =
      same-sums (xs ++ (p ∷ q ∷ ys)) (xs ++ (q ∷ p ∷ ys)) (λ j. unharmed_swap j xs ys p q) (λ j. loss_swap j xs ys p q) k n

-- "A plan that is refused .. counts in no sum": it has no figure
pub record AddsNothing (k : ℕ) (ps : List Rated) : Type 0 where
  pub counts : unharmed k (ps ++ (rated 0 [] ∷ [])) ≡ unharmed k ps
  pub losses : loss_sum k (ps ++ (rated 0 [] ∷ [])) ≡ loss_sum k ps

pub refused_adds_nothing : (k : ℕ) (ps : List Rated) → AddsNothing k ps
refused_adds_nothing k ps =
    let none = le-ltb k 0 (omega arith) in
    let u : counted k (rated 0 []) ≡ 0 = rw none in
    let l : lost_by k (rated 0 []) ≡ 0 = rw none in
    let a = unharmed-more k ps (rated 0 []) in
    let b = loss-more k ps (rated 0 []) in
    record { counts = omega arith; losses = omega arith }
