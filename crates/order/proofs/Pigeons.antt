-- More numbers than there are places: n + 1 numbers below n are not all different.
use Prim.Native.Nat.{ℕ, zero, suc, ◌≤◌, ◌<◌}
use mathlib.Core.Path.{◌≡◌, refl, sym, ◌∙◌}
use mathlib.Core.Bool.{Bool, true, false, cond}
use native.Mathlib.Omega.{arith}
use lib.Dec.{eqb}
use borrow.Author.Tests.{eqb-true, eqb-false}

-- the first n + 1 numbers of f are below n, and no two are equal
record Apart (n : ℕ) (f : ℕ → ℕ) : Type 0 where
  below : (i : ℕ) → i ≤ n → f i < n
  apart : (i j : ℕ) → j < i → i ≤ n → f j ≡ f i → ⊥

-- with the last number in the place of n, where it stands, there is one number less
without : ℕ → (ℕ → ℕ) → ℕ → ℕ
without n f i = cond (eqb (f i) n) (f (suc n)) (f i)

without_yes : (n : ℕ) (f : ℕ → ℕ) (i : ℕ) → eqb (f i) n ≡ true → without n f i ≡ f (suc n)
unfolding without
without_yes n f i e = rw e

without_no : (n : ℕ) (f : ℕ → ℕ) (i : ℕ) → eqb (f i) n ≡ false → without n f i ≡ f i
unfolding without
without_no n f i e = rw e

module _ (n : ℕ) (f : ℕ → ℕ) (a : Apart (suc n) f) where
  last : (i : ℕ) → i ≤ n → f i ≡ f (suc n) → ⊥
  last i h e = a.apart (suc n) i (omega arith) (omega arith) e

  less : Apart n (without n f)
  less = record { below = below; apart = apart }
    where
      below : (i : ℕ) → i ≤ n → without n f i < n
      below i h = by (eqb (f i) n) refl
        where
          by : (t : Bool) → eqb (f i) n ≡ t → without n f i < n
          by true e =
              let p = without_yes n f i e in
              let q = eqb-true (f i) n e in
              let b = a.below (suc n) (omega arith) in
              let l = last i h in
              omega arith
          by false e =
              let p = without_no n f i e in
              let q = eqb-false (f i) n e in
              let b = a.below i (omega arith) in
              omega arith

      apart : (i j : ℕ) → j < i → i ≤ n → without n f j ≡ without n f i → ⊥
      apart i j h g e = by (eqb (f i) n) (eqb (f j) n) refl refl
        where
          by : (t u : Bool) → eqb (f i) n ≡ t → eqb (f j) n ≡ u → ⊥
          by true true p q = a.apart i j h (omega arith) (eqb-true (f j) n q ∙ sym (eqb-true (f i) n p))
          by true false p q = last j (omega arith) (sym (without_no n f j q) ∙ e ∙ without_yes n f i p)
          by false true p q = last i g (sym (without_no n f i p) ∙ sym e ∙ without_yes n f j q)
          by false false p q = a.apart i j h (omega arith) (sym (without_no n f j q) ∙ e ∙ without_no n f i p)

pub pigeons : (n : ℕ) (f : ℕ → ℕ) → ((i : ℕ) → i ≤ n → f i < n) → ((i j : ℕ) → j < i → i ≤ n → f j ≡ f i → ⊥) → ⊥
pigeons n f below apart = no n f (record { below = below; apart = apart })
  where
    no : (n : ℕ) (f : ℕ → ℕ) → Apart n f → ⊥
    no zero f a = let z = a.below 0 (omega arith) in omega arith
    no (suc n) f a = no n (without n f) (less n f a)
