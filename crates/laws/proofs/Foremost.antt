-- The one that goes first: it is the message itself or one that tries the link, and nobody who tries it has a lower rank.
use Prim.Native.Nat.{ℕ, zero, suc, ◌+◌, ◌≤◌}
use native.Mathlib.Omega.{arith}
use mathlib.Core.Path.{◌≡◌, refl, ◌∙◌}
use mathlib.Core.Logic.{◌⊎◌, inl, inr, ⊎_elim}
use mathlib.Core.Bool.{Bool, true, false, cond, ◌&&◌}
use mathlib.Core.List.{List, [], ◌∷◌}
use lib.ListN.{get_or}
use lib.Dec.{ltb, eqb}
use borrow.Author.Tests.{ltb-true, ltb-false, eqb-true, eq-eqb}
use Rattle.scope.specs.Cycle.{foremost}

module _ (rank : ℕ → ℕ) (e : ℕ) where
  -- the better of message m and message j, which tries w - 1
  abbrev better : ℕ → ℕ → ℕ → ℕ
  better m j w = cond (eqb w (e + 1) && ltb (rank j) (rank m)) j m

  better_self : (m j w : ℕ) → rank (better m j w) ≤ rank m
  better_self m j w = by (eqb w (e + 1)) (ltb (rank j) (rank m)) refl
    where
      by : (a b : Bool) → ltb (rank j) (rank m) ≡ b → rank (cond (a && b) j m) ≤ rank m
      by true true h = omega (arith, ltb-true (rank j) (rank m) h)
      by true false h = omega arith
      by false b h = omega arith

  better_other : (m j w : ℕ) → w ≡ e + 1 → rank (better m j w) ≤ rank j
  better_other m j w t = rw (eq-eqb w (e + 1) t) (by (ltb (rank j) (rank m)) refl)
    where
      by : (b : Bool) → ltb (rank j) (rank m) ≡ b → rank (cond b j m) ≤ rank j
      by true h = omega arith
      by false h = ltb-false (rank j) (rank m) h

  better_is : (m j w : ℕ) → (better m j w ≡ m) ⊎ ((better m j w ≡ j) × (w ≡ e + 1))
  better_is m j w = by (eqb w (e + 1)) (ltb (rank j) (rank m)) refl
    where
      by : (a b : Bool) → eqb w (e + 1) ≡ a → (cond (a && b) j m ≡ m) ⊎ ((cond (a && b) j m ≡ j) × (w ≡ e + 1))
      by true true h = inr (refl, eqb-true w (e + 1) h)
      by true false h = inl refl
      by false b h = inl refl

  pub foremost_self : (tried : List ℕ) (m j : ℕ) → rank (foremost rank e m j tried) ≤ rank m
  unfolding foremost
  foremost_self [] m j = omega arith
  foremost_self (w ∷ tried) m j = omega (arith, foremost_self tried (better m j w) (j + 1), better_self m j w)

  pub foremost-low : (tried : List ℕ) (m j k : ℕ) → get_or tried k 0 ≡ e + 1 → rank (foremost rank e m j tried) ≤ rank (j + k)
  unfolding foremost
  foremost-low [] m j k h = absurd (omega arith)
  foremost-low (w ∷ tried) m j zero h =
      let a : j ≡ j + 0 = omega arith in
      rw (← a) (omega (arith, foremost_self tried (better m j w) (j + 1), better_other m j w h))
  foremost-low (w ∷ tried) m j (suc k) h =
      let a : j + 1 + k ≡ j + suc k = omega arith in
      rw a at (foremost-low tried (better m j w) (j + 1) k h)

  pub foremost-is : (tried : List ℕ) (m j : ℕ) →
      (foremost rank e m j tried ≡ m) ⊎ ((k : ℕ) × (foremost rank e m j tried ≡ j + k) × (get_or tried k 0 ≡ e + 1))
  unfolding foremost
  foremost-is [] m j = inl refl
  foremost-is (w ∷ tried) m j =
      ⊎_elim
      (λ h. ⊎_elim (λ g. inl (h ∙ g)) (λ g. inr (0, h ∙ g.0 ∙ zeroth, g.1)) (better_is m j w))
      (λ h. let a : j + 1 + h.0 ≡ j + suc h.0 = omega arith in inr (suc h.0, h.1 ∙ a, h.2))
      (foremost-is tried (better m j w) (j + 1))
    where
      zeroth : j ≡ j + 0
      zeroth = omega arith
