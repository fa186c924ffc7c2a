-- A signed number of 32 bits: its sign and its distance from zero. Calls are given the number in its bits.
use Rattle.std.proofs.Common.{◌≡◌, ℕ, [], ◌∷◌, ◌++◌, List, ℤ, pos, negsuc, nat_abs, false, sym, ◌∙◌, ap, arith}
use Rattle.std.proofs.lemmas.Int.{ints}
use lib.Signed.{le_z}
use mir.Syntax.{w32}
use mir.Val.{SFits, to_z, of_z}
use mir.Facts.{to_z-of_z}
use Rattle.scope.specs.Lines.{decimal, signed}
use Rattle.text.specs.Text.{Told, Puts}
use Rattle.text.proofs.Laid.{told-first}

signed_below : (z : ℤ) (n : ℕ) → le_z (pos 0) z ≡ false → n ≡ nat_abs z → signed z ≡ (45 ∷ []) ++ decimal n
signed_below (pos m) n h p = absurd (grind (arith, ints))
signed_below (negsuc m) n h p = ap (λ (k : ℕ). 45 ∷ decimal k) (sym p)

module _ (z : ℤ) (f : SFits w32 z) where
  -- below zero the digits of the distance come after a minus sign
  pub prints-down : (n : ℕ) → le_z (pos 0) (to_z w32 (of_z w32 z)) ≡ false → n ≡ nat_abs (to_z w32 (of_z w32 z)) → signed z ≡ (45 ∷ []) ++ decimal n
  prints-down n h p = ap signed (sym (to_z-of_z f)) ∙ signed_below (to_z w32 (of_z w32 z)) n h p

  pub signed-told : {i : ℕ} (more : List ℕ) → Told i (signed z ++ more) → Told i (signed (to_z w32 (of_z w32 z)))
  signed-told more h = rw (to_z-of_z f) (told-first (signed z) more h)

  pub signed-puts : {b c : List ℕ} {i j : ℕ} → Puts (signed (to_z w32 (of_z w32 z))) b c i j → Puts (signed z) b c i j
  signed-puts p = rw (to_z-of_z f) at p
