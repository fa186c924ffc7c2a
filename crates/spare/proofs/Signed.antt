-- The difference of two small numbers as an integer fits 32 bits.
use Prim.Native.Nat.{ℕ, suc, ◌-◌, ◌<◌, ◌^◌}
use mathlib.Core.Path.{◌≡◌, ◌∙◌, ap}
use mathlib.Core.Bool.{Bool, true, false, cond}
use native.Mathlib.Omega.{arith}
use lib.IntN.{ℤ, pos, negsuc, sub_ℕ}
use lib.Signed.{mag}
use lib.Dec.{ltb}
use mir.Syntax.{w32}
use mir.Val.{to_z, of_z}
use mir.Facts.{to_z-of_z}

sub_small : (a b : ℕ) → a < 2 ^ 30 → b < 2 ^ 30 → mag (sub_ℕ a b) < 2 ^ 31
sub_small a b h k = by (ltb a b)
  where
    by : (t : Bool) → mag (cond t (negsuc (b - suc a)) (pos (a - b))) < 2 ^ 31
    by true = omega arith
    by false = omega arith

module _ (a b : ℕ) (h : a < 2 ^ 30) (k : b < 2 ^ 30) where
  -- it comes back from 32 bits
  pub sub_back : (z : ℤ) → z ≡ sub_ℕ a b → to_z w32 (of_z w32 z) ≡ sub_ℕ a b
  sub_back z e = ap (λ (y : ℤ). to_z w32 (of_z w32 y)) e ∙ to_z-of_z {w = w32} {z = sub_ℕ a b} (record { sfits = sub_small a b h k })
